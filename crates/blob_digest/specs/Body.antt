-- Blobs that come in pieces and are held whole.
use Rattle.std.specs.Prelude.{ℕ}

-- the most bytes of them that are taken
abbrev pub greatest_blob : ℕ
greatest_blob = 16777216
