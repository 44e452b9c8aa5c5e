-- Names of fields and of connection options, which have no case (RFC 9110, sections 5.1 and 7.6.1).
use Rattle.std.specs.Prelude.{ℕ, Bool, List, map}
use Rattle.std.specs.Str.{bytes_eq}
use Rattle.std.specs.Char.{to_ascii_lowercase}

-- the names are one but for ASCII case
abbrev pub same_name : List ℕ → List ℕ → Bool
same_name a b = bytes_eq (map to_ascii_lowercase a) (map to_ascii_lowercase b)
