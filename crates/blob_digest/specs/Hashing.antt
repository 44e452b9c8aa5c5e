-- A blob that is hashed in pieces.
use Rattle.std.specs.Prelude.{◌≡◌, ℕ, List, length}
use Rattle.sha2.specs.Hashers.{Holds256}
use Rattle.blob_digest.specs.declared.hasher.Hasher.{Hasher}

-- how many bytes the hasher has taken
abbrev pub taken_len : Hasher → ℕ
taken_len h = h.total

-- the pieces that the hasher has taken, joined, are this blob
pub record HasTaken (h : Hasher) (blob : List ℕ) : Type 0 where
  pub state : Holds256 h.inner blob
  pub len : taken_len h ≡ length blob
