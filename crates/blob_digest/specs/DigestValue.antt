-- A digest as contracts see it.
use Rattle.std.specs.Prelude.{◌≡◌, ℕ, ◌≤◌, List, length}
use Rattle.hex.specs.Hex.{IsBytes}

pub record DigestValue : Type 0 where
  pub hash : List ℕ
  pub size : ℕ

-- the greatest size that a digest has, 2 ^ 63 - 1: the greatest int64
abbrev pub greatest_size : ℕ
greatest_size = 9223372036854775807

-- 32 bytes
pub record IsHash (hash : List ℕ) : Type 0 where
  pub len : length hash ≡ 32
  pub bytes : IsBytes hash

-- a hash, and a size in range
pub record IsDigest (d : DigestValue) : Type 0 where
  pub hash : IsHash d.hash
  pub size : d.size ≤ greatest_size
