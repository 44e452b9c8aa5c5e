-- The text of a digest: its hash in lower-case hex, a slash, and its size in decimal.
use Rattle.std.specs.Prelude.{◌≡◌, ℕ, ◌<◌, nat_le, Bool, ◌&&◌, ◌||◌, List, ◌∷◌, ◌++◌, length, take}
use Rattle.std.specs.Prelude.{slice_get, slice_index, Some, decimal}
use Rattle.std.specs.Char.{is_ascii_digit}
use Rattle.std.specs.List.{AllPass}
use Rattle.hex.specs.Hex.{encode_lower}
use Rattle.blob_digest.specs.DigestValue.{DigestValue}

abbrev pub digest_text : DigestValue → List ℕ
digest_text d = encode_lower d.hash ++ 47 ∷ decimal d.size

-- `0` to `9` and `a` to `f`
abbrev pub is_lower_hex : ℕ → Bool
is_lower_hex c = (nat_le 48 c && nat_le c 57) || (nat_le 97 c && nat_le c 102)

-- 64 lower-case hex digits
pub record IsHashText (text : List ℕ) : Type 0 where
  pub len : length text ≡ 64
  pub digits : AllPass is_lower_hex text

-- the text begins with 64 lower-case hex digits and a slash
pub record BeginsWithHash (text : List ℕ) : Type 0 where
  pub hash : IsHashText (take 64 text)
  pub slash : slice_get text 64 ≡ Some 47

-- decimal digits, of which the first is no 0 unless it is the only one
pub record IsDecimal (text : List ℕ) : Type 0 where
  pub some : 0 < length text
  pub digits : AllPass is_ascii_digit text
  pub no_leading_zero : slice_index text 0 ≡ 48 → length text ≡ 1
