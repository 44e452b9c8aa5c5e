-- Texts of lines: each ends with one newline, and its words are separated by one space.
use Rattle.std.specs.Prelude.{◌≡◌, ℕ, ◌<◌, ◌≤◌, Bool, ◌&&◌, ◌||◌, ◌==◌, nat_le, List, [], ◌∷◌, ◌++◌}
use Rattle.std.specs.Prelude.{length, codes}
use Rattle.std.specs.List.{AllPass}
use Rattle.blob_digest.specs.Digest.{DigestValue}
use Rattle.blob_digest.specs.Text.{digest_text}

-- a line
abbrev pub line_text : List ℕ → List ℕ
line_text words = words ++ 10 ∷ []

-- the text begins with these bytes
abbrev pub Begins : List ℕ → List ℕ → Type 0
Begins front text = (rest : List ℕ) × (text ≡ front ++ rest)

-- `a` to `z`, `0` to `9`, `_` and `-`
abbrev pub is_step_name_byte : ℕ → Bool
is_step_name_byte c =
    (nat_le 97 c && nat_le c 122) || (nat_le 48 c && nat_le c 57) || (c == 95) || (c == 45)

-- the name of a step: 1 to 64 of these bytes
pub record IsStepName (name : List ℕ) : Type 0 where
  pub some : 0 < length name
  pub short : length name ≤ 64
  pub bytes : AllPass is_step_name_byte name

-- the words of a line that names a step and a digest: `step NAME HASH/SIZE`
abbrev pub step_words : List ℕ → DigestValue → List ℕ
step_words name digest = codes "step " ++ (name ++ 32 ∷ digest_text digest)
