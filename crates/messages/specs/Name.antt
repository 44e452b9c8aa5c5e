-- Names of files, directories and symbolic links (remote_execution.proto, `name` of the three
-- nodes: one path segment). The limits are this product's profile.
use Rattle.std.specs.Prelude.{◌≡◌, ◌≢◌, ℕ, ◌<◌, ◌≤◌, Bool, true, false, ◌==◌, ◌&&◌, not, nat_lt}
use Rattle.std.specs.Prelude.{List, [], ◌∷◌, length, Result, Ok, Err, if◌then◌else◌}
use Rattle.std.specs.List.{AllByRecursion, list_any}
use Rattle.std.specs.Str.{is_utf8}
use Rattle.messages.specs.declared.error.MessageError.{MessageError}
use Rattle.messages.specs.declared.error.MessageError.TheVariants.{BadName}

-- 1 to 255 bytes without `/` and NUL, and neither `.` nor `..`
pub record IsSegment (text : List ℕ) : Type 0 where
  pub some : 0 < length text
  pub short : length text ≤ 255
  pub no_slash : AllByRecursion (λ b. b ≢ 47) text
  pub no_nul : AllByRecursion (λ b. b ≢ 0) text
  pub no_dot : text ≢ 46 ∷ []
  pub no_dots : text ≢ 46 ∷ 46 ∷ []

-- a segment of UTF-8
pub record IsName (text : List ℕ) : Type 0 where
  pub utf8 : is_utf8 text ≡ true
  pub segment : IsSegment text

-- ---- the test

abbrev pub is_dots : List ℕ → Bool
is_dots [] = false
is_dots (a ∷ []) = a == 46
is_dots (a ∷ b ∷ []) = (a == 46) && (b == 46)
is_dots (a ∷ b ∷ c ∷ rest) = false

abbrev pub is_segment : List ℕ → Bool
is_segment text =
    not (length text == 0) && nat_lt (length text) 256 && not (list_any (λ b. b == 47) text)
    && not (list_any (λ b. b == 0) text) && not (is_dots text)

-- the name, or the refusal
abbrev pub name_of : List ℕ → Result (List ℕ) MessageError
name_of text = if is_utf8 text && is_segment text then Ok text else Err BadName
