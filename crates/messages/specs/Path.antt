-- Paths (remote_execution.proto: path segments joined by `/`). The limit of 64 names is this
-- product's profile.
use Rattle.std.specs.Prelude.{◌≡◌, ◌⊎◌, ℕ, ◌<◌, ◌≤◌, Bool, false, ◌==◌, ◌&&◌, nat_lt, List, [], ◌∷◌}
use Rattle.std.specs.Prelude.{◌++◌, length, Result, Ok, Err, if◌then◌else◌}
use Rattle.std.specs.List.{AllByRecursion, list_all, slice_split, join_with_byte}
use Rattle.std.specs.Str.{is_utf8}
use Rattle.std.specs.declared.cmp.Ordering.{Ordering}
use Rattle.messages.specs.declared.error.MessageError.{MessageError}
use Rattle.messages.specs.declared.error.MessageError.TheVariants.{BadPath}
use Rattle.messages.specs.Name.{IsName, is_segment}
use Rattle.messages.specs.Order.{bytes_cmp}

-- 1 to 64 names
pub record IsPath (names : List (List ℕ)) : Type 0 where
  pub some : 0 < length names
  pub few : length names ≤ 64
  pub each : AllByRecursion IsName names

-- the text of a path: its names, joined by `/`
abbrev pub path_text : List (List ℕ) → List ℕ
path_text names = join_with_byte 47 names

-- what stands between the slashes of a text
abbrev pub parts_of : List ℕ → List (List ℕ)
parts_of text = slice_split (λ b. b == 47) text

-- A path lies under another where the other's names are a proper beginning of its own.
abbrev pub LiesUnder : List (List ℕ) → List (List ℕ) → Type 0
LiesUnder path above = (name : List ℕ) × (rest : List (List ℕ)) × (path ≡ above ++ name ∷ rest)

-- Two paths overlap where they are equal, or one lies under the other.
abbrev pub Overlap : List (List ℕ) → List (List ℕ) → Type 0
Overlap path other = (path ≡ other) ⊎ (LiesUnder path other ⊎ LiesUnder other path)

-- paths that do not overlap
abbrev pub IsApart : List (List ℕ) → List (List ℕ) → Type 0
IsApart path other = Overlap path other → ⊥

-- no two paths of the list overlap
abbrev pub AreApart : List (List (List ℕ)) → Type 0
AreApart [] = Unit {0}
AreApart (path ∷ paths) = AllByRecursion (λ other. IsApart path other) paths × AreApart paths

-- The order of paths as text: that of the bytes of their texts, not that of their names.
abbrev pub text_cmp : List (List ℕ) → List (List ℕ) → Ordering
text_cmp path other = bytes_cmp (path_text path) (path_text other)

-- ---- the test

abbrev pub is_path : List ℕ → Bool
is_path text = nat_lt (length (parts_of text)) 65 && list_all is_segment (parts_of text)

-- the path of the text, or the refusal
abbrev pub path_of : List ℕ → Result (List (List ℕ)) MessageError
path_of text = if is_utf8 text && is_path text then Ok (parts_of text) else Err BadPath

abbrev pub begins_with_slash : List ℕ → Bool
begins_with_slash [] = false
begins_with_slash (b ∷ bytes) = b == 47

-- one more name below a path, unless the path has 64
abbrev pub path_below : List (List ℕ) → List ℕ → Result (List (List ℕ)) MessageError
path_below path name = if length path == 64 then Err BadPath else Ok (path ++ name ∷ [])
