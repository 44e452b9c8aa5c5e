-- The order of names in a list, by their bytes, and names that two lists share.
use Rattle.std.specs.Prelude.{◌≡◌, ◌≢◌, ℕ, Bool, true, false, ◌||◌, List, [], ◌∷◌, Option, Some}
use Rattle.std.specs.Prelude.{None, Result, Ok, Err}
use Rattle.std.specs.List.{AllByRecursion}
use Rattle.std.specs.Ordering.{nat_cmp}
use Rattle.std.specs.Cmp.Lexicographic.{slice_cmp}
use Rattle.std.specs.declared.cmp.Ordering.{Ordering}
use Rattle.std.specs.declared.cmp.Ordering.TheVariants.{Less, Equal, Greater}
use Rattle.wire.specs.Steps.{◌>>=◌}
use Rattle.messages.specs.declared.error.MessageError.{MessageError}
use Rattle.messages.specs.declared.error.MessageError.TheVariants.{Unsorted, SameName}

-- bytes by bytes, a beginning before what goes on from it
abbrev pub bytes_cmp : List ℕ → List ℕ → Ordering
bytes_cmp = slice_cmp nat_cmp

-- each element comes before all that stand after it
abbrev pub IsAscendingBy : {X : Type 0} → (X → X → Ordering) → List X → Type 0
IsAscendingBy cmp [] = Unit {0}
IsAscendingBy cmp (x ∷ xs) = AllByRecursion (λ y. cmp x y ≡ Less) xs × IsAscendingBy cmp xs

-- texts that ascend by their bytes
abbrev pub IsAscending : List (List ℕ) → Type 0
IsAscending texts = IsAscendingBy bytes_cmp texts

-- no name stands in both lists
abbrev pub ShareNone : List (List ℕ) → List (List ℕ) → Type 0
ShareNone names others =
    AllByRecursion (λ name. AllByRecursion (λ other. name ≢ other) others) names

-- ---- the first refusal

abbrev pub pair_ordered : Ordering → Result (Unit {0}) MessageError
pair_ordered Less = Ok tt
pair_ordered Equal = Err SameName
pair_ordered Greater = Err Unsorted

-- the first pair of neighbours that doesn't ascend, after a name
abbrev pub ordered_behind : Option (List ℕ) → List (List ℕ) → Result (Unit {0}) MessageError
ordered_behind before [] = Ok tt
ordered_behind None (name ∷ names) = ordered_behind (Some name) names
ordered_behind (Some before) (name ∷ names) =
    pair_ordered (bytes_cmp before name) >>= λ _. ordered_behind (Some name) names

abbrev pub is_equal : Ordering → Bool
is_equal Equal = true
is_equal order = false

abbrev pub has_name : List (List ℕ) → List ℕ → Bool
has_name [] name = false
has_name (first ∷ names) name = is_equal (bytes_cmp first name) || has_name names name

abbrev pub share_name : List (List ℕ) → List (List ℕ) → Bool
share_name [] others = false
share_name (name ∷ names) others = has_name others name || share_name names others
