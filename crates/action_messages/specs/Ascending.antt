-- Lists in a strict order, by any comparison.
use Rattle.std.specs.Prelude.{ℕ, List, IsSortedBy, [], ◌∷◌, Option, Some, None, Result, Ok, Err}
use Rattle.std.specs.Ordering.{is_lt}
use Rattle.messages.specs.Path.{text_cmp}
use Rattle.std.specs.declared.cmp.Ordering.{Ordering}
use Rattle.std.specs.declared.cmp.Ordering.TheVariants.{Less}
use Rattle.wire.specs.Steps.{◌>>=◌}
use Rattle.messages.specs.declared.error.MessageError.{MessageError}
use Rattle.messages.specs.declared.error.MessageError.TheVariants.{Unsorted}
pub use Rattle.messages.specs.Order.{IsAscendingBy}

-- no element comes before the one before it, by the texts of their paths
abbrev pub IsSortedByText : {X : Type 0} → (X → List (List ℕ)) → List X → Type 0
IsSortedByText path xs = IsSortedBy (λ x y. is_lt (text_cmp (path x) (path y))) xs

-- ---- the first refusal

abbrev pub pair_ascends : Ordering → Result (Unit {0}) MessageError
pair_ascends Less = Ok tt
pair_ascends order = Err Unsorted

-- the first pair of neighbours that doesn't ascend, after an element
abbrev pub ascending_behind : {X : Type 0} → (X → X → Ordering) → Option X → List X
    → Result (Unit {0}) MessageError
ascending_behind cmp before [] = Ok tt
ascending_behind cmp None (x ∷ xs) = ascending_behind cmp (Some x) xs
ascending_behind cmp (Some before) (x ∷ xs) =
    pair_ascends (cmp before x) >>= λ _. ascending_behind cmp (Some x) xs
