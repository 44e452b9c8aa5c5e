-- The names of a path, one after another.
use Rattle.std.proofs.Common.{ℕ, ◌<◌, List, [], ◌∷◌, get_or, length, zero, suc, arith}
use Rattle.std.specs.List.{AllByRecursion}

-- a part of a list has what all its parts have
pub part_of : {A : Type 0} (P : A → Type 0) (xs : List A) (i : ℕ) (d : A) → AllByRecursion P xs → i < length xs → P (get_or xs i d)
part_of P [] i d h lt = absurd (omega arith)
part_of P (x ∷ xs) zero d h lt = h.0
part_of P (x ∷ xs) (suc i) d h lt = part_of P xs i d h.1 (omega arith)
