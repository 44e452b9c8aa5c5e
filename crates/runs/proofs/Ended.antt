-- The root of a build in which each step has finished.
use Rattle.std.proofs.Common.{◌≡◌, ℕ, zero, suc, ◌<◌, List, [], ◌∷◌, length, Option, Some, None, refl, subst, arith, IsSome}
use Rattle.std.specs.List.{AllByRecursion}
use Rattle.std.specs.Prelude.{Result, Ok, Err, IfErr, IfOk}
use Rattle.plan.specs.Values.{OriginValue, source, output, LineValue, IsLine, IsOrigin}
use Rattle.actions.specs.Outcome.{OutcomeValue}
use Rattle.verifier.specs.Together.{IsThere, AreThere}
use Rattle.runs.specs.Engine.{FinishedValue}
use Rattle.runs.specs.Looking.{outcomes_in}

all_there : (fs : List (Option FinishedValue)) (j : ℕ) → AllByRecursion IsSome fs → j < length fs → (o : OutcomeValue) × (outcomes_in fs j ≡ Some o)
all_there [] j all lt = absurd (omega arith)
all_there (None ∷ fs) zero all lt = let none = all.0 in cc
all_there (Some f ∷ fs) zero all lt = (f.outcome, refl)
all_there (o ∷ fs) (suc j) all lt = all_there fs j all.1 (omega arith)

pub lines_there : (fs : List (Option FinishedValue)) (n : ℕ) (ls : List LineValue) → AllByRecursion IsSome fs → n ≡ length fs → AllByRecursion (IsLine n) ls → AreThere (outcomes_in fs) ls
lines_there fs n [] all count h = tt
lines_there fs n (l ∷ ls) all count h = (one l.origin h.0.origin, lines_there fs n ls all count h.1)
  where
    one : (o : OriginValue) → IsOrigin n o → IsThere (outcomes_in fs) o
    one (source p) h = tt
    one (output j p) h = all_there fs j all (subst (λ m. j < m) count h.0)

pub ok_map : {T E : Type 0} {P Q : T → Type 0} (r : Result T E) → ((x : T) → P x → Q x) → IfOk r P → IfOk r Q
ok_map (Ok x) f h = f x h
ok_map (Err e) f h = h

pub err_map : {T E : Type 0} {P Q : E → Type 0} (r : Result T E) → ((x : E) → P x → Q x) → IfErr r P → IfErr r Q
err_map (Ok x) f h = h
err_map (Err e) f h = f e h
