-- The numbers of folders in which children were started.
use Rattle.std.proofs.Common.{◌≡◌, ◌+◌, ◌≤◌, ℕ, suc, List, [], ◌∷◌, ◌++◌, sym, subst, arith}
use Rattle.worker.specs.Values.{StartValue, StartsNone, StartsOne}
use Rattle.processes.specs.Laying.{folder_of}
use Rattle.processes.specs.Running.{HaveStarted, HaveStartedFrom, IsJobLaunched}
use Rattle.processes.specs.Workshop.{Works}

module _ {R C E : Type 0} (works : Works R C E) (work : List ℕ) where
  later_from : (first next later : ℕ) (ss : List StartValue) → next ≤ later → HaveStartedFrom works work first next ss → HaveStartedFrom works work first later ss
  later_from first next later [] le h = omega (arith, le, h)
  later_from first next later (s ∷ ss) le (n, from, child, start, launched, rest) = (n, from, child, start, launched, later_from (suc n) next later ss le rest)

  one_from : (first next : ℕ) (ss : List StartValue) (s : StartValue) (child : C) (start : List ℕ) → HaveStartedFrom works work first next ss → IsJobLaunched works (folder_of work next) s.layout s.command child start
      → HaveStartedFrom works work first (next + 1) (ss ++ s ∷ [])
  one_from first next [] s child start h launched = (next, h, child, start, launched, omega arith)
  one_from first next (x ∷ ss) s child start (n, from, c, at, is, rest) launched = (n, from, c, at, is, one_from (suc n) next ss s child start rest launched)

  -- no child more, and no number fewer
  pub none_started : (other : List ℕ) (next later : ℕ) → other ≡ work → next ≤ later → StartsNone (HaveStarted works work next) (HaveStarted works other later)
  none_started other next later same le ss h = subst (λ w. HaveStarted works w later ss) (sym same) (later_from 0 next later ss le h)

  -- one child more, in the folder with the next number
  pub one_started : (other : List ℕ) (next later : ℕ) (s : StartValue) (child : C) (start : List ℕ) → other ≡ work → later ≡ next + 1 → IsJobLaunched works (folder_of work next) s.layout s.command child start
      → StartsOne (HaveStarted works work next) (HaveStarted works other later) s
  one_started other next later s child start same is launched ss h =
      subst (λ w. HaveStarted works w later (ss ++ s ∷ [])) (sym same) (subst (λ n. HaveStartedFrom works work 0 n (ss ++ s ∷ [])) (sym is) (one_from 0 next ss s child start h launched))
