-- The lines of a step, one after another: whether the steps that they read have finished.
use Rattle.std.proofs.Common.{◌≡◌, ◌↔◌, ℕ, suc, ◌+◌, ◌<◌, Bool, List, [], ◌∷◌, length, drop, get_or, Option, Some, ap, sym, ◌∙◌, subst, arith, add-one, drop-cons}
use Rattle.std.specs.List.{AllByRecursion}
use Rattle.std.specs.Prelude.{slice_get, IsTrue}
use Rattle.verifier.proofs.FreshRuns.{one_answer}
use Rattle.runs.proofs.Places.{element_at}
use Rattle.plan.specs.Plan.{AreSteps}
use Rattle.plan.specs.Values.{OriginValue, source, output, LineValue, StepValue, IsOrigin, IsLine}
use Rattle.verifier.proofs.CheckingSteps.{numbered_lines}
use Rattle.runs.specs.Engine.{FinishedValue}
use Rattle.verifier.specs.Together.{IsThere, AreThere}
use Rattle.runs.specs.Looking.{outcomes_in}

pub there_next : (fs : List (Option FinishedValue)) (ls : List LineValue) (i : ℕ) (l : LineValue) → i < length ls → l ≡ get_or ls i l → IsThere (outcomes_in fs) l.origin
    → AreThere (outcomes_in fs) (drop i ls) ↔ AreThere (outcomes_in fs) ls → AreThere (outcomes_in fs) (drop (i + 1) ls) ↔ AreThere (outcomes_in fs) ls
there_next fs ls i l lt is there goes =
    let split : drop i ls ≡ l ∷ drop (i + 1) ls = rw (add-one, drop-cons ls i l lt) (ap (λ k. k ∷ drop (suc i) ls) (sym is)) in
    (λ h. goes.0 (subst (AreThere (outcomes_in fs)) (sym split) (there, h)), λ h. (subst (AreThere (outcomes_in fs)) split (goes.1 h)).1)

-- the lines of a step of a plan, in front of all of its steps
pub step_lines : (steps : List StepValue) (i : ℕ) (s : StepValue) → i < length steps → s ≡ get_or steps i s → AreSteps [] steps → AllByRecursion (IsLine (length steps)) s.lines
step_lines steps i s lt is h = more s.lines (numbered_lines steps i s lt is h).each
  where
    one : (l : LineValue) → IsLine i l → IsLine (length steps) l
    one l k = record { target = k.target; origin = by l.origin k.origin }
      where
        by : (o : OriginValue) → IsOrigin i o → IsOrigin (length steps) o
        by (source p) h = h
        by (output j p) h = (omega (arith, h.0, lt), h.1)

    more : (ls : List LineValue) → AllByRecursion (IsLine i) ls → AllByRecursion (IsLine (length steps)) ls
    more [] h = tt
    more (l ∷ ls) h = (one l h.0, more ls h.1)

-- a step of an engine, found by its number
pub ready_lines : (steps plan_steps : List StepValue) (i : ℕ) (r v : StepValue) (fs gs : List (Option FinishedValue)) (ls : List LineValue) → steps ≡ plan_steps → AreSteps [] plan_steps → i < length plan_steps → r ≡ get_or steps i r → v ≡ r → ls ≡ v.lines
    → gs ≡ fs → length fs ≡ length plan_steps → AllByRecursion (IsLine (length gs)) ls
ready_lines steps plan_steps i r v fs gs ls same valid lt is view lines those count =
    let at : r ≡ get_or plan_steps i r = is ∙ ap (λ ss. get_or ss i r) same in
    let ok = step_lines plan_steps i r lt at valid in
    let left : length plan_steps ≡ length gs = sym count ∙ ap length (sym those) in
    subst (λ n. AllByRecursion (IsLine n) ls) left (subst (AllByRecursion (IsLine (length plan_steps))) (ap (λ (s : StepValue). s.lines) (sym view) ∙ sym lines) ok)

pub ready_answer : (steps plan_steps : List StepValue) (i : ℕ) (r v s : StepValue) (fs gs : List (Option FinishedValue)) (ls : List LineValue) (b : Bool) → steps ≡ plan_steps → i < length plan_steps → r ≡ get_or steps i r → v ≡ r → ls ≡ v.lines
    → gs ≡ fs → IsTrue b ↔ AreThere (outcomes_in gs) ls → slice_get plan_steps i ≡ Some s → IsTrue b ↔ AreThere (outcomes_in fs) s.lines
ready_answer steps plan_steps i r v s fs gs ls b same lt is view lines those answer at =
    let found = element_at plan_steps i r lt (is ∙ ap (λ ss. get_or ss i r) same) in
    let one : r ≡ s = one_answer (slice_get plan_steps i) r s found at in
    let all : ls ≡ s.lines = lines ∙ ap (λ (s : StepValue). s.lines) (view ∙ one) in
    subst (λ ks. IsTrue b ↔ AreThere (outcomes_in fs) ks) all (subst (λ hs. IsTrue b ↔ AreThere (outcomes_in hs) ls) those answer)
