-- What a source tells determines the verdict.
use Rattle.std.proofs.Common.{◌≡◌, List, [], ◌∷◌, ◌++◌, sym, ◌∙◌, subst}
use Rattle.blob_digest.specs.Digest.{DigestValue}
use Rattle.actions.specs.Outcome.{OutcomeValue, IsOutcome}
use Rattle.plan.specs.Values.{StepValue, PlanValue}
use Rattle.blob_source.specs.Source.{Telling}
use Rattle.verifier.specs.declared.verdict.Verdict.{Verdict}
use Rattle.verifier.specs.declared.verdict.Verdict.TheVariants.{Yes, No}
use Rattle.tree.specs.Stage.{◌and_then◌}
use Rattle.tree.proofs.StageLaws.{IsOnce, once_then, once_comes_to}
use Rattle.verifier.specs.StepChecks.{step_check}
use Rattle.verifier.specs.Verdict.{steps_check, plan_check, IsVerdict}
use Rattle.verifier.proofs.StageLaws.{once_located}
use Rattle.verifier.proofs.StepLaws.{once_step, once_root, recorded_from}
use Rattle.verifier.proofs.VerdictOnceLines.{AreValid}

pub one_more : (os : List OutcomeValue) (o : OutcomeValue) → AreValid os → IsOutcome o → AreValid (os ++ o ∷ [])
one_more [] o h k = (k, tt)
one_more (x ∷ os) o h k = (h.0, one_more os o h.1 k)

module _ (A : Type 0) (t : Telling) (sources : DigestValue) where
  -- an outcome that a step passes with is valid
  pub step_valid : (os : List OutcomeValue) (s : StepValue) (d : DigestValue) (o : OutcomeValue) → (step_check {A = A} t sources os s d).passes o → IsOutcome o
  step_valid os s d o h = (recorded_from A t sources os s d o h).recorded.valid

  pub steps_valid : (os : List OutcomeValue) → AreValid os → (ss : List StepValue) (ds : List DigestValue) (all : List OutcomeValue) → (steps_check {A = A} t sources os ss ds).passes all → AreValid all
  unfolding ◌and_then◌
  steps_valid os valid [] ds all h = subst AreValid (sym h) valid
  steps_valid os valid (s ∷ ss) [] all h = elim h [ ]
  steps_valid os valid (s ∷ ss) (d ∷ ds) all h = steps_valid (os ++ h.0 ∷ []) (one_more os h.0 valid (step_valid os s d h.0 h.1)) ss ds all h.2

  pub once_steps : (os : List OutcomeValue) → AreValid os → (ss : List StepValue) (ds : List DigestValue) → IsOnce (steps_check {A = A} t sources os ss ds)
  once_steps os valid [] ds = once_comes_to os
  once_steps os valid (s ∷ ss) [] = record { value = λ v w p q. absurd p; why = λ c e p q. absurd p; either = λ v c p q. p }
  once_steps os valid (s ∷ ss) (d ∷ ds) =
      once_then _ _ (once_located _ _ (once_step t sources os s d valid))
      (λ o h. once_steps (os ++ o ∷ []) (one_more os o valid (step_valid os s d o h)) ss ds)

  once_plan : (plan : PlanValue) (recorded : List DigestValue) (claim : DigestValue) → IsOnce (plan_check {A = A} t sources plan recorded claim)
  once_plan plan recorded claim =
      once_then _ _ (once_steps [] tt plan.steps recorded)
      (λ os h. once_located _ _ (once_root t sources os plan.root_lines claim (steps_valid [] tt plan.steps recorded os h)))

  pub verdict_once : (plan : PlanValue) (recorded : List DigestValue) (claim : DigestValue) (v w : Verdict A) → IsVerdict t sources plan recorded claim v → IsVerdict t sources plan recorded claim w → v ≡ w
  verdict_once plan recorded claim (Yes r m) (Yes s n) h k = λ i. Yes ((h.0 ∙ sym k.0) i) ((h.1 ∙ sym k.1) i)
  verdict_once plan recorded claim (Yes r m) (No place c) h k = absurd ((once_plan plan recorded claim).either tt (place, c) h.2 k)
  verdict_once plan recorded claim (No place c) (Yes s n) h k = absurd ((once_plan plan recorded claim).either tt (place, c) k.2 h)
  verdict_once plan recorded claim (No p c) (No q e) h k =
      let same = (once_plan plan recorded claim).why (p, c) (q, e) h k in
      λ i. No (same i).0 (same i).1
