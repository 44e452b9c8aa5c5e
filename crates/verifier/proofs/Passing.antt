-- A verdict is yes exactly where the plan is as recorded.
use Rattle.std.proofs.Common.{◌≡◌, ℕ, List, [], ◌∷◌, ◌++◌, length, refl, subst, inl, inr}
use Rattle.blob_digest.specs.Digest.{DigestValue}
use Rattle.actions.specs.Outcome.{OutcomeValue}
use Rattle.plan.specs.Values.{LineValue, StepValue, PlanValue}
use Rattle.tree.specs.Form.{root}
use Rattle.tree.specs.Stage.{◌and_then◌}
use Rattle.blob_source.specs.Source.{Telling, Grows}
use Rattle.blob_source.specs.Told.{missing, wrong, malformed}
use Rattle.verifier.specs.declared.verdict.Verdict.{Verdict}
use Rattle.verifier.specs.declared.verdict.Verdict.TheVariants.{Yes, No}
use Rattle.verifier.specs.declared.verdict.Place.{Place}
use Rattle.verifier.specs.declared.verdict.Place.TheVariants.{Step, Root}
use Rattle.verifier.specs.declared.verdict.Cause.{Cause}
use Rattle.verifier.specs.declared.verdict.Cause.TheVariants.{RootDiffers}
use Rattle.verifier.specs.AsRecorded.{AreAsRecorded, IsPlanAsRecorded, IsAccepted}
use Rattle.verifier.specs.Faults.{cause_of_lines}
use Rattle.verifier.specs.Together.{LinesFault, no_origin, in_conflict, not_read}
use Rattle.verifier.specs.Verdict.{root_check, steps_check, IsVerdict, IsYes}
use Rattle.verifier.proofs.ChecksThen.{IsStable, stable_then, stable_without, stable_together, stable_steps}
use Rattle.verifier.proofs.StepLaws.{recorded_from, from_recorded}
use Rattle.verifier.proofs.VerdictOnce.{verdict_once}

module _ (A : Type 0) (t : Telling) (sources : DigestValue) where
  -- the steps pass exactly where they are as recorded
  pub steps_recorded : (before : List OutcomeValue) (ss : List StepValue) (ds : List DigestValue) (os : List OutcomeValue) → (steps_check {A = A} t sources before ss ds).passes os → AreAsRecorded t.blobs t.results sources before ss ds os
  unfolding ◌and_then◌
  steps_recorded before [] ds os h = h
  steps_recorded before (s ∷ ss) [] os h = h
  steps_recorded before (s ∷ ss) (d ∷ ds) os h = (h.0, recorded_from A t sources before s d h.0 h.1, steps_recorded (before ++ h.0 ∷ []) ss ds os h.2)

  pub recorded_steps : (before : List OutcomeValue) (ss : List StepValue) (ds : List DigestValue) (os : List OutcomeValue) → AreAsRecorded t.blobs t.results sources before ss ds os → (steps_check {A = A} t sources before ss ds).passes os
  unfolding ◌and_then◌
  recorded_steps before [] ds os h = h
  recorded_steps before (s ∷ ss) [] os h = h
  recorded_steps before (s ∷ ss) (d ∷ ds) os h = (h.0, from_recorded A t sources before s d h.0 h.1, recorded_steps (before ++ h.0 ∷ []) ss ds os h.2)

  -- and so does the root where it is accepted
  pub root_accepted : (os : List OutcomeValue) (ls : List LineValue) (claim : DigestValue) → (root_check {A = A} t sources os ls claim).passes tt → IsAccepted t.blobs sources os ls claim
  unfolding ◌and_then◌
  root_accepted os ls claim h = record { nodes = h.1.0; tree = h.0; resolved = h.1.1; put_together = h.1.2; same = h.2 }

  pub accepted_root : (os : List OutcomeValue) (ls : List LineValue) (claim : DigestValue) → IsAccepted t.blobs sources os ls claim → (root_check {A = A} t sources os ls claim).passes tt
  unfolding ◌and_then◌
  accepted_root os ls claim h = (h.tree, (h.nodes, h.resolved, h.put_together), h.same)

-- ---- another root

-- the cause that the root differs is no fault of lines
no_lines : (A : Type 0) (why : LinesFault) (other : DigestValue) → ◌≡◌ {A = Cause A} (RootDiffers other) (cause_of_lines why) → ⊥
no_lines A (no_origin path) other e = cc
no_lines A (in_conflict path) other e = cc
no_lines A (not_read (missing d)) other e = cc
no_lines A (not_read (wrong d)) other e = cc
no_lines A (not_read (malformed d)) other e = cc

no_step : {A : Type 0} (name : List ℕ) → ◌≡◌ {A = Place A} Root (Step name) → ⊥
no_step name e = cc

-- no step fails at the root
steps_fail_at_steps : (A : Type 0) (t : Telling) (sources : DigestValue) (before : List OutcomeValue) (ss : List StepValue) (ds : List DigestValue) (c : Cause A) → (steps_check t sources before ss ds).fails (Root, c) → ⊥
unfolding ◌and_then◌
steps_fail_at_steps A t sources before [] ds c h = h
steps_fail_at_steps A t sources before (s ∷ ss) [] c h = h
steps_fail_at_steps A t sources before (s ∷ ss) (d ∷ ds) c (inl h) = no_step {A = A} s.name h.0
steps_fail_at_steps A t sources before (s ∷ ss) (d ∷ ds) c (inr h) = steps_fail_at_steps A t sources (before ++ h.0 ∷ []) ss ds c h.2

root_differs : (A : Type 0) (t : Telling) (sources : DigestValue) (os : List OutcomeValue) (ls : List LineValue) (claim other : DigestValue) → (root_check {A = A} t sources os ls claim).fails (RootDiffers other) → IsAccepted t.blobs sources os ls other
unfolding ◌and_then◌
root_differs A t sources os ls claim other (inl h) = absurd (no_lines A h.0 other h.2)
root_differs A t sources os ls claim other (inr (tree, (nodes, resolved, merges), (differs, is))) =
    let same : root tree ≡ other = cc in
    record { nodes = nodes; tree = tree; resolved = resolved; put_together = merges; same = same }

-- ---- whole plans

module _ (A : Type 0) (t : Telling) (sources : DigestValue) (plan : PlanValue) (recorded : List DigestValue) (claim : DigestValue) where
  -- where the verdict is no at the root, the steps are as recorded
  pub root_fails : (c : Cause A) → IsVerdict t sources plan recorded claim (No Root c)
      → (os : List OutcomeValue) × AreAsRecorded t.blobs t.results sources [] plan.steps recorded os × (root_check t sources os plan.root_lines claim).fails c
  unfolding ◌and_then◌
  root_fails c (inl h) = absurd (steps_fail_at_steps A t sources [] plan.steps recorded c h)
  root_fails c (inr h) = (h.0, steps_recorded A t sources [] plan.steps recorded h.0 h.1, h.2.1)

  pub differs_recorded : (other : DigestValue) → IsVerdict {A = A} t sources plan recorded claim (No Root (RootDiffers other)) → IsPlanAsRecorded t.blobs t.results sources plan recorded other
  differs_recorded other h =
      let parts = root_fails (RootDiffers other) h in
      record { outcomes = parts.0; steps = parts.1; root = root_differs A t sources parts.0 plan.root_lines claim other parts.2 }

  pub yes_recorded : (v : Verdict A) → IsVerdict t sources plan recorded claim v → IsYes v → IsPlanAsRecorded t.blobs t.results sources plan recorded claim
  unfolding ◌and_then◌
  yes_recorded (Yes r n) h y = record {
    outcomes = h.2.0;
    steps = steps_recorded A t sources [] plan.steps recorded h.2.0 h.2.1;
    root = root_accepted A t sources h.2.0 plan.root_lines claim h.2.2;
  }
  yes_recorded (No place c) h y = elim y [ ]

  -- a plan that is as recorded has a verdict, which is yes
  pub recorded_verdict : IsPlanAsRecorded t.blobs t.results sources plan recorded claim → IsVerdict {A = A} t sources plan recorded claim (Yes claim (length plan.steps))
  unfolding ◌and_then◌
  recorded_verdict h = (refl, refl, (h.outcomes, recorded_steps A t sources [] plan.steps recorded h.outcomes h.steps, accepted_root A t sources h.outcomes plan.root_lines claim h.root))

  pub recorded_yes : (v : Verdict A) → IsVerdict t sources plan recorded claim v → IsPlanAsRecorded t.blobs t.results sources plan recorded claim → IsYes v
  recorded_yes v h k = subst IsYes (verdict_once A t sources plan recorded claim (Yes claim (length plan.steps)) v (recorded_verdict k) h) tt

-- what is as recorded stays so, whatever more is told
stable_root : {A : Type 0} (sources : DigestValue) (os : List OutcomeValue) (ls : List LineValue) (claim : DigestValue) → IsStable (λ t. root_check {A = A} t sources os ls claim)
stable_root sources os ls claim = stable_then (stable_together sources os ls) (λ made. stable_without)

pub recorded_stays : (A : Type 0) (old new : Telling) (sources : DigestValue) (plan : PlanValue) (recorded : List DigestValue) (claim : DigestValue) → Grows old.blobs new.blobs → Grows old.results new.results
    → IsPlanAsRecorded old.blobs old.results sources plan recorded claim → IsPlanAsRecorded new.blobs new.results sources plan recorded claim
recorded_stays A old new sources plan recorded claim blobs results h =
    let steps = (stable_steps {A = A} sources [] plan.steps recorded).still old new blobs results h.outcomes (recorded_steps A old sources [] plan.steps recorded h.outcomes h.steps) in
    let root = (stable_root {A = A} sources h.outcomes plan.root_lines claim).still old new blobs results tt (accepted_root A old sources h.outcomes plan.root_lines claim h.root) in
    record { outcomes = h.outcomes; steps = steps_recorded A new sources [] plan.steps recorded h.outcomes steps; root = root_accepted A new sources h.outcomes plan.root_lines claim root }
