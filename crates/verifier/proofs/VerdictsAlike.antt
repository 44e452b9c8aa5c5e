-- The verdict by two sources that tell the same wherever its checks look.
use Rattle.std.proofs.Common.{List, [], ◌∷◌, ◌++◌}
use Rattle.std.specs.Prelude.{◌↔◌, slice_get}
use Rattle.actions.specs.Outcome.{OutcomeValue}
use Rattle.blob_digest.specs.Digest.{DigestValue}
use Rattle.blob_source.specs.Source.{Telling}
use Rattle.plan.specs.Values.{LineValue, PlanValue, StepValue}
use Rattle.tree.specs.Memo.{Asked}
use Rattle.tree.specs.Stage.{Stage}
use Rattle.verifier.specs.LooksAt.{LooksAtNothing, PlanLooksAt, RootLooksAt, StepLooksAt, StepsLookAt}
use Rattle.verifier.specs.StepChecks.{step_check, together}
use Rattle.verifier.specs.Together.{TogetherLooksAt}
use Rattle.verifier.specs.TwoTellings.{TellAlike}
use Rattle.verifier.specs.Verdict.{IsVerdict, located, plan_check, root_check, steps_check}
use Rattle.verifier.specs.declared.verdict.Cause.{Cause}
use Rattle.verifier.specs.declared.verdict.Place.{Place}
use Rattle.verifier.specs.declared.verdict.Verdict.{Verdict}
use Rattle.verifier.specs.declared.verdict.Verdict.TheVariants.{No, Yes}
use Rattle.verifier.proofs.Alike.{Agree, LookAlike, SameAt, agree_then, agree_without, look_then, same_way}
use Rattle.verifier.proofs.AlikeSteps.{step_agrees, step_looks, tell_first, tell_next, together_agrees, together_looks}

agree_located : {A V : Type 0} {place : Place A} {f g : Stage (Cause A) V} → Agree f g → Agree (located place f) (located place g)
agree_located h = record { passes = h.passes; fails = λ why. ((λ k. (k.0, (h.fails why.1).0 k.1)), (λ k. (k.0, (h.fails why.1).1 k.1))) }

module _ (A : Type 0) (one other : Telling) (sources : DigestValue) where
  -- ---- steps

  module _ (os : List OutcomeValue) (s : StepValue) (ss : List StepValue) (d : DigestValue) (ds : List DigestValue) (alike : TellAlike (StepsLookAt A one sources os (s ∷ ss) (d ∷ ds)) one other) where
    abbrev Rest : OutcomeValue → Asked → Type 0
    Rest outcome = StepsLookAt A one sources (os ++ outcome ∷ []) ss ds

    alike_step : TellAlike (StepLooksAt A one sources os s d) one other
    alike_step = tell_first (step_check {A = A} one sources os s d) (StepLooksAt A one sources os s d) Rest one other alike

    alike_rest : (outcome : OutcomeValue) → (step_check {A = A} one sources os s d).passes outcome → TellAlike (Rest outcome) one other
    alike_rest = tell_next (step_check {A = A} one sources os s d) (StepLooksAt A one sources os s d) Rest one other alike

  steps_agree : (os : List OutcomeValue) (ss : List StepValue) (ds : List DigestValue) → TellAlike (StepsLookAt A one sources os ss ds) one other → Agree (steps_check {A = A} one sources os ss ds) (steps_check {A = A} other sources os ss ds)
  steps_agree os [] ds alike = agree_without
  steps_agree os (s ∷ ss) [] alike = agree_without
  steps_agree os (s ∷ ss) (d ∷ ds) alike =
      agree_then (agree_located (step_agrees A one other sources os s d (alike_step os s ss d ds alike))) (λ outcome h. steps_agree (os ++ outcome ∷ []) ss ds (alike_rest os s ss d ds alike outcome h))

  steps_look : (os : List OutcomeValue) (ss : List StepValue) (ds : List DigestValue) → TellAlike (StepsLookAt A one sources os ss ds) one other → LookAlike (StepsLookAt A one sources os ss ds) (StepsLookAt A other sources os ss ds)
  steps_look os [] ds alike = λ a. same_way
  steps_look os (s ∷ ss) [] alike = λ a. same_way
  steps_look os (s ∷ ss) (d ∷ ds) alike =
      look_then (step_agrees A one other sources os s d (alike_step os s ss d ds alike)) (step_looks A one other sources os s d (alike_step os s ss d ds alike))
      (λ outcome h. steps_look (os ++ outcome ∷ []) ss ds (alike_rest os s ss d ds alike outcome h))

  -- ---- the root

  module _ (os : List OutcomeValue) (ls : List LineValue) (alike : TellAlike (RootLooksAt A one sources os ls) one other) where
    alike_lines : SameAt (TogetherLooksAt one.blobs sources (slice_get os) ls) one.blobs other.blobs
    alike_lines = (tell_first (together {A = A} one.blobs sources os ls) (TogetherLooksAt one.blobs sources (slice_get os) ls) (λ _. LooksAtNothing) one other alike).blobs

    root_agrees : (claim : DigestValue) → Agree (root_check {A = A} one sources os ls claim) (root_check {A = A} other sources os ls claim)
    root_agrees claim = agree_then (together_agrees one.blobs other.blobs A sources os ls alike_lines) (λ t _. agree_without)

    root_looks : LookAlike (RootLooksAt A one sources os ls) (RootLooksAt A other sources os ls)
    root_looks = look_then (together_agrees one.blobs other.blobs A sources os ls alike_lines) (together_looks one.blobs other.blobs sources (slice_get os) ls alike_lines) (λ t _ a. same_way)

  -- ---- the plan

  module _ (plan : PlanValue) (recorded : List DigestValue) (alike : TellAlike (PlanLooksAt A one sources plan recorded) one other) where
    abbrev Root : List OutcomeValue → Asked → Type 0
    Root os = RootLooksAt A one sources os plan.root_lines

    alike_steps : TellAlike (StepsLookAt A one sources [] plan.steps recorded) one other
    alike_steps = tell_first (steps_check {A = A} one sources [] plan.steps recorded) (StepsLookAt A one sources [] plan.steps recorded) Root one other alike

    alike_root : (os : List OutcomeValue) → (steps_check {A = A} one sources [] plan.steps recorded).passes os → TellAlike (Root os) one other
    alike_root = tell_next (steps_check {A = A} one sources [] plan.steps recorded) (StepsLookAt A one sources [] plan.steps recorded) Root one other alike

    plan_agrees : (claim : DigestValue) → Agree (plan_check {A = A} one sources plan recorded claim) (plan_check {A = A} other sources plan recorded claim)
    plan_agrees claim = agree_then (steps_agree [] plan.steps recorded alike_steps) (λ os h. agree_located (root_agrees os plan.root_lines (alike_root os h) claim))

    pub plan_looks : LookAlike (PlanLooksAt A one sources plan recorded) (PlanLooksAt A other sources plan recorded)
    plan_looks = look_then (steps_agree [] plan.steps recorded alike_steps) (steps_look [] plan.steps recorded alike_steps) (λ os h. root_looks os plan.root_lines (alike_root os h))

    pub verdicts_agree : (claim : DigestValue) (v : Verdict A) → (IsVerdict one sources plan recorded claim v ↔ IsVerdict other sources plan recorded claim v)
    verdicts_agree claim (Yes root steps) = ((λ h. (h.0, h.1, ((plan_agrees claim).passes tt).0 h.2)), (λ h. (h.0, h.1, ((plan_agrees claim).passes tt).1 h.2)))
    verdicts_agree claim (No place cause) = (plan_agrees claim).fails (place, cause)
