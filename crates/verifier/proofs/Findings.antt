-- What a comparison of recorded steps says of what two sources tell.
use Rattle.std.proofs.Common.{◌≡◌, ◌≢◌, ℕ, zero, suc, ◌<◌, ◌≤◌, List, [], ◌∷◌, ◌++◌, length, Some, None, refl, ap, sym, ◌∙◌, subst, arith, get_or, inl, inr}
use Rattle.std.specs.Prelude.{◌⊎◌, slice_get}
use Rattle.std.proofs.lemmas.Bool.{cases_lt}
use Rattle.std.proofs.lemmas.Option.{slice_get_cases, slice_get_within}
use Rattle.blob_digest.specs.Digest.{DigestValue}
use Rattle.actions.specs.Outcome.{OutcomeValue}
use Rattle.blob_source.specs.Source.{Telling}
use Rattle.plan.specs.Values.{StepValue, PlanValue}
use Rattle.tree.specs.Tree.{Name}
use Rattle.verifier.specs.AsRecorded.{AreAsRecorded, IsPlanAsRecorded}
use Rattle.verifier.specs.Compared.{RecordedStepValue, HoldsOutcome, HoldsSteps, HasOutcomes, StandAt, AreStepsAlikeBelow, OutcomesDifferAt, IsFirstUnlikeAt, IsComparison, FindsStep, actions_of}
use Rattle.verifier.specs.Recorded.{IsHeld}
use Rattle.verifier.specs.TwoBuilds.{IsInBoth, AreAlikeBelow, IsFirstUnlike, AreTwoBuilds}
use Rattle.verifier.specs.declared.comparing.Comparison.{Comparison}
use Rattle.verifier.specs.declared.comparing.Comparison.TheVariants.{Alike, Unlike, OtherAction}
use Rattle.verifier.proofs.FreshRuns.{one_answer}
use Rattle.verifier.proofs.TwoBuilds.{found, next, not_both}

-- ---- what is recorded is held

held_after : (t : Telling) (sources : DigestValue) (before : List OutcomeValue) (ss : List StepValue) (ds : List DigestValue) (os : List OutcomeValue) → AreAsRecorded t.blobs t.results sources before ss ds os → length ds ≡ length ss → HasOutcomes t ds
held_after t sources before ss [] os h same = tt
held_after t sources before [] (d ∷ ds) os h same = absurd cc
held_after t sources before (s ∷ ss) (d ∷ ds) os (o, now, later) same =
    let rest : length ds ≡ length ss = cc in (
      (o, (record { result = now.result; held = now.held; recorded = now.recorded }, now.recorded.exit_code ∙ now.exit_code)),
      held_after t sources (before ++ o ∷ []) ss ds os later rest,
    )

pub recorded_held : (t : Telling) (sources : DigestValue) (plan : PlanValue) (recorded : List DigestValue) (claim : DigestValue) → IsPlanAsRecorded t.blobs t.results sources plan recorded claim → length recorded ≡ length plan.steps → HasOutcomes t recorded
recorded_held t sources plan recorded claim h same = held_after t sources [] plan.steps recorded h.outcomes h.steps same

-- ---- steps by their numbers

action_at : (steps : List RecordedStepValue) (i : ℕ) (s : RecordedStepValue) → slice_get steps i ≡ Some s → slice_get (actions_of steps) i ≡ Some s.action
action_at [] i s at = absurd cc
action_at (x ∷ steps) zero s at = let same : x ≡ s = cc in ap (λ (y : RecordedStepValue). Some y.action) same
action_at (x ∷ steps) (suc i) s at = action_at steps i s at

step_at : (t : Telling) (steps : List RecordedStepValue) (i : ℕ) (s : RecordedStepValue) → slice_get steps i ≡ Some s → HoldsSteps t steps → HoldsOutcome t s.action s.outcome
step_at t [] i s at h = absurd cc
step_at t (x ∷ steps) zero s at h = let same : x ≡ s = cc in subst (λ (y : RecordedStepValue). HoldsOutcome t y.action y.outcome) same h.0
step_at t (x ∷ steps) (suc i) s at h = step_at t steps i s at h.1

there_is : (steps : List RecordedStepValue) (i : ℕ) → i < length steps → (s : RecordedStepValue) × (slice_get steps i ≡ Some s)
there_is steps i lt = by (slice_get_cases steps i).1
  where
    by : ((x : RecordedStepValue) × (i < length steps) × (slice_get steps i ≡ Some x) × (get_or steps i x ≡ x)) ⊎ ((length steps ≤ i) × (slice_get steps i ≡ None)) → (s : RecordedStepValue) × (slice_get steps i ≡ Some s)
    by (inl h) = (h.0, h.2)
    by (inr h) = absurd (let past = h.0 in omega (arith, past, lt))

module _ (one other : Telling) (ones others : List RecordedStepValue) (holds : HoldsSteps one ones) (also : HoldsSteps other others) where
  abbrev in_both : (i : ℕ) (s t : RecordedStepValue) → StandAt ones others i s t → s.action ≡ t.action → IsInBoth one other (actions_of ones) (actions_of others) i
  in_both i s t stand action = record {
    digest = s.action;
    in_one = action_at ones i s stand.0;
    in_other = action_at others i t stand.1 ∙ ap (λ d. Some d) (sym action);
    outcome = s.outcome;
    another = t.outcome;
    held = (step_at one ones i s stand.0 holds).0;
    other_held = subst (λ d. IsHeld other d t.outcome) (sym action) (step_at other others i t stand.1 also).0;
  }

  pub alike_below : (n : ℕ) → n ≤ length ones → n ≤ length others → AreStepsAlikeBelow ones others n → AreAlikeBelow one other (actions_of ones) (actions_of others) n
  alike_below n le le' alike j lt =
      let s = there_is ones j (omega (arith, le, lt)) in
      let t = there_is others j (omega (arith, le', lt)) in
      let same = alike j s.0 t.0 lt (s.1, t.1) in
      (in_both j s.0 t.0 (s.1, t.1) same.action, same.form)

  pub unlike_at : (i : ℕ) (path : List Name) (s t : RecordedStepValue) → AreStepsAlikeBelow ones others i → StandAt ones others i s t → s.action ≡ t.action → OutcomesDifferAt s.outcome t.outcome path
      → IsFirstUnlikeAt one other (actions_of ones) (actions_of others) i path
  unlike_at i path s t alike stand action differ =
      let lt = slice_get_within ones i s stand.0 in
      let lt' = slice_get_within others i t stand.1 in
      record {
        before = alike_below i (omega (arith, lt)) (omega (arith, lt')) alike;
        unlike = (in_both i s t stand action, path, differ.differ);
        at_path = refl;
      }

  -- ---- the step of the law

  module _ (sources : DigestValue) (plan : PlanValue) (claim another : DigestValue) (builds : AreTwoBuilds one other sources plan (actions_of ones) (actions_of others) claim another)
      (each : length ones ≡ length plan.steps) (twins : length others ≡ length plan.steps) where
    law : (AreAlikeBelow one other (actions_of ones) (actions_of others) (length plan.steps) × (claim ≡ another)) ⊎ IsFirstUnlike one other plan.steps (actions_of ones) (actions_of others)
    law = found one other sources plan (actions_of ones) (actions_of others) claim another builds

    one_root : AreStepsAlikeBelow ones others (length ones) → claim ≡ another
    one_root alike = by law
      where
        by : (AreAlikeBelow one other (actions_of ones) (actions_of others) (length plan.steps) × (claim ≡ another)) ⊎ IsFirstUnlike one other plan.steps (actions_of ones) (actions_of others) → claim ≡ another
        by (inl h) = h.1
        by (inr f) =
            let lt = slice_get_within plan.steps f.index f.step f.step_at in
            absurd (not_both one other (actions_of ones) (actions_of others) f.index (alike_below (length ones) (omega arith) (omega (arith, each, twins)) alike f.index (omega (arith, each, lt))) f.unlike)

    one_step : (i : ℕ) (path : List Name) → i < length ones → IsFirstUnlikeAt one other (actions_of ones) (actions_of others) i path → (f : IsFirstUnlike one other plan.steps (actions_of ones) (actions_of others)) × (f.index ≡ i)
    one_step i path lt first = by law
      where
        by : (AreAlikeBelow one other (actions_of ones) (actions_of others) (length plan.steps) × (claim ≡ another)) ⊎ IsFirstUnlike one other plan.steps (actions_of ones) (actions_of others)
            → (f : IsFirstUnlike one other plan.steps (actions_of ones) (actions_of others)) × (f.index ≡ i)
        by (inl h) = absurd (not_both one other (actions_of ones) (actions_of others) i (h.0 i (omega (arith, each, lt))) first.unlike)
        by (inr f) = (f, at (cases_lt f.index i) (cases_lt i f.index))
          where
            at : (f.index < i) ⊎ (i ≤ f.index) → (i < f.index) ⊎ (f.index ≤ i) → f.index ≡ i
            at (inl less) k = absurd (not_both one other (actions_of ones) (actions_of others) f.index (first.before f.index less) f.unlike)
            at (inr le) (inl less) = absurd (not_both one other (actions_of ones) (actions_of others) i (f.before i less) first.unlike)
            at (inr le) (inr ge) = omega (arith, le, ge)

    no_others : (i : ℕ) (s t : RecordedStepValue) → AreStepsAlikeBelow ones others i → StandAt ones others i s t → s.action ≢ t.action → ⊥
    no_others i s t alike stand apart =
        let lt = slice_get_within ones i s stand.0 in
        let lt' = slice_get_within others i t stand.1 in
        let step = plan_step i (omega (arith, each, lt)) in
        let both = next one other sources plan (actions_of ones) (actions_of others) claim another builds i step.0 step.1 (alike_below i (omega (arith, lt)) (omega (arith, lt')) alike) in
        apart (one_answer (slice_get (actions_of ones) i) s.action both.digest (action_at ones i s stand.0) both.in_one ∙ one_answer (slice_get (actions_of others) i) both.digest t.action both.in_other (action_at others i t stand.1))
      where
        plan_step : (i : ℕ) → i < length plan.steps → (p : StepValue) × (slice_get plan.steps i ≡ Some p)
        plan_step i lt = by (slice_get_cases plan.steps i).1
          where
            by : ((x : StepValue) × (i < length plan.steps) × (slice_get plan.steps i ≡ Some x) × (get_or plan.steps i x ≡ x)) ⊎ ((length plan.steps ≤ i) × (slice_get plan.steps i ≡ None)) → (p : StepValue) × (slice_get plan.steps i ≡ Some p)
            by (inl h) = (h.0, h.2)
            by (inr h) = absurd (let past = h.0 in omega (arith, past, lt))

    pub finds_step : {A : Type 0} (c : Comparison A) → IsComparison ones others c → FindsStep one other plan.steps (actions_of ones) (actions_of others) claim another c
    finds_step Alike alike = one_root alike
    finds_step (Unlike i path) (alike, s, t, stand, action, differ) = one_step i path (slice_get_within ones i s stand.0) (unlike_at i path s t alike stand action differ)
    finds_step (OtherAction i) (alike, s, t, stand, apart) = no_others i s t alike stand apart
