-- Where the verdict is no at a step, that step isn't as recorded, and those before it are.
use Rattle.std.proofs.Common.{◌≡◌, ℕ, suc, List, [], ◌∷◌, ◌++◌, Some, refl, inl, inr}
use Rattle.std.specs.Prelude.{slice_get, take}
use Rattle.blob_digest.specs.Digest.{DigestValue}
use Rattle.actions.specs.Outcome.{OutcomeValue}
use Rattle.plan.specs.Values.{StepValue, PlanValue}
use Rattle.blob_source.specs.Source.{Telling}
use Rattle.verifier.specs.declared.verdict.Verdict.TheVariants.{No}
use Rattle.verifier.specs.declared.verdict.Place.{Place}
use Rattle.verifier.specs.declared.verdict.Place.TheVariants.{Step, Root}
use Rattle.verifier.specs.declared.verdict.Cause.{Cause}
use Rattle.verifier.specs.AsRecorded.{AreAsRecorded, IsFirstUnlikeRecorded, IsAccepted}
use Rattle.tree.specs.Stage.{◌and_then◌}
use Rattle.verifier.specs.StepChecks.{step_check}
use Rattle.verifier.specs.Verdict.{steps_check, IsVerdict}
use Rattle.verifier.proofs.Passing.{root_fails, accepted_root, recorded_steps}
use Rattle.verifier.proofs.StepLaws.{once_step, once_root, recorded_from, from_recorded}
use Rattle.verifier.proofs.VerdictOnce.{steps_valid}
use Rattle.verifier.proofs.VerdictOnceLines.{AreValid}

module _ (A : Type 0) (t : Telling) (sources : DigestValue) where
  place_is : (m n : List ℕ) → ◌≡◌ {A = Place A} (Step m) (Step n) → m ≡ n
  place_is m n e = cc

  no_root : (n : List ℕ) → ◌≡◌ {A = Place A} (Step n) Root → ⊥
  no_root n e = cc

  -- the first step whose check fails
  pub record IsFirstFailing (earlier : List OutcomeValue) (ss : List StepValue) (ds : List DigestValue) (name : List ℕ) (c : Cause A) : Type 0 where
    pub index : ℕ
    pub step : StepValue
    pub digest : DigestValue
    pub outcomes : List OutcomeValue
    pub step_at : slice_get ss index ≡ Some step
    pub digest_at : slice_get ds index ≡ Some digest
    pub named : name ≡ step.name
    pub before : AreAsRecorded t.blobs t.results sources earlier (take index ss) ds outcomes
    pub fails : (step_check t sources outcomes step digest).fails c

  first_failing : (os : List OutcomeValue) (ss : List StepValue) (ds : List DigestValue) (name : List ℕ) (c : Cause A) → (steps_check t sources os ss ds).fails (Step name, c) → IsFirstFailing os ss ds name c
  unfolding ◌and_then◌
  first_failing os [] ds name c h = elim h [ ]
  first_failing os (s ∷ ss) [] name c h = elim h [ ]
  first_failing os (s ∷ ss) (d ∷ ds) name c (inl h) = record {
    index = 0;
    step = s;
    digest = d;
    outcomes = os;
    step_at = refl;
    digest_at = refl;
    named = place_is name s.name h.0;
    before = refl;
    fails = h.1;
  }
  first_failing os (s ∷ ss) (d ∷ ds) name c (inr h) =
      let rest = first_failing (os ++ h.0 ∷ []) ss ds name c h.2 in
      record {
        index = suc rest.index;
        step = rest.step;
        digest = rest.digest;
        outcomes = rest.outcomes;
        step_at = rest.step_at;
        digest_at = rest.digest_at;
        named = rest.named;
        before = (h.0, recorded_from A t sources os s d h.0 h.1, rest.before);
        fails = rest.fails;
      }

  -- what steps that are as recorded came to is valid
  came_to : (ss : List StepValue) (ds : List DigestValue) (os : List OutcomeValue) → AreAsRecorded t.blobs t.results sources [] ss ds os → AreValid os
  came_to ss ds os k = steps_valid A t sources [] tt ss ds os (recorded_steps A t sources [] ss ds os k)

  module _ (plan : PlanValue) (recorded : List DigestValue) (claim : DigestValue) where
    pub fails_at_step : (name : List ℕ) (c : Cause A) → IsVerdict t sources plan recorded claim (No (Step name) c) → IsFirstFailing [] plan.steps recorded name c
    unfolding ◌and_then◌
    fails_at_step name c (inl h) = first_failing [] plan.steps recorded name c h
    fails_at_step name c (inr h) = absurd (no_root name h.2.0)

    pub no_at_step : (name : List ℕ) (c : Cause A) → IsVerdict t sources plan recorded claim (No (Step name) c) → IsFirstUnlikeRecorded t.blobs t.results sources [] plan.steps recorded name
    no_at_step name c h =
        let k = fails_at_step name c h in
        let valid = came_to (take k.index plan.steps) recorded k.outcomes k.before in
        record {
          index = k.index;
          step = k.step;
          digest = k.digest;
          outcomes = k.outcomes;
          step_at = k.step_at;
          digest_at = k.digest_at;
          named = k.named;
          before = k.before;
          unlike = λ o like. (once_step {A = A} t sources k.outcomes k.step k.digest valid).either o c (from_recorded A t sources k.outcomes k.step k.digest o like) k.fails;
        }

    pub no_at_root : (c : Cause A) → IsVerdict t sources plan recorded claim (No Root c)
        → (os : List OutcomeValue) × AreAsRecorded t.blobs t.results sources [] plan.steps recorded os × (IsAccepted t.blobs sources os plan.root_lines claim → ⊥)
    no_at_root c h =
        let parts = root_fails A t sources plan recorded claim c h in (
          parts.0,
          parts.1,
          λ accepted. (once_root {A = A} t sources parts.0 plan.root_lines claim (came_to plan.steps recorded parts.0 parts.1)).either tt c (accepted_root A t sources parts.0 plan.root_lines claim accepted) parts.2,
        )
