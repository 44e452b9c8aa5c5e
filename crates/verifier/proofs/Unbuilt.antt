-- Where lines of a plan put nothing together by what was recorded, they do so in no run, and where a recorded action isn't the plan's, no run has it.
use Rattle.std.proofs.Common.{◌≡◌, ℕ, zero, suc, List, [], ◌∷◌, ◌++◌, Some, length, ap, arith, ◌∙◌, subst, inl, inr}
use Rattle.std.specs.Prelude.{◌≢◌, ◌⊎◌, ◌≤◌, slice_get, take}
use Rattle.blob_digest.specs.Digest.{DigestValue}
use Rattle.actions.specs.Outcome.{OutcomeValue}
use Rattle.action_messages.specs.Command.{CommandValue}
use Rattle.action_messages.specs.Outputs.{RecordedValue}
use Rattle.plan.specs.Plan.{IsPlan}
use Rattle.plan.specs.Values.{LineValue, StepValue, PlanValue}
use Rattle.tree.specs.Difference.{Differing, unexplained, absent, differs, unread}
use Rattle.tree.specs.Stage.{◌and_then◌}
use Rattle.blob_source.specs.Source.{Blobs, Telling}
use Rattle.blob_source.specs.Told.{Fault, missing, wrong, malformed}
use Rattle.verifier.specs.declared.verdict.Cause.{Cause}
use Rattle.verifier.specs.declared.verdict.Place.TheVariants.{Step, Root}
use Rattle.verifier.specs.declared.verdict.Verdict.TheVariants.{No}
use Rattle.verifier.specs.AsRecorded.{AreAsRecorded}
use Rattle.verifier.specs.Faults.{cause_of_fault, cause_of_lines}
use Rattle.verifier.specs.StepChecks.{difference_cause, OutputFault, together, step_check}
use Rattle.verifier.specs.Together.{LinesFault, no_origin, in_conflict, not_read}
use Rattle.verifier.specs.Unbuilt.{IsOfLines, NoRunStarts, NoRunHasRoot, IsOfAction, NoRunHasAction}
use Rattle.verifier.specs.Verdict.{root_check, IsVerdict}
use Rattle.verifier.proofs.FreshRuns.{FirstAsRecorded, IsLinesFault, put_nothing}
use Rattle.verifier.proofs.Holds.{as_given}
use Rattle.verifier.proofs.KeptRuns.{runs_keep}
use Rattle.verifier.proofs.StepStarts.{HasOtherAction, runs_without, never_run}
use Rattle.verifier.proofs.NoAtStep.{IsFirstFailing, fails_at_step}
use Rattle.verifier.proofs.Passing.{root_fails}
use Rattle.verifier.proofs.Targets.{paths_of}

-- ---- the checks that fail for lines, or for the recorded action

module _ (A : Type 0) where
  abbrev IsOfEither : Cause A → Type 0
  IsOfEither c = IsOfLines c ⊎ IsOfAction c

  neither : ⊥ ⊎ ⊥ → ⊥
  neither (inl k) = k
  neither (inr k) = k

  untold : (f : Fault) → IsOfEither (cause_of_fault f) → ⊥
  untold (missing d) k = neither k
  untold (wrong d) k = neither k
  untold (malformed d) k = neither k

  no_lines : (x : Differing) → IsOfLines {A = A} (difference_cause x) → ⊥
  no_lines (unexplained path) k = k
  no_lines (absent path) k = k
  no_lines (differs path) k = k
  no_lines (unread f) k = untold f (inl k)

  no_action : (why : LinesFault) → IsOfAction {A = A} (cause_of_lines why) → ⊥
  no_action (no_origin path) k = k
  no_action (in_conflict path) k = k
  no_action (not_read f) k = untold f (inr k)

  no_output : (B : Blobs) (m : CommandValue) (xs : List RecordedValue) (c : Cause A) → IsOfEither c → OutputFault B m xs c → ⊥
  no_output B m [] c k h = h
  no_output B m (x ∷ xs) c k (inl (inl h)) = neither (subst IsOfEither h.1 k)
  no_output B m (x ∷ xs) c k (inl (inr (listed, f, fault, is))) = untold f (subst IsOfEither is k)
  no_output B m (x ∷ xs) c k (inr h) = no_output B m xs c k h.3

  module _ (t : Telling) (sources : DigestValue) (os : List OutcomeValue) (s : StepValue) (d : DigestValue) (c : Cause A) where
    fails_for : IsOfEither c → (step_check t sources os s d).fails c → (together {A = A} t.blobs sources os s.lines).fails c ⊎ ((IsOfLines c → ⊥) × HasOtherAction t.blobs sources os s d)
    unfolding ◌and_then◌
    fails_for k (inl (f, fault, is)) = absurd (untold f (subst IsOfEither is k))
    fails_for k (inr (action, told, inl h)) = absurd (neither (subst IsOfEither h.1 k))
    fails_for k (inr (action, told, inr (_, cached, inl (f, fault, is)))) = absurd (untold f (subst IsOfEither is k))
    fails_for k (inr (action, told, inr (_, cached, inr (command, held, inl h)))) = inr ((λ q. subst IsOfLines h.1 q), (action, told, inl h.0))
    fails_for k (inr (action, told, inr (_, cached, inr (command, held, inr (_, frame, inl (inl h)))))) = inl h
    fails_for k (inr (action, told, inr (_, cached, inr (command, held, inr (_, frame, inl (inr (made, put, (unlike, x, first, is)))))))) = inr ((λ q. no_lines x (subst IsOfLines is q)), (action, told, inr (made, put, unlike)))
    fails_for k (inr (action, told, inr (_, cached, inr (command, held, inr (_, frame, inr (_, input, inl (inl h))))))) = absurd (neither (subst IsOfEither h.1 k))
    fails_for k (inr (action, told, inr (_, cached, inr (command, held, inr (_, frame, inr (_, input, inl (inr h))))))) = absurd (neither (subst IsOfEither h.3 k))
    fails_for k (inr (action, told, inr (_, cached, inr (command, held, inr (_, frame, inr (_, input, inr (result, kept, inl h))))))) = absurd (neither (subst IsOfEither h.1 k))
    fails_for k (inr (action, told, inr (_, cached, inr (command, held, inr (_, frame, inr (_, input, inr (result, kept, inr (_, ended, (xs, are, fault))))))))) = absurd (no_output t.blobs command xs c k fault)

    pub lines_of_step : IsOfLines c → (step_check t sources os s d).fails c → (together {A = A} t.blobs sources os s.lines).fails c
    lines_of_step k h = elim (fails_for (inl k) h) [ inl lines ↦ lines | inr other ↦ absurd (other.0 k) ]

    pub action_of_step : IsOfAction c → (step_check t sources os s d).fails c → HasOtherAction t.blobs sources os s d
    action_of_step k h = elim (fails_for (inr k) h) [ inl lines ↦ absurd (no_action lines.0 (subst IsOfAction lines.2 k)) | inr other ↦ other.1 ]

  pub lines_of_root : (t : Telling) (sources : DigestValue) (os : List OutcomeValue) (ls : List LineValue) (claim : DigestValue) (c : Cause A) → IsOfLines c → (root_check t sources os ls claim).fails c
      → (together {A = A} t.blobs sources os ls).fails c
  unfolding ◌and_then◌
  lines_of_root t sources os ls claim c k (inl h) = h
  lines_of_root t sources os ls claim c k (inr h) = absurd (subst IsOfLines h.2.1 k)

  -- the fault of lines that is such a cause is no Directory that isn't told
  pub lines_fault : (B : Blobs) (sources : DigestValue) (os : List OutcomeValue) (ls : List LineValue) (c : Cause A) → IsOfLines c → (together B sources os ls).fails c → IsLinesFault B sources os ls
  lines_fault B sources os ls c k h = record { why = h.0; told = other; fails = h.1 }
    where
      other : (f : Fault) → h.0 ≢ not_read f
      other f is = untold f (inl (subst IsOfLines (h.2 ∙ ap cause_of_lines is) k))

-- ---- the first steps of a plan

pub first_of : {X : Type 0} (n i : ℕ) (xs : List X) (x : X) → slice_get (take n xs) i ≡ Some x → slice_get xs i ≡ Some x
first_of zero i xs x e = absurd cc
first_of (suc n) i [] x e = absurd cc
first_of (suc n) zero (y ∷ xs) x e = e
first_of (suc n) (suc i) (y ∷ xs) x e = first_of n i xs x e

pub last_of : {X : Type 0} (i : ℕ) (xs : List X) (x : X) → slice_get xs i ≡ Some x → slice_get (take (suc i) xs) i ≡ Some x
last_of i [] x e = absurd cc
last_of zero (y ∷ xs) x e = e
last_of (suc i) (y ∷ xs) x e = last_of i xs x e

-- what is behind their digests says nothing of them
pub first_recorded : (B C : Blobs) (src : DigestValue) (before : List OutcomeValue) (n m : ℕ) → n ≤ m → (ss : List StepValue) (ds : List DigestValue) (os : List OutcomeValue)
    → AreAsRecorded B C src before (take n ss) ds os → AreAsRecorded B C src before (take n ss) (take m ds) os
first_recorded B C src before zero m le ss ds os h = h
first_recorded B C src before (suc n) zero le ss ds os h = absurd (omega (arith, le))
first_recorded B C src before (suc n) (suc m) le [] ds os h = h
first_recorded B C src before (suc n) (suc m) le (s ∷ ss) [] os h = elim h [ ]
first_recorded B C src before (suc n) (suc m) le (s ∷ ss) (d ∷ ds) os h = (h.0, h.1, first_recorded B C src (before ++ h.0 ∷ []) n m (omega (arith, le)) ss ds os h.2)

-- ---- runs

module _ (A : Type 0) (tells : Telling) (sources : DigestValue) (plan : PlanValue) (recorded : List DigestValue) (claim : DigestValue) (valid : IsPlan plan) (c : Cause A) where
  -- the steps before the first that fails
  abbrev pub steps_before : (name : List ℕ) (k : IsFirstFailing A tells sources [] plan.steps recorded name c) (n : ℕ) → k.index ≤ n → FirstAsRecorded tells.blobs tells.results sources plan (take n recorded)
  steps_before name k n le = record {
    first = take k.index plan.steps;
    outcomes = k.outcomes;
    planned = λ i s at. first_of k.index i plan.steps s at;
    steps = first_recorded tells.blobs tells.results sources [] k.index n le plan.steps recorded k.outcomes k.before;
  }

  pub no_run_starts : IsOfLines c → (name : List ℕ) → IsVerdict tells sources plan recorded claim (No (Step name) c) → NoRunStarts tells.blobs tells.results sources plan recorded name
  no_run_starts of_lines name v =
      let k = fails_at_step A tells sources plan recorded claim name c v in
      let lacks = lines_fault A tells.blobs sources k.outcomes k.step.lines c of_lines (lines_of_step A tells sources k.outcomes k.step k.digest c of_lines k.fails) in
      record {
        index = k.index;
        step = k.step;
        step_at = k.step_at;
        named = k.named;
        of_run = λ r runs. runs_without (as_given valid (steps_before name k k.index (omega arith)) r runs) k.index k.step k.step_at lacks;
      }

  pub no_run_has_action : IsOfAction c → (name : List ℕ) → IsVerdict tells sources plan recorded claim (No (Step name) c) → NoRunHasAction tells.blobs tells.results sources plan recorded name
  no_run_has_action of_action name v =
      let k = fails_at_step A tells sources plan recorded claim name c v in
      let other = action_of_step A tells sources k.outcomes k.step k.digest c of_action k.fails in
      record {
        of_step = record { index = k.index; step = k.step; digest = k.digest; step_at = k.step_at; digest_at = k.digest_at; named = k.named };
        of_run = λ r runs. never_run (as_given valid (steps_before name k k.index (omega arith)) r runs) k.index k.step k.step_at k.digest other;
      }

  pub no_run_has_root : IsOfLines c → IsVerdict tells sources plan recorded claim (No Root c) → NoRunHasRoot tells.blobs tells.results sources plan recorded
  no_run_has_root of_lines v =
      let k = root_fails A tells sources plan recorded claim c v in
      let lacks = lines_fault A tells.blobs sources k.0 plan.root_lines c of_lines (lines_of_root A tells sources k.0 plan.root_lines claim c of_lines k.2) in
      let first : FirstAsRecorded tells.blobs tells.results sources plan recorded = record { first = plan.steps; outcomes = k.0; planned = λ i s at. at; steps = k.1 } in
      record {
        of_run = λ r runs.
            let given = as_given valid first r runs in
            put_nothing given r.now (runs_keep given) plan.root_lines (paths_of (length plan.steps) plan.root_lines valid.root_lines.each) lacks;
      }
