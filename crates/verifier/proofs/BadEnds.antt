-- Where a recorded action ended badly, it does so in every run.
use Rattle.std.proofs.Common.{◌≡◌, ℕ, suc, List, [], ◌∷◌, ap, sym, ◌∙◌, refl, arith, subst, inl, inr}
use Rattle.std.specs.Prelude.{◌≢◌, ◌⊎◌, ℤ, pos, take, Contains}
use Rattle.std.specs.List.{AllByRecursion}
use Rattle.blob_digest.specs.Digest.{DigestValue}
use Rattle.messages.specs.Tree.{TreeValue, IsTree, tree_bytes}
use Rattle.actions.specs.Outcome.{OutcomeValue}
use Rattle.actions.proofs.RecordedAt.{has_node}
use Rattle.actions.proofs.TreeLookups.{behind}
use Rattle.action_messages.specs.ActionResult.{ActionResultValue}
use Rattle.action_messages.specs.Command.{CommandValue, IsCommand, command_bytes}
use Rattle.action_messages.specs.OutputDirectory.{OutputDirectoryValue}
use Rattle.action_messages.specs.Outputs.{RecordedValue, recorded_path, AreOutputs}
use Rattle.plan.specs.Plan.{IsPlan}
use Rattle.plan.specs.Values.{StepValue, PlanValue}
use Rattle.tree.specs.Difference.{Differing, unexplained, absent, differs, unread}
use Rattle.tree.specs.Stage.{◌and_then◌}
use Rattle.tree.specs.Tree.{Name}
use Rattle.blob_source.specs.Source.{Blobs, Telling}
use Rattle.blob_source.specs.Told.{Fault, missing, wrong, malformed, IsTold}
use Rattle.verifier.specs.declared.verdict.Cause.{Cause}
use Rattle.verifier.specs.declared.verdict.Cause.TheVariants.{ExitCode, OutputUnlisted}
use Rattle.verifier.specs.declared.verdict.Place.TheVariants.{Step}
use Rattle.verifier.specs.declared.verdict.Verdict.TheVariants.{No}
use Rattle.verifier.specs.Build.{ActionMeaning, action_digest, Outcome}
use Rattle.verifier.specs.Faults.{cause_of_fault, cause_of_lines}
use Rattle.verifier.specs.Holding.{HoldsResult}
use Rattle.verifier.specs.Recorded.{IsRecordedAs, RecordsAt}
use Rattle.verifier.specs.StepChecks.{difference_cause, OutputFault, succeeded, read, step_check}
use Rattle.verifier.specs.Together.{LinesFault, no_origin, in_conflict, not_read}
use Rattle.verifier.specs.Unbuilt.{EveryRunEndsStep, EndsWithCode, MakesUnlisted}
use Rattle.verifier.specs.Verdict.{IsVerdict}
use Rattle.verifier.proofs.FreshRuns.{one_result}
use Rattle.verifier.proofs.Holds.{as_given}
use Rattle.verifier.proofs.KeptRuns.{IsOwnAction, IsChosenFor, chosen_command}
use Rattle.verifier.proofs.NoAtStep.{IsFirstFailing, fails_at_step}
use Rattle.verifier.proofs.RecordedSteps.{get_other}
use Rattle.verifier.proofs.StepStarts.{runs_chosen}
use Rattle.verifier.proofs.Unbuilt.{last_of, steps_before}

-- ---- the checks that fail for how a recorded action ended

-- what was recorded of a step, as far as its result is held
pub record IsHeldStep (B C : Blobs) (src : DigestValue) (os : List OutcomeValue) (step : StepValue) (d : DigestValue) : Type 0 where
  pub own : IsOwnAction B src os step d
  pub command : CommandValue
  pub command_told : IsTold IsCommand command_bytes B own.action.frame.command command
  pub result : ActionResultValue
  pub held : HoldsResult C d result

module _ (A : Type 0) where
  abbrev IsOfEnd : Cause A → Type 0
  IsOfEnd (ExitCode code) = Unit {0}
  IsOfEnd (OutputUnlisted path) = Unit {0}
  IsOfEnd c = ⊥

  no_fault : (f : Fault) → IsOfEnd (cause_of_fault f) → ⊥
  no_fault (missing d) k = k
  no_fault (wrong d) k = k
  no_fault (malformed d) k = k

  no_lines_end : (why : LinesFault) → IsOfEnd (cause_of_lines why) → ⊥
  no_lines_end (no_origin path) k = k
  no_lines_end (in_conflict path) k = k
  no_lines_end (not_read f) k = no_fault f k

  no_difference : (x : Differing) → IsOfEnd (difference_cause x) → ⊥
  no_difference (unexplained path) k = k
  no_difference (absent path) k = k
  no_difference (differs path) k = k
  no_difference (unread f) k = no_fault f k

  -- its exit code isn't 0, or the first of its outputs that is refused is so
  abbrev EndsBadly : (B : Blobs) → CommandValue → ActionResultValue → Cause A → Type 0
  EndsBadly B command result c = ((result.exit_code ≢ pos 0) × (c ≡ ExitCode result.exit_code))
      ⊎ ((xs : List RecordedValue) × AreOutputs result xs × OutputFault B command xs c)

  ends_for : (t : Telling) (sources : DigestValue) (os : List OutcomeValue) (s : StepValue) (d : DigestValue) (c : Cause A) → IsOfEnd c → (step_check t sources os s d).fails c
      → (h : IsHeldStep t.blobs t.results sources os s d) × EndsBadly t.blobs h.command h.result c
  unfolding ◌and_then◌
  ends_for t sources os s d c k (inl (f, fault, is)) = absurd (no_fault f (subst IsOfEnd is k))
  ends_for t sources os s d c k (inr (action, told, inl h)) = absurd (subst IsOfEnd h.1 k)
  ends_for t sources os s d c k (inr (action, told, inr (_, cached, inl (f, fault, is)))) = absurd (no_fault f (subst IsOfEnd is k))
  ends_for t sources os s d c k (inr (action, told, inr (_, cached, inr (command, named, inl h)))) = absurd (subst IsOfEnd h.1 k)
  ends_for t sources os s d c k (inr (action, told, inr (_, cached, inr (command, named, inr (_, frame, inl (inl (why, fails, is))))))) = absurd (no_lines_end why (subst IsOfEnd is k))
  ends_for t sources os s d c k (inr (action, told, inr (_, cached, inr (command, named, inr (_, frame, inl (inr (made, put, (unlike, x, first, is)))))))) = absurd (no_difference x (subst IsOfEnd is k))
  ends_for t sources os s d c k (inr (action, told, inr (_, cached, inr (command, named, inr (_, frame, inr (_, input, inl (inl h))))))) = absurd (subst IsOfEnd h.1 k)
  ends_for t sources os s d c k (inr (action, told, inr (_, cached, inr (command, named, inr (_, frame, inr (_, input, inl (inr h))))))) = absurd (subst IsOfEnd h.3 k)
  ends_for t sources os s d c k (inr (action, told, inr (_, cached, inr (command, named, inr (_, frame, inr (_, (tree, made, same), inr (result, held, ends))))))) = (
    record { own = record { action = action; tree = tree; told = told; frame = frame; made = made; input = same }; command = command; command_told = named; result = result; held = held },
    by ends,
  )
    where
      by : (succeeded result and_then λ _. read t.blobs command result).fails c → EndsBadly t.blobs command result c
      by (inl h) = inl h
      by (inr (_, ended, h)) = inr h

  no_unlisted : (f : Fault) (path : List (List ℕ)) → ◌≡◌ {A = Cause A} (OutputUnlisted path) (cause_of_fault f) → ⊥
  no_unlisted (missing d) path e = cc
  no_unlisted (wrong d) path e = cc
  no_unlisted (malformed d) path e = cc

  -- the output that the command doesn't list
  unlisted_in : (B : Blobs) (m : CommandValue) (xs : List RecordedValue) (path : List (List ℕ)) → OutputFault {A = A} B m xs (OutputUnlisted path)
      → (x : RecordedValue) × Contains xs x × (path ≡ recorded_path x) × (Contains m.output_paths path → ⊥)
  unlisted_in B m [] path h = absurd h
  unlisted_in B m (x ∷ xs) path (inl (inl h)) = let same : path ≡ recorded_path x = (let is = h.1 in cc) in (x, (0, omega arith, refl), same, λ listed. h.0 (subst (Contains m.output_paths) same listed))
  unlisted_in B m (x ∷ xs) path (inl (inr (listed, f, fault, is))) = absurd (no_unlisted f path is)
  unlisted_in B m (x ∷ xs) path (inr h) = let rest = unlisted_in B m xs path h.3 in (rest.0, behind x xs rest.0 rest.1, rest.2, rest.3)

-- ---- runs

module _ (A : Type 0) (tells : Telling) (sources : DigestValue) (plan : PlanValue) (recorded : List DigestValue) (claim : DigestValue) (valid : IsPlan plan) (c : Cause A) where
  -- what the recorded action of a step came to, each run of the step comes to
  every_run_ends : (So : ActionMeaning → Outcome → Type 0) (name : List ℕ) (k : IsFirstFailing A tells sources [] plan.steps recorded name c) (h : IsHeldStep tells.blobs tells.results sources k.outcomes k.step k.digest)
      → ((pair : ActionMeaning × Outcome) → h.command ≡ pair.0.command → IsRecordedAs tells.blobs tells.results k.digest pair.1 → So pair.0 pair.1) → EveryRunEndsStep tells.blobs tells.results sources plan recorded name So
  every_run_ends So name k h so = record {
    of_step = record { index = k.index; step = k.step; digest = k.digest; step_at = k.step_at; digest_at = k.digest_at; named = k.named };
    of_run = λ r runs.
        let given = as_given valid (steps_before A tells sources plan recorded claim valid c name k (suc k.index) (omega arith)) r runs in
        let at = last_of k.index recorded k.digest k.digest_at in
        let pair = get_other (take (suc k.index) recorded) r.chosen k.index k.digest (sym runs.keeps.agrees.each) at in
        let facts = runs.keeps.agrees.pairs k.index k.digest pair.0 at pair.1 in
        let chosen : IsChosenFor given k.index k.digest pair.0 = record { at = pair.1; in_table = facts.0; digest = facts.1 } in
        let both = runs_chosen given k.index k.step k.step_at k.digest h.own pair.0 chosen in
        let end = so pair.0 (chosen_command given k.index k.digest pair.0 chosen h.own.action h.own.told h.command h.command_told) facts.2 in
        record {
          jobs = λ w job there own. ap action_digest (both.0 w job there own) ∙ facts.1;
          ended = λ o there. subst (λ (o : Outcome). (a : ActionMeaning) × (action_digest a ≡ k.digest) × Contains r.table (a, o) × So a o) (sym (both.1 o there)) (pair.0.0, facts.1, facts.0, end);
        };
  }

module _ (A : Type 0) (B : Blobs) (command : CommandValue) (result : ActionResultValue) where
  no_code : (code : ℤ) (f : Fault) → ◌≡◌ {A = Cause A} (ExitCode code) (cause_of_fault f) → ⊥
  no_code code (missing d) e = cc
  no_code code (wrong d) e = cc
  no_code code (malformed d) e = cc

  no_output : (code : ℤ) (xs : List RecordedValue) → OutputFault {A = A} B command xs (ExitCode code) → ⊥
  no_output code [] h = h
  no_output code (x ∷ xs) (inl (inl h)) = let is = h.1 in cc
  no_output code (x ∷ xs) (inl (inr (listed, f, fault, is))) = no_code code f is
  no_output code (x ∷ xs) (inr h) = no_output code xs h.3

  code_is : (code : ℤ) → EndsBadly A B command result (ExitCode code) → (result.exit_code ≡ code) × (code ≢ pos 0)
  code_is code (inl h) = let same : result.exit_code ≡ code = (let is = h.1 in cc) in (same, subst (λ z. z ≢ pos 0) same h.0)
  code_is code (inr (xs, are, fault)) = absurd (no_output code xs fault)

  unlisted_is : (path : List Name) → EndsBadly A B command result (OutputUnlisted path) → (xs : List RecordedValue) × AreOutputs result xs × (x : RecordedValue) × Contains xs x × (path ≡ recorded_path x) × (Contains command.output_paths path → ⊥)
  unlisted_is path (inl h) = absurd (let is = h.1 in cc)
  unlisted_is path (inr (xs, are, fault)) = let u = unlisted_in A B command xs path fault in (xs, are, u.0, u.1, u.2, u.3)

module _ (A : Type 0) (tells : Telling) (sources : DigestValue) (plan : PlanValue) (recorded : List DigestValue) (claim : DigestValue) (valid : IsPlan plan) (name : List ℕ) where
  pub runs_fail : (code : ℤ) → IsVerdict {A = A} tells sources plan recorded claim (No (Step name) (ExitCode code)) → EveryRunEndsStep tells.blobs tells.results sources plan recorded name (EndsWithCode code)
  runs_fail code v =
      let k = fails_at_step A tells sources plan recorded claim name (ExitCode code) v in
      let e = ends_for A tells sources k.outcomes k.step k.digest (ExitCode code) tt k.fails in
      let ended = code_is A tells.blobs e.0.command e.0.result code e.1 in
      every_run_ends A tells sources plan recorded claim valid (ExitCode code) (EndsWithCode code) name k e.0 (λ pair command noted.
      let same = one_result tells.results k.digest e.0.result noted.result e.0.held noted.held in
      (noted.exit_code ∙ ap (λ (r : ActionResultValue). r.exit_code) (sym same) ∙ ended.0, ended.1))

  pub runs_make : (path : List Name) → IsVerdict {A = A} tells sources plan recorded claim (No (Step name) (OutputUnlisted path)) → EveryRunEndsStep tells.blobs tells.results sources plan recorded name (MakesUnlisted path)
  runs_make path v =
      let k = fails_at_step A tells sources plan recorded claim name (OutputUnlisted path) v in
      let e = ends_for A tells sources k.outcomes k.step k.digest (OutputUnlisted path) tt k.fails in
      let u = unlisted_is A tells.blobs e.0.command e.0.result path e.1 in
      every_run_ends A tells sources plan recorded claim valid (OutputUnlisted path) (MakesUnlisted path) name k e.0 (λ pair command noted.
      let same = one_result tells.results k.digest e.0.result noted.result e.0.held noted.held in
      let trees = subst (λ (r : ActionResultValue). AllByRecursion (λ (d : OutputDirectoryValue). (t : TreeValue) × IsTold IsTree tree_bytes tells.blobs d.tree t) r.directories) (sym same) noted.trees in
      let node = has_node tells.blobs e.0.result u.0 u.2 u.1 u.3 trees in
      let there = subst (λ (r : ActionResultValue). RecordsAt tells.blobs r path node.0) same (subst (λ p. RecordsAt tells.blobs e.0.result p node.0) (sym u.4) node.1) in
      ((node.0, (noted.outputs path node.0).1 there), λ listed. u.5 (subst (λ (m : CommandValue). Contains m.output_paths path) (sym command) listed)))
