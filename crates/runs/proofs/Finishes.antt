-- A job that finishes.
use Rattle.std.proofs.Common.{◌≡◌, ◌≢◌, ℕ, ◌<◌, ◌≤◌, true, false, List, ◌∷◌, length, Option, Some, None, refl, ap, sym, ◌∙◌, subst, inl, inr}
use Rattle.std.specs.Prelude.{◌==◌, ◌⊎◌, option_and_then, slice_get, Contains}
use Rattle.std.specs.Map.{lookup, remove_entry}
use Rattle.std.proofs.lemmas.Bool.Decides.{eqb_tells}
use Rattle.std.proofs.Math.ListN.{length-set}
use Rattle.action_messages.specs.Command.{CommandValue}
use Rattle.actions.specs.Outcome.{OutcomeValue, IsOutcome}
use Rattle.tree.specs.Tree.{Tree, Leaf}
use Rattle.verifier.specs.Build.{Meaning, ActionMeaning, action_digest, Outcome, Event, finish, State, outcome_of, job_of, action_of, finished, happens, Obeys}
use Rattle.runs.specs.Engine.{JobValue, FinishedValue, EngineValue, TakesOutcome, IsEngine, at_number, finished_in, job_in}
use Rattle.runs.specs.Calls.{Disagrees, first_kept, with_finished, IsFinished, IsOutcomeFault, IsFinishFault}
use Rattle.runs.specs.declared.error.RunsError.{RunsError}
use Rattle.runs.specs.declared.error.RunsError.TheVariants as errors
use Rattle.runs.specs.Mirrors.{IsFormOf, IsFinishedAs, job_form, IsConcernedIn, Mirrors, IsMirrored, nothing_told}
use Rattle.runs.specs.Ties.{IsFinish, IsForeign}
use Rattle.verifier.proofs.FreshRuns.{one_answer}
use Rattle.runs.proofs.Places.{has_one, taken_within, set_same, set_other, set_at, first_same, first_other}
use Rattle.runs.proofs.Steady.{Extends, action_still, Steady, outcome_is, finish_extends}
use Rattle.runs.proofs.Lost.{job_there, steady_of, other_jobs}
use Rattle.runs.proofs.Noted.{outcome_there}
use Rattle.runs.proofs.OneForm.{one_form, same_action}

-- ---- the engine behind a finish

-- what stands in the list behind a finish
module _ (fs : List (Option FinishedValue)) (i : ℕ) (f : FinishedValue) (lt : i < length fs) where
  kept_other : (o : Option FinishedValue) (k : ℕ) → k ≢ i → at_number (first_kept o fs i f) k ≡ at_number fs k
  kept_other (Some before) k other = refl
  kept_other None k other = set_other fs i k (Some f) other

  kept_here : (o : Option FinishedValue) → at_number fs i ≡ o → (g : FinishedValue) × (at_number (first_kept o fs i f) i ≡ Some g) × (((o ≡ None) × (g ≡ f)) ⊎ (o ≡ Some g))
  kept_here (Some before) is = (before, is, inr refl)
  kept_here None is = (f, set_same fs i (Some f) lt, inl (refl, refl))

  kept_length : (o : Option FinishedValue) → length (first_kept o fs i f) ≡ length fs
  kept_length (Some before) = refl
  kept_length None = length-set fs i (Some f)

module _ (e : EngineValue) (w : ℕ) (j : JobValue) (v : OutcomeValue) (k : IsEngine e) (is : job_in w e ≡ Some j) where
  step_within : j.step < length e.finished
  step_within = subst (λ n. j.step < n) (sym k.count) (k.running w j is)

  finished_engine : ((c : CommandValue) → slice_get e.commands j.step ≡ Some c → TakesOutcome c v) → IsEngine (with_finished w j v e)
  finished_engine taken =
      let F : FinishedValue = record { action = j.action; outcome = v } in
      let o = finished_in j.step e in
      record {
        stand = k.stand;
        count = kept_length e.finished j.step F step_within o ∙ k.count;
        taken = λ i f c at command. by i f c command (eqb_tells i j.step) at;
        few = let same = length-set e.jobs w None in let few = k.few in subst (λ n. n ≤ 4096) (sym same) few;
        running = λ u l at. k.running u l (set_at e.jobs w u None l at (λ h. cc));
      }
    where
      here : (f : FinishedValue) (c : CommandValue) → slice_get e.commands j.step ≡ Some c → (g : FinishedValue) → ((finished_in j.step e ≡ None) × (g ≡ record { action = j.action; outcome = v })) ⊎ (finished_in j.step e ≡ Some g) → g ≡ f → TakesOutcome c f.outcome
      here f c command g (inl h) same = subst (λ (f : FinishedValue). TakesOutcome c f.outcome) (sym h.1 ∙ same) (taken c command)
      here f c command g (inr h) same = subst (λ (f : FinishedValue). TakesOutcome c f.outcome) same (k.taken j.step g c h command)

      by : (i : ℕ) (f : FinishedValue) (c : CommandValue) → slice_get e.commands i ≡ Some c → (((i == j.step) ≡ true) × (i ≡ j.step)) ⊎ (((i == j.step) ≡ false) × (i ≢ j.step))
          → at_number (first_kept (finished_in j.step e) e.finished j.step (record { action = j.action; outcome = v })) i ≡ Some f → TakesOutcome c f.outcome
      by i f c command (inr h) at = k.taken i f c (sym (kept_other e.finished j.step (record { action = j.action; outcome = v }) step_within (finished_in j.step e) i h.1) ∙ at) command
      by i f c command (inl h) at =
          let g = kept_here e.finished j.step (record { action = j.action; outcome = v }) step_within (finished_in j.step e) refl in
          let at' = subst (λ n. at_number (first_kept (finished_in j.step e) e.finished j.step (record { action = j.action; outcome = v })) n ≡ Some f) h.1 at in
          let same : g.0 ≡ f = one_answer _ g.0 f g.1 at' in
          here f c (subst (λ n. slice_get e.commands n ≡ Some c) h.1 command) g.0 g.2 same

  -- ---- behind a run

  module _ (t : Tree Leaf) (meaning : Meaning) (X : List (ActionMeaning × Outcome)) (es : List Event) (s : State) (run : IsMirrored nothing_told e (record { tree = t; meaning = meaning; table = X; events = es; now = s })) (out : Outcome) (obeys : Obeys X s (finish w out)) (form : IsFormOf v out) where
    abbrev S : List ℕ → Type 0
    S = IsConcernedIn nothing_told e meaning t es

    steady : Steady e.plan meaning t X run.table S s
    steady = steady_of e t meaning X s nothing_told es run

    job : (job : ℕ × ActionMeaning) × (job_of w s ≡ Some job) × (j ≡ job_form job)
    job = job_there e t meaning X s run.mirrors w j is

    inside : Contains X (job.0.1, out)
    inside = obeys job.0 job.1

    abbrev next : State
    next = record { done = (job.0.0, out) ∷ s.done; jobs = remove_entry (λ k. k == w) s.jobs }

    ext : Extends s next
    ext = finish_extends e.plan meaning t X run.table S s steady w job.0 out job.1 inside

    number : j.step ≡ job.0.0
    number = ap (λ (l : JobValue). l.step) job.2

    -- a step with another number
    other_step : (i : ℕ) → i ≢ j.step → outcome_of i next ≡ outcome_of i s
    other_step i other = first_other s.done job.0.0 i out (λ h. other (h ∙ sym number))

    this_step : outcome_of j.step next ≡ Some out
    this_step = subst (λ n. lookup (λ k. k == n) ((job.0.0, out) ∷ s.done) ≡ Some out) (sym number) (first_same s.done job.0.0 out)

    before_is : (p : Outcome) → outcome_of j.step s ≡ Some p → out ≡ p
    before_is p at = outcome_is e.plan meaning t X run.table S s steady job.0 out p (steady.jobs w job.0 job.1).0 inside (subst (λ n. outcome_of n s ≡ Some p) number at)

    new_finished : (i : ℕ) → IsFinishedAs (finished_in i (with_finished w j v e)) (outcome_of i next)
    new_finished i = by (eqb_tells i j.step)
      where
        F : FinishedValue
        F = record { action = j.action; outcome = v }

        here : (g : FinishedValue) → ((finished_in j.step e ≡ None) × (g ≡ F)) ⊎ (finished_in j.step e ≡ Some g) → IsFormOf g.outcome out
        here g (inl h) = subst (λ (f : FinishedValue). IsFormOf f.outcome out) (sym h.1) form
        here g (inr h) = let o = outcome_there e t meaning s run.mirrors j.step g h in subst (IsFormOf g.outcome) (sym (before_is o.0 o.1)) o.2

        by : (((i == j.step) ≡ true) × (i ≡ j.step)) ⊎ (((i == j.step) ≡ false) × (i ≢ j.step)) → IsFinishedAs (finished_in i (with_finished w j v e)) (outcome_of i next)
        by (inr h) =
            subst (IsFinishedAs (at_number (first_kept (finished_in j.step e) e.finished j.step F) i)) (sym (other_step i h.1))
            (subst (λ o. IsFinishedAs o (outcome_of i s)) (sym (kept_other e.finished j.step F step_within (finished_in j.step e) i h.1)) (run.mirrors.finished i))
        by (inl h) =
            let g = kept_here e.finished j.step F step_within (finished_in j.step e) refl in
            subst (λ n. IsFinishedAs (at_number (first_kept (finished_in j.step e) e.finished j.step F) n) (outcome_of n next)) (sym h.1)
            (subst (λ o. IsFinishedAs o (outcome_of j.step next)) (sym g.1) (subst (IsFinishedAs (Some g.0)) (sym this_step) (here g.0 g.2)))

    new_actions : (i : ℕ) (f : FinishedValue) → finished_in i (with_finished w j v e) ≡ Some f → (a : ActionMeaning) × (action_of e.plan meaning t next i ≡ Some a) × (f.action ≡ action_digest a)
    new_actions i f at = by (eqb_tells i j.step) at
      where
        F : FinishedValue
        F = record { action = j.action; outcome = v }

        old : (i : ℕ) (f : FinishedValue) → finished_in i e ≡ Some f → (a : ActionMeaning) × (action_of e.plan meaning t next i ≡ Some a) × (f.action ≡ action_digest a)
        old i f at = let a = run.mirrors.actions i f at in (a.0, action_still e.plan meaning t s next ext i a.0 a.1, a.2)

        here : (g : FinishedValue) → ((finished_in j.step e ≡ None) × (g ≡ F)) ⊎ (finished_in j.step e ≡ Some g) → (a : ActionMeaning) × (action_of e.plan meaning t next j.step ≡ Some a) × (g.action ≡ action_digest a)
        here g (inl h) = (
          job.0.1,
          subst (λ n. action_of e.plan meaning t next n ≡ Some job.0.1) (sym number) (action_still e.plan meaning t s next ext job.0.0 job.0.1 (steady.jobs w job.0 job.1).0),
          ap (λ (f : FinishedValue). f.action) h.1 ∙ ap (λ (l : JobValue). l.action) job.2,
        )
        here g (inr h) = old j.step g h

        by : (((i == j.step) ≡ true) × (i ≡ j.step)) ⊎ (((i == j.step) ≡ false) × (i ≢ j.step)) → at_number (first_kept (finished_in j.step e) e.finished j.step F) i ≡ Some f
            → (a : ActionMeaning) × (action_of e.plan meaning t next i ≡ Some a) × (f.action ≡ action_digest a)
        by (inr h) at = old i f (sym (kept_other e.finished j.step F step_within (finished_in j.step e) i h.1) ∙ at)
        by (inl h) at =
            let g = kept_here e.finished j.step F step_within (finished_in j.step e) refl in
            let same : g.0 ≡ f = one_answer _ g.0 f g.1 (subst (λ n. at_number (first_kept (finished_in j.step e) e.finished j.step F) n ≡ Some f) h.1 at) in
            let a = here g.0 g.2 in
            (a.0, subst (λ n. action_of e.plan meaning t next n ≡ Some a.0) (sym h.1) a.1, ap (λ (f : FinishedValue). f.action) (sym same) ∙ a.2)

    finish_mirrors : Mirrors (with_finished w j v e) t meaning next
    finish_mirrors = record {
      sources = run.mirrors.sources;
      frames = run.mirrors.frames;
      commands = run.mirrors.commands;
      finished = new_finished;
      actions = new_actions;
      jobs = λ u. other_jobs e t meaning X s nothing_told es run w u j is;
    }

    finish_happens : happens e.plan meaning t s (finish w out) ≡ Some next
    finish_happens = ap (finished s w out) job.1

    -- no step of which it would be refused has another outcome
    agree : IsOutcome v → Disagrees e.finished j.step j.action v → ⊥
    agree valid (n, None, at, other) = other
    agree valid (n, Some f, at, other) = other.1 (one_form f.outcome v out (finished_valid n f here) valid (subst (IsFormOf f.outcome) (same other.0) o.2) form)
      where
        here : finished_in n e ≡ Some f
        here = ap (λ q. option_and_then (λ x. x) q) at

        o : (o : Outcome) × (outcome_of n s ≡ Some o) × IsFormOf f.outcome o
        o = outcome_there e t meaning s run.mirrors n f here

        finished_valid : (n : ℕ) (f : FinishedValue) → finished_in n e ≡ Some f → IsOutcome f.outcome
        finished_valid n f at =
            let c = has_one e.commands n (subst (λ m. n < m) (k.count ∙ sym k.stand.commands_count) (taken_within e.finished n f at)) in
            (k.taken n f c.0 at c.1).valid

        same : (n ≡ j.step) ⊎ (f.action ≡ j.action) → o.0 ≡ out
        same (inl h) = sym (before_is o.0 (subst (λ m. outcome_of m s ≡ Some o.0) h o.1))
        same (inr h) =
            let settled = steady.done n o.0 o.1 in
            let a = run.mirrors.actions n f here in
            let one : a.0 ≡ settled.action = one_answer (action_of e.plan meaning t s n) a.0 settled.action a.1 settled.is in
            let digests : action_digest settled.action ≡ action_digest job.0.1 = ap action_digest (sym one) ∙ sym a.2 ∙ h ∙ ap (λ (l : JobValue). l.action) job.2 in
            let actions = same_action S run.apart settled.action job.0.1 (run.table.actions settled.action o.0 settled.in_table).0 (run.table.actions job.0.1 out inside).0 settled.blobs (steady.jobs w job.0 job.1).1 digests in
            run.table.same job.0.1 o.0 out (subst (λ a. Contains X (a, o.0)) actions settled.in_table) inside

-- ---- what the call says

pub finished_is_engine : (e : EngineValue) (w : ℕ) (j : JobValue) (v : OutcomeValue) → IsEngine e → job_in w e ≡ Some j → ((c : CommandValue) → slice_get e.commands j.step ≡ Some c → TakesOutcome c v) → IsEngine (with_finished w j v e)
finished_is_engine e w j v k is taken = finished_engine e w j v k is taken

pub finish_event : (e new : EngineValue) (w : ℕ) (v : OutcomeValue) → IsEngine e → IsFinished w v e new → IsFinish e w v new
finish_event e new w v k f = record {
  of_run = λ run mirrored out obeys form. (
    next e w f.job v k f.is run.tree run.meaning run.table run.events run.now mirrored out obeys form,
    finish_happens e w f.job v k f.is run.tree run.meaning run.table run.events run.now mirrored out obeys form,
    subst (λ n. Mirrors n run.tree run.meaning (next e w f.job v k f.is run.tree run.meaning run.table run.events run.now mirrored out obeys form)) (sym f.after)
        (finish_mirrors e w f.job v k f.is run.tree run.meaning run.table run.events run.now mirrored out obeys form),
  );
}

pub foreign_outcome : (e : EngineValue) (w : ℕ) (j : JobValue) (v : OutcomeValue) → IsEngine e → job_in w e ≡ Some j → IsOutcome v → Disagrees e.finished j.step j.action v → IsForeign e w v
foreign_outcome e w j v k is valid other = record { of_run = λ run mirrored out obeys form. agree e w j v k is run.tree run.meaning run.table run.events run.now mirrored out obeys form valid other }

-- the fault of an outcome is one of the finish
pub fault_of_outcome : {A : Type 0} (e : EngineValue) (w : ℕ) (j : JobValue) (c : CommandValue) (v : OutcomeValue) (why : RunsError A) → job_in w e ≡ Some j → slice_get e.commands j.step ≡ Some c → IsOutcomeFault c v why → IsFinishFault e w v why
fault_of_outcome e w j c v (errors.ExitCode n) is command h = (j, is, c, command, h)
fault_of_outcome e w j c v (errors.Unlisted path) is command h = (j, is, c, command, h)
fault_of_outcome e w j c v errors.Memory is command h = (j, is, h.0, inl (c, command, h.1.0, h.1.1))
fault_of_outcome e w j c v errors.NotReady is command h = elim h.1 [ ]
fault_of_outcome e w j c v errors.NoSuchJob is command h = elim h.1 [ ]
fault_of_outcome e w j c v errors.Disagrees is command h = elim h.1 [ ]
fault_of_outcome e w j c v (errors.Origin path) is command h = elim h.1 [ ]
fault_of_outcome e w j c v (errors.Source why) is command h = elim h.1 [ ]
fault_of_outcome e w j c v (errors.Conflict path) is command h = elim h.1 [ ]
fault_of_outcome e w j c v errors.Full is command h = elim h.1 [ ]
