-- What runs of a plan whose first steps are as recorded keep, and what they come to where all steps are.
use Rattle.std.proofs.Common.{◌≡◌, ℕ, List, [], ◌∷◌, Option, Some, None, length, refl, ap, sym, ◌∙◌, subst, inl, inr}
use Rattle.std.specs.Prelude.{◌==◌, option_map, option_and_then, slice_get, Contains}
use Rattle.std.specs.Map.{remove_entry}
use Rattle.blob_digest.specs.Digest.{DigestValue, digest_of}
use Rattle.action_messages.specs.Action.{ActionValue, IsAction, with_input, action_bytes}
use Rattle.action_messages.specs.Command.{CommandValue, IsCommand, command_bytes}
use Rattle.action_messages.specs.Frame.{FrameValue, frame_bytes}
use Rattle.actions.specs.Outcome.{OutcomeValue}
use Rattle.actions.proofs.EncodedOnce.{frame_bytes_injective, action_bytes_injective, command_bytes_injective}
use Rattle.actions.proofs.Rooms.{holds_at}
use Rattle.plan.specs.Values.{OriginValue, source, output, LineValue, StepValue, PlanValue}
use Rattle.tree.specs.Tree.{Tree, Leaf, IsOrdered}
use Rattle.tree.specs.Form.{NodeValue, form, top, root}
use Rattle.tree.specs.Merging.{MergeLines}
use Rattle.tree.specs.Stage.{◌and_then◌}
use Rattle.blob_source.specs.Source.{Blobs}
use Rattle.blob_source.specs.Told.{IsTold}
use Rattle.tree.specs.Lookup.{found}
use Rattle.tree.proofs.SameRoot.{same_root}
use Rattle.tree.proofs.TreeDigests.{IsDigest-digest_of}
use Rattle.verifier.specs.Together.{LooksUpOrigin, Resolves, put_together}
use Rattle.verifier.specs.AsRecorded.{IsAccepted}
use Rattle.verifier.specs.Build.{ActionMeaning, action_digest, Outcome, StepFits, Event, start, finish, lose, State, opening, job_of, merge_of, step_action, action_of, started, finished, lost, happens, Obeys, IsRun, HasFinishedAll}
use Rattle.verifier.specs.Headline.{IsBlobOfAction, IsBlobOfStart, IsBlobOfStarts, HasFinished, IsNotStuck, IsAsChosen}
use Rattle.verifier.proofs.Targets.{paths_of, step_paths}
use Rattle.verifier.specs.Headline.{PlanRun}
use Rattle.verifier.proofs.FreshRuns.{one_answer, found_one, kept_rest, IsGiven, HaveFinished, told_bytes, values, picked, Chosen, chosen_at, pair_in_table, succeeds, IsPublished, IsJob, Keeps, origin_step, grafts, graft_finished}

-- the action that is told under a digest has the step's frame, and its input is what the step's lines put together
pub record IsOwnAction (B : Blobs) (src : DigestValue) (os : List OutcomeValue) (step : StepValue) (d : DigestValue) : Type 0 where
  pub action : ActionValue
  pub tree : Tree NodeValue
  pub told : IsTold IsAction action_bytes B d action
  pub frame : digest_of (frame_bytes action.frame) ≡ step.frame
  pub made : (put_together B src (slice_get os) step.lines).passes tree
  pub input : root tree ≡ action.input

module _ {S : List ℕ → Type 0} {B C : Blobs} {src : DigestValue} {plan : PlanValue} {ds : List DigestValue} {run : PlanRun} (given : IsGiven S B C src plan ds run) where
  -- ---- events

  -- the action of a step, by its frame and its command
  pub action_made : (s : State) (i : ℕ) (step : StepValue) (at : slice_get plan.steps i ≡ Some step)
      → action_of plan run.meaning run.tree s i ≡ option_map {U = ActionMeaning} (λ input. record { frame = (given.runs.fits.steps i step at).0; command = (given.runs.fits.steps i step at).1; input = input }) (merge_of run.tree s step.lines)
  action_made s i step at =
      let f = given.runs.fits.steps i step at in
      ap (option_and_then (step_action run.meaning run.tree s i)) at
      ∙ ap (λ q. option_and_then {U = ActionMeaning} (λ (frame : FrameValue). option_and_then {U = ActionMeaning} (λ (command : CommandValue). option_map {U = ActionMeaning} (λ input. record { frame = frame; command = command; input = input }) (merge_of run.tree s step.lines)) (slice_get run.meaning.commands i)) q) f.2
      ∙ ap (λ q. option_and_then {U = ActionMeaning} (λ (command : CommandValue). option_map {U = ActionMeaning} (λ input. record { frame = f.0; command = command; input = input }) (merge_of run.tree s step.lines)) q) f.3

  -- an action that a step may start with
  pub record IsActionOf (s : State) (i : ℕ) (a : ActionMeaning) : Type 0 where
    pub step : StepValue
    pub at : slice_get plan.steps i ≡ Some step
    pub fit : StepFits step.frame a.frame a.command
    pub grafted : merge_of run.tree s step.lines ≡ Some a.input

  pub action_is : (s : State) (i : ℕ) (a : ActionMeaning) → action_of plan run.meaning run.tree s i ≡ Some a → IsActionOf s i a
  action_is s i a is = by (slice_get plan.steps i) refl
    where
      by : (q : Option StepValue) → slice_get plan.steps i ≡ q → IsActionOf s i a
      by None at = absurd (let none : ◌≡◌ {A = Option ActionMeaning} None (Some a) = sym (ap (option_and_then (step_action run.meaning run.tree s i)) at) ∙ is in cc)
      by (Some step) at = made (merge_of run.tree s step.lines) refl (sym (action_made s i step at) ∙ is)
        where
          f : (frame : FrameValue) × (command : CommandValue) × (slice_get run.meaning.frames i ≡ Some frame) × (slice_get run.meaning.commands i ≡ Some command) × StepFits step.frame frame command
          f = given.runs.fits.steps i step at

          made : (g : Option (Tree Leaf)) → merge_of run.tree s step.lines ≡ g → option_map {U = ActionMeaning} (λ input. record { frame = f.0; command = f.1; input = input }) g ≡ Some a → IsActionOf s i a
          made None grafted is = absurd cc
          made (Some g) grafted is =
              let whole_action : ◌≡◌ {A = ActionMeaning} (record { frame = f.0; command = f.1; input = g }) a = cc in
              record {
                step = step;
                at = at;
                fit = subst (λ (a : ActionMeaning). StepFits step.frame a.frame a.command) whole_action f.4;
                grafted = grafted ∙ ap (λ (a : ActionMeaning). Some a.input) whole_action;
              }

  -- a pair is chosen for a step with a digest
  pub record IsChosenFor (i : ℕ) (d : DigestValue) (pair : ActionMeaning × Outcome) : Type 0 where
    pub at : slice_get run.chosen i ≡ Some pair
    pub in_table : Contains run.table pair
    pub digest : action_digest pair.0 ≡ d

  chosen_blobs : (i : ℕ) (d : DigestValue) (pair : ActionMeaning × Outcome) → IsChosenFor i d pair → (b : List ℕ) → IsBlobOfAction pair.0 b → S b
  chosen_blobs i d pair c b k = picked given b (pair, holds_at run.chosen i pair c.at, inl k)

  -- the Action that is told under the digest is that of the chosen action
  pub told_chosen : (i : ℕ) (d : DigestValue) (pair : ActionMeaning × Outcome) → IsChosenFor i d pair → (action : ActionValue) → IsTold IsAction action_bytes B d action → action ≡ with_input pair.0.frame (root (form pair.0.input))
  told_chosen i d pair c action told =
      let A = pair.0 in
      let valid = (given.runs.table.actions A pair.1 c.in_table).0 in
      action_bytes_injective action (with_input A.frame (root (form A.input))) told.valid (record { frame = valid.frame; input = IsDigest-digest_of (top (form A.input)) })
      (told_bytes S given.apart B d (action_bytes action) (action_bytes (with_input A.frame (root (form A.input)))) (values given) told.blob (chosen_blobs i d pair c _ (inl (inl refl))) c.digest)

  -- and its Command is the chosen one
  pub chosen_command : (i : ℕ) (d : DigestValue) (pair : ActionMeaning × Outcome) → IsChosenFor i d pair → (action : ActionValue) → IsTold IsAction action_bytes B d action
      → (command : CommandValue) → IsTold IsCommand command_bytes B action.frame.command command → command ≡ pair.0.command
  chosen_command i d pair c action told command held =
      let valid = (given.runs.table.actions pair.0 pair.1 c.in_table).0 in
      let named = sym valid.named ∙ ap (λ (x : ActionValue). x.frame.command) (sym (told_chosen i d pair c action told)) in
      command_bytes_injective command pair.0.command held.valid valid.command
      (told_bytes S given.apart B action.frame.command (command_bytes command) (command_bytes pair.0.command) (values given) held.blob (chosen_blobs i d pair c _ (inr (inl refl))) named)

  -- where it is the step's own, a step that starts takes the chosen action
  pub takes_chosen : (s : State) → Keeps given s → (i : ℕ) (a : ActionMeaning) (p : IsActionOf s i a) (d : DigestValue) → IsOwnAction B src given.recorded.outcomes p.step d → (pair : ActionMeaning × Outcome) → IsChosenFor i d pair
      → ((b : List ℕ) → IsBlobOfAction a b → S b) → a ≡ pair.0
  unfolding ◌and_then◌
  takes_chosen s keeps i a p d r pair c blobs =
      let A = pair.0 in
      let valid = (given.runs.table.actions A pair.1 c.in_table).0 in
      let own = chosen_blobs i d pair c in
      let told = told_chosen i d pair c r.action r.told in
      let told_frame : r.action.frame ≡ A.frame = ap (λ (x : ActionValue). x.frame) told in
      let told_input : r.action.input ≡ root (form A.input) = ap (λ (x : ActionValue). x.input) told in
      -- so the plan's frame is its frame
      let frames = given.apart (frame_bytes a.frame) (frame_bytes A.frame) (blobs _ (inl (inr refl))) (own _ (inl (inr refl))) (p.fit.frame_digest ∙ sym r.frame ∙ ap (λ f. digest_of (frame_bytes f)) told_frame) in
      let frame = frame_bytes_injective a.frame A.frame p.fit.frame_valid valid.frame frames in
      -- the command is its command
      let commands = given.apart (command_bytes a.command) (command_bytes A.command) (blobs _ (inr (inl refl))) (own _ (inr (inl refl))) (sym p.fit.command_digest ∙ ap (λ (f : FrameValue). f.command) frame ∙ valid.named) in
      let command = command_bytes_injective a.command A.command p.fit.command_valid valid.command commands in
      -- and what the lines put together is its input
      let g = grafts given s keeps p.step.lines (step_paths [] plan.steps given.rules.steps i p.step p.at) r.made.0 r.made.1 r.tree r.made.2 (graft_finished given s p.step.lines a.input p.grafted) in
      let same : g.0 ≡ a.input = one_answer (merge_of run.tree s p.step.lines) g.0 a.input g.1 p.grafted in
      let roots : root (form a.input) ≡ root (form A.input) = ap (λ u. root (form u)) (sym same) ∙ g.2 ∙ r.input ∙ told_input in
      let input = same_root S given.apart a.input A.input (subst IsOrdered same g.3) valid.input (λ b q. blobs b (inr (inr q))) (λ b q. own b (inr (inr q))) roots in
      λ i. record { frame = frame i; command = command i; input = input i }

  -- so does one of the first steps
  first_takes : (s : State) → Keeps given s → (i : ℕ) (a : ActionMeaning) (p : IsActionOf s i a) (c : Chosen given i p.step) → ((b : List ℕ) → IsBlobOfAction a b → S b) → a ≡ c.pair.0
  unfolding ◌and_then◌
  first_takes s keeps i a p c = let r = c.kept.step in
      takes_chosen s keeps i a p c.kept.digest (record { action = r.action; tree = r.tree; told = r.action_told; frame = r.frame; made = (r.nodes, r.resolved, r.put_together); input = r.input }) c.pair (record { at = c.pair_at; in_table = c.in_table; digest = c.digest })

  -- each event keeps it
  pub keeps_event : (s mid : State) (e : Event) → Keeps given s → Obeys run.table s e → ((b : List ℕ) → IsBlobOfStart plan run.meaning run.tree s e b → S b) → happens plan run.meaning run.tree s e ≡ Some mid → Keeps given mid
  keeps_event s mid (start i w) keeps obeys blobs is = by (job_of w s) (action_of plan run.meaning run.tree s i) refl is
    where
      by : (q : Option (ℕ × ActionMeaning)) (o : Option ActionMeaning) → action_of plan run.meaning run.tree s i ≡ o → started s i w q o ≡ Some mid → Keeps given mid
      by (Some job) o e is = absurd cc
      by None None e is = absurd cc
      by None (Some a) e is =
          let p = action_is s i a e in
          let whole_state : ◌≡◌ {A = State} (record s { jobs = (w, (i, a)) ∷ s.jobs }) mid = cc in
          subst (Keeps given) whole_state (record {
            done = keeps.done;
            jobs = ((p.step, p.at, λ at. let c = chosen_at given i p.step at in (c.pair, c.pair_at, first_takes s keeps i a p c (λ b k. blobs b (a, e, k)))), keeps.jobs);
          })
  keeps_event s mid (finish w o) keeps obeys blobs is = by (job_of w s) refl is
    where
      by : (q : Option (ℕ × ActionMeaning)) → job_of w s ≡ q → finished s w o q ≡ Some mid → Keeps given mid
      by None e is = absurd cc
      by (Some job) e is =
          let j = found_one (IsJob given) w s.jobs job keeps.jobs e in
          let whole_state : ◌≡◌ {A = State} (record { done = (job.0, o) ∷ s.done; jobs = remove_entry (λ k. k == w) s.jobs }) mid = cc in
          subst (Keeps given) whole_state (record {
            done = ((j.0, j.1, λ at. let k = j.2 at in (k.0, k.1, given.runs.table.same k.0.0 o k.0.1 (subst (λ a. Contains run.table (a, o)) k.2 (obeys job e)) (pair_in_table given job.0 k.0 k.1))), keeps.done);
            jobs = kept_rest (IsJob given) w s.jobs keeps.jobs;
          })
  keeps_event s mid (lose w) keeps obeys blobs is = by (job_of w s) is
    where
      by : (q : Option (ℕ × ActionMeaning)) → lost s w q ≡ Some mid → Keeps given mid
      by None is = absurd cc
      by (Some job) is =
          let whole_state : ◌≡◌ {A = State} (record s { jobs = remove_entry (λ k. k == w) s.jobs }) mid = cc in
          subst (Keeps given) whole_state (record { done = keeps.done; jobs = kept_rest (IsJob given) w s.jobs keeps.jobs })

  -- so does a run
  keeps_run : (s end : State) (es : List Event) → Keeps given s → ((b : List ℕ) → IsBlobOfStarts plan run.meaning run.tree s es b → S b) → IsRun run.table plan run.meaning run.tree s es end → Keeps given end
  keeps_run s end [] keeps blobs r = subst (Keeps given) (sym r) keeps
  keeps_run s end (e ∷ es) keeps blobs r = keeps_run r.1 end es (keeps_event s r.1 e keeps r.0 (λ b k. blobs b (inl k)) r.2) (λ b k. blobs b (inr (r.1, r.2, k))) r.3

  pub runs_keep : Keeps given run.now
  runs_keep = keeps_run opening run.now run.events (record { done = tt; jobs = tt }) (λ b q. given.within b (inr (inr (inr q)))) given.runs.happened

  -- ---- what a run comes to, where all steps are as recorded

  module _ (all_first : (i : ℕ) (s : StepValue) → slice_get plan.steps i ≡ Some s → slice_get given.recorded.first i ≡ Some s) where
    finished_all : (end : State) → HasFinishedAll plan end → (ls : List LineValue) (xs : MergeLines) → Resolves B src (slice_get given.recorded.outcomes) ls xs → HaveFinished end ls
    finished_all end all [] xs r = tt
    finished_all end all (l ∷ ls) xs r = (one l.origin r.1.node, finished_all end all ls r.2 r.3)
      where
        one : (o : OriginValue) → LooksUpOrigin B src (slice_get given.recorded.outcomes) o (found r.0.node) → HasFinished end o
        one (source p) look = tt
        one (output j p) look = let step = origin_step given j look.0 look.1 in all j step.0 (given.recorded.planned j step.0 step.1)

    -- A complete run ends in a tree with the claim as its digest.
    pub end_tree : (claim : DigestValue) → IsAccepted B src given.recorded.outcomes plan.root_lines claim → HasFinishedAll plan run.now
        → (g : Tree Leaf) × (merge_of run.tree run.now plan.root_lines ≡ Some g) × (root (form g) ≡ claim) × IsOrdered g
    end_tree claim accepted all =
        let paths = paths_of (length plan.steps) plan.root_lines given.rules.root_lines.each in
        let g = grafts given run.now runs_keep plan.root_lines paths accepted.nodes accepted.resolved accepted.tree accepted.put_together (finished_all run.now all plan.root_lines accepted.nodes accepted.resolved) in
        (g.0, g.1, g.2 ∙ accepted.same, g.3)

    -- a step whose lines' steps have finished has an action
    pub may_start : (now : State) → Keeps given now → (i : ℕ) (step : StepValue) → slice_get plan.steps i ≡ Some step → HaveFinished now step.lines → (a : ActionMeaning) × (action_of plan run.meaning run.tree now i ≡ Some a)
    may_start now keeps i step at done =
        let c = chosen_at given i step (all_first i step at) in
        let f = given.runs.fits.steps i step at in
        let r = c.kept.step in
        let g = grafts given now keeps step.lines (step_paths [] plan.steps given.rules.steps i step at) r.nodes r.resolved r.tree r.put_together done in
        let a : ActionMeaning = record { frame = f.0; command = f.1; input = g.0 } in
        (a, action_made now i step at ∙ ap (option_map {U = ActionMeaning} (λ input. record { frame = f.0; command = f.1; input = input })) g.1)

    -- Nothing is stuck.
    pub nothing_is_stuck : (now : State) → Keeps given now → IsNotStuck run.table plan run.meaning run.tree now
    nothing_is_stuck now keeps = record {
      starts = λ i w step at done free.
          let a = may_start now keeps i step at done in
          (record now { jobs = (w, (i, a.0)) ∷ now.jobs }, ap (λ q. started now i w q (action_of plan run.meaning run.tree now i)) free ∙ ap (started now i w None) a.1);
      finishes = λ w job is.
          let j = found_one (IsJob given) w now.jobs job keeps.jobs is in
          let k = j.2 (all_first job.0 j.0 j.1) in
          let c = chosen_at given job.0 j.0 (all_first job.0 j.0 j.1) in
          let same = one_answer (slice_get run.chosen job.0) c.pair k.0 c.pair_at k.1 in
          (k.0.1, subst (λ a. Contains run.table (a, k.0.1)) (sym k.2) (pair_in_table given job.0 k.0 k.1), ap (λ (z : ActionMeaning × Outcome). z.1.exit_code) (sym same) ∙ succeeds given job.0 j.0 c);
    }

    -- Jobs and outcomes are the chosen ones.
    pub runs_as_chosen : IsAsChosen run.chosen run.now
    runs_as_chosen = record {
      jobs = λ w job is. let j = found_one (IsJob given) w run.now.jobs job runs_keep.jobs is in j.2 (all_first job.0 j.0 j.1);
      outcomes = λ i o is. let e = found_one (IsPublished given) i run.now.done o runs_keep.done is in e.2 (all_first i e.0 e.1);
    }
