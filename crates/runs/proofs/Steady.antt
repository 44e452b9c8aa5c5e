-- What every run keeps: each step has one action, which each of its jobs runs and which came to its outcome.
use Rattle.std.proofs.Common.{◌≡◌, ◌≢◌, ℕ, suc, true, false, List, [], ◌∷◌, Option, Some, None, refl, ap, sym, ◌∙◌, subst, arith, inl, inr}
use Rattle.std.specs.Prelude.{◌==◌, ◌⊎◌, option_map, option_and_then, slice_get, Contains}
use Rattle.std.specs.Map.{lookup, remove_entry}
use Rattle.std.proofs.lemmas.Bool.Decides.{eqb_tells}
use Rattle.action_messages.specs.Command.{CommandValue}
use Rattle.action_messages.specs.Frame.{FrameValue}
use Rattle.plan.specs.Values.{OriginValue, source, output, LineValue, StepValue, PlanValue}
use Rattle.tree.specs.Tree.{Name, Tree, Leaf, Entry}
use Rattle.tree.specs.Merge.{merge}
use Rattle.verifier.specs.Build.{Meaning, ActionMeaning, Outcome, output_at, Event, start, finish, lose, State, opening, outcome_of, job_of, origin_at, origins, merge_of, step_action, action_of, started, finished, lost, happens, IsTable, Obeys, IsRun}
use Rattle.verifier.specs.Headline.{IsBlobOfAction, IsBlobOfOutcome, IsBlobOfStart, IsBlobOfStarts}
use Rattle.verifier.proofs.FreshRuns.{one_answer}
use Rattle.runs.specs.Mirrors.{IsBlobOfEnds}
use Rattle.runs.proofs.Places.{some_none, AreKeyed, removed_same, removed_other, keyed_removed, first_same, first_other, found_behind}

-- ---- a state in which at least the same has finished

abbrev pub Extends : State → State → Type 0
Extends s r = (j : ℕ) (o : Outcome) → outcome_of j s ≡ Some o → outcome_of j r ≡ Some o

module _ (t : Tree Leaf) (s r : State) (ext : Extends s r) where
  origin_still : (o : OriginValue) (e : Entry Leaf) → origin_at t s o ≡ Some e → origin_at t r o ≡ Some e
  origin_still (source p) e is = is
  origin_still (output j p) e is = by (outcome_of j s) refl is
    where
      by : (q : Option Outcome) → outcome_of j s ≡ q → option_and_then (λ (o : Outcome). output_at o.outputs p) q ≡ Some e → origin_at t r (output j p) ≡ Some e
      by None at is = absurd cc
      by (Some o) at is = ap (option_and_then (λ (o : Outcome). output_at o.outputs p)) (ext j o at) ∙ is

  origins_still : (ls : List LineValue) (es : List (List Name × Entry Leaf)) → origins t s ls ≡ Some es → origins t r ls ≡ Some es
  origins_still [] es is = is
  origins_still (l ∷ ls) es is = by (origin_at t s l.origin) (origins t s ls) refl refl is (origins_still ls)
    where
      by : (o : Option (Entry Leaf)) (q : Option (List (List Name × Entry Leaf))) → origin_at t s l.origin ≡ o → origins t s ls ≡ q
          → option_and_then (λ e. option_map (λ es. (l.target, e) ∷ es) q) o ≡ Some es
          → ((es : List (List Name × Entry Leaf)) → origins t s ls ≡ Some es → origins t r ls ≡ Some es) → origins t r (l ∷ ls) ≡ Some es
      by None q at those is rest = absurd cc
      by (Some e) None at those is rest = absurd cc
      by (Some e) (Some others) at those is rest =
          ap (λ o. option_and_then (λ e. option_map (λ es. (l.target, e) ∷ es) (origins t r ls)) o) (origin_still l.origin e at)
          ∙ ap (option_map (λ es. (l.target, e) ∷ es)) (rest others those) ∙ is

  pub graft_still : (ls : List LineValue) (g : Tree Leaf) → merge_of t s ls ≡ Some g → merge_of t r ls ≡ Some g
  graft_still ls g is = by (origins t s ls) refl is
    where
      by : (q : Option (List (List Name × Entry Leaf))) → origins t s ls ≡ q → option_and_then merge q ≡ Some g → merge_of t r ls ≡ Some g
      by None those is = absurd cc
      by (Some es) those is = ap (option_and_then merge) (origins_still ls es those) ∙ is

-- what an action of a step is made of
pub record IsMade (plan : PlanValue) (meaning : Meaning) (t : Tree Leaf) (s : State) (i : ℕ) (a : ActionMeaning) : Type 0 where
  pub step : StepValue
  pub at : slice_get plan.steps i ≡ Some step
  pub frame : slice_get meaning.frames i ≡ Some a.frame
  pub command : slice_get meaning.commands i ≡ Some a.command
  pub input : merge_of t s step.lines ≡ Some a.input

module _ (plan : PlanValue) (meaning : Meaning) (t : Tree Leaf) where
  pub made_of : (s : State) (i : ℕ) (a : ActionMeaning) → action_of plan meaning t s i ≡ Some a → IsMade plan meaning t s i a
  made_of s i a is = by (slice_get plan.steps i) refl is
    where
      by : (q : Option StepValue) → slice_get plan.steps i ≡ q → option_and_then (step_action meaning t s i) q ≡ Some a → IsMade plan meaning t s i a
      by None at is = absurd cc
      by (Some step) at is = parts (slice_get meaning.frames i) (slice_get meaning.commands i) (merge_of t s step.lines) refl refl refl is
        where
          parts : (f : Option FrameValue) (c : Option CommandValue) (g : Option (Tree Leaf)) → slice_get meaning.frames i ≡ f → slice_get meaning.commands i ≡ c → merge_of t s step.lines ≡ g
              → option_and_then {U = ActionMeaning} (λ (frame : FrameValue). option_and_then {U = ActionMeaning} (λ (command : CommandValue). option_map {U = ActionMeaning} (λ input. record { frame = frame; command = command; input = input }) g) c) f ≡ Some a
              → IsMade plan meaning t s i a
          parts None c g fs cs gs is = absurd cc
          parts (Some f) None g fs cs gs is = absurd cc
          parts (Some f) (Some c) None fs cs gs is = absurd cc
          parts (Some f) (Some c) (Some g) fs cs gs is =
              let same : ◌≡◌ {A = ActionMeaning} (record { frame = f; command = c; input = g }) a = cc in
              record {
                step = step;
                at = at;
                frame = fs ∙ ap (λ (a : ActionMeaning). Some a.frame) same;
                command = cs ∙ ap (λ (a : ActionMeaning). Some a.command) same;
                input = gs ∙ ap (λ (a : ActionMeaning). Some a.input) same;
              }

  pub make : (s : State) (i : ℕ) (a : ActionMeaning) → IsMade plan meaning t s i a → action_of plan meaning t s i ≡ Some a
  make s i a m =
      ap (option_and_then (step_action meaning t s i)) m.at
      ∙ ap (λ q. option_and_then {U = ActionMeaning} (λ (frame : FrameValue). option_and_then {U = ActionMeaning} (λ (command : CommandValue). option_map {U = ActionMeaning} (λ input. record { frame = frame; command = command; input = input }) (merge_of t s m.step.lines)) (slice_get meaning.commands i)) q) m.frame
      ∙ ap (λ q. option_and_then {U = ActionMeaning} (λ (command : CommandValue). option_map {U = ActionMeaning} (λ input. record { frame = a.frame; command = command; input = input }) (merge_of t s m.step.lines)) q) m.command
      ∙ ap (option_map {U = ActionMeaning} (λ input. record { frame = a.frame; command = a.command; input = input })) m.input

  pub action_still : (s r : State) → Extends s r → (i : ℕ) (a : ActionMeaning) → action_of plan meaning t s i ≡ Some a → action_of plan meaning t r i ≡ Some a
  action_still s r ext i a is =
      let m = made_of s i a is in
      make r i a (record { step = m.step; at = m.at; frame = m.frame; command = m.command; input = graft_still t s r ext m.step.lines a.input m.input })

  -- ---- what a run keeps

  module _ (X : List (ActionMeaning × Outcome)) (table : IsTable X) (S : List ℕ → Type 0) where
    -- the action of a step that has finished
    pub record IsSettled (s : State) (i : ℕ) (o : Outcome) : Type 0 where
      pub action : ActionMeaning
      pub is : action_of plan meaning t s i ≡ Some action
      pub in_table : Contains X (action, o)
      pub blobs : (b : List ℕ) → IsBlobOfAction action b → S b
      pub own : (b : List ℕ) → IsBlobOfOutcome o b → S b

    pub record Steady (s : State) : Type 0 where
      pub keyed : AreKeyed s.jobs
      pub jobs : (w : ℕ) (job : ℕ × ActionMeaning) → job_of w s ≡ Some job → (action_of plan meaning t s job.0 ≡ Some job.1) × ((b : List ℕ) → IsBlobOfAction job.1 b → S b)
      pub done : (i : ℕ) (o : Outcome) → outcome_of i s ≡ Some o → IsSettled s i o

    settled_still : (s r : State) → Extends s r → (i : ℕ) (o : Outcome) → IsSettled s i o → IsSettled r i o
    settled_still s r ext i o k = record { action = k.action; is = action_still s r ext i k.action k.is; in_table = k.in_table; blobs = k.blobs; own = k.own }

    steady_opening : Steady opening
    steady_opening = record { keyed = tt; jobs = λ w job is. absurd cc; done = λ i o is. absurd cc }

    start_keeps : (s : State) (i w : ℕ) (a : ActionMeaning) → Steady s → job_of w s ≡ None → action_of plan meaning t s i ≡ Some a → ((b : List ℕ) → IsBlobOfAction a b → S b) → Steady (record s { jobs = (w, (i, a)) ∷ s.jobs })
    start_keeps s i w a steady free is blobs =
        let r : State = record s { jobs = (w, (i, a)) ∷ s.jobs } in
        let same : Extends s r = λ j o h. h in
        record {
          keyed = (free, steady.keyed);
          jobs = λ v job at. by r same v job (found_behind s.jobs w v (i, a) job at);
          done = λ j o at. settled_still s r same j o (steady.done j o at);
        }
      where
        by : (r : State) → Extends s r → (v : ℕ) (job : ℕ × ActionMeaning) → ((w ≡ v) × ((i, a) ≡ job)) ⊎ (job_of v s ≡ Some job) → (action_of plan meaning t r job.0 ≡ Some job.1) × ((b : List ℕ) → IsBlobOfAction job.1 b → S b)
        by r same v job (inl h) = subst (λ (job : ℕ × ActionMeaning). (action_of plan meaning t r job.0 ≡ Some job.1) × ((b : List ℕ) → IsBlobOfAction job.1 b → S b)) h.1 (action_still s r same i a is, blobs)
        by r same v job (inr h) = let k = steady.jobs v job h in (action_still s r same job.0 job.1 k.0, k.1)

    removed_still : (s : State) (w v : ℕ) (job : ℕ × ActionMeaning) → Steady s → lookup (λ k. k == v) (remove_entry (λ k. k == w) s.jobs) ≡ Some job → job_of v s ≡ Some job
    removed_still s w v job steady at = by (eqb_tells v w)
      where
        by : (((v == w) ≡ true) × (v ≡ w)) ⊎ (((v == w) ≡ false) × (v ≢ w)) → job_of v s ≡ Some job
        by (inl h) = absurd (some_none (lookup (λ k. k == v) (remove_entry (λ k. k == w) s.jobs)) job at (subst (λ u. lookup (λ k. k == v) (remove_entry (λ k. k == u) s.jobs) ≡ None) h.1 (removed_same s.jobs v steady.keyed)))
        by (inr h) = sym (removed_other s.jobs w v h.1) ∙ at

    lose_keeps : (s : State) (w : ℕ) → Steady s → Steady (record s { jobs = remove_entry (λ k. k == w) s.jobs })
    lose_keeps s w steady =
        let r : State = record s { jobs = remove_entry (λ k. k == w) s.jobs } in
        let same : Extends s r = λ j o h. h in
        record {
          keyed = keyed_removed s.jobs w steady.keyed;
          jobs = λ v job at. let k = steady.jobs v job (removed_still s w v job steady at) in (action_still s r same job.0 job.1 k.0, k.1);
          done = λ j o at. settled_still s r same j o (steady.done j o at);
        }

    -- the outcome of a job is that of its step, if the step has finished
    pub outcome_is : (s : State) → Steady s → (job : ℕ × ActionMeaning) (o p : Outcome) → action_of plan meaning t s job.0 ≡ Some job.1 → Contains X (job.1, o) → outcome_of job.0 s ≡ Some p → o ≡ p
    outcome_is s steady job o p is inside at =
        let k = steady.done job.0 p at in
        let same = one_answer (action_of plan meaning t s job.0) k.action job.1 k.is is in
        table.same job.1 o p inside (subst (λ a. Contains X (a, p)) same k.in_table)

    pub finish_extends : (s : State) → Steady s → (w : ℕ) (job : ℕ × ActionMeaning) (o : Outcome) → job_of w s ≡ Some job → Contains X (job.1, o) → Extends s (record { done = (job.0, o) ∷ s.done; jobs = remove_entry (λ k. k == w) s.jobs })
    finish_extends s steady w job o is inside j p at = by (eqb_tells j job.0)
      where
        by : (((j == job.0) ≡ true) × (j ≡ job.0)) ⊎ (((j == job.0) ≡ false) × (j ≢ job.0)) → lookup (λ k. k == j) ((job.0, o) ∷ s.done) ≡ Some p
        by (inl h) =
            let same : o ≡ p = outcome_is s steady job o p (steady.jobs w job is).0 inside (subst (λ i. outcome_of i s ≡ Some p) h.1 at) in
            subst (λ i. lookup (λ k. k == i) ((job.0, o) ∷ s.done) ≡ Some p) (sym h.1) (first_same s.done job.0 o ∙ ap Some same)
        by (inr h) = first_other s.done job.0 j o h.1 ∙ at

    finish_keeps : (s : State) (w : ℕ) (job : ℕ × ActionMeaning) (o : Outcome) → Steady s → job_of w s ≡ Some job → Contains X (job.1, o) → ((b : List ℕ) → IsBlobOfOutcome o b → S b)
        → Steady (record { done = (job.0, o) ∷ s.done; jobs = remove_entry (λ k. k == w) s.jobs })
    finish_keeps s w job o steady is inside own =
        let r : State = record { done = (job.0, o) ∷ s.done; jobs = remove_entry (λ k. k == w) s.jobs } in
        let ext : Extends s r = finish_extends s steady w job o is inside in
        let here = steady.jobs w job is in
        record {
          keyed = keyed_removed s.jobs w steady.keyed;
          jobs = λ v other at. let k = steady.jobs v other (removed_still s w v other steady at) in (action_still s r ext other.0 other.1 k.0, k.1);
          done = λ j p at. by r ext here j p (found_behind s.done job.0 j o p at);
        }
      where
        by : (r : State) → Extends s r → (action_of plan meaning t s job.0 ≡ Some job.1) × ((b : List ℕ) → IsBlobOfAction job.1 b → S b) → (j : ℕ) (p : Outcome) → ((job.0 ≡ j) × (o ≡ p)) ⊎ (outcome_of j s ≡ Some p) → IsSettled r j p
        by r ext here j p (inl h) = subst (λ i. IsSettled r i p) h.0 (subst (IsSettled r job.0) h.1 (record { action = job.1; is = action_still s r ext job.0 job.1 here.0; in_table = inside; blobs = here.1; own = own }))
        by r ext here j p (inr h) = settled_still s r ext j p (steady.done j p h)

    pub keeps_event : (s mid : State) (e : Event) → Steady s → Obeys X s e → ((b : List ℕ) → IsBlobOfStart plan meaning t s e b → S b) → ((w : ℕ) (o : Outcome) → e ≡ finish w o → (b : List ℕ) → IsBlobOfOutcome o b → S b) → happens plan meaning t s e ≡ Some mid → Steady mid
    keeps_event s mid (start i w) steady obeys blobs ends is = by (job_of w s) (action_of plan meaning t s i) refl refl is
      where
        by : (q : Option (ℕ × ActionMeaning)) (o : Option ActionMeaning) → job_of w s ≡ q → action_of plan meaning t s i ≡ o → started s i w q o ≡ Some mid → Steady mid
        by (Some job) o free e is = absurd cc
        by None None free e is = absurd cc
        by None (Some a) free e is =
            let whole_state : ◌≡◌ {A = State} (record s { jobs = (w, (i, a)) ∷ s.jobs }) mid = cc in
            subst Steady whole_state (start_keeps s i w a steady free e (λ b k. blobs b (a, e, k)))
    keeps_event s mid (finish w o) steady obeys blobs ends is = by (job_of w s) refl is
      where
        by : (q : Option (ℕ × ActionMeaning)) → job_of w s ≡ q → finished s w o q ≡ Some mid → Steady mid
        by None e is = absurd cc
        by (Some job) e is =
            let whole_state : ◌≡◌ {A = State} (record { done = (job.0, o) ∷ s.done; jobs = remove_entry (λ k. k == w) s.jobs }) mid = cc in
            subst Steady whole_state (finish_keeps s w job o steady e (obeys job e) (ends w o refl))
    keeps_event s mid (lose w) steady obeys blobs ends is = by (job_of w s) is
      where
        by : (q : Option (ℕ × ActionMeaning)) → lost s w q ≡ Some mid → Steady mid
        by None is = absurd cc
        by (Some job) is =
            let whole_state : ◌≡◌ {A = State} (record s { jobs = remove_entry (λ k. k == w) s.jobs }) mid = cc in
            subst Steady whole_state (lose_keeps s w steady)

    keeps_run : (s end : State) (es : List Event) → Steady s → ((b : List ℕ) → IsBlobOfStarts plan meaning t s es b → S b) → ((b : List ℕ) → IsBlobOfEnds es b → S b) → IsRun X plan meaning t s es end → Steady end
    keeps_run s end [] steady blobs ends r = subst Steady (sym r) steady
    keeps_run s end (e ∷ es) steady blobs ends r =
        keeps_run r.1 end es (keeps_event s r.1 e steady r.0 (λ b k. blobs b (inl k)) (λ w o is b k. ends b (w, o, (0, omega arith, is), k)) r.2) (λ b k. blobs b (inr (r.1, r.2, k))) later r.3
      where
        later : (b : List ℕ) → IsBlobOfEnds es b → S b
        later b (w, o, (k, lt, is), h) = ends b (w, o, (suc k, omega (arith, lt), is), h)

    pub run_steady : (end : State) (es : List Event) → ((b : List ℕ) → IsBlobOfStarts plan meaning t opening es b → S b) → ((b : List ℕ) → IsBlobOfEnds es b → S b) → IsRun X plan meaning t opening es end → Steady end
    run_steady end es blobs ends r = keeps_run opening end es steady_opening blobs ends r
