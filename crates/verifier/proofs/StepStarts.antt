-- The actions that a step starts with in the runs of a plan.
use Rattle.std.proofs.Common.{◌≡◌, ℕ, zero, suc, List, [], ◌∷◌, Option, Some, None, refl, ap, sym, ◌∙◌, subst, arith, inl, inr}
use Rattle.std.specs.Prelude.{◌==◌, ◌≢◌, ◌⊎◌, option_map, slice_get, Contains}
use Rattle.std.specs.List.{AllByRecursion}
use Rattle.std.specs.Map.{remove_entry}
use Rattle.blob_digest.specs.Digest.{DigestValue, digest_of}
use Rattle.action_messages.specs.Action.{ActionValue, IsAction, with_input, action_bytes}
use Rattle.action_messages.specs.Frame.{frame_bytes}
use Rattle.actions.specs.Outcome.{OutcomeValue}
use Rattle.actions.proofs.EncodedOnce.{action_bytes_injective}
use Rattle.plan.specs.Values.{StepValue, PlanValue}
use Rattle.tree.specs.Tree.{Tree}
use Rattle.tree.specs.Form.{NodeValue, form, top, root}
use Rattle.tree.specs.Stage.{◌and_then◌}
use Rattle.blob_source.specs.Source.{Blobs}
use Rattle.blob_source.specs.Told.{IsTold}
use Rattle.tree.proofs.TreeDigests.{IsDigest-digest_of}
use Rattle.verifier.specs.Together.{put_together}
use Rattle.verifier.specs.Build.{ActionMeaning, action_digest, Outcome, Event, start, finish, lose, State, opening, outcome_of, job_of, merge_of, action_of, started, finished, lost, happens, Obeys, IsRun}
use Rattle.verifier.specs.Headline.{IsBlobOfAction, IsBlobOfStart, IsBlobOfStarts}
use Rattle.verifier.proofs.Targets.{step_paths}
use Rattle.verifier.specs.Unbuilt.{IsNeverStarted}
use Rattle.verifier.specs.Headline.{PlanRun}
use Rattle.verifier.proofs.FreshRuns.{one_answer, found_one, kept_rest, IsGiven, IsLinesFault, told_bytes, values, Keeps, grafts, graft_finished, put_nothing}
use Rattle.verifier.proofs.KeptRuns.{IsActionOf, IsOwnAction, IsChosenFor, action_made, action_is, takes_chosen, keeps_event, runs_keep}

-- the action that is told under a digest has another frame than the step, or another input than what the step's lines put together
abbrev pub HasOtherAction : Blobs → DigestValue → List OutcomeValue → StepValue → DigestValue → Type 0
HasOtherAction B sources os step d = (action : ActionValue) × IsTold IsAction action_bytes B d action
    × ((digest_of (frame_bytes action.frame) ≢ step.frame) ⊎ ((made : Tree NodeValue) × (put_together B sources (slice_get os) step.lines).passes made × (root made ≢ action.input)))

module _ {S : List ℕ → Type 0} {B C : Blobs} {src : DigestValue} {plan : PlanValue} {ds : List DigestValue} {run : PlanRun} (given : IsGiven S B C src plan ds run) where
  -- ---- the actions that a step starts with

  module _ (i : ℕ) (P : ActionMeaning → Type 0) (only : (s : State) → Keeps given s → (a : ActionMeaning) → action_of plan run.meaning run.tree s i ≡ Some a → ((b : List ℕ) → IsBlobOfAction a b → S b) → P a) where
    abbrev IsJobWith : ℕ × (ℕ × ActionMeaning) → Type 0
    IsJobWith j = j.1.0 ≡ i → P j.1.1

    abbrev IsEndWith : ℕ × Outcome → Type 0
    IsEndWith e = e.0 ≡ i → (a : ActionMeaning) × P a × Contains run.table (a, e.1)

    -- the jobs and the outcomes of the step are of actions with P
    record RunsWith (s : State) : Type 0 where
      jobs : AllByRecursion IsJobWith s.jobs
      done : AllByRecursion IsEndWith s.done

    with_event : (s mid : State) (e : Event) → Keeps given s → RunsWith s → Obeys run.table s e → ((b : List ℕ) → IsBlobOfStart plan run.meaning run.tree s e b → S b) → happens plan run.meaning run.tree s e ≡ Some mid → RunsWith mid
    with_event s mid (start k w) keeps runs obeys blobs is = by (job_of w s) (action_of plan run.meaning run.tree s k) refl is
      where
        by : (q : Option (ℕ × ActionMeaning)) (o : Option ActionMeaning) → action_of plan run.meaning run.tree s k ≡ o → started s k w q o ≡ Some mid → RunsWith mid
        by (Some job) o e is = absurd cc
        by None None e is = absurd cc
        by None (Some a) e is =
            let whole_state : ◌≡◌ {A = State} (record s { jobs = (w, (k, a)) ∷ s.jobs }) mid = cc in
            subst RunsWith whole_state (record {
              jobs = ((λ same. only s keeps a (ap (action_of plan run.meaning run.tree s) (sym same) ∙ e) (λ b q. blobs b (a, e, q))), runs.jobs);
              done = runs.done;
            })
    with_event s mid (finish w o) keeps runs obeys blobs is = by (job_of w s) refl is
      where
        by : (q : Option (ℕ × ActionMeaning)) → job_of w s ≡ q → finished s w o q ≡ Some mid → RunsWith mid
        by None e is = absurd cc
        by (Some job) e is =
            let whole_state : ◌≡◌ {A = State} (record { done = (job.0, o) ∷ s.done; jobs = remove_entry (λ k. k == w) s.jobs }) mid = cc in
            subst RunsWith whole_state (record { jobs = kept_rest IsJobWith w s.jobs runs.jobs; done = ((λ same. (job.1, found_one IsJobWith w s.jobs job runs.jobs e same, obeys job e)), runs.done) })
    with_event s mid (lose w) keeps runs obeys blobs is = by (job_of w s) is
      where
        by : (q : Option (ℕ × ActionMeaning)) → lost s w q ≡ Some mid → RunsWith mid
        by None is = absurd cc
        by (Some job) is =
            let whole_state : ◌≡◌ {A = State} (record s { jobs = remove_entry (λ k. k == w) s.jobs }) mid = cc in
            subst RunsWith whole_state (record { jobs = kept_rest IsJobWith w s.jobs runs.jobs; done = runs.done })

    start_with : (s mid : State) (w : ℕ) → Keeps given s → ((b : List ℕ) → IsBlobOfStart plan run.meaning run.tree s (start i w) b → S b) → happens plan run.meaning run.tree s (start i w) ≡ Some mid → (a : ActionMeaning) × P a
    start_with s mid w keeps blobs is = by (job_of w s) (action_of plan run.meaning run.tree s i) refl is
      where
        by : (q : Option (ℕ × ActionMeaning)) (o : Option ActionMeaning) → action_of plan run.meaning run.tree s i ≡ o → started s i w q o ≡ Some mid → (a : ActionMeaning) × P a
        by (Some job) o e is = absurd cc
        by None None e is = absurd cc
        by None (Some a) e is = (a, only s keeps a e (λ b q. blobs b (a, e, q)))

    -- so is each event that starts it
    run_with : (s end : State) (es : List Event) → Keeps given s → RunsWith s → ((b : List ℕ) → IsBlobOfStarts plan run.meaning run.tree s es b → S b) → IsRun run.table plan run.meaning run.tree s es end
        → RunsWith end × ((w : ℕ) → Contains es (start i w) → (a : ActionMeaning) × P a)
    run_with s end [] keeps runs blobs r = (subst RunsWith (sym r) runs, none)
      where
        none : (w : ℕ) → Contains [] (start i w) → (a : ActionMeaning) × P a
        none w (k, lt, is) = absurd (omega (arith, lt))
    run_with s end (e ∷ es) keeps runs blobs r =
        let mid = r.1 in
        let rest = run_with mid end es (keeps_event given s mid e keeps r.0 (λ b k. blobs b (inl k)) r.2) (with_event s mid e keeps runs r.0 (λ b k. blobs b (inl k)) r.2) (λ b k. blobs b (inr (mid, r.2, k))) r.3 in
        (rest.0, by rest.1)
      where
        by : ((w : ℕ) → Contains es (start i w) → (a : ActionMeaning) × P a) → (w : ℕ) → Contains (e ∷ es) (start i w) → (a : ActionMeaning) × P a
        by later w (zero, lt, is) =
            start_with s r.1 w keeps (λ b q. blobs b (inl (subst (λ e. IsBlobOfStart plan run.meaning run.tree s e b) (sym is) q))) (ap (happens plan run.meaning run.tree s) (sym is) ∙ r.2)
        by later w (suc k, lt, is) = later w (k, omega (arith, lt), is)

    runs_with : RunsWith run.now × ((w : ℕ) → Contains run.events (start i w) → (a : ActionMeaning) × P a)
    runs_with = run_with opening run.now run.events (record { done = tt; jobs = tt }) (record { jobs = tt; done = tt }) (λ b q. given.within b (inr (inr (inr q)))) given.runs.happened

    pub job_with : (w : ℕ) (job : ℕ × ActionMeaning) → job_of w run.now ≡ Some job → job.0 ≡ i → P job.1
    job_with w job is = found_one IsJobWith w run.now.jobs job runs_with.0.jobs is

    pub end_with : (o : Outcome) → outcome_of i run.now ≡ Some o → (a : ActionMeaning) × P a × Contains run.table (a, o)
    end_with o is = found_one IsEndWith i run.now.done o runs_with.0.done is refl

  module _ (i : ℕ) (step : StepValue) (at : slice_get plan.steps i ≡ Some step) where
    -- a step whose lines put nothing together has no action
    no_action : IsLinesFault B src given.recorded.outcomes step.lines → (s : State) → Keeps given s → action_of plan run.meaning run.tree s i ≡ None
    no_action lacks s keeps =
        let f = given.runs.fits.steps i step at in
        action_made given s i step at
        ∙ ap (option_map {U = ActionMeaning} (λ input. record { frame = f.0; command = f.1; input = input })) (put_nothing given s keeps step.lines (step_paths [] plan.steps given.rules.steps i step at) lacks)

    -- so no run starts it, and none is complete
    pub runs_without : IsLinesFault B src given.recorded.outcomes step.lines → IsNeverStarted plan run i
    runs_without lacks = record {
      before = λ w c. ((runs_with i (λ _. ⊥) none).1 w c).1;
      now = λ w. ap (started run.now i w (job_of w run.now)) (no_action lacks run.now (runs_keep given)) ∙ free w (job_of w run.now);
      incomplete = λ all. let o = all i step at in (end_with i (λ _. ⊥) none o.0 o.1).1;
    }
      where
        none : (s : State) → Keeps given s → (a : ActionMeaning) → action_of plan run.meaning run.tree s i ≡ Some a → ((b : List ℕ) → IsBlobOfAction a b → S b) → ⊥
        none s keeps a is blobs = let clash : ◌≡◌ {A = Option ActionMeaning} None (Some a) = sym (no_action lacks s keeps) ∙ is in cc

        free : (w : ℕ) (q : Option (ℕ × ActionMeaning)) → started run.now i w q None ≡ None
        free w None = refl
        free w (Some busy) = refl

    -- an action whose frame isn't the step's, or whose input isn't what its lines put together, isn't that with which it starts
    other_action : (d : DigestValue) → HasOtherAction B src given.recorded.outcomes step d
        → (s : State) → Keeps given s → (a : ActionMeaning) → action_of plan run.meaning run.tree s i ≡ Some a → ((b : List ℕ) → IsBlobOfAction a b → S b) → action_digest a ≢ d
    unfolding ◌and_then◌
    other_action d (action, told, other) s keeps a is blobs e = by other
      where
        p : IsActionOf given s i a
        p = action_is given s i a is

        own : p.step ≡ step
        own = one_answer (slice_get plan.steps i) p.step step p.at at

        valid : IsAction (with_input a.frame (root (form a.input)))
        valid = record { frame = p.fit.frame_valid; input = IsDigest-digest_of (top (form a.input)) }

        same : action ≡ with_input a.frame (root (form a.input))
        same = action_bytes_injective action (with_input a.frame (root (form a.input))) told.valid valid (told_bytes S given.apart B d (action_bytes action) (action_bytes (with_input a.frame (root (form a.input)))) (values given) told.blob (blobs _ (inl (inl refl))) e)

        by : (digest_of (frame_bytes action.frame) ≢ step.frame) ⊎ ((made : Tree NodeValue) × (put_together B src (slice_get given.recorded.outcomes) step.lines).passes made × (root made ≢ action.input)) → ⊥
        by (inl unlike) = unlike (ap (λ (x : ActionValue). digest_of (frame_bytes x.frame)) same ∙ p.fit.frame_digest ∙ ap (λ (s : StepValue). s.frame) own)
        by (inr (made, (xs, r, merges), unlike)) =
            let there : merge_of run.tree s step.lines ≡ Some a.input = ap (λ (z : StepValue). merge_of run.tree s z.lines) (sym own) ∙ p.grafted in
            let g = grafts given s keeps step.lines (step_paths [] plan.steps given.rules.steps i step at) xs r made merges (graft_finished given s step.lines a.input there) in
            let input : g.0 ≡ a.input = one_answer (merge_of run.tree s step.lines) g.0 a.input g.1 there in
            unlike (sym g.2 ∙ ap (λ u. root (form u)) input ∙ sym (ap (λ (x : ActionValue). x.input) same))

    -- so no job runs it
    pub never_run : (d : DigestValue) → HasOtherAction B src given.recorded.outcomes step d → (w : ℕ) (job : ℕ × ActionMeaning) → job_of w run.now ≡ Some job → job.0 ≡ i → action_digest job.1 ≢ d
    never_run d other = job_with i (λ a. action_digest a ≢ d) (other_action d other)

    -- a step whose recorded action is its own runs the chosen one, and comes to its outcome
    pub runs_chosen : (d : DigestValue) → IsOwnAction B src given.recorded.outcomes step d → (pair : ActionMeaning × Outcome) → IsChosenFor given i d pair
        → ((w : ℕ) (job : ℕ × ActionMeaning) → job_of w run.now ≡ Some job → job.0 ≡ i → job.1 ≡ pair.0) × ((o : Outcome) → outcome_of i run.now ≡ Some o → o ≡ pair.1)
    runs_chosen d own pair c = (job_with i (λ a. a ≡ pair.0) only, comes)
      where
        only : (s : State) → Keeps given s → (a : ActionMeaning) → action_of plan run.meaning run.tree s i ≡ Some a → ((b : List ℕ) → IsBlobOfAction a b → S b) → a ≡ pair.0
        only s keeps a is =
            let p = action_is given s i a is in
            takes_chosen given s keeps i a p d (subst (λ (s : StepValue). IsOwnAction B src given.recorded.outcomes s d) (one_answer (slice_get plan.steps i) step p.step at p.at) own) pair c

        comes : (o : Outcome) → outcome_of i run.now ≡ Some o → o ≡ pair.1
        comes o is = let e = end_with i (λ a. a ≡ pair.0) only o is in given.runs.table.same pair.0 o pair.1 (subst (λ a. Contains run.table (a, o)) e.1 e.2) c.in_table
