-- A job that is lost.
use Rattle.std.proofs.Common.{◌≡◌, ◌≢◌, ℕ, ◌≤◌, true, false, List, set, Option, Some, None, refl, ap, sym, ◌∙◌, subst, inl, inr}
use Rattle.std.specs.Prelude.{◌==◌, ◌⊎◌, option_map}
use Rattle.std.specs.Map.{lookup, remove_entry}
use Rattle.std.proofs.lemmas.Bool.Decides.{eqb_tells}
use Rattle.std.proofs.Math.ListN.{length-set}
use Rattle.tree.specs.Tree.{Tree, Leaf}
use Rattle.blob_source.specs.Source.{Blobs}
use Rattle.verifier.specs.Build.{Meaning, ActionMeaning, Outcome, Event, lose, State, job_of, lost}
use Rattle.runs.specs.Engine.{JobValue, EngineValue, IsEngine, at_number, job_in}
use Rattle.runs.specs.Calls.{without_job}
use Rattle.runs.specs.Mirrors.{job_form, IsConcernedIn, Mirrors, IsMirrored, nothing_told}
use Rattle.runs.specs.Ties.{IsEvent}
use Rattle.runs.proofs.Places.{taken_within, set_same, set_other, set_at, removed_same, removed_other}
use Rattle.runs.proofs.Steady.{Extends, action_still, Steady, run_steady}

pub lost_engine : (e : EngineValue) (w : ℕ) → IsEngine e → IsEngine (without_job w e)
lost_engine e w k = record {
  stand = k.stand;
  count = k.count;
  taken = k.taken;
  few = let same = length-set e.jobs w None in let few = k.few in subst (λ n. n ≤ 4096) (sym same) few;
  running = λ v j is. k.running v j (set_at e.jobs w v None j is (λ h. cc));
}

-- ---- runs that an engine mirrors

module _ (e : EngineValue) (t : Tree Leaf) (meaning : Meaning) (X : List (ActionMeaning × Outcome)) (s : State) where
  -- a job of the state is one of the engine
  pub job_there : Mirrors e t meaning s → (w : ℕ) (j : JobValue) → job_in w e ≡ Some j → (job : ℕ × ActionMeaning) × (job_of w s ≡ Some job) × (j ≡ job_form job)
  job_there m w j is = by (job_of w s) refl (sym (m.jobs w) ∙ is)
    where
      by : (q : Option (ℕ × ActionMeaning)) → job_of w s ≡ q → option_map job_form q ≡ Some j → (job : ℕ × ActionMeaning) × (job_of w s ≡ Some job) × (j ≡ job_form job)
      by None at is = absurd cc
      by (Some job) at is = let same : job_form job ≡ j = cc in (job, at, sym same)

  pub steady_of : (B : Blobs) (es : List Event) → (k : IsMirrored B e (record { tree = t; meaning = meaning; table = X; events = es; now = s })) → Steady e.plan meaning t X k.table (IsConcernedIn B e meaning t es) s
  steady_of B es k = run_steady e.plan meaning t X k.table (IsConcernedIn B e meaning t es) s es (λ b h. inl (inr (inr (inr h)))) (λ b h. inr (inl (inr h))) k.happened

  -- the jobs but one
  pub other_jobs : (B : Blobs) (es : List Event) → IsMirrored B e (record { tree = t; meaning = meaning; table = X; events = es; now = s }) → (w v : ℕ) (j : JobValue) → job_in w e ≡ Some j → at_number (set e.jobs w None) v ≡ option_map job_form (lookup (λ k. k == v) (remove_entry (λ k. k == w) s.jobs))
  other_jobs B es k w v j is = by (eqb_tells v w)
    where
      by : (((v == w) ≡ true) × (v ≡ w)) ⊎ (((v == w) ≡ false) × (v ≢ w)) → at_number (set e.jobs w None) v ≡ option_map job_form (lookup (λ k. k == v) (remove_entry (λ k. k == w) s.jobs))
      by (inl h) = subst (λ u. at_number (set e.jobs w None) u ≡ option_map job_form (lookup (λ k. k == u) (remove_entry (λ k. k == w) s.jobs))) (sym h.1)
          (set_same e.jobs w None (taken_within e.jobs w j is) ∙ sym (ap (option_map job_form) (removed_same s.jobs w (steady_of B es k).keyed)))
      by (inr h) = set_other e.jobs w v None h.1 ∙ k.mirrors.jobs v ∙ ap (option_map job_form) (sym (removed_other s.jobs w v h.1))

pub lost_event : (e : EngineValue) (w : ℕ) (j : JobValue) → job_in w e ≡ Some j → IsEvent nothing_told e (lose w) (without_job w e)
lost_event e w j is = record {
  of_run = λ run k. let t = run.tree in let meaning = run.meaning in let X = run.table in let es = run.events in let s = run.now in
      let job = job_there e t meaning X s k.mirrors w j is in
      let r : State = record s { jobs = remove_entry (λ k. k == w) s.jobs } in
      let same : Extends s r = λ i o h. h in
      let m = k.mirrors in (
        r,
        ap (lost s w) job.1,
        record {
          sources = m.sources;
          frames = m.frames;
          commands = m.commands;
          finished = m.finished;
          actions = λ i f at. let a = m.actions i f at in (a.0, action_still e.plan meaning t s r same i a.0 a.1, a.2);
          jobs = λ v. other_jobs e t meaning X s nothing_told es k w v j is;
        },
      );
}
