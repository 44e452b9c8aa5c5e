-- A step that is started, and the root.
use Rattle.std.proofs.Common.{◌≡◌, ◌≢◌, ℕ, zero, suc, ◌<◌, ◌≤◌, true, false, List, [], ◌∷◌, length, Option, Some, None, refl, ap, sym, ◌∙◌, subst, arith, inl, inr}
use Rattle.std.specs.Prelude.{◌==◌, ◌⊎◌, option_map, slice_get, IsSomeAnd}
use Rattle.std.specs.Map.{lookup}
use Rattle.std.proofs.lemmas.Bool.Decides.{eqb_tells}
use Rattle.blob_digest.specs.Digest.{DigestValue, digest_of}
use Rattle.action_messages.specs.Action.{with_input, action_bytes}
use Rattle.tree.specs.Tree.{Tree}
use Rattle.tree.specs.Form.{NodeValue, form, root}
use Rattle.blob_source.specs.Source.{Blobs, Telling}
use Rattle.tree.specs.Memo.{Known, Learns}
use Rattle.plan.specs.Values.{LineValue, StepValue}
use Rattle.verifier.specs.Build.{ActionMeaning, action_digest, State, job_of, action_of, started}
use Rattle.runs.specs.Engine.{JobValue, EngineValue, IsEngine, at_number, job_in}
use Rattle.runs.specs.Looking.{together_in}
use Rattle.runs.specs.LooksAt.{LinesNeed}
use Rattle.runs.specs.Calls.{IsLeastFree, placed, with_job, IsStarted, IsPrepared}
use Rattle.runs.specs.declared.starting.Job.{Job}
use Rattle.runs.specs.Mirrors.{job_form, Mirrors}
use Rattle.runs.specs.Ties.{IsStart, IsRootOf}
use Rattle.runs.proofs.Places.{taken_within, first_same, first_other}
use Rattle.runs.proofs.Steady.{Extends, make, action_still}
use Rattle.runs.proofs.Resolved.{grafted}
use Rattle.plan.specs.Plan.{IsPlan}
use Rattle.verifier.proofs.FreshRuns.{one_answer}
use Rattle.verifier.proofs.Targets.{paths_of, step_paths}

-- ---- one more job

placed_same : (js : List (Option JobValue)) (w : ℕ) (j : JobValue) → w ≤ length js → at_number (placed js w j) w ≡ Some j
placed_same [] zero j le = refl
placed_same [] (suc w) j le = absurd (omega arith)
placed_same (o ∷ js) zero j le = refl
placed_same (o ∷ js) (suc w) j le = placed_same js w j (omega arith)

placed_other : (js : List (Option JobValue)) (w u : ℕ) (j : JobValue) → w ≤ length js → u ≢ w → at_number (placed js w j) u ≡ at_number js u
placed_other [] zero zero j le other = absurd (other refl)
placed_other [] zero (suc u) j le other = refl
placed_other [] (suc w) u j le other = absurd (omega arith)
placed_other (o ∷ js) zero zero j le other = absurd (other refl)
placed_other (o ∷ js) zero (suc u) j le other = refl
placed_other (o ∷ js) (suc w) zero j le other = refl
placed_other (o ∷ js) (suc w) (suc u) j le other = placed_other js w u j (omega arith) (λ h. other (ap suc h))

least_within : (e : EngineValue) (w : ℕ) → IsLeastFree e w → w ≤ length e.jobs
least_within e w least = by (le_or_gt w (length e.jobs))
  where
    le_or_gt : (a b : ℕ) → (a ≤ b) ⊎ (b < a)
    le_or_gt zero b = inl (omega arith)
    le_or_gt (suc a) zero = inr (omega arith)
    le_or_gt (suc a) (suc b) = step (le_or_gt a b)
      where
        step : (a ≤ b) ⊎ (b < a) → (suc a ≤ suc b) ⊎ (suc b < suc a)
        step (inl h) = inl (omega (arith, h))
        step (inr h) = inr (omega (arith, h))

    by : (w ≤ length e.jobs) ⊎ (length e.jobs < w) → w ≤ length e.jobs
    by (inl h) = h
    by (inr h) = let j = least.lower (length e.jobs) h in let lt = taken_within e.jobs (length e.jobs) j.0 j.1 in absurd (omega (arith, lt))

no_job : (o : Option (ℕ × ActionMeaning)) → option_map job_form o ≡ None → o ≡ None
no_job None h = refl
no_job (Some job) h = cc

pub started_event : {A : Type 0} (B : Blobs) (i : ℕ) (old new : EngineValue) (job : Job A) → IsPlan old.plan → IsEngine old → IsStarted B i old new job → IsStart B old i job.id job.digest new
started_event B i old new job plan engine st = let p = st.prepared in record {
  of_run = λ run k. let t = run.tree in let meaning = run.meaning in let X = run.table in let es = run.events in let s = run.now in
      let m = k.mirrors in
      let g = grafted B old t meaning X es s engine k p.planned.lines (step_paths [] old.plan.steps plan.steps i p.planned p.at) p.tree p.together in
      let a : ActionMeaning = record { frame = job.action.frame; command = job.command; input = g.0 } in
      let is : action_of old.plan meaning t s i ≡ Some a = make old.plan meaning t s i a (record {
        step = p.planned;
        at = p.at;
        frame = sym (m.frames i p.planned p.at) ∙ p.frame;
        command = sym (m.commands i p.planned p.at) ∙ p.command;
        input = g.1;
      }) in
      let input : job.action.input ≡ root (form g.0) = p.input ∙ sym g.2 in
      let named : job.digest ≡ action_digest a = p.digest ∙ ap (λ d. digest_of (action_bytes (with_input job.action.frame d))) input in
      let free : job_of job.id s ≡ None = no_job (job_of job.id s) (sym (m.jobs job.id) ∙ st.least.free) in
      let r : State = record s { jobs = (job.id, (i, a)) ∷ s.jobs } in
      let same : Extends s r = λ j o h. h in
      let j : JobValue = record { step = i; action = job.digest; input = job.action.input } in
      let value : j ≡ job_form (i, a) = λ x. record { step = i; action = named x; input = input x } in (
        a,
        is,
        named,
        (
          r,
          ap (λ q. started s i job.id q (action_of old.plan meaning t s i)) free ∙ ap (started s i job.id None) is,
          subst (λ n. Mirrors n t meaning r) (sym st.after) (record {
            sources = m.sources;
            frames = m.frames;
            commands = m.commands;
            finished = m.finished;
            actions = λ n f at. let b = m.actions n f at in (b.0, action_still old.plan meaning t s r same n b.0 b.1, b.2);
            jobs = λ u. one_more old s i job.id a j value (least_within old job.id st.least) m.jobs u (eqb_tells u job.id);
          }),
        ),
      );
}
  where
    one_more : (e : EngineValue) (s : State) (i id : ℕ) (a : ActionMeaning) (j : JobValue) → j ≡ job_form (i, a) → id ≤ length e.jobs → ((w : ℕ) → job_in w e ≡ option_map job_form (job_of w s)) → (u : ℕ)
        → (((u == id) ≡ true) × (u ≡ id)) ⊎ (((u == id) ≡ false) × (u ≢ id)) → at_number (placed e.jobs id j) u ≡ option_map job_form (lookup (λ k. k == u) ((id, (i, a)) ∷ s.jobs))
    one_more e s i id a j value le jobs u (inl h) =
        subst (λ n. at_number (placed e.jobs id j) n ≡ option_map job_form (lookup (λ k. k == n) ((id, (i, a)) ∷ s.jobs))) (sym h.1)
        (placed_same e.jobs id j le ∙ ap Some value ∙ sym (ap (option_map job_form) (first_same s.jobs id (i, a))))
    one_more e s i id a j value le jobs u (inr h) = placed_other e.jobs id u j le h.1 ∙ jobs u ∙ ap (option_map job_form) (sym (first_other s.jobs id u (i, a) h.1))

pub root_event : (B : Blobs) (e : EngineValue) (made : Tree NodeValue) (d : DigestValue) → IsPlan e.plan → IsEngine e → (together_in B e e.plan.root_lines).passes made → d ≡ root made → IsRootOf B e d
root_event B e made d plan engine together is = record {
  of_run = λ run k. let t = run.tree in let meaning = run.meaning in let X = run.table in let es = run.events in let s = run.now in
      let g = grafted B e t meaning X es s engine k e.plan.root_lines (paths_of (length e.plan.steps) e.plan.root_lines plan.root_lines.each) made together in
      let roots : root (form g.0) ≡ d = g.2 ∙ sym is in
      subst (λ o. IsSomeAnd o (λ g. root (form g) ≡ d)) (sym g.1) roots;
}

placed_length : (js : List (Option JobValue)) (w : ℕ) (j : JobValue) → w ≤ length js → length js ≤ 4096 → w < 4096 → length (placed js w j) ≤ 4096
placed_length [] zero j le few lt = omega arith
placed_length [] (suc w) j le few lt = absurd (omega arith)
placed_length (o ∷ js) zero j le few lt = few
placed_length (o ∷ js) (suc w) j le few lt = let rest = longer js w j (omega (arith, le)) in by rest
  where
    longer : (js : List (Option JobValue)) (w : ℕ) (j : JobValue) → w ≤ length js → (length (placed js w j) ≡ length js) ⊎ (length (placed js w j) ≡ suc w)
    longer [] zero j le = inr refl
    longer [] (suc w) j le = absurd (omega arith)
    longer (o ∷ js) zero j le = inl refl
    longer (o ∷ js) (suc w) j le = up (longer js w j (omega arith))
      where
        up : (length (placed js w j) ≡ length js) ⊎ (length (placed js w j) ≡ suc w) → (length (placed (o ∷ js) (suc w) j) ≡ length (o ∷ js)) ⊎ (length (placed (o ∷ js) (suc w) j) ≡ suc (suc w))
        up (inl h) = inl (ap suc h)
        up (inr h) = inr (ap suc h)

    by : (length (placed js w j) ≡ length js) ⊎ (length (placed js w j) ≡ suc w) → length (placed (o ∷ js) (suc w) j) ≤ 4096
    by (inl h) = subst (λ n. suc n ≤ 4096) (sym h) few
    by (inr h) = subst (λ n. suc n ≤ 4096) (sym h) lt

placed_at : (js : List (Option JobValue)) (w u : ℕ) (j k : JobValue) → w ≤ length js → at_number (placed js w j) u ≡ Some k → ((k ≡ j) ⊎ (at_number js u ≡ Some k))
placed_at [] zero zero j k le is = inl cc
placed_at [] zero (suc u) j k le is = cc
placed_at [] (suc w) u j k le is = absurd (omega arith)
placed_at (o ∷ js) zero zero j k le is = inl cc
placed_at (o ∷ js) zero (suc u) j k le is = inr is
placed_at (o ∷ js) (suc w) zero j k le is = inr is
placed_at (o ∷ js) (suc w) (suc u) j k le is = placed_at js w u j k (omega arith) is

pub started_engine : (e : EngineValue) (w : ℕ) (j : JobValue) → IsEngine e → IsLeastFree e w → w < 4096 → j.step < length e.plan.steps → IsEngine (with_job w j e)
started_engine e w j k least lt within = record {
  stand = k.stand;
  count = k.count;
  taken = k.taken;
  few = placed_length e.jobs w j (least_within e w least) k.few lt;
  running = λ u l is. by u l (placed_at e.jobs w u j l (least_within e w least) is);
}
  where
    by : (u : ℕ) (l : JobValue) → (l ≡ j) ⊎ (at_number e.jobs u ≡ Some l) → l.step < length e.plan.steps
    by u l (inl h) = subst (λ (m : JobValue). m.step < length e.plan.steps) (sym h) within
    by u l (inr h) = k.running u l h

pub least_is_within : (e : EngineValue) (w : ℕ) → IsLeastFree e w → w ≤ length e.jobs
least_is_within e w least = least_within e w least

pub started_as : {A : Type 0} (B : Blobs) (i n : ℕ) (old : EngineValue) (job : Job A) (x : DigestValue) (js : List (Option JobValue)) → IsPrepared B old i n job → IsLeastFree old n → n < 4096 → js ≡ placed old.jobs n (record { step = i; action = job.digest; input = x }) → x ≡ job.action.input
    → IsStarted B i old (record old { jobs = js }) job
started_as B i n old job x js p least lt is same = record {
  prepared = record {
    planned = p.planned;
    at = p.at;
    tree = p.tree;
    together = p.together;
    number = refl;
    of_step = p.of_step;
    frame = p.frame;
    input = p.input;
    command = p.command;
    digest = p.digest;
    folded = p.folded;
  };
  least = subst (IsLeastFree old) (sym p.number) least;
  few = subst (λ m. m < 4096) (sym p.number) lt;
  after = ap (λ (ks : List (Option JobValue)). record old { jobs = ks }) (is ∙ ap (λ d. placed old.jobs n (record { step = i; action = job.digest; input = d })) same ∙ ap (λ m. placed old.jobs m (record { step = i; action = job.digest; input = job.action.input })) (sym p.number));
}

-- what lines need, said of equal ones
pub lines_needed : {refused : Type 0} {k0 k1 : Known} {t0 t1 : Telling} (e : EngineValue) {ls ls' : List LineValue} → ls ≡ ls' → Learns (LinesNeed t1.blobs e ls) refused k0 k1 t0 t1 → Learns (LinesNeed t1.blobs e ls') refused k0 k1 t0 t1
lines_needed {refused = refused} {k0 = k0} {k1 = k1} {t0 = t0} {t1 = t1} e is h = subst (λ xs. Learns (LinesNeed t1.blobs e xs) refused k0 k1 t0 t1) is h

-- what the lines of a step need, said of the step with its number
pub step_needed : {refused : Type 0} {k0 k1 : Known} {t0 t1 : Telling} (e : EngineValue) (i : ℕ) (planned s : StepValue) {ls : List LineValue} → slice_get e.plan.steps i ≡ Some planned → slice_get e.plan.steps i ≡ Some s → ls ≡ planned.lines
    → Learns (LinesNeed t1.blobs e ls) refused k0 k1 t0 t1 → Learns (LinesNeed t1.blobs e s.lines) refused k0 k1 t0 t1
step_needed e i planned s there at is h =
    let same : planned ≡ s = one_answer (slice_get e.plan.steps i) planned s there at in
    lines_needed e (is ∙ ap (λ (x : StepValue). x.lines) same) h
