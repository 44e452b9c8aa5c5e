-- The calls of a build are the events of a run.
use Rattle.std.proofs.Common.{◌≡◌, suc, ℕ, List, [], ◌∷◌, ◌++◌, Some, refl, ap, sym, ◌∙◌, subst, arith, inl, inr}
use Rattle.std.specs.Prelude.{◌⊎◌, Contains}
use Rattle.std.proofs.lemmas.Option.{slice_get_within}
use Rattle.blob_digest.specs.Digest.{DigestValue}
use Rattle.messages.specs.Tree.{tree_bytes}
use Rattle.blob_source.specs.Source.{Blobs, Telling}
use Rattle.blob_source.specs.Sink.{KeepsRight}
use Rattle.actions.specs.Outcome.{OutcomeValue}
use Rattle.plan.specs.Plan.{IsPlan}
use Rattle.plan.specs.Values.{PlanValue}
use Rattle.tree.specs.Tree.{Tree, Leaf}
use Rattle.tree.specs.Lookup.{IsValue}
use Rattle.verifier.specs.Build.{Meaning, ActionMeaning, action_digest, Outcome, Event, start, finish, lose, State, opening, job_of, MeaningFits, happens, Obeys, IsRun}
use Rattle.verifier.specs.Headline.{IsConcerned}
use Rattle.verifier.proofs.FreshRuns.{one_answer}
use Rattle.runs.specs.Calls.{IsStarted, IsFinished, IsOpened, without_job}
use Rattle.runs.specs.Engine.{FinishedValue, JobValue, EngineValue, IsEngine, finished_in, job_in}
use Rattle.runs.specs.Mirrors.{Mirrors, IsBlobOfMeaning, IsConcernedIn, IsMirrored, nothing_told}
use Rattle.runs.specs.declared.starting.Job.{Job}
use Rattle.runs.proofs.Finishes.{finished_is_engine, finish_event}
use Rattle.runs.proofs.Lost.{lost_engine, job_there, lost_event}
use Rattle.runs.proofs.Opened.{opened_mirrors}
use Rattle.runs.proofs.Starts.{started_engine, started_event}
use Rattle.verifier.proofs.Finishing.{run_more}
use Rattle.worker.specs.Calls.{Call, started, launched, ran, taken, lost, WasStarted, Does, Leads, IsLed}
use Rattle.worker.specs.Outcomes.{Yields}
use Rattle.worker.proofs.Acts.{calls_same, led_same}
use Rattle.worker.proofs.Telling.{told_still}
use Rattle.builder.specs.AsRun.{FinishedWith, IsAbout, IsARun}
use Rattle.builder.proofs.Staying.{together_stays}

-- what was opened by right blobs is opened where they stay
opened_still : (B C : Blobs) (plan : PlanValue) (sources : DigestValue) (e : EngineValue) → KeepsRight B C → IsOpened B plan sources e → IsOpened C plan sources e
opened_still B C plan sources e keeps o = record {
  plan = o.plan;
  sources = o.sources;
  told = record {
    frames_count = o.told.frames_count;
    commands_count = o.told.commands_count;
    each = λ i s f c a b d. let h = o.told.each i s f c a b d in (record { frame = told_still keeps h.0.frame; command = told_still keeps h.0.command }, h.1);
  };
  none_finished = o.none_finished;
  none_runs = o.none_runs;
}

started_still : {A : Type 0} (B C : Blobs) (i : ℕ) (old new : EngineValue) (job : Job A) → KeepsRight B C → IsStarted B i old new job → IsStarted C i old new job
started_still B C i old new job keeps s = let p = s.prepared in record {
  prepared = record {
    planned = p.planned;
    at = p.at;
    tree = p.tree;
    together = together_stays keeps {old = old} {new = old} (record { sources = refl; finished = λ k f at. at }) p.planned.lines p.tree p.together;
    number = p.number;
    of_step = p.of_step;
    frame = p.frame;
    input = p.input;
    command = p.command;
    digest = p.digest;
    folded = p.folded;
  };
  least = s.least;
  few = s.few;
  after = s.after;
}

-- ---- what has finished stays

module _ (A : Type 0) (y : Yields) (told : Telling) where
  -- what has finished in the one, has in the other
  abbrev Grown : EngineValue → EngineValue → Type 0
  Grown old new = (i : ℕ) (f : FinishedValue) → finished_in i old ≡ Some f → finished_in i new ≡ Some f

  -- ---- from call to call

  module _ (most : ℕ) (plan : PlanValue) (sources : DigestValue) (valid : IsPlan plan) (all : List Call) (last : EngineValue) (last_plan : last.plan ≡ plan) (t : Tree Leaf) (meaning : Meaning) (X : List (ActionMeaning × Outcome))
      (about : IsAbout plan sources told.blobs all last t meaning X) where
    -- a run leads to a state that the engine mirrors
    record IsAt (e : EngineValue) : Type 0 where
      engine : IsEngine e
      plan_is : e.plan ≡ plan
      events : List Event
      state : State
      run : IsRun X plan meaning t opening events state
      mirrors : Mirrors e t meaning state

    concerned : (B : Blobs) (e : EngineValue) (es : List Event) → ((b : List ℕ) → IsValue B b → IsValue told.blobs b) → e.plan ≡ plan → Grown e last → (b : List ℕ) → IsConcernedIn B e meaning t es b → IsConcernedIn told.blobs last meaning t es b
    concerned B e es more same grown b (inr (inr (i, f, at, p, m, inside, directory, among, spelled))) = inr (inr (i, f, grown i f at, p, m, inside, directory, among, spelled))
    concerned B e es more same grown b (inr (inl h)) = inr (inl h)
    concerned B e es more same grown b (inl h) = inl (subst (λ p. IsConcerned told.blobs p meaning t [] es b) (same ∙ sym last_plan) (by h))
      where
        by : IsConcerned B e.plan meaning t [] es b → IsConcerned told.blobs e.plan meaning t [] es b
        by (inl (inl value)) = inl (inl (more b value))
        by (inl (inr (m, is, value, directory, inside, spelled))) = inl (inr (m, is, more (tree_bytes m) value, directory, inside, spelled))
        by (inr other) = inr other

    mirrored : (B : Blobs) (e : EngineValue) → ((b : List ℕ) → IsValue B b → IsValue told.blobs b) → (h : IsAt e) → Grown e last → IsMirrored B e (record { tree = t; meaning = meaning; table = X; events = h.events; now = h.state })
    mirrored B e more h grown = record {
      ordered = about.ordered;
      fits = subst (λ p. MeaningFits p meaning) (sym h.plan_is) about.fits;
      table = about.table;
      happened = subst (λ p. IsRun X p meaning t opening h.events h.state) (sym h.plan_is) h.run;
      mirrors = h.mirrors;
      apart = λ a b one other same. about.apart h.events h.state h.run a b (concerned B e h.events more h.plan_is grown a one) (concerned B e h.events more h.plan_is grown b other) same;
    }

    nothing : (b : List ℕ) → IsValue nothing_told b → IsValue told.blobs b
    nothing b (d, at) = absurd cc

    next_at : (old new : EngineValue) → (h : IsAt old) → IsEngine new → new.plan ≡ old.plan → (e : Event) → Obeys X h.state e → (next : State) → happens old.plan meaning t h.state e ≡ Some next → Mirrors new t meaning next → IsAt new
    next_at old new h engine same e obeys next happened mirrors = record {
      engine = engine;
      plan_is = same ∙ h.plan_is;
      events = h.events ++ e ∷ [];
      state = next;
      run = run_more X plan meaning t opening h.events h.state e next h.run obeys (subst (λ p. happens p meaning t h.state e ≡ Some next) h.plan_is happened);
      mirrors = mirrors;
    }

    started_at : (i id : ℕ) (old new : EngineValue) → WasStarted A told.blobs i id old new → (h : IsAt old) → Grown old last → IsAt new
    started_at i id old new w h grown =
        let is : IsStarted told.blobs i old new w.job = started_still w.told told.blobs i old new w.job w.still w.is in
        let event = (started_event told.blobs i old new w.job (subst IsPlan (sym h.plan_is) valid) h.engine is).of_run (record { tree = t; meaning = meaning; table = X; events = h.events; now = h.state }) (mirrored told.blobs old (λ b value. value) h grown) in
        let j : JobValue = record { step = i; action = w.job.digest; input = w.job.action.input } in
        next_at old new h
        (subst IsEngine (sym is.after) (started_engine old w.job.id j h.engine is.least is.few (slice_get_within old.plan.steps i is.prepared.planned is.prepared.at)))
        (ap (λ (e : EngineValue). e.plan) is.after) (start i w.job.id) tt event.3.0 event.3.1 event.3.2

    finished_at : (id : ℕ) (d : DigestValue) (v : OutcomeValue) (old new : EngineValue) → (f : IsFinished id v old new) → f.job.action ≡ d → FinishedWith all d v → (h : IsAt old) → Grown old last → IsAt new
    finished_at id d v old new f action with_it h grown =
        let job = job_there old t meaning X h.state h.mirrors id f.job f.is in
        let digest : d ≡ action_digest job.0.1 = sym action ∙ ap (λ (j : JobValue). j.action) job.2 in
        let says = about.says h.events h.state h.run id job.0 job.1 v (subst (λ e. FinishedWith all e v) digest with_it) in
        let obeys : Obeys X h.state (finish id says.0) = λ other at. subst (λ (q : ℕ × ActionMeaning). Contains X (q.1, says.0)) (one_answer (job_of id h.state) job.0 other job.1 at) says.1 in
        let event = (finish_event old new id v h.engine f).of_run (record { tree = t; meaning = meaning; table = X; events = h.events; now = h.state }) (mirrored nothing_told old nothing h grown) says.0 obeys says.2 in
        next_at old new h (subst IsEngine (sym f.after) (finished_is_engine old id f.job v h.engine f.is f.taken)) (ap (λ (e : EngineValue). e.plan) f.after) (finish id says.0) obeys event.0 event.1 event.2

    lost_at : (id : ℕ) (j : JobValue) (old new : EngineValue) → job_in id old ≡ Some j → new ≡ without_job id old → (h : IsAt old) → Grown old last → IsAt new
    lost_at id j old new at gone h grown =
        let event = (lost_event old id j at).of_run (record { tree = t; meaning = meaning; table = X; events = h.events; now = h.state }) (mirrored nothing_told old nothing h grown) in
        subst IsAt (sym gone) (next_at old (without_job id old) h (lost_engine old id h.engine) refl (lose id) tt event.0 event.1 event.2)

    -- ---- all calls

    abbrev AreAmong : List Call → Type 0
    AreAmong cs = (d : DigestValue) (v : OutcomeValue) → FinishedWith cs d v → FinishedWith all d v

    does_at : (later : List Call) (c : Call) → AreAmong (c ∷ later) → (old new : EngineValue) → Does A y told later c old new → IsAt old → Grown old last → IsAt new
    does_at later (started i id) up old new w h grown = started_at i id old new w h grown
    does_at later (launched id d x) up old new w h grown = subst IsAt (sym w.same) h
    does_at later (ran id d v) up old new w h grown = finished_at id d v old new w.finished w.action (up d v (inl (id, (0, omega arith, refl)))) h grown
    does_at later (taken id d v) up old new w h grown = finished_at id d v old new w.finished w.action (up d v (inr (id, (0, omega arith, refl)))) h grown
    does_at later (lost id) up old new (j, at, gone) h grown = lost_at id j old new at gone h grown

    behind : (c : Call) (cs : List Call) → AreAmong (c ∷ cs) → AreAmong cs
    behind c cs up d v (inl (id, (k, lt, is))) = up d v (inl (id, (suc k, omega (arith, lt), is)))
    behind c cs up d v (inr (id, (k, lt, is))) = up d v (inr (id, (suc k, omega (arith, lt), is)))

    leads_at : (cs : List Call) → AreAmong cs → (e : EngineValue) → Leads A y told most cs e last → IsAt e → IsAt last
    leads_at [] up e same h = subst IsAt (sym same) h
    leads_at (c ∷ cs) up e (mid, does, few, rest) h = leads_at cs (behind c cs up) mid rest (does_at cs c up e mid does h (calls_same A y told most (c ∷ cs) e last (mid, does, few, rest)).finished)

    opened_at : (first : EngineValue) → IsEngine first → IsOpened told.blobs plan sources first → IsAt first
    opened_at first engine opened = record {
      engine = engine;
      plan_is = opened.plan;
      events = [];
      state = opening;
      run = refl;
      mirrors = (opened_mirrors told.blobs plan sources first opened).mirrors t meaning (about.root_is ∙ sym opened.sources) (subst (λ p. MeaningFits p meaning) (sym opened.plan) about.fits)
          (λ a b one other same. about.apart [] opening refl a b (of a one) (of b other) same);
    }
      where
        of : (b : List ℕ) → IsValue told.blobs b ⊎ IsBlobOfMeaning meaning b → IsConcernedIn told.blobs last meaning t [] b
        of b (inl value) = inl (inl (inl value))
        of b (inr m) = inr (inl (inl m))

pub as_run : (A : Type 0) (y : Yields) (plan : PlanValue) (sources : DigestValue) (before told : Telling) (most : ℕ) (first last : EngineValue) → IsPlan plan → IsEngine first → IsOpened before.blobs plan sources first → KeepsRight before.blobs told.blobs
    → (led : IsLed A y told most first last) → (t : Tree Leaf) (meaning : Meaning) (X : List (ActionMeaning × Outcome)) → IsAbout plan sources told.blobs led.calls last t meaning X → IsARun told.blobs last t meaning X
as_run A y plan sources before told most first last valid engine opened still led t meaning X about =
    let same : last.plan ≡ plan = (led_same A y told most led).plan ∙ opened.plan in
    let at = leads_at A y told most plan sources valid led.calls last same t meaning X about led.calls (λ d v h. h) first led.leads
    (opened_at A y told most plan sources valid led.calls last same t meaning X about first engine (opened_still before.blobs told.blobs plan sources first still opened)) in
    record { events = at.events; state = at.state; mirrored = mirrored A y told most plan sources valid led.calls last same t meaning X about told.blobs last (λ b value. value) at (λ i f there. there) }
