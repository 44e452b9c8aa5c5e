-- The action of each step that has finished, and of each result that was put.
use Rattle.std.proofs.Common.{◌≡◌, ℕ, zero, suc, ◌≤◌, List, [], ◌∷◌, length, set, Option, Some, None, refl, ap, sym, ◌∙◌, subst, inl, inr, arith}
use Rattle.std.specs.Prelude.{◌⊎◌}
use Rattle.std.specs.List.{AllByRecursion}
use Rattle.blob_digest.specs.Digest.{DigestValue}
use Rattle.blob_source.specs.Source.{Blobs, Telling}
use Rattle.actions.specs.Outcome.{OutcomeValue}
use Rattle.runs.specs.Calls.{IsFinished, placed}
use Rattle.runs.specs.Engine.{FinishedValue, JobValue, EngineValue, at_number, finished_in, job_in}
use Rattle.runs.proofs.Places.{set_at}
use Rattle.worker.specs.Calls.{Call, started, launched, ran, taken, lost, running, CameTo, HasChildsResult, WasStarted, FinishedByChild, Does, Leads, IsLed, IsBuiltBy}
use Rattle.worker.specs.Outcomes.{Yields}
use Rattle.worker.specs.Steps.{IsSameBuild, IsActionOf}
use Rattle.worker.specs.Stored.{HasNoneFinished}
use Rattle.worker.proofs.Jobs.{least_within, running_set}
use Rattle.worker.proofs.Started.{after, job_of, least}
use Rattle.worker.proofs.Storing.{grows, which}

-- what stands where a job was placed: the job, or what stood there
placed_at : (js : List (Option JobValue)) (w v : ℕ) (j k : JobValue) → w ≤ length js → at_number (placed js w j) v ≡ Some k → (j ≡ k) ⊎ (at_number js v ≡ Some k)
placed_at [] zero zero j k le h = inl cc
placed_at [] zero (suc v) j k le h = inr h
placed_at [] (suc w) v j k le h = absurd (omega arith)
placed_at (o ∷ js) zero zero j k le h = inl cc
placed_at (o ∷ js) zero (suc v) j k le h = inr h
placed_at (o ∷ js) (suc w) zero j k le h = inr h
placed_at (o ∷ js) (suc w) (suc v) j k le h = placed_at js w v j k (omega arith) h

no_job : (js : List (Option JobValue)) (w : ℕ) (j : JobValue) → running js ≡ 0 → at_number js w ≡ Some j → ⊥
no_job js w j none at = let one = running_set js w j at in omega (arith, one, none)

no_step : (o : Option FinishedValue) (f : FinishedValue) → o ≡ None → o ≡ Some f → ⊥
no_step o f e h = cc

pub same_build : (e : EngineValue) → IsSameBuild e e
same_build e = record { plan = refl; sources = refl; frames = refl; commands = refl; finished = λ i f at. at }

pub same_then : {old mid new : EngineValue} → IsSameBuild old mid → IsSameBuild mid new → IsSameBuild old new
same_then h k = record {
  plan = k.plan ∙ h.plan;
  sources = k.sources ∙ h.sources;
  frames = k.frames ∙ h.frames;
  commands = k.commands ∙ h.commands;
  finished = λ i f at. k.finished i f (h.finished i f at);
}

pub only_jobs : (old new : EngineValue) (js : List (Option JobValue)) → new ≡ record old { jobs = js } → IsSameBuild old new
only_jobs old new js is = record {
  plan = ap (λ (e : EngineValue). e.plan) is;
  sources = ap (λ (e : EngineValue). e.sources) is;
  frames = ap (λ (e : EngineValue). e.frames) is;
  commands = ap (λ (e : EngineValue). e.commands) is;
  finished = λ i f at. ap (λ (e : EngineValue). finished_in i e) is ∙ at;
}

pub finishing : {id : ℕ} {v : OutcomeValue} {old new : EngineValue} → IsFinished id v old new → IsSameBuild old new
finishing h = record {
  plan = ap (λ (e : EngineValue). e.plan) h.after;
  sources = ap (λ (e : EngineValue). e.sources) h.after;
  frames = ap (λ (e : EngineValue). e.frames) h.after;
  commands = ap (λ (e : EngineValue). e.commands) h.after;
  finished = grows h;
}

module _ (A : Type 0) (B : Blobs) where
  -- the jobs and the steps that have finished have the digests of their actions
  record AreActions (e : EngineValue) : Type 0 where
    jobs : (w : ℕ) (j : JobValue) → job_in w e ≡ Some j → IsActionOf A B e j.step j.action
    steps : (i : ℕ) (f : FinishedValue) → finished_in i e ≡ Some f → IsActionOf A B e i f.action

  action_still : (old new : EngineValue) → IsSameBuild old new → (i : ℕ) (d : DigestValue) → IsActionOf A B old i d → IsActionOf A B new i d
  action_still old new s i d a = record {
    told = a.told;
    still = a.still;
    at = a.at;
    same = same_then a.same s;
    job = a.job;
    prepared = a.prepared;
    digest = a.digest;
  }

  one_started : (i id : ℕ) (old new : EngineValue) → WasStarted A B i id old new → AreActions old → AreActions new
  one_started i id old new w a =
      let same : IsSameBuild old new = only_jobs old new (placed old.jobs id (job_of w)) (after w) in
      record {
        jobs = λ v k at. by same v k (placed_at old.jobs id v (job_of w) k (least_within old.jobs id (least w)) (sym (ap (λ (e : EngineValue). job_in v e) (after w)) ∙ at));
        steps = λ k f at. action_still old new same k f.action (a.steps k f (sym (ap (λ (e : EngineValue). finished_in k e) (after w)) ∙ at));
      }
    where
      by : IsSameBuild old new → (v : ℕ) (k : JobValue) → (job_of w ≡ k) ⊎ (at_number old.jobs v ≡ Some k) → IsActionOf A B new k.step k.action
      by same v k (inl is) = subst (λ (j : JobValue). IsActionOf A B new j.step j.action) is
          (record { told = w.told; still = w.still; at = old; same = same; job = w.job; prepared = w.is.prepared; digest = refl })
      by same v k (inr was) = action_still old new same k.step k.action (a.jobs v k was)

  one_finished : (id : ℕ) (v : OutcomeValue) (old new : EngineValue) → IsFinished id v old new → AreActions old → AreActions new
  one_finished id v old new h a = record {
    jobs = λ w k at. action_still old new (finishing h) k.step k.action
        (a.jobs w k (set_at old.jobs id w None k (sym (ap (λ (e : EngineValue). job_in w e) h.after) ∙ at) (λ e. cc)));
    steps = λ i f at. by i f (which h i f at);
  }
    where
      by : (i : ℕ) (f : FinishedValue) → (finished_in i old ≡ Some f) ⊎ ((i ≡ h.job.step) × (f ≡ record { action = h.job.action; outcome = v })) → IsActionOf A B new i f.action
      by i f (inl was) = action_still old new (finishing h) i f.action (a.steps i f was)
      by i f (inr (step, is)) = subst (λ k. IsActionOf A B new k f.action) (sym step) (subst (λ (x : FinishedValue). IsActionOf A B new h.job.step x.action) (sym is)
          (action_still old new (finishing h) h.job.step h.job.action (a.jobs id h.job h.is)))

  one_lost : (id : ℕ) (old new : EngineValue) (js : List (Option JobValue)) → new ≡ record old { jobs = js } → ((w : ℕ) (k : JobValue) → at_number js w ≡ Some k → at_number old.jobs w ≡ Some k)
      → AreActions old → AreActions new
  one_lost id old new js is fewer a =
      let same : IsSameBuild old new = only_jobs old new js is in
      record {
        jobs = λ w k at. action_still old new same k.step k.action (a.jobs w k (fewer w k (sym (ap (λ (e : EngineValue). job_in w e) is) ∙ at)));
        steps = λ i f at. action_still old new same i f.action (a.steps i f (sym (ap (λ (e : EngineValue). finished_in i e) is) ∙ at));
      }

module _ (A : Type 0) (y : Yields) (t : Telling) (most : ℕ) where
  call_same : (later : List Call) (c : Call) (old new : EngineValue) → Does A y t later c old new → IsSameBuild old new
  call_same later (started i id) old new w = only_jobs old new (placed old.jobs id (job_of w)) (after w)
  call_same later (launched id d x) old new w = subst (IsSameBuild old) (sym w.same) (same_build old)
  call_same later (ran id d v) old new w = finishing w.finished
  call_same later (taken id d v) old new w = finishing w.finished
  call_same later (lost id) old new (j, at, gone) = only_jobs old new (set old.jobs id None) gone

  pub calls_same : (cs : List Call) (old new : EngineValue) → Leads A y t most cs old new → IsSameBuild old new
  calls_same [] old new same = subst (IsSameBuild old) (sym same) (same_build old)
  calls_same (c ∷ cs) old new (mid, does, few, rest) = same_then (call_same cs c old mid does) (calls_same cs mid new rest)

  pub led_same : {first last : EngineValue} → IsLed A y t most first last → IsSameBuild first last
  led_same {first} {last} led = calls_same led.calls first last led.leads

  one_call : (later : List Call) (c : Call) (old new : EngineValue) → Does A y t later c old new → AreActions A t.blobs old → AreActions A t.blobs new
  one_call later (started i id) old new w a = one_started A t.blobs i id old new w a
  one_call later (launched id d x) old new w a = subst (AreActions A t.blobs) (sym w.same) a
  one_call later (ran id d v) old new w a = one_finished A t.blobs id v old new w.finished a
  one_call later (taken id d v) old new w a = one_finished A t.blobs id v old new w.finished a
  one_call later (lost id) old new (j, at, gone) a = one_lost A t.blobs id old new (set old.jobs id None) gone (λ w k there. set_at old.jobs id w None k there (λ e. cc)) a

  all_calls : (cs : List Call) (old new : EngineValue) → Leads A y t most cs old new → AreActions A t.blobs old → AreActions A t.blobs new
  all_calls [] old new same a = subst (AreActions A t.blobs) (sym same) a
  all_calls (c ∷ cs) old new (mid, does, few, rest) a = all_calls cs mid new rest (one_call cs c old mid does a)

  begun : (first : EngineValue) → HasNoneFinished first → running first.jobs ≡ 0 → AreActions A t.blobs first
  begun first none idle = record { jobs = λ w j at. absurd (no_job first.jobs w j idle at); steps = λ i f at. absurd (no_step (finished_in i first) f (none i) at) }

  pub steps_act : (first last : EngineValue) → IsLed A y t most first last → HasNoneFinished first → running first.jobs ≡ 0
      → (i : ℕ) (f : FinishedValue) → finished_in i last ≡ Some f → IsActionOf A t.blobs last i f.action
  steps_act first last led none idle = let a = all_calls led.calls first last led.leads (begun first none idle) in a.steps

  -- what a child came to was of a job, and that of a step
  came_acts : (cs : List Call) (old new : EngineValue) → Leads A y t most cs old new → AreActions A t.blobs old → (d : DigestValue) (v : OutcomeValue) → CameTo cs d v → (i : ℕ) × IsActionOf A t.blobs new i d
  came_acts [] old new same a d v (id, (k, lt, is)) = absurd (omega (arith, lt))
  came_acts (c ∷ cs) old new (mid, does, few, rest) a d v (id, (suc k, lt, is)) = came_acts cs mid new rest (one_call cs c old mid does a) d v (id, (k, omega (arith, lt), is))
  came_acts (c ∷ cs) old new (mid, does, few, rest) a d v (id, (zero, lt, is)) =
      let ended : FinishedByChild y t id d v old mid = subst (λ c. Does A y t cs c old mid) is does in
      let job = ended.finished.job in (
        job.step,
        action_still A t.blobs old new (same_then (finishing ended.finished) (calls_same cs mid new rest)) job.step d
            (subst (IsActionOf A t.blobs old job.step) ended.action (a.jobs id job ended.finished.is)),
      )

  pub puts_act : (before : Telling) (first last : EngineValue) → (built : IsBuiltBy A y before t most first last) → HasNoneFinished first → running first.jobs ≡ 0
      → AllByRecursion (λ d. (i : ℕ) × IsActionOf A t.blobs last i d) built.puts.put
  puts_act before first last built none idle = by built.puts.put built.puts.each
    where
      by : (put : List DigestValue) → AllByRecursion (HasChildsResult built.led.calls t.results) put → AllByRecursion (λ d. (i : ℕ) × IsActionOf A t.blobs last i d) put
      by [] h = tt
      by (d ∷ put) h = (came_acts built.led.calls first last built.led.leads (begun first none idle) d h.0.outcome h.0.came, by put h.1)
