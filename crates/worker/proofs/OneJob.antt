-- A step of which a job runs hasn't finished, and no other job of it runs.
use Rattle.std.proofs.Common.{◌≡◌, ◌≢◌, ℕ, ◌+◌, ◌<◌, true, false, List, [], ◌∷◌, length, set, Some, None, refl, ap, sym, ◌∙◌, subst, arith, inl, inr}
use Rattle.std.specs.Prelude.{◌⊎◌, ◌==◌}
use Rattle.std.proofs.lemmas.Bool.Decides.{eqb_tells}
use Rattle.blob_source.specs.Source.{Blobs, Telling}
use Rattle.actions.specs.Outcome.{OutcomeValue}
use Rattle.runs.specs.Engine.{FinishedValue, JobValue, EngineValue, IsEngine, at_number, finished_in, job_in}
use Rattle.runs.specs.Calls.{IsFinished, first_kept, runs_step, jobs_of}
use Rattle.runs.proofs.Places.{set_same}
use Rattle.worker.specs.Calls.{running, Call, started, launched, ran, taken, lost, WasStarted, Does, IsLeastStartable, IsNext, Leads}
use Rattle.worker.specs.Outcomes.{Yields}
use Rattle.worker.proofs.Complete.{none_of}
use Rattle.worker.proofs.Jobs.{least_within}
use Rattle.worker.proofs.Lefts.{kept_other, one_fewer, one_more, other_step, own_step}
use Rattle.worker.proofs.Started.{job_of, after, least}

-- no job of the step runs; or one does, and it hasn't finished
abbrev IsRunOnce : EngineValue → ℕ → Type 0
IsRunOnce e i = (jobs_of i e.jobs ≡ 0) ⊎ ((jobs_of i e.jobs ≡ 1) × (finished_in i e ≡ None))

abbrev pub AreRunOnce : EngineValue → Type 0
AreRunOnce e = (i : ℕ) → IsRunOnce e i

pub none_runs : (e : EngineValue) → running e.jobs ≡ 0 → AreRunOnce e
none_runs e idle i = inl (none_of i e.jobs idle)

alike : (old new : EngineValue) (i : ℕ) → jobs_of i new.jobs ≡ jobs_of i old.jobs → finished_in i new ≡ finished_in i old → IsRunOnce old i → IsRunOnce new i
alike old new i jobs finished (inl none) = inl (jobs ∙ none)
alike old new i jobs finished (inr (one, unfinished)) = inr (jobs ∙ one, finished ∙ unfinished)

one_started : {A : Type 0} {B : Blobs} {i id : ℕ} {old mid : EngineValue} → WasStarted A B i id old mid → IsLeastStartable old i → AreRunOnce old → AreRunOnce mid
one_started {A} {B} {i} {id} {old} {mid} w next once k = by (eqb_tells k i)
  where
    count : jobs_of k mid.jobs ≡ runs_step k (Some (job_of w)) + jobs_of k old.jobs
    count = ap (λ (e : EngineValue). jobs_of k e.jobs) (after w) ∙ one_more k old.jobs id (job_of w) (least_within old.jobs id (least w)) (least w).free

    still : finished_in k mid ≡ finished_in k old
    still = ap (λ (e : EngineValue). finished_in k e) (after w)

    by : (((k == i) ≡ true) × (k ≡ i)) ⊎ (((k == i) ≡ false) × (k ≢ i)) → IsRunOnce mid k
    by (inl h) =
        let own = own_step (job_of w) k (sym h.1) in
        let idle : jobs_of k old.jobs ≡ 0 = subst (λ n. jobs_of n old.jobs ≡ 0) (sym h.1) next.startable.waiting.idle in
        inr (omega (arith, count, own, idle), still ∙ subst (λ n. finished_in n old ≡ None) (sym h.1) next.startable.waiting.unfinished)
    by (inr h) = let other = other_step (job_of w) k h.1 in alike old mid k (omega (arith, count, other)) still (once k)

-- a job is gone, and no other step has finished
one_gone : (id : ℕ) (j : JobValue) (old new : EngineValue) → job_in id old ≡ Some j → new.jobs ≡ set old.jobs id None → ((k : ℕ) → k ≢ j.step → finished_in k new ≡ finished_in k old) → AreRunOnce old → AreRunOnce new
one_gone id j old new at gone still once k = by (eqb_tells k j.step) (once k)
  where
    count : jobs_of k old.jobs ≡ runs_step k (Some j) + jobs_of k new.jobs
    count = one_fewer k old.jobs id j at ∙ ap (λ js. runs_step k (Some j) + jobs_of k js) (sym gone)

    by : (((k == j.step) ≡ true) × (k ≡ j.step)) ⊎ (((k == j.step) ≡ false) × (k ≢ j.step)) → IsRunOnce old k → IsRunOnce new k
    by (inl h) (inl none) = let own = own_step j k (sym h.1) in absurd (omega (arith, count, own, none))
    by (inl h) (inr (one, unfinished)) = let own = own_step j k (sym h.1) in inl (omega (arith, count, own, one))
    by (inr h) was = let other = other_step j k h.1 in alike old new k (omega (arith, count, other)) (still k h.1) was

one_finished : (id : ℕ) (v : OutcomeValue) (old new : EngineValue) → IsFinished id v old new → AreRunOnce old → AreRunOnce new
one_finished id v old new h once = one_gone id h.job old new h.is (ap (λ (e : EngineValue). e.jobs) h.after)
    (λ k other. ap (λ (e : EngineValue). finished_in k e) h.after ∙ kept_other old.finished (finished_in h.job.step old) h.job.step k (record { action = h.job.action; outcome = v }) other) once

-- the step of a job that finishes has then what the job came to
pub kept_first : {id : ℕ} {v : OutcomeValue} {old new : EngineValue} → AreRunOnce old → IsEngine old → (h : IsFinished id v old new) → finished_in h.job.step new ≡ Some (record { action = h.job.action; outcome = v })
kept_first {id} {v} {old} {new} once valid h =
    ap (λ (e : EngineValue). finished_in h.job.step e) h.after ∙ ap (λ o. at_number (first_kept o old.finished h.job.step came) h.job.step) (by (once h.job.step)) ∙ set_same old.finished h.job.step (Some came) within
  where
    came : FinishedValue
    came = record { action = h.job.action; outcome = v }

    within : h.job.step < length old.finished
    within = let lt = valid.running id h.job h.is in let count = valid.count in omega (arith, lt, count)

    by : IsRunOnce old h.job.step → finished_in h.job.step old ≡ None
    by (inl none) = let own = own_step h.job h.job.step refl in let count = one_fewer h.job.step old.jobs id h.job h.is in absurd (omega (arith, own, count, none))
    by (inr (one, unfinished)) = unfinished

module _ (A : Type 0) (y : Yields) (t : Telling) (most : ℕ) where
  one_call : (later : List Call) (c : Call) (old new : EngineValue) → Does A y t later c old new → IsNext most c old → AreRunOnce old → AreRunOnce new
  one_call later (started i id) old new w next once = one_started w next once
  one_call later (launched id d x) old new w next once = subst AreRunOnce (sym w.same) once
  one_call later (ran id d v) old new w next once = one_finished id v old new w.finished once
  one_call later (taken id d v) old new w next once = one_finished id v old new w.finished once
  one_call later (lost id) old new (j, at, gone) next once = one_gone id j old new at (ap (λ (e : EngineValue). e.jobs) gone) (λ k other. ap (λ (e : EngineValue). finished_in k e) gone) once

  pub leads_once : (cs : List Call) (old new : EngineValue) → Leads A y t most cs old new → AreRunOnce old → AreRunOnce new
  leads_once [] old new same once = subst AreRunOnce (sym same) once
  leads_once (c ∷ cs) old new (mid, does, few, rest) once = leads_once cs mid new rest (one_call cs c old mid does few.1 once)
