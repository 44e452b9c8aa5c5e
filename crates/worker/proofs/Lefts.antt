-- Each turn leaves fewer.
use Rattle.std.proofs.Common.{◌≡◌, ◌≢◌, ℕ, zero, suc, ◌+◌, ◌<◌, ◌≤◌, true, false, List, [], ◌∷◌, length, length-append, set, Option, Some, None, refl, ap, sym, ◌∙◌, subst, arith, inl, inr}
use Rattle.std.specs.Prelude.{◌⊎◌, ◌==◌, if◌then◌else◌, Result, Ok, Err, OnOk, IsSome}
use Rattle.std.proofs.lemmas.Bool.Decides.{eqb_tells, Decides-eqb}
use Rattle.actions.specs.Outcome.{OutcomeValue}
use Rattle.blob_source.specs.Source.{Telling}
use Rattle.runs.specs.Engine.{FinishedValue, JobValue, EngineValue, IsEngine, at_number, finished_in, job_in}
use Rattle.runs.specs.Calls.{IsFinished, first_kept, placed, runs_step, jobs_of, with_finished}
use Rattle.runs.proofs.Places.{set_same, set_other}
use Rattle.verifier.proofs.FreshRuns.{one_answer}
use Rattle.worker.specs.declared.child.Child.{Child}
use Rattle.worker.specs.Values.{EndValue, Starts}
use Rattle.worker.specs.Outcomes.{Yields}
use Rattle.worker.specs.Calls.{WasStarted, IsStartable}
use Rattle.worker.specs.Going.{IsLaunched, IsBegun, EndedWell, HasEndedFirst, one_if, weight, waiting_among, turns_left}
use Rattle.worker.proofs.Jobs.{least_within}
use Rattle.worker.proofs.Started.{job_of, job_is, after as started_after, least as started_least}

abbrev at_step : EngineValue → ℕ → ℕ
at_step e n = weight (finished_in n e) (jobs_of n e.jobs)

weight_le : (o : Option FinishedValue) (m n : ℕ) → m ≤ n → weight o n ≤ weight o m
weight_le (Some f) m n le = omega arith
weight_le None zero zero le = omega arith
weight_le None zero (suc n) le = omega arith
weight_le None (suc m) zero le = absurd (omega (arith, le))
weight_le None (suc m) (suc n) le = omega arith

waiting_le : (n : ℕ) (e f : EngineValue) → ((k : ℕ) → at_step f k ≤ at_step e k) → waiting_among n f ≤ waiting_among n e
waiting_le zero e f le = omega arith
waiting_le (suc n) e f le = let here = le n in let rest = waiting_le n e f le in omega (arith, here, rest)

waiting_lt : (n i : ℕ) (e f : EngineValue) → i < n → ((k : ℕ) → at_step f k ≤ at_step e k) → at_step f i < at_step e i → waiting_among n f < waiting_among n e
waiting_lt zero i e f lt le less = absurd (omega (arith, lt))
waiting_lt (suc n) i e f lt le less = by (eqb_tells i n) (λ l. waiting_lt n i e f l le less)
  where
    by : (((i == n) ≡ true) × (i ≡ n)) ⊎ (((i == n) ≡ false) × (i ≢ n)) → (i < n → waiting_among n f < waiting_among n e) → waiting_among (suc n) f < waiting_among (suc n) e
    by (inl h) rec = let here = subst (λ k. at_step f k < at_step e k) h.1 less in let rest = waiting_le n e f le in omega (arith, here, rest)
    by (inr h) rec = let other = h.1 in let here = le n in let rest = rec (omega (arith, other, lt)) in omega (arith, here, rest)

more : (a b : ℕ) → a + b ≡ a + (0 + b)
more a b = omega arith

sum_moved : (a b c d : ℕ) → b ≡ c + d → a + b ≡ c + (a + d)
sum_moved a b c d e = omega (arith, e)

pub one_more : (i : ℕ) (js : List (Option JobValue)) (w : ℕ) (j : JobValue) → w ≤ length js → at_number js w ≡ None → jobs_of i (placed js w j) ≡ runs_step i (Some j) + jobs_of i js
one_more i [] zero j le free = refl
one_more i [] (suc w) j le free = absurd (omega arith)
one_more i (None ∷ js) zero j le free = more (runs_step i (Some j)) (jobs_of i js)
one_more i (Some o ∷ js) zero j le free = absurd cc
one_more i (o ∷ js) (suc w) j le free = sum_moved (runs_step i o) (jobs_of i (placed js w j)) (runs_step i (Some j)) (jobs_of i js) (one_more i js w j (omega arith) free)

pub one_fewer : (i : ℕ) (js : List (Option JobValue)) (w : ℕ) (j : JobValue) → at_number js w ≡ Some j → jobs_of i js ≡ runs_step i (Some j) + jobs_of i (set js w None)
one_fewer i [] w j is = absurd cc
one_fewer i (o ∷ js) zero j is = ap (λ q. runs_step i q + jobs_of i js) is ∙ more (runs_step i (Some j)) (jobs_of i js)
one_fewer i (o ∷ js) (suc w) j is = sum_moved (runs_step i o) (jobs_of i js) (runs_step i (Some j)) (jobs_of i (set js w None)) (one_fewer i js w j is)

pub own_step : (j : JobValue) (i : ℕ) → j.step ≡ i → runs_step i (Some j) ≡ 1
own_step j i same = ap (λ b. if b then 1 else 0) ((Decides-eqb j.step i).1 same)

pub other_step : (j : JobValue) (i : ℕ) → i ≢ j.step → runs_step i (Some j) ≡ 0
other_step j i other = by (eqb_tells j.step i)
  where
    by : (((j.step == i) ≡ true) × (j.step ≡ i)) ⊎ (((j.step == i) ≡ false) × (j.step ≢ i)) → runs_step i (Some j) ≡ 0
    by (inl h) = absurd (other (sym h.1))
    by (inr h) = ap (λ b. if b then 1 else 0) h.0

pub one_there : (o : Option FinishedValue) → IsSome o → one_if o ≡ 1
one_there None some = absurd cc
one_there (Some f) some = refl

-- what has finished behind a finish
pub kept_other : (fs : List (Option FinishedValue)) (o : Option FinishedValue) (i k : ℕ) (f : FinishedValue) → k ≢ i → at_number (first_kept o fs i f) k ≡ at_number fs k
kept_other fs (Some before) i k f other = refl
kept_other fs None i k f other = set_other fs i k (Some f) other

kept_here : (fs : List (Option FinishedValue)) (o : Option FinishedValue) (i : ℕ) (f : FinishedValue) → i < length fs → at_number fs i ≡ o → (g : FinishedValue) × (at_number (first_kept o fs i f) i ≡ Some g)
kept_here fs (Some before) i f lt is = (before, is)
kept_here fs None i f lt is = (f, set_same fs i (Some f) lt)

-- the step of a job that finished has
pub finished_at : (old new : EngineValue) (id i : ℕ) (v : OutcomeValue) (j : JobValue) → i < length old.finished → IsFinished id v old new → job_in id old ≡ Some j → j.step ≡ i → IsSome (finished_in i new)
finished_at old new id i v j lt f at of =
    let same : f.job ≡ j = one_answer (job_in id old) f.job j f.is at in
    let step : f.job.step ≡ i = ap (λ (r : JobValue). r.step) same ∙ of in
    let here = kept_here old.finished (finished_in f.job.step old) f.job.step (record { action = f.job.action; outcome = v }) (omega (arith, step, lt)) refl in
    let there : finished_in f.job.step new ≡ Some here.0 = ap (finished_in f.job.step) f.after ∙ here.1 in
    subst (λ n. IsSome (finished_in n new)) step (subst IsSome (sym there) refl)

pub finished_there : (old new : EngineValue) (id i : ℕ) (v : OutcomeValue) (j : JobValue) → IsEngine old → IsFinished id v old new → job_in id old ≡ Some j → j.step ≡ i → IsSome (finished_in i new)
finished_there old new id i v j k f at of =
    let lt = k.running id j at in
    let count = k.count in
    finished_at old new id i v j (omega (arith, lt, count, of)) f at of

-- behind a finish, against an engine with the same finished steps and as many jobs of the others
finished_le : (e m : EngineValue) (w : ℕ) (j : JobValue) (v : OutcomeValue) → m.finished ≡ e.finished → j.step < length e.finished
    → ((k : ℕ) → k ≢ j.step → jobs_of k (set m.jobs w None) ≡ jobs_of k e.jobs) → (at_step (with_finished w j v m) j.step ≡ 0) × ((k : ℕ) → at_step (with_finished w j v m) k ≤ at_step e k)
finished_le e m w j v same lt others = (none, λ k. by k (eqb_tells k j.step))
  where
    F : FinishedValue
    F = record { action = j.action; outcome = v }

    lt' : j.step < length m.finished
    lt' = subst (λ (fs : List (Option FinishedValue)). j.step < length fs) (sym same) lt

    none : at_step (with_finished w j v m) j.step ≡ 0
    none = let here = kept_here m.finished (finished_in j.step m) j.step (record { action = j.action; outcome = v }) lt' refl in ap (λ o. weight o (jobs_of j.step (set m.jobs w None))) here.1

    by : (k : ℕ) → (((k == j.step) ≡ true) × (k ≡ j.step)) ⊎ (((k == j.step) ≡ false) × (k ≢ j.step)) → at_step (with_finished w j v m) k ≤ at_step e k
    by k (inl h) = let zero_there : at_step (with_finished w j v m) k ≡ 0 = subst (λ n. at_step (with_finished w j v m) n ≡ 0) (sym h.1) none in omega (arith, zero_there)
    by k (inr h) =
        let f : finished_in k (with_finished w j v m) ≡ finished_in k e = kept_other m.finished (finished_in j.step m) j.step k (record { action = j.action; outcome = v }) h.1 ∙ ap (λ fs. at_number fs k) same in
        let both : at_step (with_finished w j v m) k ≡ at_step e k = ap (λ o. weight o (jobs_of k (set m.jobs w None))) f ∙ ap (weight (finished_in k e)) (others k h.1) in
        omega (arith, both)

waits : (e : EngineValue) (i : ℕ) → IsStartable e i → at_step e i ≡ 1
waits e i s = ap (λ o. weight o (jobs_of i e.jobs)) s.waiting.unfinished ∙ ap (weight None) s.waiting.idle

module _ (A J : Type 0) (y : Yields) (may : J → EndValue → Type 0) (from to : Starts) (t u : Telling) (now new : EngineValue) (k : IsEngine now) where
  -- a step was started
  begun_less : (i : ℕ) (cs ds : List (Child J)) → i < length now.plan.steps → IsStartable now i → IsBegun A y may from to t u i now new cs ds → turns_left new ds < turns_left now cs
  begun_less i cs ds lt s b = by b.goes
    where
      w : WasStarted A u.blobs i b.id now b.mid
      w = b.started

      one : at_step now i ≡ 1
      one = waits now i s

      grows : (n : ℕ) → jobs_of n (placed now.jobs b.id (job_of w)) ≡ runs_step n (Some (job_of w)) + jobs_of n now.jobs
      grows n = one_more n now.jobs b.id (job_of w) (least_within now.jobs b.id (started_least w)) (started_least w).free

      mid_le : (n : ℕ) → at_step b.mid n ≤ at_step now n
      mid_le n = subst (λ (e : EngineValue). at_step e n ≤ at_step now n) (sym (started_after w)) (let m = grows n in weight_le (finished_in n now) (jobs_of n now.jobs) (jobs_of n (placed now.jobs b.id (job_of w))) (omega (arith, m)))

      mid_here : at_step b.mid i ≡ 0
      mid_here = subst (λ (e : EngineValue). at_step e i ≡ 0) (sym (started_after w))
          (ap (λ o. weight o (jobs_of i (placed now.jobs b.id (job_of w)))) s.waiting.unfinished ∙ ap (weight None) (grows i ∙ ap (λ n. n + jobs_of i now.jobs) (own_step (job_of w) i refl) ∙ ap (λ n. 1 + n) s.waiting.idle))

      plan_mid : b.mid.plan ≡ now.plan
      plan_mid = ap (λ (e : EngineValue). e.plan) (started_after w)

      by : IsLaunched y may from to t u b.id b.job b.mid new cs ds → turns_left new ds < turns_left now cs
      by (inl (c, id, own, same, after)) =
          let here = mid_here in
          let was = one in
          let less = waiting_lt (length now.plan.steps) i now b.mid lt mid_le (omega (arith, here, was)) in
          let len = ap length after ∙ length-append cs (c ∷ []) in
          let whole : waiting_among (length new.plan.steps) new ≡ waiting_among (length now.plan.steps) b.mid = ap (λ (e : EngineValue). waiting_among (length e.plan.steps) e) same ∙ ap (λ p. waiting_among (length p.steps) b.mid) plan_mid in
          omega (arith, less, len, whole)
      by (inr (v, f, held, after, quiet)) =
          let q : f.job ≡ (job_of w) = one_answer (job_in b.id b.mid) f.job (job_of w) f.is (job_is w) in
          let step : f.job.step ≡ i = ap (λ (r : JobValue). r.step) q in
          let same : b.mid.finished ≡ now.finished = ap (λ (e : EngineValue). e.finished) (started_after w) in
          let jobs_mid : b.mid.jobs ≡ placed now.jobs b.id (job_of w) = ap (λ (e : EngineValue). e.jobs) (started_after w) in
          let count = k.count in
          let within : f.job.step < length now.finished = omega (arith, step, count, lt) in
          let others : (n : ℕ) → n ≢ f.job.step → jobs_of n (set b.mid.jobs b.id None) ≡ jobs_of n now.jobs
          = λ n other.
          let fewer = one_fewer n b.mid.jobs b.id f.job f.is in
          let nil = other_step f.job n other in
          let grown = ap (jobs_of n) jobs_mid ∙ grows n in
          let nil' = other_step (job_of w) n (λ e. other (e ∙ sym step)) in
          omega (arith, fewer, nil, grown, nil') in
          let le = finished_le now b.mid b.id f.job v same within others in
          let here = subst (λ n. at_step (with_finished b.id f.job v b.mid) n ≡ 0) step le.0 in
          let was = one in
          let less = waiting_lt (length now.plan.steps) i now (with_finished b.id f.job v b.mid) lt le.1 (omega (arith, here, was)) in
          let len = ap length after in
          let whole : waiting_among (length new.plan.steps) new ≡ waiting_among (length now.plan.steps) (with_finished b.id f.job v b.mid)
          = ap (λ (e : EngineValue). waiting_among (length e.plan.steps) e) f.after ∙ ap (λ p. waiting_among (length p.steps) (with_finished b.id f.job v b.mid)) plan_mid in
          omega (arith, less, len, whole)

  pub start_less : {T E : Type 0} (r : Result T E) (i : ℕ) (cs ds : List (Child J)) → i < length now.plan.steps → IsStartable now i → OnOk r (IsBegun A y may from to t u i now new cs ds) → OnOk r (turns_left new ds < turns_left now cs)
  start_less (Ok x) i cs ds lt s b = begun_less i cs ds lt s b
  start_less (Err x) i cs ds lt s b = tt

  ended_less : (cs ds : List (Child J)) → HasEndedFirst (EndedWell may t u) now new cs ds → turns_left new ds < turns_left now cs
  ended_less cs ds h =
      let f = h.end.finished in
      let v = h.end.produced.outcome in
      let lt = k.running h.child.id f.job f.is in
      let count = k.count in
      let within : f.job.step < length now.finished = omega (arith, lt, count) in
      let others : (n : ℕ) → n ≢ f.job.step → jobs_of n (set now.jobs h.child.id None) ≡ jobs_of n now.jobs
      = λ n other. let fewer = one_fewer n now.jobs h.child.id f.job f.is in let nil = other_step f.job n other in omega (arith, fewer, nil) in
      let le = finished_le now now h.child.id f.job v refl within others in
      let less = waiting_le (length now.plan.steps) now (with_finished h.child.id f.job v now) le.1 in
      let len = ap length h.is in
      let whole : waiting_among (length new.plan.steps) new ≡ waiting_among (length now.plan.steps) (with_finished h.child.id f.job v now) = ap (λ (e : EngineValue). waiting_among (length e.plan.steps) e) f.after in
      omega (arith, less, len, whole)

  pub finish_less : {T E : Type 0} (r : Result T E) (cs ds : List (Child J)) → OnOk r (HasEndedFirst (EndedWell may t u) now new cs ds) → OnOk r (turns_left new ds < turns_left now cs)
  finish_less (Ok x) cs ds h = ended_less cs ds h
  finish_less (Err x) cs ds h = tt
