-- A turn that is taken goes on.
use Rattle.std.proofs.Common.{◌≡◌, ℕ, ◌+◌, ◌-◌, ◌<◌, ◌≤◌, List, [], ◌∷◌, ◌++◌, append_assoc, append-nil, length, map, Some, refl, ap, sym, ◌∙◌, subst, arith, inl, inr}
use Rattle.std.specs.Prelude.{Result, Ok, Err, OnOk, OnErr}
use Rattle.std.proofs.lemmas.List.{map-append}
use Rattle.blob_source.specs.Source.{Telling}
use Rattle.blob_source.specs.Sink.{HasRight, KeepsRight}
use Rattle.runs.specs.Engine.{JobValue, EngineValue, job_in}
use Rattle.runs.specs.Calls.{without_job}
use Rattle.worker.specs.declared.child.Child.{Child}
use Rattle.worker.specs.Values.{EndValue, Starts, StartsNone}
use Rattle.worker.specs.Stored.{IsKept}
use Rattle.worker.specs.Storing.{IsKeptBut, HasResultOf, IsResultOfStep, StoresSteps, IsHeldWhole}
use Rattle.worker.specs.Outcomes.{Yields}
use Rattle.worker.specs.Calls.{running, Call, lost, IsLost, Leads, IsResultFor}
use Rattle.worker.specs.Stopped.{LosesRest}
use Rattle.worker.specs.Going.{IsJobOf, AreJobsOf, IsOwnJob, IsGoing, IsBegun, IsLaunched, EndedWell, HasEndedFirst, HasResultOfFirst}
use Rattle.verifier.proofs.FreshRuns.{one_answer}
use Rattle.worker.proofs.Started.{after}
use Rattle.worker.proofs.Keeping.{kept_none, kept_as, kept_then, right_still, all_right_still}
use Rattle.worker.proofs.Storing.{result_for, steps_kept, steps_taken, steps_ran}
use Rattle.worker.proofs.Telling.{trees_still}
use Rattle.worker.proofs.Goes.{Ends, few_jobs, going_lost}

ends_right : {J : Type 0} (may : J → EndValue → Type 0) (t u : Telling) (c : Child J) (now new : EngineValue) → Ends may t u c now new → KeepsRight t.blobs u.blobs
ends_right may t u c now new (inl e) = e.kept.blobs
ends_right may t u c now new (inr (l, k)) = k.blobs

pub finish_right : {J T E : Type 0} (may : J → EndValue → Type 0) (t u : Telling) (now new : EngineValue) (cs ds : List (Child J)) (r : Result T E) → OnOk r (HasEndedFirst (EndedWell may t u) now new cs ds) → OnErr r (HasEndedFirst (Ends may t u) now new cs ds) → KeepsRight t.blobs u.blobs
finish_right may t u now new cs ds (Ok x) well ended = well.end.kept.blobs
finish_right may t u now new cs ds (Err x) well ended = ends_right may t u ended.child now new ended.end

-- ---- jobs that are lost

loses_leads : (A : Type 0) (y : Yields) (t : Telling) (most : ℕ) (xs ys : List ℕ) (old mid new : EngineValue) → Leads A y t most (map lost xs) old mid → Leads A y t most (map lost ys) mid new → Leads A y t most (map lost (xs ++ ys)) old new
loses_leads A y t most [] ys old mid new same rest = subst (λ e. Leads A y t most (map lost ys) e new) same rest
loses_leads A y t most (x ∷ xs) ys old mid new (next, gone, few, more) rest = (next, gone, few, loses_leads A y t most xs ys next mid new more rest)

module _ {A : Type 0} {y : Yields} {t : Telling} {most : ℕ} where
  pub loses_then : {first mid all : List Call} {old now new : EngineValue} → LosesRest A y t most first mid old now → LosesRest A y t most mid all now new → LosesRest A y t most first all old new
  loses_then {first} {mid} {all} {old} {now} {new} r q = record {
    ids = r.ids ++ q.ids;
    calls = q.calls ∙ ap (λ cs. cs ++ map lost q.ids) r.calls ∙ append_assoc first (map lost r.ids) (map lost q.ids) ∙ ap (λ cs. first ++ cs) (sym (map-append lost r.ids q.ids));
    leads = loses_leads A y t most r.ids q.ids old now new r.leads q.leads;
  }

  pub loses_none : {calls : List Call} {e : EngineValue} → LosesRest A y t most calls calls e e
  loses_none {calls} {e} = record { ids = []; calls = sym (append-nil calls); leads = refl }

  loses_one : {first all : List Call} {old now new : EngineValue} (id : ℕ) → LosesRest A y t most first all old now → IsLost id now new → running new.jobs ≤ most → LosesRest A y t most first (all ++ lost id ∷ []) old new
  loses_one {first} {all} {old} {now} {new} id r gone few = loses_then r (record { ids = id ∷ []; calls = refl; leads = (new, gone, (few, tt), refl) })

-- a child is waited for and its job is lost
module _ {J : Type 0} (now new : EngineValue) (c : Child J) (cs ds : List (Child J)) (is : cs ≡ c ∷ ds) (jobs : AreJobsOf IsJobOf now.jobs cs) where
  pub jobs_now : AreJobsOf IsJobOf now.jobs (c ∷ ds)
  jobs_now = subst (AreJobsOf IsJobOf now.jobs) is jobs

  pub lost_jobs : new ≡ without_job c.id now → AreJobsOf IsJobOf new.jobs ds
  lost_jobs gone = subst (λ (e : EngineValue). AreJobsOf IsJobOf e.jobs ds) (sym gone) jobs_now.3

  -- what was so far, with this job lost too
  pub lost_goes : (A : Type 0) (y : Yields) (may : J → EndValue → Type 0) → new ≡ without_job c.id now → (from a b : Starts) → StartsNone a b → (s t : Telling) (most : ℕ) (first : EngineValue) (old : EngineValue) (calls : List Call)
      → (g : IsGoing A y may from a s t most first now cs) → LosesRest A y t most calls g.led.built.led.calls old now → (h : IsGoing A y may from b s t most first new ds) × LosesRest A y t most calls h.led.built.led.calls old new
  lost_goes A y may gone from a b quiet s t most first old calls g rest =
      subst (λ xs. (f : IsGoing A y may from a s t most first now xs) → LosesRest A y t most calls f.led.built.led.calls old now → (h : IsGoing A y may from b s t most first new ds) × LosesRest A y t most calls h.led.built.led.calls old new) (sym is) by g rest
    where
      by : (f : IsGoing A y may from a s t most first now (c ∷ ds)) → LosesRest A y t most calls f.led.built.led.calls old now → (h : IsGoing A y may from b s t most first new ds) × LosesRest A y t most calls h.led.built.led.calls old new
      by f r =
          let w = going_lost A J y may from s most first a b t t now new c ds quiet f (jobs_now.0, jobs_now.1, gone) kept_none in
          (w.going, subst (λ cs. LosesRest A y t most calls cs old new) (sym w.are) (loses_one c.id r (jobs_now.0, jobs_now.1, gone) (few_jobs A J y may from s most first b t new ds w.going)))

pub lost_count : {J : Type 0} (c : Child J) (cs ds : List (Child J)) → cs ≡ c ∷ ds → (n old after : ℕ) → old ≡ n + length cs → after ≡ old - 1 → after ≡ n + length ds
lost_count c cs ds is n old after all one = let len = ap length is in omega (arith, all, one, len)

-- a result was put
pub ends_put : {J : Type 0} (may : J → EndValue → Type 0) (s t u : Telling) (c : Child J) (old new : EngineValue) (j : JobValue) → job_in c.id old ≡ Some j → IsJobOf c j → IsKept s t → EndedWell may s t c old new → IsKeptBut c.action (IsResultOfStep new c.step) t u
    → EndedWell may s u c old new
ends_put may s t u c old new j at of none e k =
    let same : e.finished.job ≡ j = one_answer (job_in c.id old) e.finished.job j e.finished.is at in
    let step : c.step ≡ e.finished.job.step = sym (ap (λ (i : JobValue). i.step) same ∙ of.step) in
    record {
      produced = e.produced;
      came = e.came;
      finished = e.finished;
      blobs = all_right_still t.blobs u.blobs e.produced.blobs k.blobs e.blobs;
      trees = trees_still t.blobs u.blobs e.produced.outcome.outputs k.blobs e.trees;
      kept = kept_then none (kept_as (result_for e.finished c.step step) k);
    }

pub no_child : {X : Type 0} (xs : List X) (jobs : ℕ) → jobs ≡ 1 → length xs < jobs → xs ≡ []
no_child [] jobs one few = refl
no_child (x ∷ xs) jobs one few = absurd (omega (arith, one, few))

pub on_ok : {T E : Type 0} {X : Type 0} (r : Result T E) → X → OnOk r X
on_ok (Ok y) x = x
on_ok (Err y) x = tt

pub then_on_ok : {T E : Type 0} {X Y : Type 0} (r : Result T E) → (X → Y) → OnOk r X → OnOk r Y
then_on_ok (Ok y) by x = by x
then_on_ok (Err y) by x = tt

-- ---- what the store has

module _ (A J : Type 0) (y : Yields) (may : J → EndValue → Type 0) (a b : Starts) (t u : Telling) (now new : EngineValue) (cs ds : List (Child J)) where
  begun_stored : (i : ℕ) → IsKept t u → IsBegun A y may a b t u i now new cs ds → StoresSteps t now → StoresSteps u new
  begun_stored i k begun h = by begun.goes
    where
      mid : StoresSteps u begun.mid
      mid = steps_kept k (ap (λ (e : EngineValue). e.finished) (after begun.started)) h

      by : IsLaunched y may a b t u begun.id begun.job begun.mid new cs ds → StoresSteps u new
      by (inl (c, id, own, same, grown)) = subst (StoresSteps u) (sym same) mid
      by (inr (v, f, whole, same, quiet)) =
          let of_job : f.job ≡ begun.job = one_answer (job_in begun.id begun.mid) f.job begun.job f.is begun.is in
          steps_taken f (subst (λ (j : JobValue). IsHeldWhole u j.action v) (sym of_job) whole) mid

  pub start_stored : {T E N : Type 0} (ys : N → Yields) (fs : N → Starts) (r : Result T E) (i : ℕ) → IsKept t u → OnOk r (IsBegun A y may a b t u i now new cs ds)
      → OnOk r ((entry : N) (s : Telling) (most : ℕ) (first : EngineValue) → IsGoing A (ys entry) may (fs entry) a s t most first now cs → StoresSteps t now → StoresSteps u new)
  start_stored ys fs (Ok x) i k begun = λ entry s most first going. begun_stored i k begun
  start_stored ys fs (Err x) i k begun = tt

  ended_stored : HasEndedFirst (EndedWell may t u) now new cs ds → HasResultOfFirst u new cs → (z : Yields) (from : Starts) (s : Telling) (most : ℕ) (first : EngineValue) → IsGoing A z may from a s t most first now cs → StoresSteps t now → StoresSteps u new
  ended_stored e put z from s most first going h =
      let jobs : AreJobsOf (IsOwnJob z may t.blobs now) now.jobs (e.child ∷ ds) = subst (AreJobsOf (IsOwnJob z may t.blobs now) now.jobs) e.is going.jobs in
      let f = e.end.finished in
      let same : f.job ≡ jobs.0 = one_answer (job_in e.child.id now) f.job jobs.0 f.is jobs.1 in
      let step : f.job.step ≡ e.child.step = ap (λ (j : JobValue). j.step) same ∙ jobs.2.of_child.step in
      let action : f.job.action ≡ e.child.action = ap (λ (j : JobValue). j.action) same ∙ jobs.2.of_child.action in
      let held : HasRight u.blobs f.job.action = subst (λ (j : JobValue). HasRight u.blobs j.action) (sym same) (right_still e.end.kept.blobs jobs.2.owed.action) in
      let result : HasResultOf u new e.child.step e.child.action = subst (HasResultOfFirst u new) e.is put in
      steps_ran f (subst (λ d. IsKeptBut d (IsResultFor e.end.produced.outcome) t u) (sym action) e.end.kept) held e.end.trees
      (subst (λ i. HasResultOf u new i f.job.action) (sym step) (subst (HasResultOf u new e.child.step) (sym action) result)) h

  pub finish_stored : {T E N : Type 0} (ys : N → Yields) (fs : N → Starts) (r : Result T E) → OnOk r (HasEndedFirst (EndedWell may t u) now new cs ds) → OnOk r (HasResultOfFirst u new cs)
      → OnOk r ((entry : N) (s : Telling) (most : ℕ) (first : EngineValue) → IsGoing A (ys entry) may (fs entry) a s t most first now cs → StoresSteps t now → StoresSteps u new)
  finish_stored ys fs (Ok x) ended put = λ entry. ended_stored ended put (ys entry) (fs entry)
  finish_stored ys fs (Err x) ended put = tt
