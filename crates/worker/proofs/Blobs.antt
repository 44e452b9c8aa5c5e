-- Which blobs a build puts, and that others stay.
use Rattle.std.proofs.Common.{◌≡◌, ◌≢◌, ◌<◌, ℕ, List, [], ◌∷◌, length, set, Option, Some, None, refl, ap, sym, subst, ◌∙◌, arith, inl, inr}
use Rattle.std.specs.Prelude.{Contains, Result, Ok, Err, OnOk, OnErr}
use Rattle.std.specs.List.{AllByRecursion}
use Rattle.blob_digest.specs.Digest.{DigestValue, digest_of}
use Rattle.blob_source.specs.Sink.{KeepsRight}
use Rattle.blob_source.specs.Source.{Blobs, Grows, Telling}
use Rattle.actions.specs.Outcome.{OutcomeValue}
use Rattle.actions.proofs.TreeLookups.{behind}
use Rattle.runs.specs.Calls.{IsFinished, IsStarted, first_kept, placed}
use Rattle.runs.specs.Engine.{FinishedValue, JobValue, EngineValue, at_number, finished_in, job_in}
use Rattle.runs.specs.declared.starting.Job.{Job}
use Rattle.runs.proofs.Places.{set_same}
use Rattle.verifier.proofs.FreshRuns.{one_answer}
use Rattle.verifier.specs.Recorded.{IsHeld}
use Rattle.worker.specs.declared.child.Child.{Child}
use Rattle.worker.specs.Going.{AreJobsOf, IsForGone, IsGoing, IsLaunched, IsOfTurns, IsOwnJob, EndedWell, HasEndedFirst, kept_job}
use Rattle.worker.specs.Outcomes.{Yields, YieldsNoMore, CanBeTaken, blobs_made, tree_blobs}
use Rattle.worker.specs.Steps.{IsActionOf, IsForJob, IsOfBuild, IsOfProduced, IsOfFinished, IsSameBuild, blobs_of_job}
use Rattle.worker.specs.Stored.{KeepsAllBut, PutsNoOther}
use Rattle.worker.specs.Storing.{PutsMade}
use Rattle.worker.specs.Values.{EndValue, made, Starts}
use Rattle.worker.proofs.Acts.{finishing, only_jobs, same_build, same_then}
use Rattle.worker.proofs.Goes.{Ends}
use Rattle.worker.proofs.Keeping.{grown_same, right_trans}
use Rattle.worker.proofs.Started.{started_value}
use Rattle.worker.proofs.Telling.{end_still, owed_ends}

-- ---- what stays

all_of : (P : List ℕ → Type 0) (bs : List (List ℕ)) → ((c : List ℕ) → Contains bs c → P c) → AllByRecursion P bs
all_of P [] h = tt
all_of P (b ∷ bs) h = (h b (0, omega arith, refl), all_of P bs (λ c among. h c (behind b bs c among)))

pub others_put : {Is : List ℕ → Type 0} (bs : List (List ℕ)) {B C : Blobs} → ((c : List ℕ) → Contains bs c → Is c) → PutsNoOther bs B C → KeepsAllBut Is B C
others_put bs so only = record { stays = λ d b at none. only.same d (all_of (λ c. digest_of c ≢ d) bs (λ c among. none c (so c among))) ∙ at }

pub others_grown : {Is : List ℕ → Type 0} {B C : Blobs} → Grows B C → KeepsAllBut Is B C
others_grown grows = record { stays = λ d b at none. grows d b at }

pub others_then : {Is : List ℕ → Type 0} {B C D : Blobs} → KeepsAllBut Is B C → KeepsAllBut Is C D → KeepsAllBut Is B D
others_then f g = record { stays = λ d b at none. g.stays d b (f.stays d b at none) none }

pub others_more : {Is So : List ℕ → Type 0} {B C : Blobs} → ((c : List ℕ) → Is c → So c) → KeepsAllBut Is B C → KeepsAllBut So B C
others_more so f = record { stays = λ d b at none. f.stays d b at (λ c is. none c (so c is)) }

-- ---- as a job goes on

pub others_input : {A : Type 0} (job : Job A) {t : Telling} {B C : Blobs} → PutsNoOther (blobs_of_job job) B C → KeepsAllBut (IsForJob job t) B C
others_input job only = others_put (blobs_of_job job) (λ c among. inl among) only

pub others_gone : {A : Type 0} (job : Job A) {B C : Blobs} {old new : EngineValue} → PutsNoOther (blobs_of_job job) B C → KeepsAllBut (IsForGone job old new) B C
others_gone job only = others_put (blobs_of_job job) (λ c among. inl among) only

-- a Tree of what the store has recorded was put
pub others_recorded : {A : Type 0} (job : Job A) {t : Telling} {B C : Blobs} (v : OutcomeValue) → IsHeld t job.digest v → CanBeTaken job.command v → PutsNoOther (tree_blobs v.outputs) B C → KeepsAllBut (IsForJob job t) B C
others_recorded job v held fits only = others_put (tree_blobs v.outputs) (λ c among. inr (v, held, fits, among)) only

pub others_finished : {A : Type 0} (job : Job A) {B C : Blobs} {old new : EngineValue} (v : OutcomeValue) → IsFinished job.id v old new → PutsNoOther (tree_blobs v.outputs) B C → KeepsAllBut (IsForGone job old new) B C
others_finished job v f only = others_put (tree_blobs v.outputs) (λ c among. inr (v, f, among)) only

-- ---- the same build

pub started_same : {A : Type 0} {B : Blobs} {i : ℕ} {old mid : EngineValue} {job : Job A} → IsStarted B i old mid job → IsSameBuild old mid
started_same {A} {B} {i} {old} {mid} {job} s = only_jobs old mid (placed old.jobs job.id (record { step = i; action = job.digest; input = job.action.input })) s.after

pub launched_same : {J : Type 0} {y : Yields} {may : J → EndValue → Type 0} {from to : Starts} {s t : Telling} {id : ℕ} {j : JobValue} {mid new : EngineValue} {before after : List (Child J)} → IsLaunched y may from to s t id j mid new before after → IsSameBuild mid new
launched_same {J} {y} {may} {from} {to} {s} {t} {id} {j} {mid} {new} {before} {after} h = by h
  where
    by : IsLaunched y may from to s t id j mid new before after → IsSameBuild mid new
    by (inl (c, is, own, same, grown)) = subst (IsSameBuild mid) (sym same) (same_build mid)
    by (inr (v, f, held, same, quiet)) = finishing f

ends_same : {J : Type 0} (may : J → EndValue → Type 0) (t u : Telling) (c : Child J) (now new : EngineValue) → Ends may t u c now new → IsSameBuild now new
ends_same may t u c now new (inl e) = finishing e.finished
ends_same may t u c now new (inr (gone, kept)) = only_jobs now new (set now.jobs c.id None) gone.2

pub finish_same : {J T E : Type 0} (may : J → EndValue → Type 0) (t u : Telling) (now new : EngineValue) (cs ds : List (Child J)) (r : Result T E) → OnOk r (HasEndedFirst (EndedWell may t u) now new cs ds) → OnErr r (HasEndedFirst (Ends may t u) now new cs ds) → IsSameBuild now new
finish_same may t u now new cs ds (Ok x) well ended = finishing well.end.finished
finish_same may t u now new cs ds (Err x) well ended = ends_same may t u ended.child now new ended.end

-- ---- blobs of a build

-- for a runner that yields more, and later
abbrev action_moved : {A : Type 0} {B C : Blobs} {e f : EngineValue} {i : ℕ} {d : DigestValue} → KeepsRight B C → IsSameBuild e f → IsActionOf A B e i d → IsActionOf A C f i d
action_moved keeps same o = record { told = o.told; still = right_trans o.still keeps; at = o.at; same = same_then o.same same; job = o.job; prepared = o.prepared; digest = o.digest }

child_moved : {y z : Yields} {B C : Blobs} {e f : EngineValue} {b : List ℕ} → YieldsNoMore y z → KeepsRight B C → IsSameBuild e f → IsOfProduced y B e b → IsOfProduced z C f b
child_moved {e = e} {f = f} within keeps same (j, p, may, among) = (j, p, end_still e f within keeps (same.commands, same.frames) j (made p) may, among)

finished_moved : {e f : EngineValue} {b : List ℕ} → IsSameBuild e f → IsOfFinished e b → IsOfFinished f b
finished_moved same (i, g, at, among) = (i, g, same.finished i g at, among)

pub of_turns_moved : {A : Type 0} {y z : Yields} {B C : Blobs} {e f : EngineValue} → YieldsNoMore y z → KeepsRight B C → IsSameBuild e f → (b : List ℕ) → IsOfTurns A y B e b → IsOfTurns A z C f b
of_turns_moved within keeps same b (inl (i, d, o, among)) = inl (i, d, action_moved keeps same o, among)
of_turns_moved within keeps same b (inr (inl child)) = inr (inl (child_moved within keeps same child))
of_turns_moved within keeps same b (inr (inr finished)) = inr (inr (finished_moved same finished))

pub of_turns_all : {A : Type 0} {y : Yields} {t : Telling} {e : EngineValue} (b : List ℕ) → IsOfTurns A y t.blobs e b → IsOfBuild A y t e b
of_turns_all b (inl (i, d, o, among)) = inl (i, d, o, inl among)
of_turns_all b (inr other) = inr other

pub of_build_within : {A : Type 0} {y z : Yields} {t : Telling} {e f : EngineValue} → YieldsNoMore y z → IsSameBuild e f → (b : List ℕ) → IsOfBuild A y t e b → IsOfBuild A z t f b
of_build_within within same b (inl (i, d, o, for_job)) = inl (i, d, action_moved (λ d c at right. at) same o, for_job)
of_build_within within same b (inr (inl child)) = inr (inl (child_moved within (λ d c at right. at) same child))
of_build_within within same b (inr (inr finished)) = inr (inr (finished_moved same finished))

-- a step was started, and its job goes on
abbrev action_started : {A : Type 0} {B C : Blobs} {i : ℕ} {old mid new : EngineValue} {job : Job A} → IsStarted B i old mid job → KeepsRight B C → IsSameBuild old new → IsActionOf A C new i job.digest
action_started {B = B} {old = old} {job = job} s keeps same = record { told = B; still = keeps; at = old; same = same; job = job; prepared = s.prepared; digest = refl }

finished_now : {A : Type 0} {B : Blobs} {i : ℕ} {old mid new : EngineValue} {job : Job A} {v : OutcomeValue} → IsStarted B i old mid job → (f : IsFinished job.id v mid new) → i < length old.finished → finished_in i old ≡ None → finished_in f.job.step new ≡ Some (record { action = f.job.action; outcome = v })
finished_now {A} {B} {i} {old} {mid} {new} {job} {v} s f lt none =
    let F : FinishedValue = record { action = f.job.action; outcome = v } in
    let kept : mid.finished ≡ old.finished = ap (λ (e : EngineValue). e.finished) s.after in
    let step : f.job.step ≡ i = ap (λ (j : JobValue). j.step) (one_answer (job_in job.id mid) f.job (kept_job job) f.is (started_value s)) ∙ s.prepared.of_step in
    let unfinished : finished_in f.job.step mid ≡ None = ap (λ k. finished_in k mid) step ∙ ap (λ fs. at_number fs i) kept ∙ none in
    let within : f.job.step < length mid.finished = subst (λ k. k < length mid.finished) (sym step) (subst (λ (fs : List (Option FinishedValue)). i < length fs) (sym kept) lt) in
    ap (finished_in f.job.step) f.after ∙ ap (λ o. at_number (first_kept o mid.finished f.job.step F) f.job.step) unfinished ∙ set_same mid.finished f.job.step (Some F) within

pub of_gone_started : {A : Type 0} {y : Yields} {B C : Blobs} {i : ℕ} {old mid new : EngineValue} {job : Job A} → IsStarted B i old mid job → KeepsRight B C → IsSameBuild old new → i < length old.finished → finished_in i old ≡ None → (b : List ℕ) → IsForGone job mid new b → IsOfTurns A y C new b
of_gone_started {i = i} {job = job} s keeps same lt none b (inl among) = inl (i, job.digest, action_started s keeps same, among)
of_gone_started s keeps same lt none b (inr (v, f, among)) = inr (inr (f.job.step, record { action = f.job.action; outcome = v }, finished_now s f lt none, among))

pub of_job_started : {A : Type 0} {y : Yields} {B : Blobs} (t : Telling) {i : ℕ} {old mid new : EngineValue} {job : Job A} → IsStarted B i old mid job → KeepsRight B t.blobs → IsSameBuild old new → (b : List ℕ) → IsForJob job t b → IsOfBuild A y t new b
of_job_started t {i = i} {job = job} s keeps same b h = inl (i, job.digest, action_started s keeps same, h)

pub finish_others : {A J : Type 0} {y : Yields} {may : J → EndValue → Type 0} {from a : Starts} {s t : Telling} (u : Telling) {most : ℕ} {first now new : EngineValue} {cs ds : List (Child J)} → IsGoing A y may from a s t most first now cs → KeepsRight t.blobs u.blobs → IsSameBuild now new
    → HasEndedFirst (λ c old new. PutsMade (may c.job) t.blobs u.blobs) now new cs ds → KeepsAllBut (IsOfTurns A y u.blobs new) t.blobs u.blobs
finish_others {A} {J} {y} {may} {from} {a} {s} {t} u {most} {first} {now} {new} {cs} {ds} going keeps same only = by only.end
  where
    jobs : AreJobsOf (IsOwnJob y may t.blobs now) now.jobs (only.child ∷ ds)
    jobs = subst (AreJobsOf (IsOwnJob y may t.blobs now) now.jobs) only.is going.jobs

    by : PutsMade (may only.child.job) t.blobs u.blobs → KeepsAllBut (IsOfTurns A y u.blobs new) t.blobs u.blobs
    by (inl none) = others_grown (grown_same t.blobs u.blobs none)
    by (inr (p, came, puts)) = others_put (blobs_made p) (λ c among. inr (inl (jobs.0, p, end_still now new (λ l d x h. h) keeps (same.commands, same.frames) jobs.0 (made p) (owed_ends jobs.2.owed (made p) came), among))) puts
