-- How far a build is, what its watcher is told, and in which order children's jobs finish.
use Rattle.std.specs.Prelude.{suc, ◌≡◌, ◌++◌, ◌≤◌, ◌==◌, not, ℕ, List, [], ◌∷◌, length, filter}
use Rattle.std.specs.Prelude.{Bool, true, false, Option, Some, None, count_by, is_some}
use Rattle.actions.specs.Outcome.{OutcomeValue}
use Rattle.blob_digest.specs.Digest.{DigestValue}
use Rattle.blob_source.specs.Sink.{KeepsRight}
use Rattle.blob_source.specs.Source.{Telling}
use Rattle.runs.specs.Engine.{FinishedValue, EngineValue}
use Rattle.worker.specs.declared.watching.Progress.{Progress}
use Rattle.worker.specs.Calls.{running, Call, started, launched, ran, taken, lost, AreTurns, IsLed}
use Rattle.worker.specs.Calls.{PutsOf}
use Rattle.worker.specs.Outcomes.{Yields}

-- ---- what a watcher is told

-- the watcher was told these numbers, one after another; of one with `None` nothing is known
abbrev pub Hears : Option (List Progress) → Option (List Progress) → List Progress → Type 0
Hears None after ps = Unit {0}
Hears (Some before) None ps = ⊥
Hears (Some before) (Some after) ps = after ≡ before ++ ps

-- the first of these numbers is as it has to be after one turn more than these, and so on
abbrev pub AreAfterTurns : (ℕ → Progress → Type 0) → ℕ → List Progress → Type 0
AreAfterTurns Is turns [] = Unit {0}
AreAfterTurns Is turns (p ∷ ps) = Is (suc turns) p × AreAfterTurns Is (suc turns) ps

-- the watcher was told the numbers after each of so many first turns, each time as they have to be
-- then
pub record IsWatched (Is : ℕ → Progress → Type 0) (turns : ℕ)
    (before after : Option (List Progress)) : Type 0 where
  pub told : List Progress
  pub heard : Hears before after told
  pub count : length told ≡ turns
  pub each : AreAfterTurns Is 0 told

-- ---- how far a build is

-- how many steps have finished
abbrev pub finished_count : List (Option FinishedValue) → ℕ
finished_count finished = length (filter is_some finished)

-- how many steps were taken from the store
abbrev pub is_taken : Call → Bool
is_taken (taken id d v) = true
is_taken c = false

abbrev pub taken_count : List Call → ℕ
taken_count calls = count_by is_taken calls

abbrev pub without_number : ℕ → List (ℕ × ℕ) → List (ℕ × ℕ)
without_number id js = filter (λ j. not (j.0 == id)) js

-- the numbers and the steps of the jobs that run after calls, in the order of their starts
abbrev pub jobs_after : List (ℕ × ℕ) → List Call → List (ℕ × ℕ)
jobs_after js [] = js
jobs_after js (started i id ∷ cs) = jobs_after (js ++ (id, i) ∷ []) cs
jobs_after js (launched id d s ∷ cs) = jobs_after js cs
jobs_after js (ran id d v ∷ cs) = jobs_after (without_number id js) cs
jobs_after js (taken id d v ∷ cs) = jobs_after (without_number id js) cs
jobs_after js (lost id ∷ cs) = jobs_after (without_number id js) cs

abbrev pub first_step : List (ℕ × ℕ) → Option ℕ
first_step [] = None
first_step ((id, i) ∷ js) = Some i

-- a job is the first of these
abbrev pub IsFirstJob : ℕ → List (ℕ × ℕ) → Type 0
IsFirstJob id [] = ⊥
IsFirstJob id (j ∷ js) = j.0 ≡ id

-- where a child's job finishes, it is the one of those that run that was started first
abbrev pub FinishInOrder : List (ℕ × ℕ) → List Call → Type 0
FinishInOrder js calls = (before after : List Call) (id : ℕ) (d : DigestValue) (v : OutcomeValue)
    → calls ≡ before ++ ran id d v ∷ after → IsFirstJob id (jobs_after js before)

-- The numbers are those of an engine to which these calls led, from one of which no job ran. The
-- step that runs longest is that of the job that was started first.
pub record IsProgressOf (calls : List Call) (e : EngineValue) (p : Progress) : Type 0 where
  pub all : p.steps ≡ length e.plan.steps
  pub done : p.finished ≡ finished_count e.finished
  pub from_store : p.taken ≡ taken_count calls
  pub no_more : p.taken ≤ p.finished
  pub jobs : p.running ≡ running e.jobs
  pub first : p.longest ≡ first_step (jobs_after [] calls)

-- how many turns the calls make: in each a step is started, or a child's job finishes
abbrev pub begins_turn : Call → Bool
begins_turn (started i id) = true
begins_turn (ran id d v) = true
begins_turn c = false

abbrev pub turns_in : List Call → ℕ
turns_in calls = count_by begins_turn calls

-- The numbers are those of an engine to which the first of all calls led, in so many whole turns,
-- by what the store told then; and what it tells at the end differs from that by what the later
-- ones put.
pub record IsProgress (A : Type 0) (yields : Yields) (t : Telling) (most : ℕ)
    (first : EngineValue) (all : List Call) (turns : ℕ) (p : Progress) : Type 0 where
  pub told : Telling
  pub now : EngineValue
  pub led : IsLed A yields told most first now
  pub whole : AreTurns led.calls
  pub count : turns_in led.calls ≡ turns
  pub is : IsProgressOf led.calls now p
  pub later : List Call
  pub rest : led.calls ++ later ≡ all
  pub since : PutsOf later told t
  pub still : KeepsRight told.blobs t.blobs
