-- The calls of an engine that lead from one to another.
use Rattle.std.specs.Prelude.{◌≡◌, ◌⊎◌, ◌<◌, ◌≤◌, ℕ, List, [], ◌∷◌, ◌++◌, length, Option}
use Rattle.std.specs.Prelude.{Some, None, is_some, slice_get, filter, filter_map, Contains}
use Rattle.std.specs.List.{AllByRecursion}
use Rattle.blob_digest.specs.Digest.{DigestValue}
use Rattle.action_messages.specs.ActionResult.{ActionResultValue}
use Rattle.action_messages.specs.Command.{CommandValue}
use Rattle.action_messages.specs.Reads.{Reads}
use Rattle.actions.specs.Outcome.{OutcomeValue}
use Rattle.actions.specs.Recorded.{IsRecorded}
use Rattle.blob_source.specs.Source.{Blobs, Telling}
use Rattle.blob_source.specs.Sink.{KeepsRight}
use Rattle.runs.specs.Engine.{JobValue, EngineValue, finished_in, job_in}
use Rattle.runs.specs.Calls.{IsStarted, IsFinished, IsReady, without_job, jobs_of}
use Rattle.runs.specs.Results.{result_of}
use Rattle.runs.specs.declared.starting.Job.{Job}
use Rattle.worker.specs.Layout.{IsLayoutOf}
use Rattle.worker.specs.Outcomes.{Yields, IsYielded, CanBeTaken}
use Rattle.worker.specs.Values.{StartValue, Starts, StartsAll}
use Rattle.verifier.specs.Recorded.{HaveOneForm, IsHeld}

-- how many jobs run
abbrev pub running : List (Option JobValue) → ℕ
running jobs = length (filter is_some jobs)

-- A step is started as a job; a child is started for a job; a job finishes with what its child came
-- to, or with what the store has for its action; a job is lost. What a child came to may be put as
-- the result of its action.
pub data Call : Type 0 where
  started : (step id : ℕ) → Call
  launched : (id : ℕ) (action : DigestValue) (child : StartValue) → Call
  ran : (id : ℕ) (action : DigestValue) (v : OutcomeValue) → Call
  taken : (id : ℕ) (action : DigestValue) (v : OutcomeValue) → Call
  lost : (id : ℕ) → Call

-- among the calls a child of the action came to the outcome
abbrev pub CameTo : List Call → DigestValue → OutcomeValue → Type 0
CameTo calls d v = (id : ℕ) × Contains calls (ran id d v)

-- among the calls a child of the action was started
abbrev pub HasChild : List Call → DigestValue → StartValue → Type 0
HasChild calls d s = (id : ℕ) × Contains calls (launched id d s)

-- the child that a call starts
abbrev pub child_in : Call → Option StartValue
child_in (launched id d s) = Some s
child_in c = None

-- the children that were started, the latest last
abbrev pub children_of : List Call → List StartValue
children_of calls = filter_map child_in calls

-- the bytes read as the result of an outcome of this form
pub record IsResultFor (v : OutcomeValue) (b : List ℕ) : Type 0 where
  pub outcome : OutcomeValue
  pub form : HaveOneForm outcome v
  pub reads : Reads (result_of outcome) b

-- under the action's digest stands the result of what a child of it came to among the calls
pub record HasChildsResult (calls : List Call) (C : Blobs) (d : DigestValue) : Type 0 where
  pub outcome : OutcomeValue
  pub came : CameTo calls d outcome
  pub bytes : List ℕ
  pub held : C d ≡ Some bytes
  pub is : IsResultFor outcome bytes

-- A step was started as a job, by blobs of which those that have their digests are told at the end.
pub record WasStarted (A : Type 0) (B : Blobs) (i id : ℕ) (old new : EngineValue) : Type 0 where
  pub told : Blobs
  pub still : KeepsRight told B
  pub job : Job A
  pub number : job.id ≡ id
  pub is : IsStarted told i old new job

-- A child was started for a job, in the layout that is told under the root of its input, with the
-- command of its step.
pub record WasLaunched (B : Blobs) (id : ℕ) (d : DigestValue) (s : StartValue)
    (old new : EngineValue) : Type 0 where
  pub job : JobValue
  pub is : job_in id old ≡ Some job
  pub action : job.action ≡ d
  pub laid : IsLayoutOf B job.input s.layout
  pub command : slice_get old.commands job.step ≡ Some s.command
  pub same : new ≡ old

-- a job finished with what its child came to, which its step has from then on
pub record FinishedByChild (yields : Yields) (t : Telling) (id : ℕ) (d : DigestValue)
    (v : OutcomeValue) (old new : EngineValue) : Type 0 where
  pub finished : IsFinished id v old new
  pub action : finished.job.action ≡ d
  pub kept : finished_in finished.job.step new ≡ Some (record { action = d; outcome = v })
  pub yielded : IsYielded yields t.blobs old finished.job v

-- A job finished with what the store had recorded for its action. It has it at the end, or the
-- result of what a child of the same action came to later.
pub record FinishedAsRecorded (t : Telling) (later : List Call) (id : ℕ) (d : DigestValue)
    (v : OutcomeValue) (old new : EngineValue) : Type 0 where
  pub finished : IsFinished id v old new
  pub action : finished.job.action ≡ d
  pub bytes : List ℕ
  pub held : (t.results d ≡ Some bytes) ⊎ HasChildsResult later t.results d
  pub result : ActionResultValue
  pub reads : Reads result bytes
  pub recorded : IsRecorded t.blobs result v

-- a job that runs is lost
abbrev pub IsLost : ℕ → EngineValue → EngineValue → Type 0
IsLost id old new = (j : JobValue) × (job_in id old ≡ Some j) × (new ≡ without_job id old)

-- What a call does, by what the runner yields, what the store tells at the end, and the later
-- calls.
abbrev pub Does : (A : Type 0) → Yields → Telling → List Call → Call → EngineValue → EngineValue
    → Type 0
Does A yields t later (started i id) old new = WasStarted A t.blobs i id old new
Does A yields t later (launched id d s) old new = WasLaunched t.blobs id d s old new
Does A yields t later (ran id d v) old new = FinishedByChild yields t id d v old new
Does A yields t later (taken id d v) old new = FinishedAsRecorded t later id d v old new
Does A yields t later (lost id) old new = IsLost id old new

-- ---- which call comes next

-- a step that hasn't finished and doesn't run
pub record IsWaiting (e : EngineValue) (i : ℕ) : Type 0 where
  pub unfinished : finished_in i e ≡ None
  pub idle : jobs_of i e.jobs ≡ 0

pub record IsStartable (e : EngineValue) (i : ℕ) : Type 0 where
  pub waiting : IsWaiting e i
  pub ready : IsReady e i

-- the least step that may be started
pub record IsLeastStartable (e : EngineValue) (i : ℕ) : Type 0 where
  pub startable : IsStartable e i
  pub least : (k : ℕ) → k < i → IsStartable e k → ⊥

abbrev pub HasNoneStartable : EngineValue → Type 0
HasNoneStartable e = (k : ℕ) → k < length e.plan.steps → IsStartable e k → ⊥

-- The step that is started is the least that may be. A child's job finishes only where no step may
-- be started, or as many jobs run as may.
abbrev pub IsNext : ℕ → Call → EngineValue → Type 0
IsNext most (started i id) e = IsLeastStartable e i
IsNext most (ran id d v) e = running e.jobs < most → HasNoneStartable e
IsNext most c e = Unit {0}

-- ---- turns

-- In each turn a step is started and its child is, or a step is started and what the store has for
-- it is taken, or a child's job finishes.
abbrev pub AreTurns : List Call → Type 0
AreTurns [] = Unit {0}
AreTurns (started i id ∷ launched w d s ∷ cs) = (w ≡ id) × AreTurns cs
AreTurns (started i id ∷ taken w d v ∷ cs) = (w ≡ id) × AreTurns cs
AreTurns (ran id d v ∷ cs) = AreTurns cs
AreTurns cs = ⊥

-- ---- what calls come to

-- The calls, each as it comes next, lead from one engine to the other, and at most this many jobs
-- run after each.
abbrev pub Leads : (A : Type 0) → Yields → Telling → ℕ → List Call → EngineValue → EngineValue
    → Type 0
Leads A yields t most [] old new = new ≡ old
Leads A yields t most (c ∷ cs) old new =
    (mid : EngineValue) × Does A yields t cs c old mid
    × ((running mid.jobs ≤ most) × IsNext most c old)
    × Leads A yields t most cs mid new

-- Some calls lead from the one engine to the other.
pub record IsLed (A : Type 0) (yields : Yields) (t : Telling) (most : ℕ)
    (old new : EngineValue) : Type 0 where
  pub calls : List Call
  pub leads : Leads A yields t most calls old new

-- the digest of the action whose child came to something in a call
abbrev pub came_in : Call → Option DigestValue
came_in (ran id d v) = Some d
came_in c = None

-- the digests of the actions whose children came to something, one for each child
abbrev pub came_of : List Call → List DigestValue
came_of calls = filter_map came_in calls

-- the first list is the other one, but that some of it may be left out
abbrev pub IsPartOf : {X : Type 0} → List X → List X → Type 0
IsPartOf xs [] = xs ≡ []
IsPartOf xs (y ∷ ys) = IsPartOf xs ys ⊎ ((rest : List _) × (xs ≡ y ∷ rest) × IsPartOf rest ys)

-- What was put, and what stays: at most one result for each child that came to something, in this
-- order; under each digest that was put stands the result of what a child of that action came to
-- among the calls, and what stood under a digest gives way to such a result alone.
pub record PutsOf (calls : List Call) (old new : Telling) : Type 0 where
  pub put : List DigestValue
  pub are : new.puts ≡ old.puts ++ put
  pub once : IsPartOf put (came_of calls)
  pub each : AllByRecursion (HasChildsResult calls new.results) put
  pub others : (d : DigestValue) (b : List ℕ) → old.results d ≡ Some b
      → (new.results d ≡ Some b) ⊎ HasChildsResult calls new.results d

-- Some calls lead from the one engine to the other, and results are put as they say.
pub record IsBuiltBy (A : Type 0) (yields : Yields) (before t : Telling) (most : ℕ)
    (old new : EngineValue) : Type 0 where
  pub led : IsLed A yields t most old new
  pub puts : PutsOf led.calls before t

-- The store had no result to take for the action and the command before, unless a child of the same
-- action came to something.
abbrev pub LeavesNone : List Call → Telling → DigestValue → CommandValue → Type 0
LeavesNone calls before d c = (v : OutcomeValue) → IsHeld before d v → CanBeTaken c v
    → (w : OutcomeValue) × CameTo calls d w

-- a child is started only where there was none
abbrev pub TakesRecorded : List Call → Telling → Type 0
TakesRecorded calls before = (d : DigestValue) (s : StartValue) → HasChild calls d s
    → LeavesNone calls before d s.command

-- The children that the runner started are those of the calls, right bytes stay, and what the store
-- had recorded was taken.
pub record IsBuiltWith (A : Type 0) (yields : Yields) (from to : Starts) (before t : Telling)
    (most : ℕ) (old new : EngineValue) : Type 0 where
  pub built : IsBuiltBy A yields before t most old new
  pub children : StartsAll (children_of built.led.calls) from to
  pub blobs : KeepsRight before.blobs t.blobs
  pub takes : TakesRecorded built.led.calls before
