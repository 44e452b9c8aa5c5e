-- What each call of an engine does, by digests alone.
use Rattle.std.specs.Prelude.{zero, suc, ◌≡◌, ◌≢◌, ◌⊎◌, ℕ, ◌+◌, ◌*◌, ◌<◌, ◌≤◌, ◌==◌, if◌then◌else◌}
use Rattle.std.specs.Prelude.{pos, true, false, List, [], ◌∷◌, length, Option, Some, None}
use Rattle.std.specs.Prelude.{option_map, slice_get, set, IsSome, Contains}
use Rattle.std.specs.List.{AllByRecursion}
use Rattle.blob_digest.specs.Digest.{DigestValue, digest_of}
use Rattle.action_messages.specs.Action.{action_bytes}
use Rattle.action_messages.specs.Command.{CommandValue, IsCommand, command_bytes}
use Rattle.action_messages.specs.Frame.{FrameValue, IsFrame, frame_bytes}
use Rattle.actions.specs.Outcome.{OutcomeValue, paths_of_outputs}
use Rattle.plan.specs.Record.{RecordValue, names_of}
use Rattle.plan.specs.Values.{StepValue, PlanValue}
use Rattle.tree.specs.Tree.{Tree}
use Rattle.tree.specs.Form.{NodeValue, root}
use Rattle.tree.specs.Folded.{IsFoldOf}
use Rattle.blob_source.specs.Source.{Blobs, Telling}
use Rattle.blob_source.specs.Told.{IsTold, Fault, IsFault}
use Rattle.runs.specs.declared.error.RunsError.{RunsError}
use Rattle.runs.specs.declared.error.RunsError.TheVariants as errors
use Rattle.runs.specs.declared.error.OpenError.{OpenError}
use Rattle.runs.specs.declared.error.OpenError.TheVariants as opening
use Rattle.tree.specs.declared.error.TreeError.TheVariants as tree
use Rattle.tree.specs.TreeError.{Explains}
use Rattle.runs.specs.declared.starting.Job.{Job}
use Rattle.runs.specs.Engine.{FinishedValue, JobValue, EngineValue, TakesOutcome, at_number}
use Rattle.runs.specs.Engine.{finished_in, job_in}
use Rattle.runs.specs.Looking.{ExplainsRefusal, outcomes_in, together_in}
use Rattle.verifier.specs.Recorded.{HaveOneForm}
use Rattle.verifier.specs.Together.{AreThere}

-- ---- opening

-- the frame and the command of a step are told
pub record TellsStep (B : Blobs) (s : StepValue) (f : FrameValue) (c : CommandValue) : Type 0 where
  pub frame : IsTold IsFrame frame_bytes B s.frame f
  pub command : IsTold IsCommand command_bytes B f.command c

-- the frames and commands of steps are told, and their results may be kept for other builds
pub record AreTold (B : Blobs) (steps : List StepValue) (frames : List FrameValue)
    (commands : List CommandValue) : Type 0 where
  pub frames_count : length frames ≡ length steps
  pub commands_count : length commands ≡ length steps
  pub each : (i : ℕ) (s : StepValue) (f : FrameValue) (c : CommandValue)
      → slice_get steps i ≡ Some s → slice_get frames i ≡ Some f → slice_get commands i ≡ Some c
      → TellsStep B s f c × (f.do_not_cache ≡ false)

-- an engine of this plan in which nothing has finished and nothing runs
pub record IsOpened (B : Blobs) (given : PlanValue) (from : DigestValue)
    (e : EngineValue) : Type 0 where
  pub plan : e.plan ≡ given
  pub sources : e.sources ≡ from
  pub told : AreTold B given.steps e.frames e.commands
  pub none_finished : AllByRecursion (λ f. f ≡ None) e.finished
  pub none_runs : e.jobs ≡ []

-- the steps before one are told, and their results may be kept for other builds
abbrev pub AreToldBefore : Blobs → List StepValue → ℕ → Type 0
AreToldBefore B steps i = (k : ℕ) (s : StepValue) → k < i → slice_get steps k ≡ Some s
    → (f : FrameValue) × (c : CommandValue) × TellsStep B s f c × (f.do_not_cache ≡ false)

-- A message of a step isn't told: the fault that stands there, unless the source failed or memory
-- ran out.
abbrev pub IsUntold : {A : Type 0} → ℕ → (Fault → Type 0) → OpenError A → Type 0
IsUntold i Fails (opening.Source j tree.Memory) = ⊥
IsUntold i Fails (opening.Source j why) = (j ≡ i) × Explains Fails why
IsUntold i Fails (opening.DoNotCache j) = ⊥
IsUntold i Fails opening.Memory = Unit {0}

-- why a step has no meaning: its frame isn't told, or isn't to be cached, or its command isn't told
abbrev pub IsOpeningFault : {A : Type 0} → Blobs → ℕ → StepValue → OpenError A → Type 0
IsOpeningFault B i s why =
    IsUntold i (IsFault IsFrame frame_bytes B s.frame) why
    ⊎ ((f : FrameValue) × IsTold IsFrame frame_bytes B s.frame f
    × (((f.do_not_cache ≡ true) × (why ≡ opening.DoNotCache i))
    ⊎ ((f.do_not_cache ≡ false)
    × IsUntold i (IsFault IsCommand command_bytes B f.command) why)))

-- why there is no engine: the fault of the first step that has no meaning, unless memory ran out
abbrev pub IsOpenFault : {A : Type 0} → Blobs → List StepValue → OpenError A → Type 0
IsOpenFault B steps opening.Memory = Unit {0}
IsOpenFault B steps why = (i : ℕ) × (s : StepValue) × (slice_get steps i ≡ Some s)
    × AreToldBefore B steps i × IsOpeningFault B i s why

-- How often an opening that is refused asks at most: for the frame and the command of each step
-- before, and for what is at fault.
abbrev pub opening_calls : {A : Type 0} → ℕ → OpenError A → ℕ
opening_calls steps (opening.Source i why) = 2 * i + 2
opening_calls steps (opening.DoNotCache i) = 2 * i + 1
opening_calls steps opening.Memory = 2 * steps

-- a step's frame that isn't told is the last that is asked for
pub record StopsAtFrame (steps : List StepValue) (old new : Telling) : Type 0 where
  pub few : (i : ℕ) (s : StepValue) (f : Fault) → slice_get steps i ≡ Some s
      → AreToldBefore new.blobs steps i → IsFault IsFrame frame_bytes new.blobs s.frame f
      → new.calls ≤ old.calls + (2 * i + 1)

-- ---- losing

-- the engine without a job
abbrev pub without_job : ℕ → EngineValue → EngineValue
without_job w e = record e { jobs = set e.jobs w None }

-- ---- asking

abbrev pub runs_step : ℕ → Option JobValue → ℕ
runs_step i None = 0
runs_step i (Some j) = if j.step == i then 1 else 0

-- how many of the jobs are of a step
abbrev pub jobs_of : ℕ → List (Option JobValue) → ℕ
jobs_of i [] = 0
jobs_of i (j ∷ js) = runs_step i j + jobs_of i js

-- the digests of the actions that finished, if each step has
abbrev pub kept_digests : List (Option FinishedValue) → Option (List DigestValue)
kept_digests [] = Some []
kept_digests (None ∷ fs) = None
kept_digests (Some f ∷ fs) = option_map (λ ds. f.action ∷ ds) (kept_digests fs)

-- the record of a build in which each step has finished
abbrev pub recorded_build : EngineValue → Option RecordValue
recorded_build e =
    option_map {U = RecordValue} (λ ds. record { names = names_of e.plan; digests = ds })
    (kept_digests e.finished)

-- ---- finishing

-- what a step came to is another outcome than that of a step with this number and action
abbrev pub IsOther : Option FinishedValue → ℕ → ℕ → DigestValue → OutcomeValue → Type 0
IsOther None k i action v = ⊥
IsOther (Some f) k i action v = ((k ≡ i) ⊎ (f.action ≡ action)) × (HaveOneForm f.outcome v → ⊥)

-- the step, or one that finished with the same action, has another outcome
abbrev pub Disagrees : List (Option FinishedValue) → ℕ → DigestValue → OutcomeValue → Type 0
Disagrees fs i action v = (k : ℕ) × (o : Option FinishedValue) × (slice_get fs k ≡ Some o)
    × IsOther o k i action v

-- an outcome to compare with is there: that of the step, or of one with the same action
abbrev pub IsCompared : List (Option FinishedValue) → ℕ → DigestValue → Type 0
IsCompared fs i action = (k : ℕ) × (f : FinishedValue) × (at_number fs k ≡ Some f)
    × ((k ≡ i) ⊎ (f.action ≡ action))

-- the first path that a command doesn't list
abbrev pub IsFirstUnlisted : CommandValue → List (List (List ℕ)) → List (List ℕ) → Type 0
IsFirstUnlisted c [] p = ⊥
IsFirstUnlisted c (q ∷ qs) p = ((p ≡ q) × (Contains c.output_paths q → ⊥))
    ⊎ (Contains c.output_paths q × IsFirstUnlisted c qs p)

-- an output isn't listed: its path is told, unless memory ran out
abbrev pub IsUnlisted : {A : Type 0} → CommandValue → List (List (List ℕ)) → RunsError A → Type 0
IsUnlisted c paths (errors.Unlisted path) = IsFirstUnlisted c paths path
IsUnlisted c paths errors.Memory = (path : List (List ℕ)) × IsFirstUnlisted c paths path
IsUnlisted c paths why = ⊥

-- why an outcome isn't taken: its exit code isn't 0, or else an output isn't listed
abbrev pub IsOutcomeFault : {A : Type 0} → CommandValue → OutcomeValue → RunsError A → Type 0
IsOutcomeFault c v (errors.ExitCode code) = (code ≡ v.exit_code) × (v.exit_code ≢ pos 0)
IsOutcomeFault c v why = (v.exit_code ≡ pos 0) × IsUnlisted c (paths_of_outputs v.outputs) why

-- what a step came to stays what it was at its first finish
abbrev pub first_kept : Option FinishedValue → List (Option FinishedValue) → ℕ → FinishedValue
    → List (Option FinishedValue)
first_kept None fs i f = set fs i (Some f)
first_kept (Some before) fs i f = fs

-- the engine after the finish of a job
abbrev pub with_finished : ℕ → JobValue → OutcomeValue → EngineValue → EngineValue
with_finished w j v e = record e {
  finished = first_kept (finished_in j.step e) e.finished j.step
      (record { action = j.action; outcome = v });
  jobs = set e.jobs w None;
}

-- a job finishes with an outcome
pub record IsFinished (w : ℕ) (v : OutcomeValue) (old new : EngineValue) : Type 0 where
  pub job : JobValue
  pub is : job_in w old ≡ Some job
  pub taken : (c : CommandValue) → slice_get old.commands job.step ≡ Some c → TakesOutcome c v
  pub agrees : Disagrees old.finished job.step job.action v → ⊥
  pub after : new ≡ with_finished w job v old

-- the job's command doesn't list one of the outputs
abbrev pub HasUnlisted : EngineValue → JobValue → OutcomeValue → Type 0
HasUnlisted e j v = (c : CommandValue) × (slice_get e.commands j.step ≡ Some c)
    × (path : List (List ℕ)) × IsFirstUnlisted c (paths_of_outputs v.outputs) path

-- why a job doesn't finish: the first of no such job, the exit code, an unlisted output, and
-- another outcome; memory runs out only to tell an unlisted output, or to compare outcomes
abbrev pub IsFinishFault : {A : Type 0} → EngineValue → ℕ → OutcomeValue → RunsError A → Type 0
IsFinishFault e w v errors.NoSuchJob = job_in w e ≡ None
IsFinishFault e w v errors.Disagrees = (j : JobValue) × (job_in w e ≡ Some j)
    × ((c : CommandValue) → slice_get e.commands j.step ≡ Some c → TakesOutcome c v)
    × Disagrees e.finished j.step j.action v
IsFinishFault e w v errors.Memory = (j : JobValue) × (job_in w e ≡ Some j) × (v.exit_code ≡ pos 0)
    × (HasUnlisted e j v ⊎ IsCompared e.finished j.step j.action)
IsFinishFault e w v why = (j : JobValue) × (job_in w e ≡ Some j) × (c : CommandValue)
    × (slice_get e.commands j.step ≡ Some c) × IsOutcomeFault c v why

-- ---- starting

-- the least number that no job has
pub record IsLeastIn (js : List (Option JobValue)) (w : ℕ) : Type 0 where
  pub free : at_number js w ≡ None
  pub lower : (k : ℕ) → k < w → (j : JobValue) × (at_number js k ≡ Some j)

abbrev pub IsLeastFree : EngineValue → ℕ → Type 0
IsLeastFree e w = IsLeastIn e.jobs w

-- the jobs with one more, at a number that is at most their count
abbrev pub placed : List (Option JobValue) → ℕ → JobValue → List (Option JobValue)
placed [] w j = Some j ∷ []
placed (o ∷ js) zero j = Some j ∷ js
placed (o ∷ js) (suc w) j = o ∷ placed js w j

abbrev pub with_job : ℕ → JobValue → EngineValue → EngineValue
with_job w j e = record e { jobs = placed e.jobs w j }

-- A job of a step is prepared: its action is the step's frame with the root of what the step's
-- lines put together.
pub record IsPrepared {A : Type 0} (B : Blobs) (e : EngineValue) (i id : ℕ)
    (job : Job A) : Type 0 where
  pub planned : StepValue
  pub at : slice_get e.plan.steps i ≡ Some planned
  pub tree : Tree NodeValue
  pub together : (together_in B e planned.lines).passes tree
  pub number : job.id ≡ id
  pub of_step : job.step ≡ i
  pub frame : slice_get e.frames i ≡ Some job.action.frame
  pub input : job.action.input ≡ root tree
  pub command : slice_get e.commands i ≡ Some job.command
  pub digest : job.digest ≡ digest_of (action_bytes job.action)
  pub folded : IsFoldOf tree job.input

-- A job was started: it was prepared under the least free number, of which there are 4,096, and the
-- engine has it.
pub record IsStarted {A : Type 0} (B : Blobs) (i : ℕ) (old new : EngineValue)
    (job : Job A) : Type 0 where
  pub prepared : IsPrepared B old i job.id job
  pub least : IsLeastFree old job.id
  pub few : job.id < 4096
  pub after : new ≡ with_job job.id
      (record { step = i; action = job.digest; input = job.action.input }) old

-- each step that the step's lines read has finished
abbrev pub IsReady : EngineValue → ℕ → Type 0
IsReady e i = (step : StepValue) → slice_get e.plan.steps i ≡ Some step
    → AreThere (outcomes_in e.finished) step.lines

-- fewer than 4,096 jobs run
abbrev pub HasRoomForJob : EngineValue → Type 0
HasRoomForJob e = (id : ℕ) × IsLeastFree e id × (id < 4096)

-- Why a step isn't started: the first of a step that its lines read that hasn't finished, 4,096
-- jobs, and why its lines put no tree together.
abbrev pub IsStartFault : {A : Type 0} → Blobs → EngineValue → ℕ → RunsError A → Type 0
IsStartFault B e i errors.NotReady = IsReady e i → ⊥
IsStartFault B e i errors.Full = IsReady e i × IsLeastFree e 4096
IsStartFault B e i why = IsReady e i × HasRoomForJob e
    × ((step : StepValue) → slice_get e.plan.steps i ≡ Some step
    → ExplainsRefusal (together_in B e step.lines).fails why)

-- ---- the root

-- each step has finished
abbrev pub HaveAllFinished : EngineValue → Type 0
HaveAllFinished e = AllByRecursion IsSome e.finished

-- why there is no root: a step hasn't finished, or else why the root's lines put no tree together
abbrev pub IsRootFault : {A : Type 0} → Blobs → EngineValue → RunsError A → Type 0
IsRootFault B e errors.NotReady = HaveAllFinished e → ⊥
IsRootFault B e why =
    HaveAllFinished e × ExplainsRefusal (together_in B e e.plan.root_lines).fails why
