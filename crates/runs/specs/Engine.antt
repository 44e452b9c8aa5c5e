-- An engine as contracts see it: a plan with the frames and commands of its steps, what has
-- finished, and the jobs that run.
use Rattle.std.specs.Prelude.{◌≡◌, ◌<◌, ◌≤◌, ℕ, pos, false, List, length, Option, Some, slice_get}
use Rattle.std.specs.Prelude.{option_and_then}
use Rattle.blob_digest.specs.Digest.{DigestValue}
use Rattle.action_messages.specs.Command.{CommandValue}
use Rattle.action_messages.specs.Frame.{FrameValue}
use Rattle.std.specs.List.{AllByRecursion}
use Rattle.messages.specs.Tree.{IsTree}
use Rattle.actions.specs.declared.outcome.Output.TheVariants as outputs
use Rattle.actions.specs.Outcome.{OutputValue, OutcomeValue, IsOutcome}
use Rattle.plan.specs.Values.{StepValue, PlanValue}
use Rattle.verifier.specs.Build.{StepFits}
use Rattle.verifier.specs.StepChecks.{AreListed}

-- what a step came to: the digest of the action that finished first, and its outcome
pub record FinishedValue : Type 0 where
  pub action : DigestValue
  pub outcome : OutcomeValue

-- a job: its step, the digest of its action, and that of the root of its input
pub record JobValue : Type 0 where
  pub step : ℕ
  pub action : DigestValue
  pub input : DigestValue

-- By a step's number: its frame, its command, and what it came to, if it has finished. By a job's
-- number: the job, if it runs.
pub record EngineValue : Type 0 where
  pub plan : PlanValue
  pub sources : DigestValue
  pub frames : List FrameValue
  pub commands : List CommandValue
  pub finished : List (Option FinishedValue)
  pub jobs : List (Option JobValue)

abbrev pub at_number : {X : Type 0} → List (Option X) → ℕ → Option X
at_number xs i = option_and_then (λ x. x) (slice_get xs i)

-- what a step with this number came to, if it has finished
abbrev pub finished_in : ℕ → EngineValue → Option FinishedValue
finished_in i e = at_number e.finished i

-- the job with this number, if it runs
abbrev pub job_in : ℕ → EngineValue → Option JobValue
job_in w e = at_number e.jobs w

-- ---- rules

-- each step has a frame with its digest and the frame's command, and its result may be kept for
-- other builds
pub record AllStand (steps : List StepValue) (frames : List FrameValue)
    (commands : List CommandValue) : Type 0 where
  pub frames_count : length frames ≡ length steps
  pub commands_count : length commands ≡ length steps
  pub each : (i : ℕ) (s : StepValue) (f : FrameValue) (c : CommandValue)
      → slice_get steps i ≡ Some s → slice_get frames i ≡ Some f → slice_get commands i ≡ Some c
      → StepFits s.frame f c × (f.do_not_cache ≡ false)

-- an output that is a whole directory is a Tree that keeps its rules
abbrev pub IsValidOutput : OutputValue → Type 0
IsValidOutput (outputs.File d executable) = Unit {0}
IsValidOutput (outputs.Link target) = Unit {0}
IsValidOutput (outputs.Tree t) = IsTree t

abbrev pub HoldValidTrees : List (List (List ℕ) × OutputValue) → Type 0
HoldValidTrees es = AllByRecursion (λ e. IsValidOutput e.1) es

-- an outcome that isn't refused: its exit code is 0, and each output is one that the command lists
pub record TakesOutcome (c : CommandValue) (o : OutcomeValue) : Type 0 where
  pub valid : IsOutcome o
  pub outputs : HoldValidTrees o.outputs
  pub exit_code : o.exit_code ≡ pos 0
  pub listed : AreListed c o

pub record IsEngine (e : EngineValue) : Type 0 where
  pub stand : AllStand e.plan.steps e.frames e.commands
  pub count : length e.finished ≡ length e.plan.steps
  pub taken : (i : ℕ) (f : FinishedValue) (c : CommandValue) → finished_in i e ≡ Some f
      → slice_get e.commands i ≡ Some c → TakesOutcome c f.outcome
  pub few : length e.jobs ≤ 4096
  pub running : (w : ℕ) (j : JobValue) → job_in w e ≡ Some j → j.step < length e.plan.steps
