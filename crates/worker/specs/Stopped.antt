-- How a build ends, and why at a step.
use Rattle.std.specs.Prelude.{◌≡◌, ◌⊎◌, ◌<◌, ◌++◌, ℕ, List, [], ◌∷◌, length, map, Some, slice_get}
use Rattle.std.specs.Prelude.{IsSome, Option, Result, IfErr, OnOk, string_bytes}
use Rattle.action_messages.specs.Command.{CommandValue}
use Rattle.actions.specs.Outcome.{OutcomeValue}
use Rattle.blob_digest.specs.Digest.{DigestValue}
use Rattle.blob_source.specs.Source.{Telling}
use Rattle.runs.specs.Engine.{JobValue, EngineValue, finished_in, job_in}
use Rattle.runs.specs.Calls.{IsFinishFault, IsStartFault}
use Rattle.worker.specs.declared.error.StepRefusal.{StepRefusal}
use Rattle.worker.specs.declared.error.StepRefusal.TheVariants as refusals
use Rattle.worker.specs.declared.runner.RunError.TheVariants as children
use Rattle.worker.specs.declared.error.BuildError.{BuildError}
use Rattle.worker.specs.declared.watching.Progress.{Progress}
use Rattle.worker.specs.Calls.{running, Call, started, ran, lost, came_of, Leads, IsLed}
use Rattle.worker.specs.Calls.{IsStartable, IsLeastStartable, HasNoneStartable, AreTurns}
use Rattle.worker.specs.Calls.{LeavesNone}
use Rattle.worker.specs.Layout.{IsLayoutOf}
use Rattle.worker.specs.Outcomes.{Yields, MayComeTo, IsYielded, CanBeTakenFor}
use Rattle.worker.specs.Refusals.{IsLayoutFault}
use Rattle.worker.specs.Values.{LayoutValue, IsAbsolute, bad_at, failed}
use Rattle.worker.specs.Watching.{FinishInOrder, IsProgress, IsWatched, first_step}
use Rattle.worker.specs.Watching.{jobs_after, turns_in}

-- what a job finishes with: what the runner yields for it, or what is taken from the store for it
abbrev pub ComesTo : Yields → Telling → EngineValue → JobValue → OutcomeValue → Type 0
ComesTo yields t e j v = IsYielded yields t.blobs e j v ⊎ CanBeTakenFor t e j v

-- a job of a step runs, of which this is so
abbrev pub HasJobOf : EngineValue → ℕ → (ℕ → JobValue → Type 0) → Type 0
HasJobOf e i Is = (id : ℕ) × (j : JobValue) × (job_in id e ≡ Some j) × (j.step ≡ i) × Is id j

-- a job of a step runs, or the step has finished
abbrev pub HasBegun : EngineValue → ℕ → Type 0
HasBegun e i = HasJobOf e i (λ id j. Unit {0}) ⊎ IsSome (finished_in i e)

-- A step is refused: the engine doesn't start it, though it could be, or doesn't take what its job
-- came to; or the input of its job isn't laid out; or it is, and its command doesn't name its
-- program from the root; or its job's child may come to nothing, as what stands at this path is no
-- output, or as the process of this program fails by this cause. That the store failed, or that
-- memory ran out, is told of a step that has begun.
abbrev pub StopsStep : {A : Type 0} → Yields → Telling → EngineValue → ℕ → StepRefusal A → Type 0
StopsStep yields t e i (refusals.Engine why) = (IsStartable e i × IsStartFault t.blobs e i why)
    ⊎ HasJobOf e i (λ id j.
    (v : OutcomeValue) × ComesTo yields t e j v × IsFinishFault e id v why)
StopsStep yields t e i (refusals.Layout why) =
    HasJobOf e i (λ id j. IsLayoutFault t.blobs j.input why)
StopsStep yields t e i (refusals.Run children.NotAbsolute) =
    HasJobOf e i (λ id j. (l : LayoutValue) × IsLayoutOf t.blobs j.input l
    × (c : CommandValue) × (slice_get e.commands i ≡ Some c) × (IsAbsolute c → ⊥))
StopsStep yields t e i (refusals.Run (children.Device program cause)) =
    HasJobOf e i (λ id j. MayComeTo yields t.blobs e j (failed (string_bytes program) cause))
StopsStep yields t e i (refusals.Run (children.BadOutput path)) =
    HasJobOf e i (λ id j. MayComeTo yields t.blobs e j (bad_at path))
StopsStep yields t e i (refusals.Run children.Memory) = HasBegun e i
StopsStep yields t e i refusals.Fetch = HasBegun e i
StopsStep yields t e i refusals.Memory = HasBegun e i

-- after the first calls of all, jobs alone were lost
pub record LosesRest (A : Type 0) (yields : Yields) (t : Telling) (most : ℕ)
    (first all : List Call) (old new : EngineValue) : Type 0 where
  pub ids : List ℕ
  pub calls : all ≡ first ++ map lost ids
  pub leads : Leads A yields t most (map lost ids) old new

-- The turn of this step comes next after these calls: it is the least that may be started, while
-- fewer jobs run than may; or its job was started first of those that run, and no step may be
-- started, or as many jobs run as may.
abbrev pub ComesNext : ℕ → List Call → EngineValue → ℕ → Type 0
ComesNext most calls e i = ((running e.jobs < most) × IsLeastStartable e i)
    ⊎ ((first_step (jobs_after [] calls) ≡ Some i) × (running e.jobs < most → HasNoneStartable e))

-- the refusal is of the step's child: its input isn't laid out, or it isn't started, or came to
-- nothing
abbrev pub IsOfChild : {A : Type 0} → StepRefusal A → Type 0
IsOfChild (refusals.Layout why) = Unit {0}
IsOfChild (refusals.Run why) = Unit {0}
IsOfChild r = ⊥

-- the store had no result to take before for the job of a step
abbrev pub HadNoneFor : List Call → Telling → EngineValue → ℕ → Type 0
HadNoneFor calls before e i = HasJobOf e i (λ id j.
    (c : CommandValue) × (slice_get e.commands i ≡ Some c) × LeavesNone calls before j.action c)

-- How far the turn of a step came, which is refused after whole turns. It comes next; or it was
-- started, and is refused for its child only where the store had no result to take; or its job
-- finished, which was started first of those that ran.
abbrev pub IsRefusedTurn : {A : Type 0} → ℕ → Telling → List Call → EngineValue → ℕ → StepRefusal A
    → List Call → Type 0
IsRefusedTurn most before whole at i r [] = ComesNext most whole at i
IsRefusedTurn most before whole at i r (started k id ∷ []) =
    (k ≡ i) × (IsOfChild r → HadNoneFor whole before at i)
IsRefusedTurn most before whole at i r (ran id d v ∷ []) =
    first_step (jobs_after [] whole) ≡ Some i
IsRefusedTurn most before whole at i r begun = ⊥

-- After whole turns the turn of a step of the plan was begun, and the step is refused; and then
-- jobs alone were lost.
pub record IsRefusedBuild (A : Type 0) (yields : Yields) (before t : Telling) (most : ℕ)
    (whole calls : List Call) (old new : EngineValue) (i : ℕ) (r : StepRefusal A) : Type 0 where
  pub at : EngineValue
  pub led : IsLed A yields t most old at
  pub begun : List Call
  pub are : led.calls ≡ whole ++ begun
  pub turn : IsRefusedTurn most before whole at i r begun
  pub rest : LosesRest A yields t most led.calls calls at new
  pub planned : i < length at.plan.steps
  pub stops : StopsStep yields t at i r

-- A build ends with this answer after these calls.
pub record EndsBuild {T : Type 0} (A : Type 0) (yields : Yields) (before t : Telling) (most : ℕ)
    (old new : EngineValue) (calls : List Call) (heard hears : Option (List Progress))
    (result : Result T (BuildError A)) : Type 0 where
  -- the calls are whole turns
  pub whole : List Call
  pub turns : AreTurns whole
  pub all : OnOk result (calls ≡ whole)
  -- where the build fails, the step of the next turn is refused
  pub refused : IfErr result
      (λ e. IsRefusedBuild A yields before t most whole calls old new e.step e.refusal)
  -- whatever is answered, children's jobs finish in the order of their starts, and a result was put
  -- for each that finished in a whole turn
  pub in_order : FinishInOrder [] calls
  pub put : (more : List DigestValue) × (t.puts ≡ (before.puts ++ came_of whole) ++ more)
  -- the watcher was told the numbers after each whole turn
  pub watched : IsWatched (IsProgress A yields t most old calls) (turns_in whole) heard hears

-- the store failed, or memory ran out
abbrev pub IsStoreFault : {A : Type 0} → StepRefusal A → Type 0
IsStoreFault refusals.Fetch = Unit {0}
IsStoreFault refusals.Memory = Unit {0}
IsStoreFault r = ⊥
