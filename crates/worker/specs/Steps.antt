-- Where what each step of a build came to is from, and the blobs that a build puts.
use Rattle.std.specs.Prelude.{◌≡◌, ◌⊎◌, ℕ, List, ◌∷◌, Some, Contains}
use Rattle.blob_digest.specs.Digest.{DigestValue}
use Rattle.action_messages.specs.Action.{action_bytes}
use Rattle.action_messages.specs.ActionResult.{ActionResultValue}
use Rattle.action_messages.specs.Reads.{Reads}
use Rattle.actions.specs.Outcome.{OutcomeValue}
use Rattle.actions.specs.Recorded.{IsRecorded}
use Rattle.blob_source.specs.Source.{Blobs, Telling}
use Rattle.blob_source.specs.Sink.{KeepsRight}
use Rattle.tree.specs.Folded.{items_of}
use Rattle.runs.specs.Calls.{IsPrepared}
use Rattle.runs.specs.Engine.{FinishedValue, JobValue, EngineValue, finished_in}
use Rattle.runs.specs.declared.starting.Job.{Job}
use Rattle.worker.specs.Calls.{Call, CameTo}
use Rattle.worker.specs.Outcomes.{Yields, MayComeTo, IsYielded, CanBeTaken, blobs_made}
use Rattle.worker.specs.Outcomes.{tree_blobs}
use Rattle.worker.specs.Values.{ProducedValue, made}
use Rattle.verifier.specs.Recorded.{HaveOneForm, IsHeld}

-- In the calls a child of the action came to the outcome, which its step has. The runner yields it
-- for the layout that is told under the input of the child's job, and for the step's command.
pub record CameOfChild (yields : Yields) (calls : List Call) (B : Blobs) (e : EngineValue)
    (d : DigestValue) (v : OutcomeValue) : Type 0 where
  pub came : CameTo calls d v
  pub job : JobValue
  pub action : job.action ≡ d
  pub finished : finished_in job.step e ≡ Some (record { action = d; outcome = v })
  pub yielded : IsYielded yields B e job v

-- The store's result for the step's action was taken. It stands there still, and none was put under
-- the action's digest; or else what the step came to is of one form with what a child of the same
-- action came to.
pub record WasTaken (yields : Yields) (calls : List Call) (put : List DigestValue) (t : Telling)
    (e : EngineValue) (f : FinishedValue) : Type 0 where
  pub bytes : List ℕ
  pub result : ActionResultValue
  pub reads : Reads result bytes
  pub recorded : IsRecorded t.blobs result f.outcome
  pub stands : ((t.results f.action ≡ Some bytes) × (Contains put f.action → ⊥))
      ⊎ ((v : OutcomeValue) × CameOfChild yields calls t.blobs e f.action v
      × HaveOneForm v f.outcome)

-- an engine of the same build, in which each step that had finished has, with its outcome
pub record IsSameBuild (old new : EngineValue) : Type 0 where
  pub plan : new.plan ≡ old.plan
  pub sources : new.sources ≡ old.sources
  pub frames : new.frames ≡ old.frames
  pub commands : new.commands ≡ old.commands
  pub finished : (i : ℕ) (f : FinishedValue) → finished_in i old ≡ Some f
      → finished_in i new ≡ Some f

-- The digest is that of a step's action, as it was prepared when fewer steps may have finished: the
-- step's frame with the root of what the step's lines put together.
pub record IsActionOf (A : Type 0) (B : Blobs) (e : EngineValue) (i : ℕ) (d : DigestValue)
    : Type 0 where
  pub told : Blobs
  pub still : KeepsRight told B
  pub at : EngineValue
  pub same : IsSameBuild at e
  pub job : Job A
  pub prepared : IsPrepared told at i job.id job
  pub digest : job.digest ≡ d

-- ---- which blobs a build puts

-- the action of a job, and the Directories of its input
abbrev pub blobs_of_job : {A : Type 0} → Job A → List (List ℕ)
blobs_of_job job = action_bytes job.action ∷ items_of job.input.directories.items

-- a Tree of an outcome that the store has recorded for a job's action, and that a build takes, or
-- a Directory of it
abbrev pub IsOfRecorded : {A : Type 0} → Job A → Telling → List ℕ → Type 0
IsOfRecorded job t b = (v : OutcomeValue) × IsHeld t job.digest v × CanBeTaken job.command v
    × Contains (tree_blobs v.outputs) b

-- a blob that is put as a job goes on
abbrev pub IsForJob : {A : Type 0} → Job A → Telling → List ℕ → Type 0
IsForJob job t b = Contains (blobs_of_job job) b ⊎ IsOfRecorded job t b

-- a blob of what a job's child may come to
abbrev pub IsOfProduced : Yields → Blobs → EngineValue → List ℕ → Type 0
IsOfProduced yields B e b = (j : JobValue) × (p : ProducedValue) × MayComeTo yields B e j (made p)
    × Contains (blobs_made p) b

-- a Tree of what a step finished with, or a Directory of it
abbrev pub IsOfFinished : EngineValue → List ℕ → Type 0
IsOfFinished e b = (i : ℕ) × (f : FinishedValue) × (finished_in i e ≡ Some f)
    × Contains (tree_blobs f.outcome.outputs) b

-- A blob that a build puts: for the job of a step, as it was prepared; or of what a job's child may
-- come to; or of what a step finished with.
abbrev pub IsOfBuild : (A : Type 0) → Yields → Telling → EngineValue → List ℕ → Type 0
IsOfBuild A yields t e b =
    ((i : ℕ) × (d : DigestValue) × (o : IsActionOf A t.blobs e i d) × IsForJob o.job t b)
    ⊎ (IsOfProduced yields t.blobs e b ⊎ IsOfFinished e b)
