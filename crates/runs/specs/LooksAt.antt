-- What an opening, a start and the root of a build look at: frames and commands, and Directories
-- of the sources, by their digests.
use Rattle.std.specs.Prelude.{◌≡◌, ◌⊎◌, ℕ, false, List, Some, slice_get}
use Rattle.action_messages.specs.Frame.{FrameValue, IsFrame, frame_bytes}
use Rattle.plan.specs.Values.{LineValue, StepValue}
use Rattle.tree.specs.Memo.{Asked, LooksAtBlob}
use Rattle.blob_source.specs.Source.{Blobs}
use Rattle.blob_source.specs.Told.{IsTold}
use Rattle.verifier.specs.Together.{TogetherLooksAt}
use Rattle.runs.specs.Engine.{EngineValue}
use Rattle.runs.specs.Looking.{outcomes_in}
use Rattle.runs.specs.Calls.{AreToldBefore, IsReady, HasRoomForJob, HaveAllFinished}

-- the frame of a step, and where that is told and may be cached, the command that it names
abbrev pub MeaningLooksAt : Blobs → StepValue → Asked → Type 0
MeaningLooksAt B s a = LooksAtBlob s.frame a
    ⊎ ((f : FrameValue) × IsTold IsFrame frame_bytes B s.frame f × (f.do_not_cache ≡ false)
    × LooksAtBlob f.command a)

-- an opening, one step after another, as far as each has a meaning
abbrev pub OpeningLooksAt : Blobs → List StepValue → Asked → Type 0
OpeningLooksAt B steps a = (i : ℕ) × (s : StepValue) × (slice_get steps i ≡ Some s)
    × AreToldBefore B steps i × MeaningLooksAt B s a

-- the Directories on the ways to the origins of lines, and those that are read where lines meet
abbrev pub LinesNeed : Blobs → EngineValue → List LineValue → Asked → Type 0
LinesNeed B e lines = TogetherLooksAt B e.sources (outcomes_in e.finished) lines

-- A start needs what the step's lines do, and nothing where it is refused before they are looked
-- up: where the step isn't ready, or 4,096 jobs run.
abbrev pub StartNeeds : Blobs → EngineValue → ℕ → Asked → Type 0
StartNeeds B e i a = (step : StepValue) × (slice_get e.plan.steps i ≡ Some step)
    × IsReady e i × HasRoomForJob e × LinesNeed B e step.lines a

-- The root needs what its lines do, and nothing while a step hasn't finished.
abbrev pub RootNeeds : Blobs → EngineValue → Asked → Type 0
RootNeeds B e a = HaveAllFinished e × LinesNeed B e e.plan.root_lines a
