-- Why a turn of a build is refused: words of private functions.
use Rattle.std.specs.Prelude.{◌≡◌, ◌⊎◌, ℕ, [], string_bytes}
use Rattle.blob_digest.specs.Digest.{DigestValue}
use Rattle.action_messages.specs.Command.{CommandValue}
use Rattle.blob_source.specs.Source.{Blobs, Telling}
use Rattle.runs.specs.Engine.{EngineValue}
use Rattle.runs.specs.Calls.{IsFinishFault, without_job}
use Rattle.worker.specs.declared.error.StepRefusal.{StepRefusal}
use Rattle.worker.specs.declared.error.StepRefusal.TheVariants as refusals
use Rattle.worker.specs.declared.runner.RunError.TheVariants as children
use Rattle.worker.specs.declared.child.Child.{Child}
use Rattle.worker.specs.Calls.{IsLost, WasStarted}
use Rattle.worker.specs.Going.{EndedWell}
use Rattle.worker.specs.Layout.{IsLayoutOf}
use Rattle.worker.specs.Outcomes.{Yields, YieldsFor, HasAllRight, HasTrees}
use Rattle.worker.specs.Refusals.{IsLayoutFault}
use Rattle.worker.specs.Stopped.{StopsStep, IsOfChild, HadNoneFor, IsStoreFault}
use Rattle.worker.specs.Stored.{IsKept}
use Rattle.worker.specs.Values.{LayoutValue, ProducedValue, EndValue, made, bad_at, failed}
use Rattle.worker.specs.Values.{IsAbsolute}

-- why a child isn't started for an input and a command
abbrev pub StopsChild : {A : Type 0} → Yields → Blobs → DigestValue → CommandValue → StepRefusal A
    → Type 0
StopsChild yields B input c (refusals.Engine why) = ⊥
StopsChild yields B input c (refusals.Layout why) = IsLayoutFault B input why
StopsChild yields B input c (refusals.Run children.NotAbsolute) =
    (l : LayoutValue) × IsLayoutOf B input l × (IsAbsolute c → ⊥)
StopsChild yields B input c (refusals.Run (children.BadOutput path)) = ⊥
StopsChild yields B input c (refusals.Run (children.Device program cause)) = (l : LayoutValue)
    × IsLayoutOf B input l × YieldsFor yields l c (failed (string_bytes program) cause)
StopsChild yields B input c r = Unit {0}

-- why a child comes to nothing that is collected
abbrev pub StopsCollecting : {A : Type 0} → (EndValue → Type 0) → StepRefusal A → Type 0
StopsCollecting may (refusals.Engine why) = ⊥
StopsCollecting may (refusals.Layout why) = ⊥
StopsCollecting may (refusals.Run children.NotAbsolute) = ⊥
StopsCollecting may (refusals.Run (children.BadOutput path)) = may (bad_at path)
StopsCollecting may (refusals.Run (children.Device program cause)) =
    may (failed (string_bytes program) cause)
StopsCollecting may r = Unit {0}

-- why the job of a child doesn't finish: the engine doesn't take what the child came to, or it came
-- to nothing
abbrev pub StopsEnd : {A J : Type 0} → (J → EndValue → Type 0) → Blobs → Child J → EngineValue
    → StepRefusal A → Type 0
StopsEnd may B c e (refusals.Engine why) = (p : ProducedValue) × may c.job (made p)
    × HasAllRight B p.blobs × HasTrees B p.outcome × IsFinishFault e c.id p.outcome why
StopsEnd may B c e r = StopsCollecting (may c.job) r

-- A child's job didn't finish, and no result was put; or it did, and then its result wasn't put, as
-- the store failed or memory ran out.
abbrev pub StopsSettling : {A J : Type 0} → (J → EndValue → Type 0) → Telling → Telling
    → Child J → EngineValue → EngineValue → StepRefusal A → Type 0
StopsSettling may s t c old new r =
    (IsLost c.id old new × IsKept s t × StopsEnd may t.blobs c old r)
    ⊎ (EndedWell may s t c old new × IsStoreFault r)

-- A step is refused as it is started; or as its job goes on, which is lost then: for its child only
-- where the store had no result to take.
abbrev pub StopsBeginning : (A : Type 0) → Yields → Telling → Telling → ℕ → EngineValue
    → EngineValue → StepRefusal A → Type 0
StopsBeginning A yields s t i old new r = ((new ≡ old) × StopsStep yields t old i r)
    ⊎ ((id : ℕ) × (mid : EngineValue) × WasStarted A t.blobs i id old mid
    × (new ≡ without_job id mid) × StopsStep yields t mid i r
    × (IsOfChild r → HadNoneFor [] s mid i))
