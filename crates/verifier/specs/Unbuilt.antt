-- What a no says of builds: where lines put nothing together, that nobody can build the plan; where
-- a recorded action isn't the plan's, that nobody who builds the plan runs it; and where it ended
-- badly, that it does so for whoever builds the plan.
use Rattle.std.specs.Prelude.{◌≡◌, ◌≢◌, ℕ, suc, ℤ, pos, List, Some, None, slice_get, take, Contains}
use Rattle.blob_digest.specs.Digest.{DigestValue}
use Rattle.plan.specs.Values.{StepValue, PlanValue}
use Rattle.tree.specs.Tree.{Name}
use Rattle.tree.specs.Form.{NodeValue}
use Rattle.blob_source.specs.Source.{Blobs}
use Rattle.verifier.specs.declared.verdict.Cause.{Cause}
use Rattle.verifier.specs.declared.verdict.Cause.TheVariants.{OriginMissing, InputConflict}
use Rattle.verifier.specs.declared.verdict.Cause.TheVariants.{FrameDiffers, InputUnexplained}
use Rattle.verifier.specs.declared.verdict.Cause.TheVariants.{InputAbsent, InputDiffers}
use Rattle.verifier.specs.Build.{ActionMeaning, action_digest, Outcome, start, outcome_of, job_of}
use Rattle.verifier.specs.Build.{happens, HasFinishedAll, merge_of}
use Rattle.verifier.specs.Headline.{PlanRun, RunsFrom}
use Rattle.verifier.specs.Recorded.{entries_form}

-- The cause is that lines put nothing together: nothing stands at the origin of one, or what they
-- give doesn't merge.
abbrev pub IsOfLines : {A : Type 0} → Cause A → Type 0
IsOfLines (OriginMissing path) = Unit {0}
IsOfLines (InputConflict path) = Unit {0}
IsOfLines c = ⊥

-- In a run a step has never started and can't start, and so not every step has finished.
pub record IsNeverStarted (plan : PlanValue) (run : PlanRun) (i : ℕ) : Type 0 where
  pub before : (w : ℕ) → Contains run.events (start i w) → ⊥
  pub now : (w : ℕ) → happens plan run.meaning run.tree run.now (start i w) ≡ None
  pub incomplete : HasFinishedAll plan run.now → ⊥

-- No run ever starts the step with this name, whatever overlaps, is lost or is repeated. The
-- premises are those of a yes, but what was recorded is about the steps before this one alone.
pub record NoRunStarts (blobs results : Blobs) (sources : DigestValue) (plan : PlanValue)
    (recorded : List DigestValue) (name : List ℕ) : Type 0 where
  pub index : ℕ
  pub step : StepValue
  pub step_at : slice_get plan.steps index ≡ Some step
  pub named : name ≡ step.name
  pub of_run : (run : PlanRun)
      → RunsFrom blobs results sources plan (take index recorded) run
      → IsNeverStarted plan run index

-- No run has a root, complete or not.
pub record NoRunHasRoot (blobs results : Blobs) (sources : DigestValue) (plan : PlanValue)
    (recorded : List DigestValue) : Type 0 where
  pub of_run : (run : PlanRun)
      → RunsFrom blobs results sources plan recorded run
      → merge_of run.tree run.now plan.root_lines ≡ None

-- The cause is that the recorded action isn't the plan's: it has another frame, or another input.
abbrev pub IsOfAction : {A : Type 0} → Cause A → Type 0
IsOfAction FrameDiffers = Unit {0}
IsOfAction (InputUnexplained path) = Unit {0}
IsOfAction (InputAbsent path) = Unit {0}
IsOfAction (InputDiffers path) = Unit {0}
IsOfAction c = ⊥

-- a plan's step with this name, and the digest of the action that was recorded of it
pub record RecordedStep (plan : PlanValue) (recorded : List DigestValue) (name : List ℕ)
    : Type 0 where
  pub index : ℕ
  pub step : StepValue
  pub digest : DigestValue
  pub step_at : slice_get plan.steps index ≡ Some step
  pub digest_at : slice_get recorded index ≡ Some digest
  pub named : name ≡ step.name

-- No run ever runs what was recorded of the step with this name: the jobs of that step are of
-- actions with other digests. The premises are the same.
pub record NoRunHasAction (blobs results : Blobs) (sources : DigestValue) (plan : PlanValue)
    (recorded : List DigestValue) (name : List ℕ) : Type 0 where
  pub of_step : RecordedStep plan recorded name
  pub of_run : (run : PlanRun)
      → RunsFrom blobs results sources plan (take of_step.index recorded) run
      → (w : ℕ) (job : ℕ × ActionMeaning) → job_of w run.now ≡ Some job → job.0 ≡ of_step.index
      → action_digest job.1 ≢ of_step.digest

-- an action ended with this exit code, which isn't 0
abbrev pub EndsWithCode : ℤ → ActionMeaning → Outcome → Type 0
EndsWithCode code a o = (o.exit_code ≡ code) × (code ≢ pos 0)

-- an action made something at this path, which its command doesn't list
abbrev pub MakesUnlisted : List Name → ActionMeaning → Outcome → Type 0
MakesUnlisted path a o = ((x : NodeValue) × Contains (entries_form o.outputs) (path, x))
    × (Contains a.command.output_paths path → ⊥)

-- In a run the jobs of a step are of the action with this digest, and where the step has finished,
-- that action ended so.
pub record EndsStep (run : PlanRun) (i : ℕ) (digest : DigestValue)
    (So : ActionMeaning → Outcome → Type 0) : Type 0 where
  pub jobs : (w : ℕ) (job : ℕ × ActionMeaning) → job_of w run.now ≡ Some job → job.0 ≡ i
      → action_digest job.1 ≡ digest
  pub ended : (o : Outcome) → outcome_of i run.now ≡ Some o → (a : ActionMeaning)
      × (action_digest a ≡ digest) × Contains run.table (a, o) × So a o

-- Every run runs what was recorded of the step with this name, and it ends so whenever it finishes.
-- The premises are those of a yes, about what was recorded of this step and of those before it.
pub record EveryRunEndsStep (blobs results : Blobs) (sources : DigestValue) (plan : PlanValue)
    (recorded : List DigestValue) (name : List ℕ) (So : ActionMeaning → Outcome → Type 0)
    : Type 0 where
  pub of_step : RecordedStep plan recorded name
  pub of_run : (run : PlanRun)
      → RunsFrom blobs results sources plan (take (suc of_step.index) recorded) run
      → EndsStep run of_step.index of_step.digest So
