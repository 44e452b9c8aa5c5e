-- Whether a step is as recorded: what is checked of it, one thing after another, and why each
-- fails.
use Rattle.std.specs.Prelude.{◌≡◌, ◌≢◌, ◌⊎◌, ℕ, pos, false, List, [], ◌∷◌, Some, None, slice_get}
use Rattle.std.specs.List.{AllByRecursion, Contains}
use Rattle.blob_digest.specs.Digest.{DigestValue, digest_of}
use Rattle.action_messages.specs.Action.{ActionValue, IsAction, action_bytes}
use Rattle.action_messages.specs.ActionResult.{ActionResultValue}
use Rattle.action_messages.specs.Command.{CommandValue, IsCommand, command_bytes}
use Rattle.action_messages.specs.Frame.{frame_bytes}
use Rattle.actions.specs.Outcome.{OutcomeValue, OutputValue, paths_of_outputs}
use Rattle.action_messages.specs.Reads.{Reads}
use Rattle.action_messages.specs.Outputs.{RecordedValue, recorded_path, AreOutputs}
use Rattle.actions.specs.Recorded.{StandsFor, IsOutputFault, IsRecorded}
use Rattle.plan.specs.Values.{LineValue, StepValue}
use Rattle.tree.specs.Tree.{Tree}
use Rattle.tree.specs.Form.{NodeValue, root}
use Rattle.tree.specs.Folded.{first_visits}
use Rattle.tree.specs.Stage.{Stage, ◌and_then◌, demands}
use Rattle.blob_source.specs.Source.{Blobs, Telling}
use Rattle.blob_source.specs.Told.{Fault, IsTold, IsFault}
use Rattle.tree.specs.Difference.{Differing, unexplained, absent, differs, unread, FindsFirst}
use Rattle.verifier.specs.declared.verdict.Cause.{Cause}
use Rattle.verifier.specs.declared.verdict.Cause.TheVariants.{DoNotCache, FrameDiffers}
use Rattle.verifier.specs.declared.verdict.Cause.TheVariants.{InputUnexplained, InputAbsent}
use Rattle.verifier.specs.declared.verdict.Cause.TheVariants.{InputDiffers, ResultMissing}
use Rattle.verifier.specs.declared.verdict.Cause.TheVariants.{ResultMalformed, ExitCode}
use Rattle.verifier.specs.declared.verdict.Cause.TheVariants.{OutputUnlisted}
use Rattle.verifier.specs.Faults.{cause_of_fault, cause_of_lines}
use Rattle.verifier.specs.Holding.{HoldsResult}
use Rattle.verifier.specs.Together.{with_faults_named, put_together}

-- ---- what a step must be, one check each

-- a message of a kind is told under a digest
abbrev pub message : {A M : Type 0} → (M → Type 0) → (M → List ℕ) → Blobs → DigestValue
    → Stage (Cause A) M
message keeps spells B d = record {
  passes = IsTold keeps spells B d;
  fails = λ cause. (f : Fault) × IsFault keeps spells B d f × (cause ≡ cause_of_fault f);
}

-- the action may be cached
abbrev pub cached : {A : Type 0} → ActionValue → Stage (Cause A) (Unit {0})
cached action = demands (action.frame.do_not_cache ≡ false) DoNotCache

-- the action's frame is the plan's
abbrev pub framed : {A : Type 0} → ActionValue → DigestValue → Stage (Cause A) (Unit {0})
framed action frame = demands (digest_of (frame_bytes action.frame) ≡ frame) FrameDiffers

-- lines put a tree together, over what the steps before came to
abbrev pub together : {A : Type 0} → Blobs → DigestValue → List OutcomeValue → List LineValue
    → Stage (Cause A) (Tree NodeValue)
together B sources outcomes lines =
    with_faults_named cause_of_lines (put_together B sources (slice_get outcomes) lines)

-- the cause that a difference of the recorded input is
abbrev pub difference_cause : {A : Type 0} → Differing → Cause A
difference_cause (unexplained path) = InputUnexplained path
difference_cause (absent path) = InputAbsent path
difference_cause (differs path) = InputDiffers path
difference_cause (unread f) = cause_of_fault f

-- the tree is the recorded input
abbrev pub same_input : {A : Type 0} → Blobs → ActionValue → Tree NodeValue
    → Stage (Cause A) (Unit {0})
same_input B action t = record {
  passes = λ _. root t ≡ action.input;
  fails = λ cause.
      (root t ≢ action.input) × (x : Differing)
      × FindsFirst (first_visits t) B (root t) action.input x
      × (cause ≡ difference_cause x);
}

-- the action's input is what the lines put together
abbrev pub input_check : {A : Type 0} → Blobs → DigestValue → List OutcomeValue → List LineValue
    → ActionValue → Stage (Cause A) (Unit {0})
input_check B sources outcomes lines action =
    together B sources outcomes lines and_then λ t.
    same_input B action t

-- a result is held under the action's digest
abbrev pub result_held : {A : Type 0} → Blobs → DigestValue → Stage (Cause A) ActionResultValue
result_held C d = record {
  passes = HoldsResult C d;
  fails = λ cause.
      ((C d ≡ None) × (cause ≡ ResultMissing))
      ⊎ ((bytes : List ℕ) × (C d ≡ Some bytes)
      × ((r : ActionResultValue) → Reads r bytes → ⊥) × (cause ≡ ResultMalformed));
}

-- the recorded process ended well
abbrev pub succeeded : {A : Type 0} → ActionResultValue → Stage (Cause A) (Unit {0})
succeeded result = demands (result.exit_code ≡ pos 0) (ExitCode result.exit_code)

-- why an output is refused: the command doesn't list it, or its Tree isn't told
abbrev pub IsRefusedOutput : {A : Type 0} → Blobs → CommandValue → RecordedValue → Cause A → Type 0
IsRefusedOutput B c x cause =
    ((Contains c.output_paths (recorded_path x) → ⊥) × (cause ≡ OutputUnlisted (recorded_path x)))
    ⊎ (Contains c.output_paths (recorded_path x)
    × (f : Fault) × IsOutputFault B x f × (cause ≡ cause_of_fault f))

-- why the first of the outputs that is refused is so
abbrev pub OutputFault : {A : Type 0} → Blobs → CommandValue → List RecordedValue → Cause A → Type 0
OutputFault B c [] cause = ⊥
OutputFault B c (x ∷ xs) cause =
    IsRefusedOutput B c x cause
    ⊎ (Contains c.output_paths (recorded_path x)
    × (y : OutputValue) × StandsFor B x y × OutputFault B c xs cause)

-- each output is one that the command lists
abbrev pub AreListed : CommandValue → OutcomeValue → Type 0
AreListed c o = AllByRecursion (Contains c.output_paths) (paths_of_outputs o.outputs)

-- each output, by path, is one that the command lists, and its Tree is told
abbrev pub read : {A : Type 0} → Blobs → CommandValue → ActionResultValue
    → Stage (Cause A) OutcomeValue
read B command result = record {
  passes = λ outcome. IsRecorded B result outcome × AreListed command outcome;
  fails = λ cause. (xs : List RecordedValue) × AreOutputs result xs
      × OutputFault B command xs cause;
}

-- the result that is held ended well, and its outputs are the command's; it passes with its outcome
abbrev pub result_check : {A : Type 0} → Telling → CommandValue → DigestValue
    → Stage (Cause A) OutcomeValue
result_check tells command d =
    result_held tells.results d and_then λ result.
    succeeded result and_then λ _.
    read tells.blobs command result

-- ---- all of them, in their order

-- The check of a step with a recorded digest, where the steps before it came to these outcomes, by
-- what a source tells. It passes with the outcome that was recorded.
abbrev pub step_check : {A : Type 0} → Telling → DigestValue → List OutcomeValue → StepValue
    → DigestValue → Stage (Cause A) OutcomeValue
step_check tells sources outcomes step d =
    message IsAction action_bytes tells.blobs d and_then λ action.
    cached action and_then λ _.
    message IsCommand command_bytes tells.blobs action.frame.command and_then λ command.
    framed action step.frame and_then λ _.
    input_check tells.blobs sources outcomes step.lines action and_then λ _.
    result_check tells command d
