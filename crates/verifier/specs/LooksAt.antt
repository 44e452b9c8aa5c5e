-- What the checks of a plan look at, up to the first fault: blobs and results, by their digests.
use Rattle.std.specs.Prelude.{◌≢◌, ◌⊎◌, List, [], ◌∷◌, ◌++◌, slice_get}
use Rattle.std.specs.List.{Contains}
use Rattle.blob_digest.specs.Digest.{DigestValue}
use Rattle.action_messages.specs.Action.{ActionValue, IsAction, action_bytes}
use Rattle.action_messages.specs.ActionResult.{ActionResultValue}
use Rattle.action_messages.specs.Command.{CommandValue, IsCommand, command_bytes}
use Rattle.action_messages.specs.Outputs.{RecordedValue, recorded_path, AreOutputs}
use Rattle.actions.specs.Outcome.{OutcomeValue, OutputValue}
use Rattle.actions.specs.LooksAt.{OutputLooksAt}
use Rattle.actions.specs.Recorded.{StandsFor}
use Rattle.plan.specs.Values.{LineValue, StepValue, PlanValue}
use Rattle.tree.specs.Tree.{Tree}
use Rattle.tree.specs.Form.{NodeValue, root}
use Rattle.tree.specs.Folded.{first_visits}
use Rattle.tree.specs.MergeLooks.{looks}
use Rattle.tree.specs.LooksAt.{Compares}
use Rattle.tree.specs.Memo.{Asked, LooksAtBlob, LooksAtResult}
use Rattle.blob_source.specs.Source.{Blobs, Telling}
use Rattle.verifier.specs.StepChecks.{message, cached, framed, together, input_check, result_held}
use Rattle.verifier.specs.StepChecks.{succeeded, step_check}
use Rattle.verifier.specs.Together.{TogetherLooksAt}
use Rattle.verifier.specs.Verdict.{steps_check}

-- a check of what is known already
abbrev pub LooksAtNothing : Asked → Type 0
LooksAtNothing a = ⊥

-- ---- what each check looks at

-- the comparison with the recorded input, where the tree isn't that
abbrev pub DifferenceLooksAt : Blobs → ActionValue → Tree NodeValue → Asked → Type 0
DifferenceLooksAt B action t a =
    (root t ≢ action.input) × Compares (first_visits t) B 64 (root t) action.input a

-- the lines, and then that comparison
abbrev pub InputLooksAt : (A : Type 0) → Blobs → DigestValue → List OutcomeValue → List LineValue
    → ActionValue → Asked → Type 0
InputLooksAt A B sources outcomes lines action =
    looks (together {A = A} B sources outcomes lines)
    (TogetherLooksAt B sources (slice_get outcomes) lines) (DifferenceLooksAt B action)

-- one output after another, as far as the command lists each and it is told
abbrev pub OutputsLookAt : Blobs → CommandValue → List RecordedValue → Asked → Type 0
OutputsLookAt B command [] a = ⊥
OutputsLookAt B command (x ∷ xs) a =
    Contains command.output_paths (recorded_path x)
    × (OutputLooksAt x a
    ⊎ ((y : OutputValue) × StandsFor B x y × OutputsLookAt B command xs a))

abbrev pub OutcomeLooksAt : Blobs → CommandValue → ActionResultValue → Asked → Type 0
OutcomeLooksAt B command result a =
    (xs : List RecordedValue) × AreOutputs result xs × OutputsLookAt B command xs a

-- a result, and then its outputs
abbrev pub ResultLooksAt : (A : Type 0) → Telling → CommandValue → DigestValue → Asked → Type 0
ResultLooksAt A tells command d =
    looks (result_held {A = A} tells.results d) (LooksAtResult d) λ result.
    looks (succeeded {A = A} result) LooksAtNothing λ _.
    OutcomeLooksAt tells.blobs command result

-- ---- all of them, in their order

-- the checks of a step with a recorded digest
abbrev pub StepLooksAt : (A : Type 0) → Telling → DigestValue → List OutcomeValue → StepValue
    → DigestValue → Asked → Type 0
StepLooksAt A tells sources outcomes step d =
    looks (message {A = A} IsAction action_bytes tells.blobs d) (LooksAtBlob d) λ action.
    looks (cached {A = A} action) LooksAtNothing λ _.
    looks (message {A = A} IsCommand command_bytes tells.blobs action.frame.command)
    (LooksAtBlob action.frame.command) λ command.
    looks (framed {A = A} action step.frame) LooksAtNothing λ _.
    looks (input_check {A = A} tells.blobs sources outcomes step.lines action)
    (InputLooksAt A tells.blobs sources outcomes step.lines action) λ _.
    ResultLooksAt A tells command d

-- the checks of the steps that are left
abbrev pub StepsLookAt : (A : Type 0) → Telling → DigestValue → List OutcomeValue
    → List StepValue → List DigestValue → Asked → Type 0
StepsLookAt A tells sources outcomes [] ds a = ⊥
StepsLookAt A tells sources outcomes (s ∷ ss) [] a = ⊥
StepsLookAt A tells sources outcomes (s ∷ ss) (d ∷ ds) a =
    looks (step_check {A = A} tells sources outcomes s d)
    (StepLooksAt A tells sources outcomes s d)
    (λ outcome. StepsLookAt A tells sources (outcomes ++ outcome ∷ []) ss ds) a

-- the check of the root
abbrev pub RootLooksAt : (A : Type 0) → Telling → DigestValue → List OutcomeValue → List LineValue
    → Asked → Type 0
RootLooksAt A tells sources outcomes lines =
    looks (together {A = A} tells.blobs sources outcomes lines)
    (TogetherLooksAt tells.blobs sources (slice_get outcomes) lines) λ _.
    LooksAtNothing

-- the checks of a plan: of its steps, and of its root
abbrev pub PlanLooksAt : (A : Type 0) → Telling → DigestValue → PlanValue → List DigestValue
    → Asked → Type 0
PlanLooksAt A tells sources plan recorded =
    looks (steps_check {A = A} tells sources [] plan.steps recorded)
    (StepsLookAt A tells sources [] plan.steps recorded) λ outcomes.
    RootLooksAt A tells sources outcomes plan.root_lines
