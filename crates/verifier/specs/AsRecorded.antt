-- A yes in plain words: each step is as recorded, and the root is accepted.
use Rattle.std.specs.Prelude.{◌≡◌, ℕ, pos, false, List, [], ◌∷◌, ◌++◌, Some, slice_get, take}
use Rattle.blob_digest.specs.Digest.{DigestValue, digest_of}
use Rattle.action_messages.specs.Action.{ActionValue, IsAction, action_bytes}
use Rattle.action_messages.specs.ActionResult.{ActionResultValue}
use Rattle.verifier.specs.Holding.{HoldsResult}
use Rattle.action_messages.specs.Command.{CommandValue, IsCommand, command_bytes}
use Rattle.action_messages.specs.Frame.{frame_bytes}
use Rattle.actions.specs.Outcome.{OutcomeValue}
use Rattle.actions.specs.Recorded.{IsRecorded}
use Rattle.plan.specs.Values.{LineValue, StepValue, PlanValue}
use Rattle.tree.specs.Tree.{Tree}
use Rattle.tree.specs.Form.{NodeValue, root}
use Rattle.tree.specs.Merging.{MergeLines, merged}
use Rattle.blob_source.specs.Source.{Blobs}
use Rattle.blob_source.specs.Told.{IsTold}
use Rattle.verifier.specs.Together.{Resolves}
use Rattle.verifier.specs.StepChecks.{AreListed}

-- A step with a recorded digest is as recorded, and came to an outcome, where the steps before it
-- came to these:
pub record IsAsRecorded (B C : Blobs) (sources : DigestValue) (before : List OutcomeValue)
    (step : StepValue) (d : DigestValue) (o : OutcomeValue) : Type 0 where
  pub action : ActionValue
  pub command : CommandValue
  pub nodes : MergeLines
  pub tree : Tree NodeValue
  pub result : ActionResultValue
  -- the Action that is told under the digest may be cached, and its frame is the plan's
  pub action_told : IsTold IsAction action_bytes B d action
  pub may_be_cached : action.frame.do_not_cache ≡ false
  pub frame : digest_of (frame_bytes action.frame) ≡ step.frame
  -- the action's Command is told
  pub command_told : IsTold IsCommand command_bytes B action.frame.command command
  -- the action's input is what the step's lines put together
  pub resolved : Resolves B sources (slice_get before) step.lines nodes
  pub put_together : (merged B nodes).passes tree
  pub input : root tree ≡ action.input
  -- the action's result is held, with exit code 0, and stands for the outcome
  pub held : HoldsResult C d result
  pub exit_code : result.exit_code ≡ pos 0
  pub recorded : IsRecorded B result o
  -- each output is one that the Command lists
  pub listed : AreListed command o

-- The steps with their recorded digests are as recorded, one after another, where those before them
-- came to these outcomes.
abbrev pub AreAsRecorded : Blobs → Blobs → DigestValue → List OutcomeValue → List StepValue
    → List DigestValue → List OutcomeValue → Type 0
AreAsRecorded B C sources before [] ds outcomes = outcomes ≡ before
AreAsRecorded B C sources before (s ∷ ss) [] outcomes = ⊥
AreAsRecorded B C sources before (s ∷ ss) (d ∷ ds) outcomes =
    (o : OutcomeValue) × IsAsRecorded B C sources before s d o
    × AreAsRecorded B C sources (before ++ o ∷ []) ss ds outcomes

-- The first step that isn't as recorded: the steps before it are, and after the outcomes that they
-- came to it isn't, whatever it came to.
pub record IsFirstUnlikeRecorded (B C : Blobs) (sources : DigestValue) (earlier : List OutcomeValue)
    (steps : List StepValue) (recorded : List DigestValue) (name : List ℕ) : Type 0 where
  pub index : ℕ
  pub step : StepValue
  pub digest : DigestValue
  pub outcomes : List OutcomeValue
  pub step_at : slice_get steps index ≡ Some step
  pub digest_at : slice_get recorded index ≡ Some digest
  pub named : name ≡ step.name
  pub before : AreAsRecorded B C sources earlier (take index steps) recorded outcomes
  pub unlike : (o : OutcomeValue) → IsAsRecorded B C sources outcomes step digest o → ⊥

-- The lines of the root are accepted: each has its origin in the sources or in what a step came to,
-- and the tree that they put together has the claim as its digest.
pub record IsAccepted (blobs : Blobs) (sources : DigestValue) (outcomes : List OutcomeValue)
    (lines : List LineValue) (claim : DigestValue) : Type 0 where
  pub nodes : MergeLines
  pub tree : Tree NodeValue
  pub resolved : Resolves blobs sources (slice_get outcomes) lines nodes
  pub put_together : (merged blobs nodes).passes tree
  pub same : root tree ≡ claim

-- A plan is as recorded, and ends in the claim.
pub record IsPlanAsRecorded (B C : Blobs) (sources : DigestValue) (plan : PlanValue)
    (recorded : List DigestValue) (claim : DigestValue) : Type 0 where
  pub outcomes : List OutcomeValue
  pub steps : AreAsRecorded B C sources [] plan.steps recorded outcomes
  pub root : IsAccepted B sources outcomes plan.root_lines claim
