-- Two recorded builds of a plan, and the first step at which they differ.
use Rattle.std.specs.Prelude.{◌≡◌, ◌⊎◌, ℕ, ◌<◌, List, ◌∷◌, Some, slice_get, Contains}
use Rattle.std.specs.List.{AllByRecursion}
use Rattle.blob_digest.specs.Digest.{DigestValue, digest_of}
use Rattle.messages.specs.DirectoryRules.{DirectoryValue}
use Rattle.messages.specs.Directory.{directory_bytes}
use Rattle.messages.specs.Tree.{TreeValue, IsTree, tree_bytes}
use Rattle.action_messages.specs.Action.{ActionValue, IsAction, action_bytes}
use Rattle.action_messages.specs.Frame.{frame_bytes}
use Rattle.actions.specs.Outcome.{OutcomeValue, outputs_form}
use Rattle.blob_source.specs.Source.{Blobs, Telling}
use Rattle.blob_source.specs.Told.{IsTold, TellsDirectory}
use Rattle.plan.specs.Values.{OriginValue, source, output, LineValue, StepValue, PlanValue}
use Rattle.tree.specs.Form.{NodeValue}
use Rattle.tree.specs.Tree.{Name}
use Rattle.verifier.specs.AsRecorded.{IsPlanAsRecorded}
use Rattle.verifier.specs.Recorded.{HaveOneForm, IsHeld}

-- an outcome has a node at the path of an output
abbrev pub HasOutput : OutcomeValue → List Name → NodeValue → Type 0
HasOutput v path x = Contains (outputs_form v.outputs) (path, x)

-- two outcomes differ at a path: one has a node there that the other doesn't have
abbrev pub DifferAt : OutcomeValue → OutcomeValue → List Name → Type 0
DifferAt v w path = (x : NodeValue)
    × ((HasOutput v path x × ¬ HasOutput w path x) ⊎ (¬ HasOutput v path x × HasOutput w path x))

-- ---- a step in both builds

-- A step was recorded with one digest in both builds, and each has an outcome under it.
pub record IsInBoth (one other : Telling) (recorded others : List DigestValue) (i : ℕ)
    : Type 0 where
  pub digest : DigestValue
  pub in_one : slice_get recorded i ≡ Some digest
  pub in_other : slice_get others i ≡ Some digest
  pub outcome : OutcomeValue
  pub another : OutcomeValue
  pub held : IsHeld one digest outcome
  pub other_held : IsHeld other digest another

-- A step is alike: outcomes of one form were recorded of it in both builds.
abbrev pub IsAlike : Telling → Telling → List DigestValue → List DigestValue → ℕ → Type 0
IsAlike one other recorded others i =
    (both : IsInBoth one other recorded others i) × HaveOneForm both.outcome both.another

-- A step is unlike: its outcomes differ at a path. So its action isn't deterministic, or a record
-- says of it what it didn't come to.
abbrev pub IsUnlike : Telling → Telling → List DigestValue → List DigestValue → ℕ → Type 0
IsUnlike one other recorded others i =
    (both : IsInBoth one other recorded others i) × (path : List Name)
    × DifferAt both.outcome both.another path

-- the steps with lesser numbers are alike
abbrev pub AreAlikeBelow : Telling → Telling → List DigestValue → List DigestValue → ℕ → Type 0
AreAlikeBelow one other recorded others n = (j : ℕ) → j < n → IsAlike one other recorded others j

-- The first step that isn't alike: in both builds one Action was recorded of it, but two outcomes.
pub record IsFirstUnlike (one other : Telling) (steps : List StepValue)
    (recorded others : List DigestValue) : Type 0 where
  pub index : ℕ
  pub step : StepValue
  pub step_at : slice_get steps index ≡ Some step
  pub before : AreAlikeBelow one other recorded others index
  pub unlike : IsUnlike one other recorded others index
  pub action : ActionValue
  pub told : IsTold IsAction action_bytes one.blobs unlike.0.digest action
  pub other_told : IsTold IsAction action_bytes other.blobs unlike.0.digest action

-- ---- lines

-- the step that an origin reads is alike
abbrev pub IsReadAlike : Telling → Telling → List DigestValue → List DigestValue → OriginValue
    → Type 0
IsReadAlike one other recorded others (source path) = Unit {0}
IsReadAlike one other recorded others (output step path) =
    IsAlike one other recorded others step

-- each step that lines read is alike
abbrev pub AreReadAlike : Telling → Telling → List DigestValue → List DigestValue → List LineValue
    → Type 0
AreReadAlike one other recorded others lines =
    AllByRecursion (λ (l : LineValue). IsReadAlike one other recorded others l.origin) lines

-- lines depend on what a step came to: they read that, or read a step whose lines depend on it
pub data DependOn (steps : List StepValue) : List LineValue → ℕ → Type 0 where
  they_read : (lines : List LineValue) (line : LineValue) (path : List Name) (i : ℕ)
      → Contains lines line → line.origin ≡ output i path → DependOn steps lines i
  through : (lines : List LineValue) (line : LineValue) (path : List Name) (j i : ℕ)
      (step : StepValue) → Contains lines line → line.origin ≡ output j path
      → slice_get steps j ≡ Some step → DependOn steps step.lines i → DependOn steps lines i

-- ---- two builds

-- the encoding of a Directory that a source tells, or of one in a Tree that it tells
abbrev pub IsDirectoryTold : Blobs → List ℕ → Type 0
IsDirectoryTold blobs b = (m : DirectoryValue) × (b ≡ directory_bytes m)
    × (((d : DigestValue) × TellsDirectory blobs d m)
    ⊎ ((d : DigestValue) × (t : TreeValue) × IsTold IsTree tree_bytes blobs d t
    × Contains (t.root ∷ t.children) m))

-- the encoding of the frame of a recorded Action that a source tells
abbrev pub IsFrameTold : Blobs → List DigestValue → List ℕ → Type 0
IsFrameTold blobs recorded b = (d : DigestValue) × Contains recorded d
    × (action : ActionValue) × IsTold IsAction action_bytes blobs d action
    × (b ≡ frame_bytes action.frame)

-- no two different blobs, one of each set, have one digest
abbrev pub NoClashBetween : (List ℕ → Type 0) → (List ℕ → Type 0) → Type 0
NoClashBetween S T = (x y : List ℕ) → S x → T y → digest_of x ≡ digest_of y → x ≡ y

-- Two builds of a plan from sources with one digest were recorded, each with its own blobs, results
-- and root, and each is as recorded. Where a Directory of the one has the digest of one of the
-- other they are one, and so are the frames of their Actions.
pub record AreTwoBuilds (one other : Telling) (sources : DigestValue) (plan : PlanValue)
    (recorded others : List DigestValue) (claim another : DigestValue) : Type 0 where
  pub first : IsPlanAsRecorded one.blobs one.results sources plan recorded claim
  pub second : IsPlanAsRecorded other.blobs other.results sources plan others another
  pub directories : NoClashBetween (IsDirectoryTold one.blobs) (IsDirectoryTold other.blobs)
  pub frames : NoClashBetween (IsFrameTold one.blobs recorded) (IsFrameTold other.blobs others)
