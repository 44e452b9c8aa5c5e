-- What was recorded of the steps of two builds, compared step by step.
use Rattle.std.specs.Prelude.{◌≡◌, ◌≢◌, ◌↔◌, ◌⊎◌, ℕ, ◌<◌, pos, List, Option, Some, None, map}
use Rattle.std.specs.Prelude.{Contains, length, slice_get}
use Rattle.std.specs.List.{AllByRecursion}
use Rattle.std.specs.declared.cmp.Ordering.TheVariants.{Less}
use Rattle.blob_digest.specs.Digest.{DigestValue}
use Rattle.messages.specs.Path.{text_cmp}
use Rattle.actions.specs.Outcome.{OutcomeValue, outputs_form}
use Rattle.blob_source.specs.Source.{Telling}
use Rattle.plan.specs.Values.{StepValue}
use Rattle.tree.specs.Form.{NodeValue}
use Rattle.tree.specs.Tree.{Name}
use Rattle.verifier.specs.Recorded.{HaveOneForm, IsHeld}
use Rattle.verifier.specs.TwoBuilds.{AreAlikeBelow, IsFirstUnlike, IsUnlike}
use Rattle.verifier.specs.declared.comparing.Comparison.{Comparison}
use Rattle.verifier.specs.declared.comparing.Comparison.TheVariants.{Alike, Unlike, OtherAction}

-- ---- recorded steps

-- What was recorded of a step: its action, by the digest, and what that came to.
pub record RecordedStepValue : Type 0 where
  pub action : DigestValue
  pub outcome : OutcomeValue

abbrev pub actions_of : List RecordedStepValue → List DigestValue
actions_of steps = map (λ s. s.action) steps

-- the outcome is the one that a source has recorded under a digest, and its exit code is 0
abbrev pub HoldsOutcome : Telling → DigestValue → OutcomeValue → Type 0
HoldsOutcome tells d v = IsHeld tells d v × (v.exit_code ≡ pos 0)

-- each step came to the outcome that a source holds
abbrev pub HoldsSteps : Telling → List RecordedStepValue → Type 0
HoldsSteps tells steps = AllByRecursion (λ s. HoldsOutcome tells s.action s.outcome) steps

-- a source has such an outcome under a digest, and under each of some digests
abbrev pub HasOutcome : Telling → DigestValue → Type 0
HasOutcome tells d = (v : OutcomeValue) × HoldsOutcome tells d v

abbrev pub HasOutcomes : Telling → List DigestValue → Type 0
HasOutcomes tells digests = AllByRecursion (HasOutcome tells) digests

-- each step ended with exit code 0
abbrev pub HaveSucceeded : List RecordedStepValue → Type 0
HaveSucceeded steps = AllByRecursion (λ s. s.outcome.exit_code ≡ pos 0) steps

-- ---- outcomes

-- nodes at paths
abbrev pub Rows : Type 0
Rows = List (List Name × NodeValue)

-- The first path, by its text, at which nodes differ: one side has a node there that the other
-- doesn't have.
pub record DifferFirstAt (ones others : Rows) (path : List Name) : Type 0 where
  pub differ : (x : NodeValue) × ((Contains ones (path, x) × ¬ Contains others (path, x))
      ⊎ (¬ Contains ones (path, x) × Contains others (path, x)))
  pub before : (q : List Name) (x : NodeValue) → text_cmp q path ≡ Less
      → Contains ones (q, x) ↔ Contains others (q, x)

-- the first path at which nodes differ, if there is one
abbrev pub IsFirstDifference : Rows → Rows → Option (List Name) → Type 0
IsFirstDifference ones others None = ones ≡ others
IsFirstDifference ones others (Some path) = DifferFirstAt ones others path

-- two outcomes differ first at a path
abbrev pub OutcomesDifferAt : OutcomeValue → OutcomeValue → List Name → Type 0
OutcomesDifferAt v w path = DifferFirstAt (outputs_form v.outputs) (outputs_form w.outputs) path

-- the lesser of two paths, by their texts
abbrev pub IsLesserPath : List Name → List Name → List Name → Type 0
IsLesserPath p q lesser = ((text_cmp q p ≡ Less) × (lesser ≡ q))
    ⊎ ((text_cmp q p ≢ Less) × (lesser ≡ p))

-- ---- builds

-- two steps are the ones with a number
abbrev pub StandAt : List RecordedStepValue → List RecordedStepValue → ℕ → RecordedStepValue
    → RecordedStepValue → Type 0
StandAt ones others i s t = (slice_get ones i ≡ Some s) × (slice_get others i ≡ Some t)

-- one action was recorded of two steps, and outcomes of one form
pub record AreStepsAlike (s t : RecordedStepValue) : Type 0 where
  pub action : s.action ≡ t.action
  pub form : HaveOneForm s.outcome t.outcome

-- the steps with lesser numbers are alike
abbrev pub AreStepsAlikeBelow : List RecordedStepValue → List RecordedStepValue → ℕ → Type 0
AreStepsAlikeBelow ones others n = (i : ℕ) (s t : RecordedStepValue) → i < n
    → StandAt ones others i s t → AreStepsAlike s t

-- all steps are alike, or the first that isn't has outcomes that differ, or other actions
abbrev pub IsComparison : {A : Type 0} → List RecordedStepValue → List RecordedStepValue
    → Comparison A → Type 0
IsComparison ones others Alike = AreStepsAlikeBelow ones others (length ones)
IsComparison ones others (Unlike step path) = AreStepsAlikeBelow ones others step
    × (s : RecordedStepValue) × (t : RecordedStepValue) × StandAt ones others step s t
    × (s.action ≡ t.action) × OutcomesDifferAt s.outcome t.outcome path
IsComparison ones others (OtherAction step) = AreStepsAlikeBelow ones others step
    × (s : RecordedStepValue) × (t : RecordedStepValue) × StandAt ones others step s t
    × (s.action ≢ t.action)

-- ---- what the sources tell

-- The first step that isn't alike by what two sources tell: its outcomes differ at this path.
pub record IsFirstUnlikeAt (one other : Telling) (recorded others : List DigestValue) (step : ℕ)
    (path : List Name) : Type 0 where
  pub before : AreAlikeBelow one other recorded others step
  pub unlike : IsUnlike one other recorded others step
  pub at_path : unlike.1 ≡ path

-- a comparison of two builds of a plan finds that their roots are one, or the step of which one
-- action was recorded and two outcomes
abbrev pub FindsStep : {A : Type 0} → Telling → Telling → List StepValue → List DigestValue
    → List DigestValue → DigestValue → DigestValue → Comparison A → Type 0
FindsStep one other steps recorded others claim another Alike = claim ≡ another
FindsStep one other steps recorded others claim another (Unlike step path) =
    (first : IsFirstUnlike one other steps recorded others) × (first.index ≡ step)
FindsStep one other steps recorded others claim another (OtherAction step) = ⊥
