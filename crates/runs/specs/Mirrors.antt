-- When an engine mirrors a state of a run, and the blobs that the two are about.
use Rattle.std.specs.Prelude.{◌≡◌, ◌↔◌, ◌⊎◌, ℕ, List, [], ◌∷◌, Option, Some, None, option_map}
use Rattle.std.specs.Prelude.{slice_get, Contains}
use Rattle.blob_digest.specs.Digest.{NoClash}
use Rattle.messages.specs.DirectoryRules.{DirectoryValue}
use Rattle.messages.specs.Directory.{directory_bytes}
use Rattle.messages.specs.Tree.{TreeValue}
use Rattle.action_messages.specs.Command.{CommandValue, command_bytes}
use Rattle.action_messages.specs.Frame.{FrameValue, frame_bytes}
use Rattle.actions.specs.Outcome as recorded
use Rattle.actions.specs.Outcome.{OutcomeValue}
use Rattle.actions.specs.declared.outcome.Output.TheVariants as outputs
use Rattle.plan.specs.Values.{StepValue}
use Rattle.tree.specs.Tree.{Name, Tree, Leaf, IsOrdered}
use Rattle.tree.specs.Form.{NodeValue, form, root}
use Rattle.blob_source.specs.Source.{Blobs}
use Rattle.verifier.specs.Build.{Meaning, ActionMeaning, action_digest, Outcome, Event, finish}
use Rattle.verifier.specs.Build.{State, opening, outcome_of, job_of, action_of, MeaningFits}
use Rattle.verifier.specs.Build.{IsTable, IsRun}
use Rattle.verifier.specs.Headline.{IsBlobOfOutcome, IsConcerned}
use Rattle.verifier.specs.Recorded.{entries_form}
use Rattle.runs.specs.Engine.{FinishedValue, JobValue, EngineValue, finished_in, job_in}

-- an outcome by digests is the form of an outcome with contents: the same exit code, and the same
-- node at each output path
pub record IsFormOf (v : OutcomeValue) (o : Outcome) : Type 0 where
  pub exit_code : v.exit_code ≡ o.exit_code
  pub outputs : (p : List Name) (x : NodeValue) → Contains (recorded.outputs_form v.outputs) (p, x)
      ↔ Contains (entries_form o.outputs) (p, x)

-- a step has finished in both or in neither
abbrev pub IsFinishedAs : Option FinishedValue → Option Outcome → Type 0
IsFinishedAs None None = Unit {0}
IsFinishedAs None (Some o) = ⊥
IsFinishedAs (Some f) None = ⊥
IsFinishedAs (Some f) (Some o) = IsFormOf f.outcome o

-- a job by digests: its step, the digest of its action, and that of the root of its input
abbrev pub job_form : ℕ × ActionMeaning → JobValue
job_form job = record {
  step = job.0;
  action = action_digest job.1;
  input = root (form job.1.input);
}

-- An engine mirrors a state of a run of its plan:
pub record Mirrors (e : EngineValue) (t : Tree Leaf) (meaning : Meaning) (s : State) : Type 0 where
  pub sources : root (form t) ≡ e.sources
  -- the engine's frames and commands are what the steps mean
  pub frames : (i : ℕ) (step : StepValue) → slice_get e.plan.steps i ≡ Some step
      → slice_get e.frames i ≡ slice_get meaning.frames i
  pub commands : (i : ℕ) (step : StepValue) → slice_get e.plan.steps i ≡ Some step
      → slice_get e.commands i ≡ slice_get meaning.commands i
  -- in the engine and in the state the same steps have finished, with outcomes of one form
  pub finished : (i : ℕ) → IsFinishedAs (finished_in i e) (outcome_of i s)
  -- the digest that is kept for a step that has finished is that of its action
  pub actions : (i : ℕ) (f : FinishedValue) → finished_in i e ≡ Some f → (a : ActionMeaning)
      × (action_of e.plan meaning t s i ≡ Some a) × (f.action ≡ action_digest a)
  -- in the engine and in the state the same jobs run
  pub jobs : (w : ℕ) → job_in w e ≡ option_map job_form (job_of w s)

-- ---- the blobs that a run and an engine are about

-- the encoding of a frame or a command of the meaning
abbrev pub IsBlobOfMeaning : Meaning → List ℕ → Type 0
IsBlobOfMeaning meaning b =
    ((f : FrameValue) × Contains meaning.frames f × (b ≡ frame_bytes f))
    ⊎ ((c : CommandValue) × Contains meaning.commands c × (b ≡ command_bytes c))

-- the blobs of each outcome that is published
abbrev pub IsBlobOfEnds : List Event → List ℕ → Type 0
IsBlobOfEnds es b =
    (w : ℕ) × (o : Outcome) × Contains es (finish w o) × IsBlobOfOutcome o b

-- the encoding of a Directory of a Tree in an outcome that the engine has
abbrev pub IsDirectoryOfEngine : EngineValue → List ℕ → Type 0
IsDirectoryOfEngine e b =
    (i : ℕ) × (f : FinishedValue) × (finished_in i e ≡ Some f) × (p : List Name) × (t : TreeValue)
    × Contains f.outcome.outputs (p, outputs.Tree t)
    × (m : DirectoryValue) × Contains (t.root ∷ t.children) m × (b ≡ directory_bytes m)

-- The blobs concerned in a run, without any recorded action or outcome; those of the meaning and of
-- the outcomes that are published; and the Directories that the engine has.
abbrev pub IsConcernedIn : Blobs → EngineValue → Meaning → Tree Leaf → List Event → List ℕ → Type 0
IsConcernedIn B e meaning t es b =
    IsConcerned B e.plan meaning t [] es b
    ⊎ ((IsBlobOfMeaning meaning b ⊎ IsBlobOfEnds es b) ⊎ IsDirectoryOfEngine e b)

-- a source that tells nothing
abbrev pub nothing_told : Blobs
nothing_told d = None

-- a run that an engine may mirror: its sources, what the steps mean, what actions come to, what has
-- happened, and the state after it
pub record EngineRun : Type 0 where
  pub tree : Tree Leaf
  pub meaning : Meaning
  pub table : List (ActionMeaning × Outcome)
  pub events : List Event
  pub now : State

-- An engine mirrors the run: whatever the sources are, whatever the steps mean and whatever actions
-- come to, no two different blobs concerned share a digest.
pub record IsMirrored (B : Blobs) (e : EngineValue) (run : EngineRun) : Type 0 where
  pub ordered : IsOrdered run.tree
  pub fits : MeaningFits e.plan run.meaning
  pub table : IsTable run.table
  pub happened : IsRun run.table e.plan run.meaning run.tree opening run.events run.now
  pub mirrors : Mirrors e run.tree run.meaning run.now
  pub apart : NoClash (IsConcernedIn B e run.meaning run.tree run.events)
