-- How a build is a run, by its list of calls.
use Rattle.std.specs.Prelude.{◌≡◌, ◌⊎◌, ℕ, List, Some, Contains}
use Rattle.blob_digest.specs.Digest.{DigestValue, NoClash}
use Rattle.blob_source.specs.Source.{Blobs}
use Rattle.actions.specs.Outcome.{OutcomeValue}
use Rattle.plan.specs.Values.{PlanValue}
use Rattle.runs.specs.Engine.{EngineValue}
use Rattle.runs.specs.Mirrors.{IsFormOf, IsConcernedIn, IsMirrored}
use Rattle.tree.specs.Tree.{Tree, Leaf, IsOrdered}
use Rattle.tree.specs.Form.{form, root}
use Rattle.verifier.specs.Build.{Meaning, ActionMeaning, action_digest, Outcome, Event, State}
use Rattle.verifier.specs.Build.{opening, job_of, MeaningFits, IsTable, IsRun}
use Rattle.worker.specs.Calls.{Call, taken, CameTo}

-- among the calls a job of the action finished with the outcome
abbrev pub FinishedWith : List Call → DigestValue → OutcomeValue → Type 0
FinishedWith calls d v = CameTo calls d v ⊎ ((id : ℕ) × Contains calls (taken id d v))

-- What the build is about: sources with the digest, what the steps mean, and a table that says of
-- each action of a run an outcome of the form that a job of it finished with. No two different
-- blobs concerned in a run share a digest.
pub record IsAbout (plan : PlanValue) (sources : DigestValue) (B : Blobs) (calls : List Call)
    (last : EngineValue) (t : Tree Leaf) (meaning : Meaning)
    (X : List (ActionMeaning × Outcome)) : Type 0 where
  pub ordered : IsOrdered t
  pub root_is : root (form t) ≡ sources
  pub fits : MeaningFits plan meaning
  pub table : IsTable X
  pub says : (es : List Event) (s : State) → IsRun X plan meaning t opening es s
      → (w : ℕ) (job : ℕ × ActionMeaning) → job_of w s ≡ Some job
      → (v : OutcomeValue) → FinishedWith calls (action_digest job.1) v
      → (o : Outcome) × Contains X (job.1, o) × IsFormOf v o
  pub apart : (es : List Event) (s : State) → IsRun X plan meaning t opening es s
      → NoClash (IsConcernedIn B last meaning t es)

-- some run leads to a state that the engine mirrors
pub record IsARun (B : Blobs) (last : EngineValue) (t : Tree Leaf) (meaning : Meaning)
    (X : List (ActionMeaning × Outcome)) : Type 0 where
  pub events : List Event
  pub state : State
  pub mirrored : IsMirrored B last
      (record { tree = t; meaning = meaning; table = X; events = events; now = state })
