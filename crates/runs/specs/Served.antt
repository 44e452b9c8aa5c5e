-- When a blob source serves a build that an engine mirrors, and that a served build is answered
-- yes.
use Rattle.std.specs.Prelude.{◌≡◌, ◌⊎◌, ℕ, List, ◌∷◌, ◌++◌, length, Some, slice_get, Contains}
use Rattle.blob_digest.specs.Digest.{DigestValue, digest_of, NoClash}
use Rattle.messages.specs.Tree.{TreeValue, tree_bytes}
use Rattle.actions.specs.declared.outcome.Output.TheVariants as outputs
use Rattle.action_messages.specs.Action.{with_input, action_bytes}
use Rattle.action_messages.specs.ActionResult.{ActionResultValue}
use Rattle.action_messages.specs.Command.{command_bytes}
use Rattle.actions.specs.Outcome.{OutcomeValue}
use Rattle.actions.specs.Recorded.{IsRecorded}
use Rattle.plan.specs.Values.{source, LineValue, StepValue, PlanValue}
use Rattle.tree.specs.Tree.{Name, Tree, Leaf, whole, tree_at}
use Rattle.tree.specs.Form.{NodeValue, form, directory_of, root}
use Rattle.tree.specs.Merging.{MergeLines, merged}
use Rattle.blob_source.specs.Source.{Blobs, Telling, Grows, IsBlobUnder}
use Rattle.blob_source.specs.Told.{TellsDirectory}
use Rattle.verifier.specs.Build.{Meaning, ActionMeaning, action_digest, Outcome, State}
use Rattle.verifier.specs.Build.{action_of, AreLinesOf}
use Rattle.verifier.specs.Headline.{IsConcerned}
use Rattle.verifier.specs.Holding.{HoldsResult}
use Rattle.verifier.specs.Recorded.{Agrees, HaveOneForm}
use Rattle.verifier.specs.Verdict.{IsVerdict}
use Rattle.verifier.specs.declared.verdict.Verdict.TheVariants.{Yes}
use Rattle.runs.specs.Engine.{FinishedValue, EngineValue, finished_in}
use Rattle.runs.specs.Calls.{kept_digests}
use Rattle.verifier.specs.Together.{Resolves}
use Rattle.runs.specs.Looking.{outcomes_in}
use Rattle.runs.specs.Mirrors.{IsMirrored, EngineRun}

-- a line of a step or of the root
abbrev pub IsLineOf : PlanValue → LineValue → Type 0
IsLineOf plan l = ((i : ℕ) × (step : StepValue) × (slice_get plan.steps i ≡ Some step)
    × Contains step.lines l) ⊎ Contains plan.root_lines l

-- The Directory of each directory on the way to a path is told under its digest. That of what
-- stands at the path itself isn't read.
abbrev pub TellsWay : Blobs → Tree Leaf → List Name → Type 0
TellsWay B t p = (q : List Name) (n : Name) (r : List Name) → p ≡ q ++ n ∷ r → (u : Tree Leaf)
    → tree_at t q ≡ Some (whole u) → TellsDirectory B (root (form u)) (directory_of (form u))

-- Under the digest of the action that finished stands a result, and it stands for an outcome of the
-- form of the engine's.
abbrev pub Keeps : Blobs → Blobs → FinishedValue → Type 0
Keeps B C f = (r : ActionResultValue) × HoldsResult C f.action r
    × (v : OutcomeValue) × IsRecorded B r v × HaveOneForm v f.outcome

-- A source serves a state that an engine mirrors: what a verifier reads of the build is told, and
-- each recorded result is that of the engine.
pub record Serves (B C : Blobs) (e : EngineValue) (t : Tree Leaf) (meaning : Meaning)
    (s : State) : Type 0 where
  -- the Directories of the sources on the way to each origin
  pub sources : (l : LineValue) → IsLineOf e.plan l → (p : List Name) → l.origin ≡ source p
      → TellsWay B t p
  -- the Directories that are read where the lines of a step or of the root meet: what they put
  -- together is told
  pub merges : (lines : List LineValue) → AreLinesOf e.plan lines → (nodes : MergeLines)
      → Resolves B e.sources (outcomes_in e.finished) lines nodes
      → (u : Tree NodeValue) × (merged B nodes).passes u
  -- the Action and the Command of each step
  pub actions : (i : ℕ) (a : ActionMeaning) → action_of e.plan meaning t s i ≡ Some a
      → IsBlobUnder B (action_digest a) (action_bytes (with_input a.frame (root (form a.input))))
      × IsBlobUnder B a.frame.command (command_bytes a.command)
  -- the result of each step that has finished
  pub results : (i : ℕ) (f : FinishedValue) → finished_in i e ≡ Some f → Keeps B C f

-- With the recorded digests of an engine in which each step has finished, and this claim, the
-- verdict on the digest of its sources and on its plan is yes, wherever blobs and results serve the
-- run that it mirrors. No two different blobs concerned share a digest: neither with those that
-- were told for the root, nor with those that serve.
pub record IsServedYes (A : Type 0) (told : Blobs) (e : EngineValue)
    (claim : DigestValue) : Type 0 where
  pub of_run : (tells : Telling) (run : EngineRun) (recorded : List DigestValue)
      → IsMirrored told e run → IsMirrored tells.blobs e run
      → kept_digests e.finished ≡ Some recorded
      → Serves tells.blobs tells.results e run.tree run.meaning run.now
      → IsVerdict {A = A} tells e.sources e.plan recorded claim (Yes claim (length e.plan.steps))
  -- Where what serves has all that was told for the root, it is enough that no two different blobs
  -- concerned with it share a digest.
  pub of_grown : (tells : Telling) (run : EngineRun) (recorded : List DigestValue)
      → Grows told tells.blobs → IsMirrored tells.blobs e run
      → kept_digests e.finished ≡ Some recorded
      → Serves tells.blobs tells.results e run.tree run.meaning run.now
      → IsVerdict {A = A} tells e.sources e.plan recorded claim (Yes claim (length e.plan.steps))
  -- Where the build is served the table agrees with the record, so that what a yes says of every
  -- run is said of this one.
  pub agrees : (B C : Blobs) (run : EngineRun) (recorded : List DigestValue)
      → IsMirrored B e run → kept_digests e.finished ≡ Some recorded
      → Serves B C e run.tree run.meaning run.now
      → (chosen : List (ActionMeaning × Outcome)) × Agrees B C run.table chosen recorded
      × NoClash (IsConcerned B e.plan run.meaning run.tree chosen run.events)

-- ---- the result that is kept of a step

-- each Tree of an outcome stands under its digest
abbrev pub HoldsTrees : Blobs → OutcomeValue → Type 0
HoldsTrees B o = (p : List Name) (t : TreeValue) → Contains o.outputs (p, outputs.Tree t)
    → IsBlobUnder B (digest_of (tree_bytes t)) (tree_bytes t)

-- Read under the digest of the step's action, where the Trees of its outcome are held, the result
-- serves what the engine has of the step.
pub record IsKeptOf (e : EngineValue) (i : ℕ) (r : ActionResultValue) : Type 0 where
  pub held : (B C : Blobs) (f : FinishedValue) → finished_in i e ≡ Some f
      → HoldsResult C f.action r → HoldsTrees B f.outcome → Keeps B C f
