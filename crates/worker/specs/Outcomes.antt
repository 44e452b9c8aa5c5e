-- Where what a job comes to is from.
use Rattle.std.specs.Prelude.{◌≡◌, ℕ, pos, List, [], ◌∷◌, ◌++◌, map, Some, slice_get}
use Rattle.std.specs.List.{AllByRecursion}
use Rattle.blob_digest.specs.Digest.{digest_of}
use Rattle.messages.specs.Directory.{directory_bytes}
use Rattle.messages.specs.Tree.{TreeValue, tree_bytes}
use Rattle.action_messages.specs.Action.{action_bytes, with_input}
use Rattle.action_messages.specs.Command.{CommandValue}
use Rattle.action_messages.specs.Frame.{FrameValue}
use Rattle.actions.specs.declared.outcome.Output.TheVariants as outputs
use Rattle.actions.specs.Outcome.{OutputValue, OutcomeValue}
use Rattle.blob_source.specs.Source.{Blobs, Telling}
use Rattle.blob_source.specs.Sink.{HasRight}
use Rattle.tree.specs.Tree.{Name}
use Rattle.runs.specs.Engine.{JobValue, EngineValue}
use Rattle.verifier.specs.Recorded.{IsHeld}
use Rattle.verifier.specs.StepChecks.{AreListed}
use Rattle.worker.specs.Values.{LayoutValue, ProducedValue, EndValue, made, IsOf, program_of}
use Rattle.worker.specs.Layout.{IsLayoutOf}

-- what a runner may make of a layout and a command
abbrev pub Yields : Type 1
Yields = LayoutValue → CommandValue → EndValue → Type 0

-- what the one yields, the other does
abbrev pub YieldsNoMore : Yields → Yields → Type 0
YieldsNoMore some all =
    (l : LayoutValue) (c : CommandValue) (e : EndValue) → some l c e → all l c e

-- a runner yields this for the layout and the command, of whose program a failure is
abbrev pub YieldsFor : Yields → LayoutValue → CommandValue → EndValue → Type 0
YieldsFor yields l c e = yields l c e × IsOf (program_of c) e

-- the job's action is the frame of its step with its input
abbrev pub HasOwnAction : EngineValue → JobValue → Type 0
HasOwnAction e j = (f : FrameValue) × (slice_get e.frames j.step ≡ Some f)
    × (j.action ≡ digest_of (action_bytes (with_input f j.input)))

-- A job's child may come to this: the runner yields it for the layout that is told under the root
-- of the job's input, and for the command of the job's step. The job's action is in the store.
pub record MayComeTo (yields : Yields) (B : Blobs) (e : EngineValue) (j : JobValue) (end : EndValue)
    : Type 0 where
  pub layout : LayoutValue
  pub laid : IsLayoutOf B j.input layout
  pub command : CommandValue
  pub of_step : slice_get e.commands j.step ≡ Some command
  pub may : YieldsFor yields layout command end
  pub own : HasOwnAction e j
  pub action : HasRight B j.action

-- bytes with each blob's digest stand under it
abbrev pub HasAllRight : Blobs → List (List ℕ) → Type 0
HasAllRight B = AllByRecursion (λ b. HasRight B (digest_of b))

-- the encodings of the Directories of a Tree
abbrev pub directories_of : TreeValue → List (List ℕ)
directories_of t = map directory_bytes (t.root ∷ t.children)

-- the Trees among outputs and their Directories, as blobs
abbrev pub tree_blobs : List (List Name × OutputValue) → List (List ℕ)
tree_blobs [] = []
tree_blobs ((p, outputs.File d executable) ∷ es) = tree_blobs es
tree_blobs ((p, outputs.Link target) ∷ es) = tree_blobs es
tree_blobs ((p, outputs.Tree t) ∷ es) = (tree_bytes t ∷ directories_of t) ++ tree_blobs es

-- what a child came to, as blobs: its own, and its Trees with their Directories
abbrev pub blobs_made : ProducedValue → List (List ℕ)
blobs_made p = p.blobs ++ tree_blobs p.outcome.outputs

-- bytes with the digest of a Tree stand under it, and with those of its Directories
abbrev pub HasTree : Blobs → List Name × OutputValue → Type 0
HasTree B (p, outputs.File d executable) = Unit {0}
HasTree B (p, outputs.Link target) = Unit {0}
HasTree B (p, outputs.Tree t) =
    HasRight B (digest_of (tree_bytes t)) × HasAllRight B (directories_of t)

abbrev pub HasTrees : Blobs → OutcomeValue → Type 0
HasTrees B o = AllByRecursion (HasTree B) o.outputs

-- A job came to an outcome to which its child may come. The blobs that the child made are in the
-- store, and the Trees of the outcome with their Directories.
pub record IsYielded (yields : Yields) (B : Blobs) (e : EngineValue) (j : JobValue)
    (v : OutcomeValue) : Type 0 where
  pub produced : ProducedValue
  pub outcome : v ≡ produced.outcome
  pub may : MayComeTo yields B e j (made produced)
  pub blobs : HasAllRight B produced.blobs
  pub trees : HasTrees B v

-- an outcome that a build takes: its exit code is 0, and the command lists each output
abbrev pub CanBeTaken : CommandValue → OutcomeValue → Type 0
CanBeTaken c v = (v.exit_code ≡ pos 0) × AreListed c v

-- A job came to an outcome that the store has recorded for its action, and that a build takes for
-- the command of its step.
pub record CanBeTakenFor (t : Telling) (e : EngineValue) (j : JobValue) (v : OutcomeValue)
    : Type 0 where
  pub held : IsHeld t j.action v
  pub command : CommandValue
  pub of_step : slice_get e.commands j.step ≡ Some command
  pub fits : CanBeTaken command v
