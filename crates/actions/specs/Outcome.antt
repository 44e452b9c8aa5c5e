-- What an action comes to, by digests: an exit code, and files, symbolic links and whole
-- directories at output paths.
use Rattle.std.specs.Prelude.{◌≡◌, ℕ, ℤ, List, ◌∷◌, ◌++◌, map}
use Rattle.std.specs.Prelude.{Contains}
use Rattle.std.specs.List.{AllByRecursion}
use Rattle.blob_digest.specs.Digest.{digest_of}
use Rattle.messages.specs.Order.{bytes_cmp}
use Rattle.messages.specs.Path.{IsPath, Overlap as OverlapEachOther, AreApart}
use Rattle.messages.specs.declared.node.Node.TheVariants as nodes
use Rattle.messages.specs.Directory.{directory_bytes}
use Rattle.messages.specs.Tree.{TreeValue}
use Rattle.tree.specs.Form.{NodeValue}
use Rattle.tree.specs.declared.error.AddError.{AddError}
use Rattle.tree.specs.declared.error.AddError.TheVariants.{Overlap, Memory}
use Rattle.actions.specs.declared.outcome.Output.{Output}
use Rattle.actions.specs.declared.outcome.Output.TheVariants.{File, Link, Tree}
use Rattle.action_messages.specs.Ascending.{IsAscendingBy}
use Rattle.action_messages.specs.Overlaps.{texts_of}

-- an output, whatever allocator holds it
abbrev pub OutputValue : Type 0
OutputValue = Output (Unit {0})

abbrev pub output_value : {A : Type 0} → Output A → OutputValue
output_value (File digest executable) = File digest executable
output_value (Link target) = Link target
output_value (Tree t) = Tree t

-- the exit code, and what stands at each output path
pub record OutcomeValue : Type 0 where
  pub exit_code : ℤ
  pub outputs : List (List (List ℕ) × OutputValue)

abbrev pub outputs_in : {A : Type 0} → List (List (List ℕ) × Output A)
    → List (List (List ℕ) × OutputValue)
outputs_in outputs = map (λ e. (e.0, output_value e.1)) outputs

abbrev pub paths_of_outputs : List (List (List ℕ) × OutputValue) → List (List (List ℕ))
paths_of_outputs outputs = map (λ e. e.0) outputs

-- The paths ascend by their texts, and none equals another or lies under it.
pub record IsOutcome (o : OutcomeValue) : Type 0 where
  pub paths : AllByRecursion IsPath (paths_of_outputs o.outputs)
  pub ascend : IsAscendingBy bytes_cmp (texts_of (paths_of_outputs o.outputs))
  pub apart : AreApart (paths_of_outputs o.outputs)

-- ---- by digests

-- a whole directory, by the digest of its root
abbrev pub tree_node : TreeValue → NodeValue
tree_node t = nodes.Dir (digest_of (directory_bytes t.root))

abbrev pub output_node : OutputValue → NodeValue
output_node (File digest executable) = nodes.File digest executable
output_node (Link target) = nodes.Link target
output_node (Tree t) = tree_node t

-- the node at each output path
abbrev pub outputs_form : List (List (List ℕ) × OutputValue) → List (List (List ℕ) × NodeValue)
outputs_form outputs = map (λ e. (e.0, output_node e.1)) outputs

-- ---- one more output

-- The output stands among the others, at the one place that the order has for it.
pub record AddsOutput (old : OutcomeValue) (path : List (List ℕ)) (output : OutputValue)
    (new : OutcomeValue) : Type 0 where
  pub valid : IsOutcome new
  pub exit_code : new.exit_code ≡ old.exit_code
  pub before : List (List (List ℕ) × OutputValue)
  pub behind : List (List (List ℕ) × OutputValue)
  pub others : old.outputs ≡ before ++ behind
  pub placed : new.outputs ≡ before ++ (path, output) ∷ behind

-- a path that is there equals the path, lies under it or lies above it
abbrev pub LeavesNoRoom : OutcomeValue → List (List ℕ) → Type 0
LeavesNoRoom o path =
    (other : List (List ℕ)) × Contains (paths_of_outputs o.outputs) other
    × OverlapEachOther other path

-- why nothing was added
abbrev pub ExplainsAdd : {A : Type 0} → OutcomeValue → List (List ℕ) → AddError A → Type 0
ExplainsAdd o path (Overlap p) = (p ≡ path) × LeavesNoRoom o path
ExplainsAdd o path Memory = Unit {0}
