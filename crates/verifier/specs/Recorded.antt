-- What was recorded of a build: under each step's action the result that a source tells, and in it
-- the outputs.
use Rattle.std.specs.Prelude.{◌≡◌, ◌↔◌, ◌⊎◌, ℕ, List, map, Some, slice_get, length, Contains}
use Rattle.std.specs.List.{AllByRecursion}
use Rattle.blob_digest.specs.Digest.{DigestValue, digest_of}
use Rattle.messages.specs.declared.node.Node.TheVariants.{File, Link, Dir}
use Rattle.messages.specs.Directory.{directory_bytes}
use Rattle.messages.specs.Tree.{TreeValue, IsTree, tree_bytes}
use Rattle.action_messages.specs.OutputFile.{OutputFileValue}
use Rattle.action_messages.specs.OutputDirectory.{OutputDirectoryValue}
use Rattle.action_messages.specs.OutputSymlink.{OutputSymlinkValue}
use Rattle.action_messages.specs.ActionResult.{ActionResultValue}
use Rattle.actions.specs.Outcome.{OutcomeValue, outputs_form}
use Rattle.actions.specs.Recorded.{IsRecorded}
use Rattle.verifier.specs.Holding.{HoldsResult}
use Rattle.tree.specs.Tree.{Name, Leaf, Entry}
use Rattle.tree.specs.Form.{NodeValue, entry_node}
use Rattle.blob_source.specs.Source.{Blobs, Telling}
use Rattle.blob_source.specs.Told.{IsTold}
use Rattle.verifier.specs.Build.{ActionMeaning, Outcome, action_digest}

-- A result records a node at a path: a file by its digest and bit, a link by its target, and an
-- output directory by the digest of the root of the Tree that is told under its digest.
abbrev pub RecordsAt : Blobs → ActionResultValue → List Name → NodeValue → Type 0
RecordsAt blobs r p x =
    ((f : OutputFileValue) × Contains r.files f × (f.path ≡ p) × (x ≡ File f.digest f.executable))
    ⊎ (((l : OutputSymlinkValue) × Contains r.symlinks l × (l.path ≡ p) × (x ≡ Link l.target))
    ⊎ ((d : OutputDirectoryValue) × Contains r.directories d × (d.path ≡ p)
    × (t : TreeValue) × IsTold IsTree tree_bytes blobs d.tree t
    × (x ≡ Dir (digest_of (directory_bytes t.root)))))

-- what an outcome has at its output paths, by digests
abbrev pub entries_form : List (List Name × Entry Leaf) → List (List Name × NodeValue)
entries_form outputs = map (λ e. (e.0, entry_node e.1)) outputs

-- An outcome is what was recorded of an action: the same exit code, and the same node at each
-- output path.
pub record IsRecordedAs (blobs results : Blobs) (action : DigestValue) (o : Outcome) : Type 0 where
  pub result : ActionResultValue
  pub held : HoldsResult results action result
  pub exit_code : o.exit_code ≡ result.exit_code
  -- the Tree of each output directory is told
  pub trees : AllByRecursion (λ (d : OutputDirectoryValue). (t : TreeValue)
      × IsTold IsTree tree_bytes blobs d.tree t) result.directories
  pub outputs : (p : List Name) (x : NodeValue) → Contains (entries_form o.outputs) (p, x)
      ↔ RecordsAt blobs result p x

-- two outcomes have the same exit code, and the same node at each output path
pub record HaveOneForm (v w : OutcomeValue) : Type 0 where
  pub exit_code : v.exit_code ≡ w.exit_code
  pub outputs : outputs_form v.outputs ≡ outputs_form w.outputs

-- the outcome is the one that a source has recorded under a digest
pub record IsHeld (tells : Telling) (d : DigestValue) (v : OutcomeValue) : Type 0 where
  pub result : ActionResultValue
  pub held : HoldsResult tells.results d result
  pub recorded : IsRecorded tells.blobs result v

-- A table agrees with a record: for each step it has a chosen pair of an action with the recorded
-- digest and an outcome that is what was recorded. Nothing is asked of other actions with that
-- digest.
pub record Agrees (blobs results : Blobs) (X chosen : List (ActionMeaning × Outcome))
    (recorded : List DigestValue) : Type 0 where
  pub each : length chosen ≡ length recorded
  pub pairs : (i : ℕ) (digest : DigestValue) (pair : ActionMeaning × Outcome)
      → slice_get recorded i ≡ Some digest → slice_get chosen i ≡ Some pair
      → Contains X pair × (action_digest pair.0 ≡ digest) × IsRecordedAs blobs results digest pair.1
