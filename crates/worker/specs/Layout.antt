-- What is laid out of the tree that a source tells.
use Rattle.std.specs.Prelude.{◌≡◌, ◌≢◌, ◌↔◌, ℕ, List, [], Contains}
use Rattle.blob_digest.specs.Digest.{DigestValue}
use Rattle.messages.specs.declared.node.Node.TheVariants.{File}
use Rattle.messages.specs.Path.{text_cmp}
use Rattle.action_messages.specs.Ascending.{IsAscendingBy}
use Rattle.blob_source.specs.Source.{Blobs, IsBlobUnder}
use Rattle.tree.specs.Tree.{Name, Tree, Standing, a_leaf, a_directory, stands_at, IsOrdered}
use Rattle.tree.specs.Form.{NodeValue}
use Rattle.tree.specs.Unfolded.{TellsTree}
use Rattle.worker.specs.Values.{LayoutValue}

-- a file stands there, executable or not, and these bytes are told under its digest
abbrev pub IsFileWith : Blobs → List ℕ → Standing NodeValue → Type 0
IsFileWith B b (a_leaf (File d x)) = IsBlobUnder B d b
IsFileWith B b s = ⊥

-- A tree is told under a digest. A path below its top is a folder exactly where a directory stands;
-- a file of the layout stands where one stands in the tree, with its content; and the layout has a
-- file wherever no directory stands: so no link does. Each list ascends by the texts of the paths.
pub record IsLayoutOf (B : Blobs) (d : DigestValue) (l : LayoutValue) : Type 0 where
  pub tree : Tree NodeValue
  pub ordered : IsOrdered tree
  pub told : TellsTree B d tree
  pub folders : (p : List Name)
      → Contains l.folders p ↔ ((p ≢ []) × (stands_at tree p ≡ a_directory))
  pub files : (p : List Name) (b : List ℕ) → Contains l.files (p, b)
      → IsFileWith B b (stands_at tree p)
  pub each_leaf : (p : List Name) (x : NodeValue) → stands_at tree p ≡ a_leaf x
      → (b : List ℕ) × Contains l.files (p, b)
  pub folders_ascend : IsAscendingBy text_cmp l.folders
  pub files_ascend : IsAscendingBy (λ f g. text_cmp f.0 g.0) l.files
