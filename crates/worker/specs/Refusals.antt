-- Why a layout or a step of a build is refused.
use Rattle.std.specs.Prelude.{◌≡◌, ◌⊎◌, ℕ, List, [], ◌∷◌, ◌++◌}
use Rattle.std.specs.List.{AllByRecursion}
use Rattle.blob_digest.specs.Digest.{DigestValue}
use Rattle.messages.specs.declared.node.Node.TheVariants as nodes
use Rattle.blob_source.specs.Source.{Blobs}
use Rattle.blob_source.specs.declared.source.FetchError.{FetchError}
use Rattle.blob_source.specs.declared.source.FetchError.TheVariants as fetching
use Rattle.tree.specs.Tree.{Name, Standing, a_leaf, a_directory}
use Rattle.tree.specs.Form.{NodeValue}
use Rattle.tree.specs.FlatTree.{FlatValue}
use Rattle.tree.specs.TreeError.{Explains, FailsBlob}
use Rattle.tree.specs.declared.error.TreeError.{TreeError}
use Rattle.tree.specs.declared.error.TreeError.TheVariants as tree
use Rattle.tree.specs.Unfolded.{IsUnfolded, ExplainsUnfold}
use Rattle.worker.specs.declared.error.StepRefusal.{StepRefusal}
use Rattle.worker.specs.declared.error.StepRefusal.TheVariants as refusals
use Rattle.worker.specs.declared.laid.LayoutError.{LayoutError}
use Rattle.worker.specs.declared.laid.LayoutError.TheVariants as laying
use Rattle.worker.specs.Layout.{IsFileWith}

abbrev pub of_fetch : {A : Type 0} → FetchError → StepRefusal A
of_fetch fetching.Failed = refusals.Fetch
of_fetch fetching.Memory = refusals.Memory

abbrev pub of_tree : {A : Type 0} → TreeError A → LayoutError A
of_tree tree.Memory = laying.Memory
of_tree e = laying.Source e

-- ---- why nothing is laid out

-- an entry that is laid out: a directory, or a file whose content is told
abbrev pub IsLaid : Blobs → Standing NodeValue → Type 0
IsLaid B s = (s ≡ a_directory) ⊎ ((b : List ℕ) × IsFileWith B b s)

-- why an entry isn't laid out: it is a link, or a file whose content isn't fetched
abbrev pub FailsToLay : {A : Type 0} → Blobs → List Name → Standing NodeValue → LayoutError A
    → Type 0
FailsToLay B p (a_leaf (nodes.File d x)) (laying.Source e) = Explains (FailsBlob B d) e
FailsToLay B p (a_leaf (nodes.Link t)) (laying.LinkInput q) = q ≡ p
FailsToLay B p s e = ⊥

-- an entry isn't laid out, and all before it are
pub record StopsAt {A : Type 0} (B : Blobs) (entries : FlatValue) (e : LayoutError A)
    : Type 0 where
  pub done : FlatValue
  pub path : List Name
  pub standing : Standing NodeValue
  pub left : FlatValue
  pub whole : entries ≡ done ++ (path, standing) ∷ left
  pub laid : AllByRecursion (λ entry. IsLaid B entry.1) done
  pub fails : FailsToLay B path standing e

-- Why entries aren't laid out: the first that isn't, unless memory ran out.
abbrev pub StopsLayout : {A : Type 0} → Blobs → FlatValue → LayoutError A → Type 0
StopsLayout B entries laying.Memory = Unit {0}
StopsLayout B entries e = StopsAt B entries e

-- why a tree isn't unfolded
abbrev pub IsTreeFault : {A : Type 0} → Blobs → DigestValue → LayoutError A → Type 0
IsTreeFault B d (laying.Source e) = ExplainsUnfold B d [] e
IsTreeFault B d (laying.LinkInput p) = ⊥
IsTreeFault B d laying.Memory = Unit {0}

-- Why the tree under a digest isn't laid out: it isn't told, or its entries aren't laid out.
abbrev pub IsLayoutFault : {A : Type 0} → Blobs → DigestValue → LayoutError A → Type 0
IsLayoutFault B d e = IsTreeFault B d e
    ⊎ ((entries : FlatValue) × IsUnfolded B d entries × StopsLayout B entries e)
