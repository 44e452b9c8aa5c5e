-- The Directories of a tree, each once, as they are stored.
use Rattle.std.specs.Prelude.{◌≡◌, ℕ, bytes_eq, List, [], ◌∷◌, ◌++◌, map, if◌then◌else◌}
use Rattle.std.specs.List.{list_any}
use Rattle.std.specs.declared.vec.Vec.{Vec}
use Rattle.blob_digest.specs.DigestValue.{IsDigest}
use Rattle.messages.specs.declared.node.Node.TheVariants.{File, Link, Dir}
use Rattle.messages.specs.Name.{IsName}
use Rattle.messages.specs.Target.{IsTarget}
use Rattle.tree.specs.declared.folding.Folded.{Folded}
use Rattle.tree.specs.Tree.{Tree, empty, leaf, folder, IsOrdered}
use Rattle.tree.specs.Form.{NodeValue, top, root}
use Rattle.tree.specs.Stage.{Stage}

-- The encodings in the order of a visit: a directory before what is below it, names in order, each
-- with all that is below it before the next.
abbrev pub tops_below : Tree NodeValue → List (List ℕ)
tops_below empty = []
tops_below (leaf n x rest) = tops_below rest
tops_below (folder n below rest) = (top below ∷ tops_below below) ++ tops_below rest

abbrev pub visited : Tree NodeValue → List (List ℕ)
visited t = top t ∷ tops_below t

-- each of some encodings once, where it first stands, but for those that were seen before
abbrev pub unseen : List (List ℕ) → List (List ℕ) → List (List ℕ)
unseen seen [] = []
unseen seen (b ∷ bs) =
    if list_any (bytes_eq b) seen then unseen seen bs else b ∷ unseen (seen ++ b ∷ []) bs

abbrev pub first_visits : Tree NodeValue → List (List ℕ)
first_visits t = unseen [] (visited t)

-- what encodings hold
abbrev pub items_of : {A : Type 0} → List (Vec ℕ A) → List (List ℕ)
items_of encodings = map (λ v. v.items) encodings

-- the digest of a tree's root, and its Directories, each distinct one once, in the order of their
-- first visits
pub record IsFoldOf {A : Type 0} (t : Tree NodeValue) (f : Folded A) : Type 0 where
  pub root : f.root ≡ root t
  pub directories : items_of f.directories.items ≡ first_visits t

-- ---- trees whose Directories are valid

abbrev pub IsNode : NodeValue → Type 0
IsNode (File d executable) = IsDigest d
IsNode (Link target) = IsTarget target
IsNode (Dir d) = IsDigest d

-- every name is one, and every leaf is a valid node
abbrev pub AreValid : Tree NodeValue → Type 0
AreValid empty = Unit {0}
AreValid (leaf n x rest) = (IsName n × IsNode x) × AreValid rest
AreValid (folder n below rest) = (IsName n × AreValid below) × AreValid rest

-- the tree's Directories are valid, and this is its fold
pub record IsValidFold {A : Type 0} (t : Tree NodeValue) (f : Folded A) : Type 0 where
  pub ordered : IsOrdered t
  pub valid : AreValid t
  pub fold : IsFoldOf t f

abbrev pub IsFoldOfValid : {A : Type 0} → Folded A → Type 0
IsFoldOfValid f = (t : Tree NodeValue) × IsValidFold t f

-- a fold of a tree with which a check passes, and whose Directories are valid
abbrev pub IsFoldOfPassed : {A E : Type 0} → Stage E (Tree NodeValue) → Folded A → Type 0
IsFoldOfPassed check f = (t : Tree NodeValue) × check.passes t × IsValidFold t f
