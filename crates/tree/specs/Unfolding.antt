-- What the private functions that unfold a tree speak of: the children of a Directory by their
-- names, and entries below a path.
use Rattle.std.specs.Prelude.{◌≡◌, List, [], ◌∷◌, ◌++◌, length, map, Option, Some, None}
use Rattle.std.specs.List.{AllByRecursion}
use Rattle.messages.specs.declared.node.Node.{Node}
use Rattle.messages.specs.declared.node.Node.TheVariants.{Dir}
use Rattle.messages.specs.DirectoryRules.{DirectoryValue}
use Rattle.messages.specs.Path.{IsPath}
use Rattle.tree.specs.declared.error.TreeError.{TreeError}
use Rattle.tree.specs.declared.error.TreeError.TheVariants.{Absent, BlobMissing, BlobWrong}
use Rattle.tree.specs.declared.error.TreeError.TheVariants.{BlobMalformed, TooDeep, Conflict}
use Rattle.tree.specs.declared.error.TreeError.TheVariants.{Fetch, Memory}
use Rattle.blob_source.specs.Source.{Blobs}
use Rattle.blob_digest.specs.Digest.{DigestValue}
use Rattle.tree.specs.Tree.{Name, Tree, empty, leaf, IsOrdered}
use Rattle.tree.specs.Form.{NodeValue, node_value, directory_of}
use Rattle.tree.specs.FlatTree.{FlatValue, listed}
use Rattle.tree.specs.Lookup.{Looks, found}
use Rattle.tree.specs.Unfolded.{TellsTree, IsFineAt}

-- names with their nodes, as a tree
abbrev pub leaves : List (Name × NodeValue) → Tree NodeValue
leaves [] = empty
leaves (c ∷ cs) = leaf c.0 c.1 (leaves cs)

abbrev pub child_values : {A : Type 0} → List (Name × Node A) → List (Name × NodeValue)
child_values entries = map (λ e. (e.0, node_value e.1)) entries

-- the Directory of these children
abbrev pub made : {A : Type 0} → List (Name × Node A) → DirectoryValue
made entries = directory_of (leaves (child_values entries))

-- the children of a Directory, in the order of their names
pub record AreChildren (cs : List (Name × NodeValue)) (m : DirectoryValue) : Type 0 where
  pub directory : directory_of (leaves cs) ≡ m
  pub ordered : IsOrdered (leaves cs)

-- a path of 64 names
abbrev pub IsFull : Option (List Name) → List Name → Type 0
IsFull None path = ⊥
IsFull (Some above) path = (path ≡ above) × (length above ≡ 64)

-- why no path is below another: it has 64 names, unless memory ran out
abbrev pub ExplainsChild : {A : Type 0} → Option (List Name) → TreeError A → Type 0
ExplainsChild above (Absent path) = ⊥
ExplainsChild above (BlobMissing e) = ⊥
ExplainsChild above (BlobWrong e) = ⊥
ExplainsChild above (BlobMalformed e) = ⊥
ExplainsChild above (TooDeep path) = IsFull above path
ExplainsChild above (Conflict path) = ⊥
ExplainsChild above Fetch = ⊥
ExplainsChild above Memory = Unit {0}

-- entries seen from the directory above a path
abbrev pub prefixed : List Name → FlatValue → FlatValue
prefixed above entries = map (λ e. (above ++ e.0, e.1)) entries

-- all directories are told, and those at paths of 64 names are empty
abbrev pub AreFine : Blobs → DigestValue → List Name → Type 0
AreFine B d above =
    (q : List Name) (e : DigestValue) → Looks B d q (found (Dir e)) → IsFineAt B (above ++ q) e

-- after the entries that were there stand those of the tree that is told under a digest, below a
-- path
pub record Appends (B : Blobs) (d : DigestValue) (above : List Name)
    (old new : FlatValue) : Type 0 where
  pub tree : Tree NodeValue
  pub ordered : IsOrdered tree
  pub told : TellsTree B d tree
  pub entries : new ≡ old ++ prefixed above (listed tree)
  pub fine : AreFine B d above
  pub paths : AllByRecursion (λ e. IsPath e.0) (prefixed above (listed tree))
