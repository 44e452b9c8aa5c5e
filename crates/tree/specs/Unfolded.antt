-- The tree that a source tells under a digest, Directory by Directory, and why there is none.
use Rattle.std.specs.Prelude.{◌≡◌, ◌≢◌, ℕ, ◌+◌, ◌≤◌, List, [], ◌∷◌, ◌++◌, length}
use Rattle.std.specs.List.{AllByRecursion}
use Rattle.std.specs.declared.cmp.Ordering.TheVariants.{Less}
use Rattle.blob_digest.specs.Digest.{DigestValue}
use Rattle.messages.specs.declared.node.Node.TheVariants.{Dir}
use Rattle.messages.specs.DirectoryRules.{DirectoryValue}
use Rattle.tree.specs.declared.error.TreeError.{TreeError}
use Rattle.tree.specs.declared.error.TreeError.TheVariants.{Absent, BlobMissing, BlobWrong}
use Rattle.tree.specs.declared.error.TreeError.TheVariants.{BlobMalformed, TooDeep, Conflict}
use Rattle.tree.specs.declared.error.TreeError.TheVariants.{Fetch, Memory}
use Rattle.tree.specs.Tree.{Name, path_cmp, Tree, empty, leaf, folder}
use Rattle.tree.specs.Tree.{Standing, nothing, a_leaf, a_directory}
use Rattle.tree.specs.Form.{NodeValue, no_children, directory_of, root}
use Rattle.blob_source.specs.Source.{Blobs, Telling}
use Rattle.blob_source.specs.Told.{Fault, missing, wrong, malformed, TellsDirectory, FailsDirectory}
use Rattle.tree.specs.Lookup.{found, Looks}
use Rattle.tree.specs.FlatTree.{Ascend, FlatValue, IsListOf}

-- the Directory of each directory below the top is told
abbrev pub TellsBelow : Blobs → Tree NodeValue → Type 0
TellsBelow B empty = Unit {0}
TellsBelow B (leaf n x rest) = TellsBelow B rest
TellsBelow B (folder n below rest) =
    (TellsDirectory B (root below) (directory_of below) × TellsBelow B below) × TellsBelow B rest

-- Every Directory of the tree is told, that of its top under the digest.
pub record TellsTree (B : Blobs) (d : DigestValue) (t : Tree NodeValue) : Type 0 where
  pub root : root t ≡ d
  pub top : TellsDirectory B d (directory_of t)
  pub below : TellsBelow B t

-- the list of the tree that is told under a digest
pub record IsUnfolded (B : Blobs) (d : DigestValue) (entries : FlatValue) : Type 0 where
  pub tree : Tree NodeValue
  pub list : IsListOf entries tree
  pub told : TellsTree B d tree

-- how many of the entries are directories
abbrev pub directories_at : Standing NodeValue → ℕ
directories_at nothing = 0
directories_at (a_leaf x) = 0
directories_at a_directory = 1

abbrev pub directories_in : FlatValue → ℕ
directories_in [] = 0
directories_in (e ∷ entries) = directories_at e.1 + directories_in entries

-- ---- how often the source is asked

-- what a look-up finds at a path
abbrev pub FindsStanding : Blobs → DigestValue → List Name → Standing NodeValue → Type 0
FindsStanding B d p nothing = ⊥
FindsStanding B d p (a_leaf x) = Looks B d p (found x)
FindsStanding B d p a_directory = (e : DigestValue) × Looks B d p (found (Dir e))

-- What look-ups find at some paths of the tree, maybe at its root's. No path stands twice.
pub record AreFound (B : Blobs) (d : DigestValue) (places : FlatValue) : Type 0 where
  pub ascend : Ascend places
  pub stand : AllByRecursion (λ e. FindsStanding B d e.0 e.1) places

-- At most one call for each directory of the tree, as far as it is told.
pub record AsksDirectories (B : Blobs) (d : DigestValue) (old new : Telling) : Type 0 where
  pub places : FlatValue
  pub found_there : AreFound B d places
  pub few : new.calls ≤ old.calls + directories_in places

-- ---- why there is none

-- the Directory of a directory at a path is told, and is empty where the path has 64 names
abbrev pub IsFineAt : Blobs → List Name → DigestValue → Type 0
IsFineAt B path d =
    (m : DirectoryValue) × TellsDirectory B d m × (length path ≡ 64 → m ≡ no_children)

-- each directory at a path before this one, in the order of paths, is fine; `above` are the names
-- above the digest
abbrev pub AreFineBefore : Blobs → DigestValue → List Name → List Name → Type 0
AreFineBefore B d above path = (q : List Name) (e : DigestValue) → path_cmp q path ≡ Less
    → Looks B d q (found (Dir e)) → IsFineAt B (above ++ q) e

-- the first directory that isn't fine: its Directory isn't told
pub record IsFaultBelow (B : Blobs) (d : DigestValue) (above : List Name) (e : DigestValue)
    (f : Fault) : Type 0 where
  pub path : List Name
  pub reached : Looks B d path (found (Dir e))
  pub fault : FailsDirectory B e f
  pub first : AreFineBefore B d above path

-- the first directory that isn't fine: it has an entry, at a path of 64 names
pub record IsDeep (B : Blobs) (d : DigestValue) (above path : List Name) : Type 0 where
  pub below : List Name
  pub split : path ≡ above ++ below
  pub names : length path ≡ 64
  pub digest : DigestValue
  pub reached : Looks B d below (found (Dir digest))
  pub directory : DirectoryValue
  pub told : TellsDirectory B digest directory
  pub some : directory ≢ no_children
  pub first : AreFineBefore B d above below

abbrev pub ExplainsUnfold : {A : Type 0} → Blobs → DigestValue → List Name → TreeError A → Type 0
ExplainsUnfold B d above (Absent path) = ⊥
ExplainsUnfold B d above (BlobMissing e) = IsFaultBelow B d above e (missing e)
ExplainsUnfold B d above (BlobWrong e) = IsFaultBelow B d above e (wrong e)
ExplainsUnfold B d above (BlobMalformed e) = IsFaultBelow B d above e (malformed e)
ExplainsUnfold B d above (TooDeep path) = IsDeep B d above path
ExplainsUnfold B d above (Conflict path) = ⊥
ExplainsUnfold B d above Fetch = Unit {0}
ExplainsUnfold B d above Memory = Unit {0}
