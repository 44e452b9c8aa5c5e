-- What lines come to by digests, and what the lines merge into whose digests they are: the one is
-- the form of the other, among blobs of which no two share a digest.
use Rattle.std.specs.Prelude.{◌≡◌, ◌≢◌, ◌⊎◌, ℕ, ◌≤◌, List, [], ◌∷◌, map, length, Contains}
use Rattle.blob_digest.specs.Digest.{NoClash}
use Rattle.messages.specs.Directory.{directory_bytes}
use Rattle.blob_source.specs.Source.{Blobs}
use Rattle.tree.specs.Tree.{Name, Tree, Leaf, Entry, single, whole, IsOrderedEntry}
use Rattle.tree.specs.Form.{NodeValue, entry_node, form, root, IsContent, IsBlobOf}
use Rattle.tree.specs.Lookup.{IsValue}
use Rattle.tree.specs.Merge.{IsMergeOf, TreeLines}
use Rattle.tree.specs.Merging.{WithinValue, in_source, in_tree, NodeWithin, MergeLines}
use Rattle.tree.specs.Merging.{conflict, AreHeld, merged}

-- a line gives at its target the node of an entry
pub record GivesNodeOf (l : List Name × NodeWithin) (e : List Name × Entry Leaf) : Type 0 where
  pub target : l.0 ≡ e.0
  pub node : l.1.node ≡ entry_node e.1
  pub ordered : IsOrderedEntry e.1
  pub some : e.0 ≢ []
  pub few : length e.0 ≤ 64

abbrev pub GiveNodesOf : MergeLines → TreeLines → Type 0
GiveNodesOf [] [] = Unit {0}
GiveNodesOf [] (e ∷ es) = ⊥
GiveNodesOf (l ∷ ls) [] = ⊥
GiveNodesOf (l ∷ ls) (e ∷ es) = GivesNodeOf l e × GiveNodesOf ls es

-- ---- the blobs that are concerned

abbrev pub IsBlobIn : WithinValue → List ℕ → Type 0
IsBlobIn in_source b = ⊥
IsBlobIn (in_tree t) b = Contains (map directory_bytes (t.root ∷ t.children)) b

abbrev pub IsBlobOfTrees : MergeLines → List ℕ → Type 0
IsBlobOfTrees [] b = ⊥
IsBlobOfTrees (l ∷ ls) b = IsBlobIn l.1.within b ⊎ IsBlobOfTrees ls b

abbrev pub IsBlobOfOne : Entry Leaf → List ℕ → Type 0
IsBlobOfOne (single x) b = IsContent x b
IsBlobOfOne (whole t) b = IsBlobOf t b

abbrev pub IsBlobOfEntries : TreeLines → List ℕ → Type 0
IsBlobOfEntries [] b = ⊥
IsBlobOfEntries (e ∷ es) b = IsBlobOfOne e.1 b ⊎ IsBlobOfEntries es b

abbrev pub IsOfMerge : Blobs → MergeLines → TreeLines → List ℕ → Type 0
IsOfMerge B ls es b = IsValue B b ⊎ (IsBlobOfTrees ls b ⊎ IsBlobOfEntries es b)

-- ---- one is the form of the other

pub record TellsOfMerges (B : Blobs) (ls : MergeLines) : Type 0 where
  -- the digest names what the entries merge into
  pub trees : (es : TreeLines) → AreHeld ls → GiveNodesOf ls es → NoClash (IsOfMerge B ls es)
      → (T : Tree NodeValue) → (merged B ls).passes T
      → (t : Tree Leaf) × IsMergeOf es t × (root (form t) ≡ root T)
  -- entries of lines in conflict merge into nothing
  pub conflicts : (es : TreeLines) → AreHeld ls → GiveNodesOf ls es → NoClash (IsOfMerge B ls es)
      → (p : List Name) → (merged B ls).fails (conflict p)
      → (t : Tree Leaf) → IsMergeOf es t → ⊥
