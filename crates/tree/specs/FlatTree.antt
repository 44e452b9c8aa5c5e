-- A tree as a list: what stands at each of its paths, a directory before what is below it, names in
-- order.
use Rattle.std.specs.Prelude.{◌≡◌, ◌≢◌, ◌⊎◌, ℕ, ◌<◌, ◌≤◌, List, [], ◌∷◌, ◌++◌, map, length, take}
use Rattle.std.specs.Prelude.{Option, Some, None, if◌then◌else◌}
use Rattle.std.specs.List.{AllByRecursion}
use Rattle.std.specs.Ordering.{eq_by_cmp}
use Rattle.std.specs.declared.cmp.Ordering.TheVariants.{Less}
use Rattle.std.specs.declared.vec.Vec.{Vec}
use Rattle.messages.specs.declared.node.Node.TheVariants as nodes
use Rattle.messages.specs.Path.{IsPath}
use Rattle.tree.specs.declared.flat_tree.FlatEntry.{FlatEntry}
use Rattle.tree.specs.declared.flat_tree.FlatEntry.TheVariants.{File, Link, Dir}
use Rattle.tree.specs.Tree.{Name, path_cmp, Tree, empty, leaf, folder, Standing, nothing, a_leaf}
use Rattle.tree.specs.Tree.{a_directory, IsOrdered}
use Rattle.tree.specs.Form.{NodeValue}
use Rattle.tree.specs.Folded.{IsFoldOf}
use Rattle.tree.specs.declared.folding.Folded.{Folded}

-- the paths seen from the directory above the one of this name
abbrev pub under : {X : Type 0} → Name → List (List Name × X) → List (List Name × X)
under n entries = map (λ e. (n ∷ e.0, e.1)) entries

-- what stands at each path of a tree
abbrev pub listed : {L : Type 0} → Tree L → List (List Name × Standing L)
listed empty = []
listed (leaf n x rest) = (n ∷ [], a_leaf x) ∷ listed rest
listed (folder n below rest) = (n ∷ [], a_directory) ∷ (under n (listed below) ++ listed rest)

-- what the list has at a path
abbrev pub standing_in : {L : Type 0} → List (List Name × Standing L) → List Name → Standing L
standing_in [] p = nothing
standing_in (e ∷ entries) p = if eq_by_cmp path_cmp p e.0 then e.1 else standing_in entries p

-- each path comes before those of all later entries
abbrev pub Ascend : {X : Type 0} → List (List Name × X) → Type 0
Ascend [] = Unit {0}
Ascend (e ∷ entries) = AllByRecursion (λ f. path_cmp e.0 f.0 ≡ Less) entries × Ascend entries

abbrev pub FlatValue : Type 0
FlatValue = List (List Name × Standing NodeValue)

-- the list is that of the tree
pub record IsListOf (entries : FlatValue) (t : Tree NodeValue) : Type 0 where
  pub ordered : IsOrdered t
  pub listing : entries ≡ listed t

-- A flat tree: the list of some tree, with valid paths.
pub record IsFlatTree (entries : FlatValue) : Type 0 where
  pub tree : Tree NodeValue
  pub list : IsListOf entries tree
  pub paths : AllByRecursion (λ e. IsPath e.0) entries

-- the fold of the tree whose list it is
pub record IsFoldOfList {A : Type 0} (entries : FlatValue) (folded : Folded A) : Type 0 where
  pub tree : Tree NodeValue
  pub list : IsListOf entries tree
  pub fold : IsFoldOf tree folded

-- ---- one entry more

-- What stands at a path leaves room for no other entry there: something stands at the path, or a
-- file or a link above it.
abbrev pub IsTaken : FlatValue → List Name → Type 0
IsTaken entries p =
    (standing_in entries p ≢ nothing)
    ⊎ ((k : ℕ) × (0 < k) × (k < length p) × (x : NodeValue)
    × (standing_in entries (take k p) ≡ a_leaf x))

-- After an entry is added at a path it stands there, and directories at the paths above it, of
-- which those with fewer than `first` names were there. All else is as it was.
pub record IsAdded (first : ℕ) (p : List Name) (s : Standing NodeValue)
    (old new : FlatValue) : Type 0 where
  pub at : standing_in new p ≡ s
  pub above : (k : ℕ) → first ≤ k → k < length p → standing_in new (take k p) ≡ a_directory
  pub others : (q : List Name) → (q ≡ p → ⊥)
      → ((k : ℕ) → first ≤ k → k < length p → q ≡ take k p → ⊥)
      → standing_in new q ≡ standing_in old q

-- The first names of a path, so many that nothing stands at them, while directories stand at fewer.
pub record IsFirstMissing (entries : FlatValue) (p : List Name) (depth : ℕ) : Type 0 where
  pub some : 0 < depth
  pub within : depth ≤ length p
  pub above : (k : ℕ) → 0 < k → k < depth → standing_in entries (take k p) ≡ a_directory
  pub missing : standing_in entries (take depth p) ≡ nothing

-- ---- what the code keeps

abbrev pub entry_value : {A : Type 0} → FlatEntry A → Standing NodeValue
entry_value (File digest executable) = a_leaf (nodes.File digest executable)
entry_value (Link target) = a_leaf (nodes.Link target)
entry_value Dir = a_directory

abbrev pub found_value : {A : Type 0} → Option (FlatEntry A) → Standing NodeValue
found_value None = nothing
found_value (Some e) = entry_value e

abbrev pub flat_value : {A : Type 0} → List (Vec Name A × FlatEntry A) → FlatValue
flat_value entries = map (λ e. (e.0.items, entry_value e.1)) entries

-- entries with their paths
abbrev pub path_values : {A : Type 0} → List (List Name × FlatEntry A) → FlatValue
path_values entries = map (λ e. (e.0, entry_value e.1)) entries
