-- Trees of files, links and directories, as finite maps from paths.
use Rattle.std.specs.Prelude.{◌≡◌, ℕ, Bool, List, [], ◌∷◌, Option, Some, None, if◌then◌else◌}
use Rattle.std.specs.declared.cmp.Ordering.{Ordering}
use Rattle.std.specs.declared.cmp.Ordering.TheVariants.{Less}
use Rattle.std.specs.Ordering.{eq_by_cmp}
use Rattle.std.specs.Cmp.Lexicographic.{slice_cmp}
use Rattle.messages.specs.Order.{bytes_cmp}

-- a name, as its bytes
abbrev pub Name : Type 0
Name = List ℕ

-- the order of names, by their bytes
abbrev pub name_cmp : Name → Name → Ordering
name_cmp = bytes_cmp

-- the order of paths, name by name: a directory before what is below it
abbrev pub path_cmp : List Name → List Name → Ordering
path_cmp = slice_cmp name_cmp

-- A directory, entry by entry in the order of names. An entry is a leaf or a directory below it;
-- `rest` are the entries after it.
pub data Tree (L : Type 0) : Type 0 where
  empty : Tree L
  leaf : (n : Name) (x : L) (rest : Tree L) → Tree L
  folder : (n : Name) (below rest : Tree L) → Tree L

-- What a tree has at a path: a leaf, or a directory.
pub data Entry (L : Type 0) : Type 0 where
  single : L → Entry L
  whole : Tree L → Entry L

abbrev pub entry_of : {L : Type 0} → Name → Tree L → Option (Entry L)
entry_of n empty = None
entry_of n (leaf m x rest) = if eq_by_cmp name_cmp n m then Some (single x) else entry_of n rest
entry_of n (folder m below rest) =
    if eq_by_cmp name_cmp n m then Some (whole below) else entry_of n rest

-- name by name; only a directory has names below it
abbrev pub below_entry : {L : Type 0} → List Name → Option (Entry L) → Option (Entry L)
below_entry [] e = e
below_entry (n ∷ p) None = None
below_entry (n ∷ p) (Some (single x)) = None
below_entry (n ∷ p) (Some (whole t)) = below_entry p (entry_of n t)

-- what the tree has at a path
abbrev pub tree_at : {L : Type 0} → Tree L → List Name → Option (Entry L)
tree_at t p = below_entry p (Some (whole t))

-- What stands at a path: nothing, a leaf, or a directory. A tree is the finite map of what stands
-- at its paths.
pub data Standing (L : Type 0) : Type 0 where
  nothing : Standing L
  a_leaf : L → Standing L
  a_directory : Standing L

abbrev pub standing : {L : Type 0} → Option (Entry L) → Standing L
standing None = nothing
standing (Some (single x)) = a_leaf x
standing (Some (whole t)) = a_directory

abbrev pub stands_at : {L : Type 0} → Tree L → List Name → Standing L
stands_at t p = standing (tree_at t p)

-- A leaf of a tree of files: a content with its executable bit, or the target of a link.
pub data Leaf : Type 0 where
  file : (content : List ℕ) (executable : Bool) → Leaf
  link : (target : List ℕ) → Leaf

-- a name comes before those of all entries
abbrev pub IsBelowAll : {L : Type 0} → Name → Tree L → Type 0
IsBelowAll n empty = Unit {0}
IsBelowAll n (leaf m x rest) = (name_cmp n m ≡ Less) × IsBelowAll n rest
IsBelowAll n (folder m below rest) = (name_cmp n m ≡ Less) × IsBelowAll n rest

-- the names ascend strictly in each directory
abbrev pub IsOrdered : {L : Type 0} → Tree L → Type 0
IsOrdered empty = Unit {0}
IsOrdered (leaf n x rest) = IsBelowAll n rest × IsOrdered rest
IsOrdered (folder n below rest) = IsBelowAll n rest × IsOrdered below × IsOrdered rest

abbrev pub IsOrderedEntry : {L : Type 0} → Entry L → Type 0
IsOrderedEntry (single x) = Unit {0}
IsOrderedEntry (whole t) = IsOrdered t
