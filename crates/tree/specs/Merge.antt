-- Trees put together where directories meet: the union of what lines give at each path.
use Rattle.std.specs.Prelude.{◌≡◌, ◌≢◌, ◌⊎◌, ℕ, suc, Bool, true, false, ◌&&◌, bytes_eq}
use Rattle.std.specs.Prelude.{List, [], ◌∷◌, ◌++◌, length, Option, Some, None, option_map}
use Rattle.std.specs.Prelude.{option_and_then, if◌then◌else◌}
use Rattle.std.specs.FinMap.Entries.{by_order}
use Rattle.std.specs.List.{AllByRecursion}
use Rattle.std.specs.Ordering.{eq_by_cmp}
use Rattle.tree.specs.Tree.{Name, name_cmp, Tree, empty, leaf, folder, Entry, single, whole}
use Rattle.tree.specs.Tree.{below_entry, IsOrdered, IsOrderedEntry, Leaf, file, link}
use Rattle.tree.specs.Tree.{Standing, nothing, a_directory, standing, stands_at}
use Rattle.tree.specs.Graft.{with_entry}

-- What a line gives at a path: a directory above its target, and at its target and below it what
-- stands there in its entry.
abbrev pub gives_at : {L : Type 0} → List Name → Entry L → List Name → Standing L
gives_at [] e q = standing (below_entry q (Some e))
gives_at (n ∷ p) e [] = a_directory
gives_at (n ∷ p) e (m ∷ q) = if eq_by_cmp name_cmp m n then gives_at p e q else nothing

-- what is given is nothing, or just what stands there
abbrev pub GivesOnly : {L : Type 0} → Standing L → Standing L → Type 0
GivesOnly given s = (given ≡ nothing) ⊎ (given ≡ s)

-- Lines merge into a tree, which is the union of what they give. So where two lines don't give the
-- same at a path they merge into none.
pub record IsMergeOf {L : Type 0} (ls : List (List Name × Entry L)) (t : Tree L) : Type 0 where
  pub ordered : IsOrdered t
  -- a line gives at a path nothing, or what the tree has there
  pub lines : AllByRecursion
      (λ (l : List Name × Entry L). (p : List Name)
      → GivesOnly (gives_at l.0 l.1 p) (stands_at t p)) ls
  -- the tree has nothing that no line gives
  pub nothing_else : (n : Name) (q : List Name)
      → AllByRecursion (λ (l : List Name × Entry L). gives_at l.0 l.1 (n ∷ q) ≡ nothing) ls
      → stands_at t (n ∷ q) ≡ nothing
  -- Directories that meet at a path of 64 names are one: a line that gives one there gives all that
  -- the tree has below it.
  pub deep : AllByRecursion
      (λ (l : List Name × Entry L). (p q : List Name) → length p ≡ 64
      → gives_at l.0 l.1 p ≡ a_directory → gives_at l.0 l.1 (p ++ q) ≡ stands_at t (p ++ q)) ls

-- ---- that tree, or that there is none

abbrev pub TreeLines : Type 0
TreeLines = List (List Name × Entry Leaf)

abbrev pub same_bit : Bool → Bool → Bool
same_bit true c = c
same_bit false true = false
same_bit false false = true

abbrev pub same_leaf : Leaf → Leaf → Bool
same_leaf (file c b) (file d e) = bytes_eq c d && same_bit b e
same_leaf (link s) (link t) = bytes_eq s t
same_leaf x y = false

abbrev pub same_tree : Tree Leaf → Tree Leaf → Bool
same_tree empty empty = true
same_tree (leaf n x t) (leaf m y u) = bytes_eq n m && (same_leaf x y && same_tree t u)
same_tree (folder n s t) (folder m r u) = bytes_eq n m && (same_tree s r && same_tree t u)
same_tree t u = false

-- an entry beside one of a directory and those after it: as both come to where they have one name
abbrev pub beside : (Entry Leaf → Entry Leaf → Option (Entry Leaf)) → Name → Entry Leaf → Name
    → Entry Leaf → Tree Leaf → Option (Tree Leaf) → Option (Tree Leaf)
beside both n e m f rest later =
    by_order (name_cmp n m) (Some (with_entry n e (with_entry m f rest)))
    (option_map (λ g. with_entry m g rest) (both e f)) (option_map (with_entry m f) later)

-- a directory with one more entry
abbrev pub joined : (Entry Leaf → Entry Leaf → Option (Entry Leaf)) → Name → Entry Leaf → Tree Leaf
    → Option (Tree Leaf)
joined both n e empty = Some (with_entry n e empty)
joined both n e (leaf m x rest) = beside both n e m (single x) rest (joined both n e rest)
joined both n e (folder m t rest) = beside both n e m (whole t) rest (joined both n e rest)

-- a directory with all entries of another
abbrev pub joined_with : (Entry Leaf → Entry Leaf → Option (Entry Leaf)) → Tree Leaf → Tree Leaf
    → Option (Tree Leaf)
joined_with both empty u = Some u
joined_with both (leaf n x rest) u =
    option_and_then (joined both n (single x)) (joined_with both rest u)
joined_with both (folder n t rest) u =
    option_and_then (joined both n (whole t)) (joined_with both rest u)

abbrev pub same_entry : Entry Leaf → Entry Leaf → Bool
same_entry (single x) (single y) = same_leaf x y
same_entry (whole t) (whole u) = same_tree t u
same_entry e f = false

-- What two entries of one path come to, below which paths may have so many more names: directories
-- are joined, and leaves are equal. Where no names are left, so are directories.
abbrev pub meeting : ℕ → Entry Leaf → Entry Leaf → Option (Entry Leaf)
meeting (suc deeper) (whole t) (whole u) = option_map whole (joined_with (meeting deeper) t u)
meeting deeper e f = if same_entry e f then Some e else None

-- a line as a tree of its own
abbrev pub line_entry : List Name → Entry Leaf → Entry Leaf
line_entry [] e = e
line_entry (n ∷ p) e = whole (with_entry n (line_entry p e) empty)

abbrev pub line_tree : List Name → Entry Leaf → Tree Leaf
line_tree [] e = empty
line_tree (n ∷ p) e = with_entry n (line_entry p e) empty

-- the tree that lines merge into, if there is one
unfoldable pub merge : TreeLines → Option (Tree Leaf)
merge [] = Some empty
merge (l ∷ ls) = option_and_then (joined_with (meeting 63) (line_tree l.0 l.1)) (merge ls)

abbrev pub AreMergeable : TreeLines → Type 0
AreMergeable es = AllByRecursion (λ e. (e.0 ≢ []) × IsOrderedEntry e.1) es

-- `merge` comes to the tree that lines merge into, and to none where they merge into none.
pub record TellsMerge (es : TreeLines) : Type 0 where
  pub sound : AreMergeable es → (t : Tree Leaf) → merge es ≡ Some t → IsMergeOf es t
  pub complete : AreMergeable es → (t : Tree Leaf) → IsMergeOf es t → merge es ≡ Some t
