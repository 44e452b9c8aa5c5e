-- What the private functions that make a graft's Directories speak of: lines in the order of their
-- targets' names, and the children of a directory that is being made.
use Rattle.std.specs.Prelude.{◌≡◌, ℕ, List, [], ◌∷◌, ◌++◌, map, nat_eq}
use Rattle.std.specs.Prelude.{if◌then◌else◌}
use Rattle.std.specs.Cmp.Lexicographic.{pointwise}
use Rattle.messages.specs.DirectoryRules.{DirectoryValue}
use Rattle.tree.specs.declared.visiting.Line.{Line}
use Rattle.tree.specs.declared.visiting.Children.{Children}
use Rattle.tree.specs.declared.visiting.Visited.{Visited}
use Rattle.tree.specs.Tree.{Name, Tree}
use Rattle.tree.specs.Form.{NodeValue, root}
use Rattle.tree.specs.Folded.{items_of, visited}
use Rattle.tree.specs.FlatTree.{FlatValue, entry_value}
use Rattle.tree.specs.declared.flat_tree.FlatEntry.{FlatEntry}

-- ---- lines

abbrev pub first_under : {X : Type 0} → Name → List Name → X → List (List Name × X)
    → List (List Name × X)
first_under n [] x rest = []
first_under n (m ∷ p) x rest = if pointwise nat_eq m n then (p, x) ∷ rest else []

-- the first lines, as far as their first name is n, without that name
abbrev pub led : {X : Type 0} → Name → List (List Name × X) → List (List Name × X)
led n [] = []
led n (l ∷ ls) = first_under n l.0 l.1 (led n ls)

-- the lines, with what stands at them
abbrev pub lines_seen : {A T : Type 0} → List (Line A T) → List (List Name × T)
lines_seen lines = map (λ l. (l.names.now, l.item.now)) lines

abbrev pub line_entries : {A : Type 0} → List (Line A (FlatEntry A)) → FlatValue
line_entries lines = map (λ l. (l.names.now, entry_value l.item.now)) lines

-- ---- directories

-- the children of one directory, and after them those of another
abbrev pub with_children : DirectoryValue → DirectoryValue → DirectoryValue
with_children a b =
    record {
      files = a.files ++ b.files;
      directories = a.directories
          ++ b.directories;
      symlinks = a.symlinks ++ b.symlinks;
    }

abbrev pub children_directory : {A : Type 0} → Children A → DirectoryValue
children_directory c =
    record { files = c.files.items; directories = c.directories.items; symlinks = c.symlinks.items }

abbrev pub tops_in : {A : Type 0} → Children A → List (List ℕ)
tops_in c = items_of c.below.items

-- a tree's Directories in the order of a visit, and its digest
pub record IsVisitOf {A : Type 0} (t : Tree NodeValue) (v : Visited A) : Type 0 where
  pub root : v.root ≡ root t
  pub encodings : items_of v.encodings.items ≡ visited t
