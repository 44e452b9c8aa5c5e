-- The children of a Directory, by their names.
use Rattle.std.proofs.Common.{◌≡◌, ℕ, List, refl, ap, sym, ◌∙◌, Bool, true, false, cond, inl, inr}
use Rattle.std.specs.Prelude.{◌⊎◌, Option, Some, None, option_map, find, nat_eq}
use Rattle.std.specs.Cmp.Lexicographic.{pointwise, bytes_decides}
use Rattle.std.specs.declared.cmp.Ordering.{Ordering}
use Rattle.std.specs.declared.cmp.Ordering.TheVariants.{Less, Equal, Greater}
use Rattle.std.specs.Ordering.{eq_by_cmp, is_eq}
use Rattle.messages.specs.declared.node.Node.TheVariants.{File, Link, Dir}
use Rattle.messages.specs.FileNode.{FileNodeValue}
use Rattle.messages.specs.DirectoryNode.{DirectoryNodeValue}
use Rattle.messages.specs.SymlinkNode.{SymlinkNodeValue}
use Rattle.messages.specs.DirectoryRules.{DirectoryValue}
use Rattle.messages.specs.Node.{is_same, or_else, of_file, of_directory, of_symlink, child}
use Rattle.tree.specs.Tree.{Name, name_cmp, Tree, empty, leaf, folder, single, whole, entry_of, Leaf, IsBelowAll, IsOrdered}
use Rattle.tree.specs.Form.{NodeValue, node_value, with_child, map_leaves, leaf_node, form, directory_of, root, entry_node}
use Rattle.tree.proofs.TreeLemmas.{name_same, name_itself, one_or_two, apart_cmp}

-- the three kinds of child, taken in turn
abbrev pub pick : {A : Type 0} → Option FileNodeValue → Option DirectoryNodeValue → Option SymlinkNodeValue → Option (Rattle.messages.specs.declared.node.Node.Node A)
pick f d l = or_else (option_map of_file f) (or_else (option_map of_directory d) (option_map of_symlink l))

-- a child is the same, whatever holds it
values_of_pick : (A : Type 0) (f : Option FileNodeValue) (d : Option DirectoryNodeValue) (l : Option SymlinkNodeValue) → option_map node_value (pick {A = A} f d l) ≡ pick f d l
values_of_pick A (Some f) d l = refl
values_of_pick A None (Some d) l = refl
values_of_pick A None None (Some l) = refl
values_of_pick A None None None = refl

pub child_value : (A : Type 0) (n : Name) (m : DirectoryValue) → option_map node_value (child {A = A} n m) ≡ child n m
child_value A n m = values_of_pick A (find (λ f. is_same f.name n) m.files) (find (λ f. is_same f.name n) m.directories) (find (λ l. is_same l.name n) m.symlinks)

-- ---- one test of names

bytes_same : (xs ys : List ℕ) → pointwise nat_eq xs ys ≡ true → xs ≡ ys
bytes_same xs ys e = (bytes_decides xs ys).0 e

same_bytes : (xs ys : List ℕ) → xs ≡ ys → pointwise nat_eq xs ys ≡ true
same_bytes xs ys e = (bytes_decides xs ys).1 e

same_test : (n m : Name) → is_same m n ≡ eq_by_cmp name_cmp n m
same_test n m = by (one_or_two n m) (is_same m n) refl
  where
    by : (n ≡ m) ⊎ (n ≡ m → ⊥) → (b : Bool) → is_same m n ≡ b → b ≡ eq_by_cmp name_cmp n m
    by (inl same) b e = sym e ∙ same_bytes m n (sym same) ∙ sym (ap is_eq (ap (λ k. name_cmp k m) same ∙ name_itself m))
    by (inr apart) true e = absurd (apart (sym (bytes_same m n e)))
    by (inr apart) false e = sym (apart_cmp n m apart)

-- ---- a child that was put in front is found by its name

pick_none : (f : Option FileNodeValue) (d : Option DirectoryNodeValue) (l : Option SymlinkNodeValue) → pick {A = Unit {0}} f d l ≡ None → (f ≡ None) × (d ≡ None)
pick_none (Some x) d l e = cc
pick_none None (Some d) l e = cc
pick_none None None l e = (refl, refl)

pick_file : (b : Bool) (x : FileNodeValue) (f : Option FileNodeValue) (d : Option DirectoryNodeValue) (l : Option SymlinkNodeValue) → pick {A = Unit {0}} (cond b (Some x) f) d l ≡ cond b (Some (of_file x)) (pick f d l)
pick_file true x f d l = refl
pick_file false x f d l = refl

pick_dir : (b : Bool) (x : DirectoryNodeValue) (f : Option FileNodeValue) (d : Option DirectoryNodeValue) (l : Option SymlinkNodeValue) → (b ≡ true → pick {A = Unit {0}} f d l ≡ None) → pick {A = Unit {0}} f (cond b (Some x) d) l ≡ cond b (Some (of_directory x)) (pick f d l)
pick_dir true x f d l h = let none = pick_none f d l (h refl) in rw none.0 refl
pick_dir false x f d l h = refl

pick_link : (b : Bool) (x : SymlinkNodeValue) (f : Option FileNodeValue) (d : Option DirectoryNodeValue) (l : Option SymlinkNodeValue) → (b ≡ true → pick {A = Unit {0}} f d l ≡ None) → pick {A = Unit {0}} f d (cond b (Some x) l) ≡ cond b (Some (of_symlink x)) (pick f d l)
pick_link true x f d l h = let none = pick_none f d l (h refl) in rw (none.0, none.1) refl
pick_link false x f d l h = refl

with_same : (n m : Name) (x : NodeValue) (D : DirectoryValue) → (is_same m n ≡ true → child {A = Unit {0}} n D ≡ None) → child n (with_child m x D) ≡ cond (is_same m n) (Some x) (child n D)
with_same n m (File d e) D h = pick_file (is_same m n) (record { name = m; digest = d; executable = e }) (find (λ f. is_same f.name n) D.files) (find (λ f. is_same f.name n) D.directories) (find (λ f. is_same f.name n) D.symlinks)
with_same n m (Link t) D h = pick_link (is_same m n) (record { name = m; target = t }) (find (λ f. is_same f.name n) D.files) (find (λ f. is_same f.name n) D.directories) (find (λ f. is_same f.name n) D.symlinks) h
with_same n m (Dir d) D h = pick_dir (is_same m n) (record { name = m; digest = d }) (find (λ f. is_same f.name n) D.files) (find (λ f. is_same f.name n) D.directories) (find (λ f. is_same f.name n) D.symlinks) h

pub child-with_child : (n m : Name) (x : NodeValue) (D : DirectoryValue) → (eq_by_cmp name_cmp n m ≡ true → child {A = Unit {0}} n D ≡ None) → child n (with_child m x D) ≡ cond (eq_by_cmp name_cmp n m) (Some x) (child n D)
child-with_child n m x D h = with_same n m x D (λ e. h (sym (same_test n m) ∙ e)) ∙ ap (λ b. cond b (Some x) (child n D)) (same_test n m)

is_eq-Equal : (o : Ordering) → is_eq o ≡ true → o ≡ Equal
is_eq-Equal Less e = cc
is_eq-Equal Equal e = refl
is_eq-Equal Greater e = cc

-- names that compare alike are one
pub same_name : (n m : Name) → eq_by_cmp name_cmp n m ≡ true → n ≡ m
same_name n m e = name_same n m (is_eq-Equal (name_cmp n m) e)

absent : (n m : Name) (x : NodeValue) (D : DirectoryValue) → name_cmp n m ≡ Less → child {A = Unit {0}} n D ≡ None → child {A = Unit {0}} n (with_child m x D) ≡ None
absent n m x D h e = child-with_child n m x D (λ _. e) ∙ ap (λ b. cond b (Some x) (child n D)) (ap is_eq h) ∙ e

-- a name below all names has no child
pub child-below : (n : Name) (t : Tree NodeValue) → IsBelowAll n t → child {A = Unit {0}} n (directory_of t) ≡ None
child-below n empty h = refl
child-below n (leaf m x rest) h = absent n m x (directory_of rest) h.0 (child-below n rest h.1)
child-below n (folder m below rest) h = absent n m (Dir (root below)) (directory_of rest) h.0 (child-below n rest h.1)

chosen : {A B : Type 0} (f : A → B) (b : Bool) (x : A) (o : Option A) → cond b (Some (f x)) (option_map f o) ≡ option_map f (cond b (Some x) o)
chosen f true x o = refl
chosen f false x o = refl

IsBelowAll-map : {L M : Type 0} (f : L → M) (n : Name) (t : Tree L) → IsBelowAll n t → IsBelowAll n (map_leaves f t)
IsBelowAll-map f n empty h = tt
IsBelowAll-map f n (leaf m x rest) h = (h.0, IsBelowAll-map f n rest h.1)
IsBelowAll-map f n (folder m below rest) h = (h.0, IsBelowAll-map f n rest h.1)

-- the child of a tree's Directory is the form of what the tree has under that name
pub child-directory_of : (n : Name) (t : Tree Leaf) → IsOrdered t → child n (directory_of (form t)) ≡ option_map entry_node (entry_of n t)
child-directory_of n empty h = refl
child-directory_of n (leaf m x rest) h =
    child-with_child n m (leaf_node x) (directory_of (form rest)) (λ e. let same = same_name n m e in rw same (child-below m (form rest) (IsBelowAll-map leaf_node m rest h.0)))
    ∙ ap (cond (eq_by_cmp name_cmp n m) (Some (leaf_node x))) (child-directory_of n rest h.1)
    ∙ chosen entry_node (eq_by_cmp name_cmp n m) (single x) (entry_of n rest)
child-directory_of n (folder m below rest) h =
    child-with_child n m (Dir (root (form below))) (directory_of (form rest)) (λ e. let same = same_name n m e in rw same (child-below m (form rest) (IsBelowAll-map leaf_node m rest h.0)))
    ∙ ap (cond (eq_by_cmp name_cmp n m) (Some (Dir (root (form below))))) (child-directory_of n rest h.2)
    ∙ chosen entry_node (eq_by_cmp name_cmp n m) (whole below) (entry_of n rest)
