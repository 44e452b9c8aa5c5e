-- A tree as the list of what stands at its paths: what the list has at a path, and one entry more.
use Rattle.std.proofs.Common.{◌≡◌, ◌≢◌, List, [], ◌∷◌, ◌++◌, refl, ap, sym, ◌∙◌, subst, cond}
use Rattle.std.specs.Prelude.{Option, Some, None}
use Rattle.std.specs.List.{AllByRecursion}
use Rattle.std.specs.Ordering.{is_eq, ordering_then, match_ordering}
use Rattle.std.specs.declared.cmp.Ordering.{Ordering}
use Rattle.std.specs.declared.cmp.Ordering.TheVariants.{Less, Equal, Greater}
use Rattle.std.specs.FinMap.Entries.{by_order}
use Rattle.std.specs.BTreeMap.{insert_entry}
use Rattle.tree.specs.Tree.{Name, name_cmp, path_cmp, Tree, empty, leaf, folder, Entry, single, whole, entry_of, below_entry, tree_at, Standing, nothing, a_leaf, a_directory, standing, stands_at, IsBelowAll, IsOrdered}
use Rattle.tree.specs.FlatTree.{under, listed, standing_in}
use Rattle.tree.proofs.TreeLemmas.{name_itself, name_same, name_greater, below_trans, none-below}

-- a path whose first name compares so with n
abbrev pub IsFirst : Ordering → Name → List Name → Type 0
IsFirst o n [] = ⊥
IsFirst o n (m ∷ q) = name_cmp n m ≡ o

pub less_first : (n : Name) (p q : List Name) → IsFirst Less n q → path_cmp (n ∷ p) q ≡ Less
less_first n p [] h = elim h [ ]
less_first n p (m ∷ q) h = ap (λ o. ordering_then o (path_cmp p q)) h

greater_first : (n : Name) (p q : List Name) → IsFirst Greater n q → path_cmp (n ∷ p) q ≡ Greater
greater_first n p [] h = elim h [ ]
greater_first n p (m ∷ q) h = ap (λ o. ordering_then o (path_cmp p q)) h

pub same_first : (n : Name) (p q : List Name) → path_cmp (n ∷ p) (n ∷ q) ≡ path_cmp p q
same_first n p q = ap (λ o. ordering_then o (path_cmp p q)) (name_itself n)

after_none : (q : List Name) (n : Name) → path_cmp (q ++ n ∷ []) [] ≡ Greater
after_none [] n = refl
after_none (k ∷ q) n = refl

pub all_join : {X : Type 0} (P : X → Type 0) (xs ys : List X) → AllByRecursion P xs → AllByRecursion P ys → AllByRecursion P (xs ++ ys)
all_join P [] ys h k = k
all_join P (x ∷ xs) ys h k = (h.0, all_join P xs ys h.1 k)

module _ {L : Type 0} where
  -- the paths of the list begin with names that compare so with n
  abbrev pub AllFirst : Ordering → Name → List (List Name × Standing L) → Type 0
  AllFirst o n es = AllByRecursion (λ e. IsFirst o n e.0) es

  all_under : (o : Ordering) (n m : Name) (es : List (List Name × Standing L)) → name_cmp n m ≡ o → AllFirst o n (under m es)
  all_under o n m [] h = tt
  all_under o n m (e ∷ es) h = (h, all_under o n m es h)

  pub first_listed : (n : Name) (t : Tree L) → IsBelowAll n t → AllFirst Less n (listed t)
  first_listed n empty h = tt
  first_listed n (leaf m x rest) h = (h.0, first_listed n rest h.1)
  first_listed n (folder m below rest) h = (h.0, all_join (λ e. IsFirst Less n e.0) (under m (listed below)) (listed rest) (all_under Less n m (listed below) h.0) (first_listed n rest h.1))

  -- ---- what a list has at a path

  miss_less : (n : Name) (p : List Name) (fs gs : List (List Name × Standing L)) → AllFirst Less n fs → standing_in (fs ++ gs) (n ∷ p) ≡ standing_in gs (n ∷ p)
  miss_less n p [] gs h = refl
  miss_less n p (e ∷ fs) gs h = ap (λ o. cond (is_eq o) e.1 (standing_in (fs ++ gs) (n ∷ p))) (less_first n p e.0 h.0) ∙ miss_less n p fs gs h.1

  miss_greater : (n : Name) (p : List Name) (fs gs : List (List Name × Standing L)) → AllFirst Greater n fs → standing_in (fs ++ gs) (n ∷ p) ≡ standing_in gs (n ∷ p)
  miss_greater n p [] gs h = refl
  miss_greater n p (e ∷ fs) gs h = ap (λ o. cond (is_eq o) e.1 (standing_in (fs ++ gs) (n ∷ p))) (greater_first n p e.0 h.0) ∙ miss_greater n p fs gs h.1

  miss_all : (n : Name) (p : List Name) (gs : List (List Name × Standing L)) → AllFirst Less n gs → standing_in gs (n ∷ p) ≡ nothing
  miss_all n p [] h = refl
  miss_all n p (e ∷ gs) h = ap (λ o. cond (is_eq o) e.1 (standing_in gs (n ∷ p))) (less_first n p e.0 h.0) ∙ miss_all n p gs h.1

  in_under : (n : Name) (p : List Name) (fs gs : List (List Name × Standing L)) → standing_in gs (n ∷ p) ≡ nothing → standing_in (under n fs ++ gs) (n ∷ p) ≡ standing_in fs p
  in_under n p [] gs h = h
  in_under n p (e ∷ fs) gs h =
      ap (λ o. cond (is_eq o) e.1 (standing_in (under n fs ++ gs) (n ∷ p))) (same_first n p e.0) ∙ ap (cond (is_eq (path_cmp p e.0)) e.1) (in_under n p fs gs h)

  -- the list has at each path what the tree has there
  pub same_map : (t : Tree L) → IsOrdered t → (n : Name) (p : List Name) → standing_in (listed t) (n ∷ p) ≡ stands_at t (n ∷ p)
  same_map empty h n [] = refl
  same_map empty h n (k ∷ p) = refl
  same_map (leaf m x rest) h n p = by p (name_cmp n m) refl (same_map rest h.1 n p)
    where
      by : (p : List Name) (o : Ordering) → name_cmp n m ≡ o → standing_in (listed rest) (n ∷ p) ≡ stands_at rest (n ∷ p)
          → cond (is_eq (ordering_then o (path_cmp p []))) (a_leaf x) (standing_in (listed rest) (n ∷ p)) ≡ standing (below_entry p (cond (is_eq o) (Some (single x)) (entry_of n rest)))
      by p Less e ih = ih
      by p Greater e ih = ih
      by [] Equal e ih = refl
      by (k ∷ p) Equal e ih = miss_all n (k ∷ p) (listed rest) (first_listed n rest (subst (λ j. IsBelowAll j rest) (sym (name_same n m e)) h.0))
  same_map (folder m below rest) h n p = by p (name_cmp n m) refl (λ k q. same_map below h.1 k q) (same_map rest h.2 n p)
    where
      by : (p : List Name) (o : Ordering) → name_cmp n m ≡ o → ((k : Name) (q : List Name) → standing_in (listed below) (k ∷ q) ≡ stands_at below (k ∷ q)) → standing_in (listed rest) (n ∷ p) ≡ stands_at rest (n ∷ p)
          → cond (is_eq (ordering_then o (path_cmp p []))) a_directory (standing_in (under m (listed below) ++ listed rest) (n ∷ p)) ≡ standing (below_entry p (cond (is_eq o) (Some (whole below)) (entry_of n rest)))
      by p Less e inside ih = miss_less n p (under m (listed below)) (listed rest) (all_under Less n m (listed below) e) ∙ ih
      by p Greater e inside ih = miss_greater n p (under m (listed below)) (listed rest) (all_under Greater n m (listed below) e) ∙ ih
      by [] Equal e inside ih = refl
      by (k ∷ p) Equal e inside ih =
          let same = name_same n m e in
          let none : standing_in (listed rest) (n ∷ k ∷ p) ≡ nothing = miss_all n (k ∷ p) (listed rest) (first_listed n rest (subst (λ j. IsBelowAll j rest) (sym same) h.0)) in
          ap (λ j. standing_in (under j (listed below) ++ listed rest) (n ∷ k ∷ p)) (sym same) ∙ in_under n (k ∷ p) (listed below) (listed rest) none ∙ inside k p

  -- ---- one entry more

  insert_past : (n : Name) (p : List Name) (s : Standing L) (fs gs : List (List Name × Standing L)) → AllFirst Greater n fs → insert_entry path_cmp (fs ++ gs) (n ∷ p) s ≡ fs ++ insert_entry path_cmp gs (n ∷ p) s
  insert_past n p s [] gs h = refl
  insert_past n p s (e ∷ fs) gs h =
      ap (λ o. match_ordering o ((n ∷ p, s) ∷ e ∷ (fs ++ gs)) ((e.0, s) ∷ (fs ++ gs)) (e ∷ insert_entry path_cmp (fs ++ gs) (n ∷ p) s)) (greater_first n p e.0 h.0) ∙ ap (λ r. e ∷ r) (insert_past n p s fs gs h.1)

  insert_before : (n : Name) (p : List Name) (s : Standing L) (gs : List (List Name × Standing L)) → AllFirst Less n gs → insert_entry path_cmp gs (n ∷ p) s ≡ (n ∷ p, s) ∷ gs
  insert_before n p s [] h = refl
  insert_before n p s (e ∷ gs) h = ap (λ o. match_ordering o ((n ∷ p, s) ∷ e ∷ gs) ((e.0, s) ∷ gs) (e ∷ insert_entry path_cmp gs (n ∷ p) s)) (less_first n p e.0 h.0)

  insert_under : (n : Name) (p : List Name) (s : Standing L) (fs gs : List (List Name × Standing L)) → AllFirst Less n gs → insert_entry path_cmp (under n fs ++ gs) (n ∷ p) s ≡ under n (insert_entry path_cmp fs p s) ++ gs
  insert_under n p s [] gs h = insert_before n p s gs h
  insert_under n p s (e ∷ fs) gs h =
      ap (λ o. match_ordering o ((n ∷ p, s) ∷ (n ∷ e.0, e.1) ∷ (under n fs ++ gs)) ((n ∷ e.0, s) ∷ (under n fs ++ gs)) ((n ∷ e.0, e.1) ∷ insert_entry path_cmp (under n fs ++ gs) (n ∷ p) s)) (same_first n p e.0)
      ∙ by (path_cmp p e.0) (insert_under n p s fs gs h)
    where
      by : (o : Ordering) → insert_entry path_cmp (under n fs ++ gs) (n ∷ p) s ≡ under n (insert_entry path_cmp fs p s) ++ gs
          → match_ordering o ((n ∷ p, s) ∷ (n ∷ e.0, e.1) ∷ (under n fs ++ gs)) ((n ∷ e.0, s) ∷ (under n fs ++ gs)) ((n ∷ e.0, e.1) ∷ insert_entry path_cmp (under n fs ++ gs) (n ∷ p) s)
          ≡ under n (match_ordering o ((p, s) ∷ e ∷ fs) ((e.0, s) ∷ fs) (e ∷ insert_entry path_cmp fs p s)) ++ gs
      by Less ih = refl
      by Equal ih = refl
      by Greater ih = ap (λ r. (n ∷ e.0, e.1) ∷ r) ih

  -- ---- the tree with one entry more

  -- an entry in front of the others
  abbrev pub one : Name → Standing L → Tree L → Tree L
  one n nothing rest = rest
  one n (a_leaf x) rest = leaf n x rest
  one n a_directory rest = folder n empty rest

  abbrev pub top : Name → Standing L → Tree L → Tree L
  top n s empty = one n s empty
  top n s (leaf m y rest) = by_order (name_cmp n m) (one n s (leaf m y rest)) (leaf m y rest) (leaf m y (top n s rest))
  top n s (folder m below rest) = by_order (name_cmp n m) (one n s (folder m below rest)) (folder m below rest) (folder m below (top n s rest))

  -- in the directory at a path
  abbrev pub plant : List Name → Name → Standing L → Tree L → Tree L
  plant [] n s t = top n s t
  plant (k ∷ q) n s empty = empty
  plant (k ∷ q) n s (leaf m y rest) = leaf m y (plant (k ∷ q) n s rest)
  plant (k ∷ q) n s (folder m below rest) = by_order (name_cmp k m) (folder m below rest) (folder m (plant q n s below) rest) (folder m below (plant (k ∷ q) n s rest))

  listed_one : (n : Name) (s : Standing L) (rest : Tree L) → s ≢ nothing → listed (one n s rest) ≡ (n ∷ [], s) ∷ listed rest
  listed_one n nothing rest h = absurd (h refl)
  listed_one n (a_leaf x) rest h = refl
  listed_one n a_directory rest h = refl

  listed_top : (n : Name) (s : Standing L) (t : Tree L) → s ≢ nothing → entry_of n t ≡ None → listed (top n s t) ≡ insert_entry path_cmp (listed t) (n ∷ []) s
  listed_top n s empty some h = listed_one n s empty some
  listed_top n s (leaf m y rest) some h = by (name_cmp n m) h (λ g. listed_top n s rest some g)
    where
      by : (o : Ordering) → cond (is_eq o) (Some (single y)) (entry_of n rest) ≡ None → (entry_of n rest ≡ None → listed (top n s rest) ≡ insert_entry path_cmp (listed rest) (n ∷ []) s)
          → listed (by_order o (one n s (leaf m y rest)) (leaf m y rest) (leaf m y (top n s rest)))
          ≡ match_ordering (ordering_then o (path_cmp [] [])) ((n ∷ [], s) ∷ listed (leaf m y rest)) ((m ∷ [], s) ∷ listed rest) ((m ∷ [], a_leaf y) ∷ insert_entry path_cmp (listed rest) (n ∷ []) s)
      by Less h ih = listed_one n s (leaf m y rest) some
      by Equal h ih = cc
      by Greater h ih = ap (λ r. (m ∷ [], a_leaf y) ∷ r) (ih h)
  listed_top n s (folder m below rest) some h = by (name_cmp n m) refl h (λ g. listed_top n s rest some g)
    where
      by : (o : Ordering) → name_cmp n m ≡ o → cond (is_eq o) (Some (whole below)) (entry_of n rest) ≡ None → (entry_of n rest ≡ None → listed (top n s rest) ≡ insert_entry path_cmp (listed rest) (n ∷ []) s)
          → listed (by_order o (one n s (folder m below rest)) (folder m below rest) (folder m below (top n s rest)))
          ≡ match_ordering (ordering_then o (path_cmp [] [])) ((n ∷ [], s) ∷ listed (folder m below rest)) ((m ∷ [], s) ∷ (under m (listed below) ++ listed rest)) ((m ∷ [], a_directory) ∷ insert_entry path_cmp (under m (listed below) ++ listed rest) (n ∷ []) s)
      by Less e h ih = listed_one n s (folder m below rest) some
      by Equal e h ih = cc
      by Greater e h ih =
          ap (λ r. (m ∷ [], a_directory) ∷ r) (ap (λ r. under m (listed below) ++ r) (ih h) ∙ sym (insert_past n [] s (under m (listed below)) (listed rest) (all_under Greater n m (listed below) e)))

  not_whole : {u : Tree L} (q : List Name) (o : Option (Entry L)) → below_entry q o ≡ Some (whole u) → o ≡ None → ⊥
  not_whole {u} [] o h e = let both : None ≡ Some (whole u) = sym e ∙ h in cc
  not_whole {u} (n ∷ q) o h e = let both : None ≡ Some (whole u) = sym (ap (below_entry (n ∷ q)) e) ∙ h in cc

  not_leaf : {u : Tree L} (q : List Name) (y : L) → below_entry q (Some (single y)) ≡ Some (whole u) → ⊥
  not_leaf [] y h = cc
  not_leaf (n ∷ q) y h = cc

  pub listed_plant : (q : List Name) (n : Name) (s : Standing L) (t u : Tree L) → s ≢ nothing → IsOrdered t → tree_at t q ≡ Some (whole u) → entry_of n u ≡ None
      → listed (plant q n s t) ≡ insert_entry path_cmp (listed t) (q ++ n ∷ []) s
  listed_plant [] n s t u some h at none = listed_top n s t some (let same : t ≡ u = cc in ap (entry_of n) same ∙ none)
  listed_plant (k ∷ q) n s empty u some h at none = absurd (not_whole q None at refl)
  listed_plant (k ∷ q) n s (leaf m y rest) u some h at none = by (name_cmp k m) refl at (λ g. listed_plant (k ∷ q) n s rest u some h.1 g none)
    where
      by : (o : Ordering) → name_cmp k m ≡ o → below_entry q (cond (is_eq o) (Some (single y)) (entry_of k rest)) ≡ Some (whole u) → (tree_at rest (k ∷ q) ≡ Some (whole u) → listed (plant (k ∷ q) n s rest) ≡ insert_entry path_cmp (listed rest) (k ∷ (q ++ n ∷ [])) s)
          → (m ∷ [], a_leaf y) ∷ listed (plant (k ∷ q) n s rest)
          ≡ match_ordering (ordering_then o (path_cmp (q ++ n ∷ []) [])) ((k ∷ (q ++ n ∷ []), s) ∷ listed (leaf m y rest)) ((m ∷ [], s) ∷ listed rest) ((m ∷ [], a_leaf y) ∷ insert_entry path_cmp (listed rest) (k ∷ (q ++ n ∷ [])) s)
      by Less e at ih = absurd (not_whole q (entry_of k rest) at (none-below k rest (below_trans k m rest e h.0)))
      by Equal e at ih = absurd (not_leaf q y at)
      by Greater e at ih = ap (λ r. (m ∷ [], a_leaf y) ∷ r) (ih at)
  listed_plant (k ∷ q) n s (folder m below rest) u some h at none = by (name_cmp k m) refl at (λ g. listed_plant q n s below u some h.1 g none) (λ g. listed_plant (k ∷ q) n s rest u some h.2 g none)
    where
      by : (o : Ordering) → name_cmp k m ≡ o → below_entry q (cond (is_eq o) (Some (whole below)) (entry_of k rest)) ≡ Some (whole u) → (tree_at below q ≡ Some (whole u) → listed (plant q n s below) ≡ insert_entry path_cmp (listed below) (q ++ n ∷ []) s)
          → (tree_at rest (k ∷ q) ≡ Some (whole u) → listed (plant (k ∷ q) n s rest) ≡ insert_entry path_cmp (listed rest) (k ∷ (q ++ n ∷ [])) s)
          → listed (by_order o (folder m below rest) (folder m (plant q n s below) rest) (folder m below (plant (k ∷ q) n s rest)))
          ≡ match_ordering (ordering_then o (path_cmp (q ++ n ∷ []) [])) ((k ∷ (q ++ n ∷ []), s) ∷ listed (folder m below rest)) ((m ∷ [], s) ∷ (under m (listed below) ++ listed rest)) ((m ∷ [], a_directory) ∷ insert_entry path_cmp (under m (listed below) ++ listed rest) (k ∷ (q ++ n ∷ [])) s)
      by Less e at inside ih = absurd (not_whole q (entry_of k rest) at (none-below k rest (below_trans k m rest e h.0)))
      by Equal e at inside ih =
          let same = name_same k m e in
          let later : AllFirst Less k (listed rest) = first_listed k rest (subst (λ j. IsBelowAll j rest) (sym same) h.0) in
          let put : insert_entry path_cmp (under m (listed below) ++ listed rest) (k ∷ (q ++ n ∷ [])) s ≡ under m (insert_entry path_cmp (listed below) (q ++ n ∷ []) s) ++ listed rest =
          subst (λ j. insert_entry path_cmp (under j (listed below) ++ listed rest) (k ∷ (q ++ n ∷ [])) s ≡ under j (insert_entry path_cmp (listed below) (q ++ n ∷ []) s) ++ listed rest) same (insert_under k (q ++ n ∷ []) s (listed below) (listed rest) later) in
          ap (λ r. (m ∷ [], a_directory) ∷ r) (ap (λ r. under m r ++ listed rest) (inside at) ∙ sym put)
          ∙ sym (ap (λ o. match_ordering o ((k ∷ (q ++ n ∷ []), s) ∷ listed (folder m below rest)) ((m ∷ [], s) ∷ (under m (listed below) ++ listed rest)) ((m ∷ [], a_directory) ∷ insert_entry path_cmp (under m (listed below) ++ listed rest) (k ∷ (q ++ n ∷ [])) s)) (after_none q n))
      by Greater e at inside ih =
          ap (λ r. (m ∷ [], a_directory) ∷ r) (ap (λ r. under m (listed below) ++ r) (ih at) ∙ sym (insert_past k (q ++ n ∷ []) s (under m (listed below)) (listed rest) (all_under Greater k m (listed below) e)))

  -- ---- its names still ascend

  below_one : (k n : Name) (s : Standing L) (rest : Tree L) → name_cmp k n ≡ Less → IsBelowAll k rest → IsBelowAll k (one n s rest)
  below_one k n nothing rest e h = h
  below_one k n (a_leaf x) rest e h = (e, h)
  below_one k n a_directory rest e h = (e, h)

  below_top : (k n : Name) (s : Standing L) (t : Tree L) → name_cmp k n ≡ Less → IsBelowAll k t → IsBelowAll k (top n s t)
  below_top k n s empty e h = below_one k n s empty e tt
  below_top k n s (leaf m y rest) e h = elim (name_cmp n m) as (λ o. IsBelowAll k (by_order o (one n s (leaf m y rest)) (leaf m y rest) (leaf m y (top n s rest)))) [
    | Less ↦ below_one k n s (leaf m y rest) e h
    | Equal ↦ h
    | Greater ↦ (h.0, below_top k n s rest e h.1)
  ]
  below_top k n s (folder m below rest) e h = elim (name_cmp n m) as (λ o. IsBelowAll k (by_order o (one n s (folder m below rest)) (folder m below rest) (folder m below (top n s rest)))) [
    | Less ↦ below_one k n s (folder m below rest) e h
    | Equal ↦ h
    | Greater ↦ (h.0, below_top k n s rest e h.1)
  ]

  ordered_one : (n : Name) (s : Standing L) (rest : Tree L) → IsBelowAll n rest → IsOrdered rest → IsOrdered (one n s rest)
  ordered_one n nothing rest b h = h
  ordered_one n (a_leaf x) rest b h = (b, h)
  ordered_one n a_directory rest b h = (b, tt, h)

  ordered_top : (n : Name) (s : Standing L) (t : Tree L) → IsOrdered t → IsOrdered (top n s t)
  ordered_top n s empty h = ordered_one n s empty tt tt
  ordered_top n s (leaf m y rest) h = (elim (name_cmp n m) as (λ o. name_cmp n m ≡ o → IsOrdered (by_order o (one n s (leaf m y rest)) (leaf m y rest) (leaf m y (top n s rest)))) [
    | Less ↦ λ e. ordered_one n s (leaf m y rest) (e, below_trans n m rest e h.0) h
    | Equal ↦ λ e. h
    | Greater ↦ λ e. (below_top m n s rest (name_greater n m e) h.0, ordered_top n s rest h.1)
  ]) refl
  ordered_top n s (folder m below rest) h = (elim (name_cmp n m) as (λ o. name_cmp n m ≡ o → IsOrdered (by_order o (one n s (folder m below rest)) (folder m below rest) (folder m below (top n s rest)))) [
    | Less ↦ λ e. ordered_one n s (folder m below rest) (e, below_trans n m rest e h.0) h
    | Equal ↦ λ e. h
    | Greater ↦ λ e. (below_top m n s rest (name_greater n m e) h.0, h.1, ordered_top n s rest h.2)
  ]) refl

  below_plant : (j k : Name) (q : List Name) (n : Name) (s : Standing L) (t : Tree L) → IsBelowAll j t → IsBelowAll j (plant (k ∷ q) n s t)
  below_plant j k q n s empty h = tt
  below_plant j k q n s (leaf m y rest) h = (h.0, below_plant j k q n s rest h.1)
  below_plant j k q n s (folder m below rest) h = elim (name_cmp k m) as (λ o. IsBelowAll j (by_order o (folder m below rest) (folder m (plant q n s below) rest) (folder m below (plant (k ∷ q) n s rest)))) [
    | Less ↦ h
    | Equal ↦ h
    | Greater ↦ (h.0, below_plant j k q n s rest h.1)
  ]

  pub ordered_plant : (q : List Name) (n : Name) (s : Standing L) (t : Tree L) → IsOrdered t → IsOrdered (plant q n s t)
  ordered_plant [] n s t h = ordered_top n s t h
  ordered_plant (k ∷ q) n s empty h = tt
  ordered_plant (k ∷ q) n s (leaf m y rest) h = (below_plant m k q n s rest h.0, ordered_plant (k ∷ q) n s rest h.1)
  ordered_plant (k ∷ q) n s (folder m below rest) h = elim (name_cmp k m) as (λ o. IsOrdered (by_order o (folder m below rest) (folder m (plant q n s below) rest) (folder m below (plant (k ∷ q) n s rest)))) [
    | Less ↦ h
    | Equal ↦ (h.0, ordered_plant q n s below h.1, h.2)
    | Greater ↦ (below_plant m k q n s rest h.0, h.1, ordered_plant (k ∷ q) n s rest h.2)
  ]

  -- ---- from what stands at a path to the tree there

  pub directory_at : (t : Tree L) (q : List Name) → stands_at t q ≡ a_directory → (u : Tree L) × (tree_at t q ≡ Some (whole u))
  directory_at t q h = by (tree_at t q) refl h
    where
      by : (o : Option (Entry L)) → tree_at t q ≡ o → standing o ≡ a_directory → (u : Tree L) × (tree_at t q ≡ Some (whole u))
      by None e h = cc
      by (Some (single x)) e h = cc
      by (Some (whole u)) e h = (u, e)

  below_append : (q r : List Name) (o : Option (Entry L)) → below_entry (q ++ r) o ≡ below_entry r (below_entry q o)
  below_append [] r o = refl
  below_append (n ∷ q) [] None = refl
  below_append (n ∷ q) (m ∷ r) None = refl
  below_append (n ∷ q) [] (Some (single x)) = refl
  below_append (n ∷ q) (m ∷ r) (Some (single x)) = refl
  below_append (n ∷ q) r (Some (whole t)) = below_append q r (entry_of n t)

  none_standing : (o : Option (Entry L)) → standing o ≡ nothing → o ≡ None
  none_standing None h = refl
  none_standing (Some (single x)) h = cc
  none_standing (Some (whole u)) h = cc

  pub nothing_at : (t u : Tree L) (q : List Name) (n : Name) → tree_at t q ≡ Some (whole u) → stands_at t (q ++ n ∷ []) ≡ nothing → entry_of n u ≡ None
  nothing_at t u q n at h = none_standing (entry_of n u) (ap standing (sym (below_append q (n ∷ []) (Some (whole t)) ∙ ap (below_entry (n ∷ [])) at)) ∙ h)

  -- below nothing is nothing
  pub nothing_below : (t : Tree L) (q r : List Name) → stands_at t q ≡ nothing → stands_at t (q ++ r) ≡ nothing
  nothing_below t q r h = ap standing (below_append q r (Some (whole t)) ∙ ap (below_entry r) (none_standing (tree_at t q) h)) ∙ by r
    where
      by : (r : List Name) → standing {L = L} (below_entry r None) ≡ nothing
      by [] = refl
      by (n ∷ r) = refl
