-- The list of a tree goes into a map entry by entry, in the order in which it stands.
use Rattle.std.proofs.Common.{◌≡◌, List, [], ◌∷◌, ◌++◌, refl, ap, sym, ◌∙◌, subst, append_assoc}
use Rattle.std.specs.List.{AllByRecursion}
use Rattle.std.specs.Ordering.{ordering_reverse, match_ordering}
use Rattle.std.specs.declared.vec.Vec.{Vec}
use Rattle.std.specs.declared.cmp.Ordering.TheVariants.{Less, Greater}
use Rattle.std.specs.BTreeMap.{insert_entry}
use Rattle.std.specs.Cmp.Lexicographic.{lists_total, nat_list_cmp_total}
use Rattle.tree.specs.declared.flat_tree.FlatEntry.{FlatEntry}
use Rattle.tree.specs.Tree.{Name, path_cmp, Tree, empty, leaf, folder, Standing, IsOrdered}
use Rattle.tree.specs.Form.{NodeValue}
use Rattle.tree.specs.FlatTree.{Ascend, under, listed, FlatValue, IsFlatTree, entry_value, flat_value}
use Rattle.tree.proofs.SortedInsert.{vec_cmp}
use Rattle.tree.proofs.Listings.{AllFirst, less_first, same_first, first_listed, all_join}
use Rattle.tree.proofs.FlatTrees.{flat_inserted}

-- ---- the list of a tree ascends

abbrev HasNames : List Name → Type 0
HasNames [] = ⊥
HasNames (n ∷ p) = Unit {0}

under_named : (n : Name) (es : FlatValue) → AllByRecursion (λ e. HasNames e.0) (under n es)
under_named n [] = tt
under_named n (e ∷ es) = (tt, under_named n es)

listed_named : (t : Tree NodeValue) → AllByRecursion (λ e. HasNames e.0) (listed t)
listed_named empty = tt
listed_named (leaf n x rest) = (tt, listed_named rest)
listed_named (folder n b rest) = (tt, all_join (λ e. HasNames e.0) (under n (listed b)) (listed rest) (under_named n (listed b)) (listed_named rest))

first_below : (n : Name) (es : FlatValue) → AllByRecursion (λ e. HasNames e.0) es → AllByRecursion (λ e. path_cmp (n ∷ []) e.0 ≡ Less) (under n es)
first_below n [] h = tt
first_below n (e ∷ es) h = (same_first n [] e.0 ∙ by e.0 h.0, first_below n es h.1)
  where
    by : (p : List Name) → HasNames p → path_cmp [] p ≡ Less
    by [] h = elim h [ ]
    by (m ∷ p) h = refl

all_less : (n : Name) (p : List Name) (es : FlatValue) → AllFirst Less n es → AllByRecursion (λ e. path_cmp (n ∷ p) e.0 ≡ Less) es
all_less n p [] h = tt
all_less n p (e ∷ es) h = (less_first n p e.0 h.0, all_less n p es h.1)

under_less : (n : Name) (p : List Name) (es : FlatValue) → AllByRecursion (λ e. path_cmp p e.0 ≡ Less) es → AllByRecursion (λ e. path_cmp (n ∷ p) e.0 ≡ Less) (under n es)
under_less n p [] h = tt
under_less n p (e ∷ es) h = (same_first n p e.0 ∙ h.0, under_less n p es h.1)

-- the entries below a directory, and then later ones
pub ascend_under : (n : Name) (es fs : FlatValue) → Ascend es → AllFirst Less n fs → Ascend fs → Ascend (under n es ++ fs)
ascend_under n [] fs h k g = g
ascend_under n (e ∷ es) fs h k g = (all_join (λ f. path_cmp (n ∷ e.0) f.0 ≡ Less) (under n es) fs (under_less n e.0 es h.0) (all_less n e.0 fs k), ascend_under n es fs h.1 k g)

pub ascend_listed : (t : Tree NodeValue) → IsOrdered t → Ascend (listed t)
ascend_listed empty h = tt
ascend_listed (leaf n x rest) h = (all_less n [] (listed rest) (first_listed n rest h.0), ascend_listed rest h.1)
ascend_listed (folder n b rest) h = (
  all_join (λ e. path_cmp (n ∷ []) e.0 ≡ Less) (under n (listed b)) (listed rest) (first_below n (listed b) (listed_named b)) (all_less n [] (listed rest) (first_listed n rest h.0)),
  ascend_under n (listed b) (listed rest) (ascend_listed b h.1) (first_listed n rest h.0) (ascend_listed rest h.2),
)

pub flat_ascends : (es : FlatValue) → IsFlatTree es → Ascend es
flat_ascends es h = subst Ascend (sym h.list.listing) (ascend_listed h.tree h.list.ordered)

-- ---- the next entry goes to the end

before : (es fs : FlatValue) (p : List Name) (s : Standing NodeValue) → Ascend (es ++ (p, s) ∷ fs) → AllByRecursion (λ e. path_cmp e.0 p ≡ Less) es
before [] fs p s h = tt
before (e ∷ es) fs p s h = (at es h.0, before es fs p s h.1)
  where
    at : (es : FlatValue) → AllByRecursion (λ k. path_cmp e.0 k.0 ≡ Less) (es ++ (p, s) ∷ fs) → path_cmp e.0 p ≡ Less
    at [] h = h.0
    at (f ∷ es) h = at es h.1

inserted_last : (es : FlatValue) (p : List Name) (s : Standing NodeValue) → AllByRecursion (λ e. path_cmp e.0 p ≡ Less) es → insert_entry path_cmp es p s ≡ es ++ (p, s) ∷ []
inserted_last [] p s h = refl
inserted_last (e ∷ es) p s h =
    let after : path_cmp p e.0 ≡ Greater = (lists_total nat_list_cmp_total).antisymm p e.0 ∙ ap ordering_reverse h.0 in
    ap (λ o. match_ordering o ((p, s) ∷ e ∷ es) ((e.0, s) ∷ es) (e ∷ insert_entry path_cmp es p s)) after ∙ ap (λ r. e ∷ r) (inserted_last es p s h.1)

-- what is in the map, and what is left
pub next_by_path : {A : Type 0} (es fs : List (Vec Name A × FlatEntry A)) (k : Vec Name A) (v : FlatEntry A) (rest left all : List (Vec Name A × FlatEntry A)) → Ascend (flat_value all)
    → flat_value es ++ flat_value rest ≡ flat_value all → rest ≡ (k, v) ∷ left → fs ≡ insert_entry vec_cmp es k v → flat_value fs ++ flat_value left ≡ flat_value all
next_by_path es fs k v rest left all up h is at =
    let here : flat_value es ++ (k.items, entry_value v) ∷ flat_value left ≡ flat_value all = ap (λ r. flat_value es ++ flat_value r) (sym is) ∙ h in
    ap (λ l. flat_value l ++ flat_value left) at ∙ ap (λ l. l ++ flat_value left) (flat_inserted es k v ∙ inserted_last (flat_value es) k.items (entry_value v) (before (flat_value es) (flat_value left) k.items (entry_value v) (subst Ascend (sym here) up)))
    ∙ append_assoc (flat_value es) ((k.items, entry_value v) ∷ []) (flat_value left) ∙ here
