-- Lines that are put to those of their first names one after another.
use Rattle.std.proofs.Common.{◌≡◌, ◌≢◌, ℕ, List, [], ◌∷◌, ◌++◌, map, refl, ap, sym, ◌∙◌, subst, append_assoc, inl, inr, true, false, cond}
use Rattle.std.specs.Prelude.{◌⊎◌, Some, None}
use Rattle.std.specs.List.{AllByRecursion}
use Rattle.std.specs.FinMap.Entries.{by_order}
use Rattle.std.specs.Ordering.{eq_by_cmp, is_eq, match_ordering}
use Rattle.std.specs.BTreeMap.{insert_entry, is_at}
use Rattle.std.specs.Map.{keys_of, lookup, set_value}
use Rattle.std.specs.List.Sorted.{IsStrictlySortedBy}
use Rattle.std.proofs.lemmas.Map.Keys.{sorted_head, sorted_tail}
use Rattle.std.specs.declared.vec.Vec.{Vec}
use Rattle.tree.specs.declared.merging.Part.{Part}
use Rattle.std.specs.declared.cmp.Ordering.{Ordering}
use Rattle.std.specs.declared.cmp.Ordering.TheVariants.{Less, Equal, Greater}
use Rattle.tree.specs.Tree.{Name, name_cmp}
use Rattle.tree.specs.MergeParts.{adds, part_values, group_values}
use Rattle.tree.specs.Merging.{WithinValue, NodeWithin, add_name, add_first, names_with, first_names, under_name, lines_at, grouped}
use Rattle.tree.proofs.TreeLemmas.{name_itself, name_same, name_greater, name_trans, apart_cmp, one_or_two}
use Rattle.tree.proofs.VisitSteps.{none_after}

pub less_other : (n m : Name) → name_cmp n m ≡ Less → n ≢ m
less_other n m less = λ same. let own = name_itself n in let it : name_cmp n n ≡ Less = ap (name_cmp n) same ∙ less in cc

-- names that ascend
abbrev pub Ascends : List Name → Type 0
Ascends [] = Unit {0}
Ascends (n ∷ ns) = AllByRecursion (λ m. name_cmp n m ≡ Less) ns × Ascends ns

all_less : (n m : Name) (ns : List Name) → name_cmp n m ≡ Less → AllByRecursion (λ k. name_cmp m k ≡ Less) ns → AllByRecursion (λ k. name_cmp n k ≡ Less) ns
all_less n m [] less h = tt
all_less n m (k ∷ ns) less h = (name_trans n m k less h.0, all_less n m ns less h.1)

added_after : (k n : Name) (ns : List Name) → name_cmp k n ≡ Less → AllByRecursion (λ m. name_cmp k m ≡ Less) ns → AllByRecursion (λ m. name_cmp k m ≡ Less) (add_name n ns)
added_after k n [] less h = (less, tt)
added_after k n (m ∷ ns) less h = elim (name_cmp n m) as (λ o. AllByRecursion (λ m. name_cmp k m ≡ Less) (by_order o (n ∷ m ∷ ns) (m ∷ ns) (m ∷ add_name n ns))) [
  | Less ↦ (less, h)
  | Equal ↦ h
  | Greater ↦ (h.0, added_after k n ns less h.1)
]

added_ascends : (n : Name) (ns : List Name) → Ascends ns → Ascends (add_name n ns)
added_ascends n [] h = (tt, tt)
added_ascends n (m ∷ ns) h = by (name_cmp n m) refl (added_ascends n ns h.1)
  where
    by : (o : Ordering) → name_cmp n m ≡ o → Ascends (add_name n ns) → Ascends (by_order o (n ∷ m ∷ ns) (m ∷ ns) (m ∷ add_name n ns))
    by Less e rest = ((e, all_less n m ns e h.0), h)
    by Equal e rest = h
    by Greater e rest = (added_after m n ns (name_greater n m e) h.0, rest)

-- a name that isn't there after one is added is another and wasn't there
not_added : (k n : Name) (ns : List Name) → AllByRecursion (λ m. m ≢ k) (add_name n ns) → (n ≢ k) × AllByRecursion (λ m. m ≢ k) ns
not_added k n [] h = (h.0, tt)
not_added k n (m ∷ ns) h = by (name_cmp n m) refl h (not_added k n ns)
  where
    by : (o : Ordering) → name_cmp n m ≡ o → AllByRecursion (λ m. m ≢ k) (by_order o (n ∷ m ∷ ns) (m ∷ ns) (m ∷ add_name n ns))
        → (AllByRecursion (λ m. m ≢ k) (add_name n ns) → (n ≢ k) × AllByRecursion (λ m. m ≢ k) ns) → (n ≢ k) × AllByRecursion (λ m. m ≢ k) (m ∷ ns)
    by Less e h ih = (h.0, h.1)
    by Equal e h ih = ((λ is. h.0 (sym (name_same n m e) ∙ is)), h)
    by Greater e h ih = let rest = ih h.1 in (rest.0, (h.0, rest.1))

some_more : {Y : Type 0} (xs : List Y) (y : Y) → xs ++ y ∷ [] ≢ []
some_more [] y = λ e. cc
some_more (x ∷ xs) y = λ e. cc

module _ {X : Type 0} where
  abbrev pub add_line : List Name → X → List (Name × List (List Name × X)) → List (Name × List (List Name × X))
  add_line [] x gs = gs
  add_line (n ∷ p) x gs = adds n (p, x) gs

  abbrev pub grown : List (Name × List (List Name × X)) → List (List Name × X) → List (Name × List (List Name × X))
  grown gs [] = gs
  grown gs (l ∷ ls) = grown (add_line l.0 l.1 gs) ls

  -- ---- names that ascend

  -- ---- the lines at a name, with one line more

  lines_more : (n : Name) (ls : List (List Name × X)) (p : List Name) (x : X) → lines_at n (ls ++ (p, x) ∷ []) ≡ lines_at n ls ++ under_name n p x []
  lines_more n [] p x = refl
  lines_more n (l ∷ ls) p x = by l.0 (lines_more n ls p x)
    where
      by : (q : List Name) → lines_at n (ls ++ (p, x) ∷ []) ≡ lines_at n ls ++ under_name n p x [] → under_name n q l.1 (lines_at n (ls ++ (p, x) ∷ [])) ≡ under_name n q l.1 (lines_at n ls) ++ under_name n p x []
      by [] ih = ih
      by (m ∷ q) ih = elim (eq_by_cmp name_cmp n m) as (λ b. cond b ((q, l.1) ∷ lines_at n (ls ++ (p, x) ∷ [])) (lines_at n (ls ++ (p, x) ∷ [])) ≡ cond b ((q, l.1) ∷ lines_at n ls) (lines_at n ls) ++ under_name n p x []) [
        | true ↦ ap (λ r. (q, l.1) ∷ r) ih
        | false ↦ ih
      ]

  at_own : (n : Name) (ls : List (List Name × X)) (p : List Name) (x : X) → lines_at n (ls ++ (n ∷ p, x) ∷ []) ≡ lines_at n ls ++ (p, x) ∷ []
  at_own n ls p x = lines_more n ls (n ∷ p) x ∙ ap (λ o. lines_at n ls ++ cond (is_eq o) ((p, x) ∷ []) []) (name_itself n)

  at_other : (k n : Name) (ls : List (List Name × X)) (p : List Name) (x : X) → (k ≡ n → ⊥) → lines_at k (ls ++ (n ∷ p, x) ∷ []) ≡ lines_at k ls
  at_other k n ls p x other = lines_more k ls (n ∷ p) x ∙ ap (λ b. lines_at k ls ++ cond b ((p, x) ∷ []) []) (apart_cmp k n other) ∙ none_after (lines_at k ls)

  names_more : (ns : List Name) (ls : List (List Name × X)) (l : List Name × X) → names_with ns (ls ++ l ∷ []) ≡ add_first l.0 (names_with ns ls)
  names_more ns [] l = refl
  names_more ns (k ∷ ls) l = names_more (add_first k.0 ns) ls l

  -- ---- groups

  abbrev groups_of : List (List Name × X) → List Name → List (Name × List (List Name × X))
  groups_of ls ns = map (λ n. (n, lines_at n ls)) ns

  same_groups : (n : Name) (ls : List (List Name × X)) (p : List Name) (x : X) (ns : List Name) → AllByRecursion (λ m. name_cmp n m ≡ Less) ns → groups_of ls ns ≡ groups_of (ls ++ (n ∷ p, x) ∷ []) ns
  same_groups n ls p x [] h = refl
  same_groups n ls p x (m ∷ ns) h =
      let here = at_other m n ls p x (λ same. less_other n m h.0 (sym same)) in
      let rest = same_groups n ls p x ns h.1 in
      λ i. (m, sym here i) ∷ rest i

  adds_groups : (n : Name) (ls : List (List Name × X)) (p : List Name) (x : X) (ns : List Name) → Ascends ns → (AllByRecursion (λ m. m ≢ n) ns → lines_at n ls ≡ [])
      → adds n (p, x) (groups_of ls ns) ≡ groups_of (ls ++ (n ∷ p, x) ∷ []) (add_name n ns)
  adds_groups n ls p x [] h absent =
      let own : (p, x) ∷ [] ≡ lines_at n (ls ++ (n ∷ p, x) ∷ []) = sym (at_own n ls p x ∙ ap (λ r. r ++ (p, x) ∷ []) (absent tt)) in
      λ i. (n, own i) ∷ []
  adds_groups n ls p x (m ∷ ns) h absent = by (name_cmp n m) refl (adds_groups n ls p x ns h.1)
    where
      others : (ks : List Name) → AllByRecursion (λ k. name_cmp n k ≡ Less) ks → AllByRecursion (λ k. k ≢ n) ks
      others [] h = tt
      others (k ∷ ks) h = ((λ same. less_other n k h.0 (sym same)), others ks h.1)

      by : (o : Ordering) → name_cmp n m ≡ o
          → ((AllByRecursion (λ m. m ≢ n) ns → lines_at n ls ≡ []) → adds n (p, x) (groups_of ls ns) ≡ groups_of (ls ++ (n ∷ p, x) ∷ []) (add_name n ns))
          → by_order o ((n, (p, x) ∷ []) ∷ (m, lines_at m ls) ∷ groups_of ls ns) ((m, lines_at m ls ++ (p, x) ∷ []) ∷ groups_of ls ns) ((m, lines_at m ls) ∷ adds n (p, x) (groups_of ls ns))
          ≡ groups_of (ls ++ (n ∷ p, x) ∷ []) (by_order o (n ∷ m ∷ ns) (m ∷ ns) (m ∷ add_name n ns))
      by Less e ih =
          let all : AllByRecursion (λ k. name_cmp n k ≡ Less) (m ∷ ns) = (e, all_less n m ns e h.0) in
          let own : (p, x) ∷ [] ≡ lines_at n (ls ++ (n ∷ p, x) ∷ []) = sym (at_own n ls p x ∙ ap (λ r. r ++ (p, x) ∷ []) (absent (others (m ∷ ns) all))) in
          let rest = same_groups n ls p x (m ∷ ns) all in
          λ i. (n, own i) ∷ rest i
      by Equal e ih =
          let same = name_same n m e in
          let own : lines_at m ls ++ (p, x) ∷ [] ≡ lines_at m (ls ++ (n ∷ p, x) ∷ []) = subst (λ k. lines_at k ls ++ (p, x) ∷ [] ≡ lines_at k (ls ++ (n ∷ p, x) ∷ [])) same (sym (at_own n ls p x)) in
          let rest = same_groups n ls p x ns (subst (λ k. AllByRecursion (λ j. name_cmp k j ≡ Less) ns) (sym same) h.0) in
          λ i. (m, own i) ∷ rest i
      by Greater e ih =
          let other : m ≢ n = less_other m n (name_greater n m e) in
          let here = at_other m n ls p x other in
          let rest = ih (λ apart. absent (other, apart)) in
          λ i. (m, sym here i) ∷ rest i

  -- the first names ascend, there are lines at each, and at no other
  pub record AreNamesOf (done : List (List Name × X)) : Type 0 where
    pub ascends : Ascends (first_names done)
    pub complete : (k : Name) → AllByRecursion (λ m. m ≢ k) (first_names done) → lines_at k done ≡ []
    pub present : AllByRecursion (λ k. lines_at k done ≢ []) (first_names done)

  still_present : (n : Name) (ls : List (List Name × X)) (p : List Name) (x : X) (ks : List Name) → AllByRecursion (λ k. lines_at k ls ≢ []) ks → AllByRecursion (λ k. lines_at k (ls ++ (n ∷ p, x) ∷ []) ≢ []) ks
  still_present n ls p x [] h = tt
  still_present n ls p x (k ∷ ks) h = (by (one_or_two k n), still_present n ls p x ks h.1)
    where
      by : (k ≡ n) ⊎ (k ≡ n → ⊥) → lines_at k (ls ++ (n ∷ p, x) ∷ []) ≢ []
      by (inl same) = λ e. some_more (lines_at n ls) (p, x) (sym (at_own n ls p x) ∙ ap (λ j. lines_at j (ls ++ (n ∷ p, x) ∷ [])) (sym same) ∙ e)
      by (inr other) = λ e. h.0 (sym (at_other k n ls p x other) ∙ e)

  present_added : (n : Name) (ls : List (List Name × X)) (p : List Name) (x : X) (ks : List Name) → AllByRecursion (λ k. lines_at k ls ≢ []) ks → AllByRecursion (λ k. lines_at k (ls ++ (n ∷ p, x) ∷ []) ≢ []) (add_name n ks)
  present_added n ls p x [] h = ((λ e. some_more (lines_at n ls) (p, x) (sym (at_own n ls p x) ∙ e)), tt)
  present_added n ls p x (k ∷ ks) h =
      let kept = still_present n ls p x (k ∷ ks) h in
      let rest = present_added n ls p x ks h.1 in
      elim (name_cmp n k) as (λ o. AllByRecursion (λ j. lines_at j (ls ++ (n ∷ p, x) ∷ []) ≢ []) (by_order o (n ∷ k ∷ ks) (k ∷ ks) (k ∷ add_name n ks))) [
        | Less ↦ ((λ e. some_more (lines_at n ls) (p, x) (sym (at_own n ls p x) ∙ e)), kept)
        | Equal ↦ kept
        | Greater ↦ (kept.0, rest)
      ]

  -- the groups so far are those of the lines so far
  record IsGroupedFrom (done : List (List Name × X)) (gs : List (Name × List (List Name × X))) : Type 0 where
    groups : gs ≡ grouped done
    names : AreNamesOf done

  grouped_more : (done : List (List Name × X)) (gs : List (Name × List (List Name × X))) (p : List Name) (x : X) → IsGroupedFrom done gs → IsGroupedFrom (done ++ (p, x) ∷ []) (add_line p x gs)
  grouped_more done gs [] x h =
      let names = names_more [] done ([], x) in
      let same : (n : Name) → lines_at n done ≡ lines_at n (done ++ ([], x) ∷ []) = λ n. sym (lines_more n done [] x ∙ none_after (lines_at n done)) in
      record {
        groups = h.groups ∙ all_same (first_names done) same ∙ ap (λ ns. groups_of (done ++ ([], x) ∷ []) ns) (sym names);
        names = record {
          ascends = subst Ascends (sym names) h.names.ascends;
          complete = λ k apart. sym (same k) ∙ h.names.complete k (subst (AllByRecursion (λ m. m ≢ k)) names apart);
          present = subst (AllByRecursion (λ k. lines_at k (done ++ ([], x) ∷ []) ≢ [])) (sym names) (all_present (first_names done) same h.names.present);
        };
      }
    where
      all_same : (ns : List Name) → ((n : Name) → lines_at n done ≡ lines_at n (done ++ ([], x) ∷ [])) → groups_of done ns ≡ groups_of (done ++ ([], x) ∷ []) ns
      all_same [] same = refl
      all_same (n ∷ ns) same = let here = same n in let rest = all_same ns same in λ i. (n, here i) ∷ rest i

      all_present : (ns : List Name) → ((n : Name) → lines_at n done ≡ lines_at n (done ++ ([], x) ∷ [])) → AllByRecursion (λ k. lines_at k done ≢ []) ns → AllByRecursion (λ k. lines_at k (done ++ ([], x) ∷ []) ≢ []) ns
      all_present [] same h = tt
      all_present (n ∷ ns) same h = ((λ e. h.0 (same n ∙ e)), all_present ns same h.1)
  grouped_more done gs (n ∷ p) x h =
      let names = names_more [] done (n ∷ p, x) in
      record {
        groups = ap (adds n (p, x)) h.groups ∙ adds_groups n done p x (first_names done) h.names.ascends (h.names.complete n) ∙ ap (λ ns. groups_of (done ++ (n ∷ p, x) ∷ []) ns) (sym names);
        names = record {
          ascends = subst Ascends (sym names) (added_ascends n (first_names done) h.names.ascends);
          complete = λ k apart.
              let parts = not_added k n (first_names done) (subst (AllByRecursion (λ m. m ≢ k)) names apart) in
              at_other k n done p x (λ same. parts.0 (sym same)) ∙ h.names.complete k parts.1;
          present = subst (AllByRecursion (λ k. lines_at k (done ++ (n ∷ p, x) ∷ []) ≢ [])) (sym names) (present_added n done p x (first_names done) h.names.present);
        };
      }

  names_from : (done ls : List (List Name × X)) (gs : List (Name × List (List Name × X))) → IsGroupedFrom done gs → AreNamesOf (done ++ ls)
  names_from done [] gs h = subst AreNamesOf (sym (none_after done)) h.names
  names_from done (l ∷ ls) gs h = subst AreNamesOf (append_assoc done (l ∷ []) ls) (names_from (done ++ l ∷ []) ls (add_line l.0 l.1 gs) (grouped_more done gs l.0 l.1 h))

  none_yet : IsGroupedFrom [] []
  none_yet = record { groups = refl; names = record { ascends = tt; complete = λ k apart. refl; present = tt } }

  pub are_names : (ls : List (List Name × X)) → AreNamesOf ls
  are_names ls = names_from [] ls [] none_yet

  grown_from : (done ls : List (List Name × X)) (gs : List (Name × List (List Name × X))) → IsGroupedFrom done gs → grown gs ls ≡ grouped (done ++ ls)
  grown_from done [] gs h = h.groups ∙ ap grouped (sym (none_after done))
  grown_from done (l ∷ ls) gs h = grown_from (done ++ l ∷ []) ls (add_line l.0 l.1 gs) (grouped_more done gs l.0 l.1 h) ∙ ap grouped (append_assoc done (l ∷ []) ls)

  pub grown-grouped : (ls : List (List Name × X)) → grown [] ls ≡ grouped ls
  grown-grouped ls = grown_from [] ls [] none_yet

-- ---- the same in a table

abbrev pub Entries : Type 0 → Type 0
Entries A = List (Name × Vec (Part A) A)

module _ {A : Type 0} (W : ℕ → WithinValue) where
  lookup_none : (n : Name) (es : Entries A) → AllByRecursion (λ k. name_cmp n k ≡ Less) (keys_of es) → lookup (is_at (name_cmp n)) es ≡ None
  lookup_none n [] h = refl
  lookup_none n (e ∷ es) h = ap (λ o. cond (is_eq o) (Some e.1) (lookup (is_at (name_cmp n)) es)) h.0 ∙ lookup_none n es h.1

  -- a line more of a name that is there
  pub table_sets : (es : Entries A) (n : Name) (u v : Vec (Part A) A) (y : List Name × NodeWithin) → IsStrictlySortedBy name_cmp (keys_of es)
      → lookup (is_at (name_cmp n)) es ≡ Some u → part_values W v.items ≡ part_values W u.items ++ y ∷ []
      → group_values W (set_value (is_at (name_cmp n)) es v) ≡ adds n y (group_values W es)
  table_sets [] n u v y sorted there is = absurd (let both : None ≡ Some u = there in cc)
  table_sets (e ∷ es) n u v y sorted there is = by (name_cmp n e.0) refl (table_sets es n u v y (sorted_tail name_cmp e.0 (keys_of es) sorted))
    where
      by : (o : Ordering) → name_cmp n e.0 ≡ o
          → (lookup (is_at (name_cmp n)) es ≡ Some u → part_values W v.items ≡ part_values W u.items ++ y ∷ [] → group_values W (set_value (is_at (name_cmp n)) es v) ≡ adds n y (group_values W es))
          → group_values W (set_value (is_at (name_cmp n)) (e ∷ es) v)
          ≡ by_order o ((n, y ∷ []) ∷ (e.0, part_values W e.1.items) ∷ group_values W es) ((e.0, part_values W e.1.items ++ y ∷ []) ∷ group_values W es) ((e.0, part_values W e.1.items) ∷ adds n y (group_values W es))
      by Less c ih = absurd (let never : None ≡ Some u = sym (lookup_none n (e ∷ es) (c, all_less n e.0 (keys_of es) c (sorted_head name_cmp e.0 (keys_of es) sorted))) ∙ there in cc)
      by Equal c ih =
          let found : Some e.1 ≡ Some u = sym (ap (λ o. cond (is_eq o) (Some e.1) (lookup (is_at (name_cmp n)) es)) c) ∙ there in
          let own : e.1 ≡ u = cc in
          ap (λ o. group_values W (cond (is_eq o) ((e.0, v) ∷ es) (e ∷ set_value (is_at (name_cmp n)) es v))) c
          ∙ ap (λ ps. (e.0, ps) ∷ group_values W es) (is ∙ ap (λ (w : Vec (Part A) A). part_values W w.items ++ y ∷ []) (sym own))
      by Greater c ih =
          let later : lookup (is_at (name_cmp n)) es ≡ Some u = sym (ap (λ o. cond (is_eq o) (Some e.1) (lookup (is_at (name_cmp n)) es)) c) ∙ there in
          ap (λ o. group_values W (cond (is_eq o) ((e.0, v) ∷ es) (e ∷ set_value (is_at (name_cmp n)) es v))) c
          ∙ ap (λ r. (e.0, part_values W e.1.items) ∷ r) (ih later is)

  -- the first line of a name
  pub table_inserts : (es : Entries A) (n : Name) (v : Vec (Part A) A) (y : List Name × NodeWithin) → lookup (is_at (name_cmp n)) es ≡ None → part_values W v.items ≡ y ∷ []
      → group_values W (insert_entry name_cmp es n v) ≡ adds n y (group_values W es)
  table_inserts [] n v y none is = λ i. (n, is i) ∷ []
  table_inserts (e ∷ es) n v y none is = by (name_cmp n e.0) refl (table_inserts es n v y)
    where
      by : (o : Ordering) → name_cmp n e.0 ≡ o
          → (lookup (is_at (name_cmp n)) es ≡ None → part_values W v.items ≡ y ∷ [] → group_values W (insert_entry name_cmp es n v) ≡ adds n y (group_values W es))
          → group_values W (insert_entry name_cmp (e ∷ es) n v)
          ≡ by_order o ((n, y ∷ []) ∷ (e.0, part_values W e.1.items) ∷ group_values W es) ((e.0, part_values W e.1.items ++ y ∷ []) ∷ group_values W es) ((e.0, part_values W e.1.items) ∷ adds n y (group_values W es))
      by Less c ih =
          ap (λ o. group_values W (match_ordering o ((n, v) ∷ e ∷ es) ((e.0, v) ∷ es) (e ∷ insert_entry name_cmp es n v))) c
          ∙ ap (λ ps. (n, ps) ∷ group_values W (e ∷ es)) is
      by Equal c ih = absurd (let never : Some e.1 ≡ None = sym (ap (λ o. cond (is_eq o) (Some e.1) (lookup (is_at (name_cmp n)) es)) c) ∙ none in cc)
      by Greater c ih =
          let later : lookup (is_at (name_cmp n)) es ≡ None = sym (ap (λ o. cond (is_eq o) (Some e.1) (lookup (is_at (name_cmp n)) es)) c) ∙ none in
          ap (λ o. group_values W (match_ordering o ((n, v) ∷ e ∷ es) ((e.0, v) ∷ es) (e ∷ insert_entry name_cmp es n v))) c
          ∙ ap (λ r. (e.0, part_values W e.1.items) ∷ r) (ih later is)
