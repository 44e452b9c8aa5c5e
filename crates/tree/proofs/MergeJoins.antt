-- An entry is joined to a directory, and all entries of a directory to another, name by name.
use Rattle.std.proofs.Common.{◌≡◌, refl, ap, sym, ◌∙◌, subst, inl, inr, cond}
use Rattle.std.specs.Prelude.{Option, Some, None, option_map, option_and_then}
use Rattle.std.specs.declared.cmp.Ordering.{Ordering}
use Rattle.std.specs.declared.cmp.Ordering.TheVariants.{Less, Equal, Greater}
use Rattle.std.specs.Ordering.{eq_by_cmp, is_eq}
use Rattle.std.specs.FinMap.Entries.{by_order}
use Rattle.tree.specs.Tree.{Name, name_cmp, Tree, empty, leaf, folder, Entry, single, whole, entry_of, Leaf, IsBelowAll, IsOrdered, IsOrderedEntry}
use Rattle.tree.specs.Graft.{with_entry}
use Rattle.tree.specs.Merge.{beside, joined, joined_with}
use Rattle.tree.proofs.TreeLemmas.{name_itself, name_same, name_greater, none-below, below_trans, apart_cmp, one_or_two}

-- ---- options

pub mapped_some : {X Y : Type 0} (g : X → Y) (o : Option X) (y : Y) → option_map g o ≡ Some y → (x : X) × (o ≡ Some x) × (g x ≡ y)
mapped_some g None y is = absurd (let both : ◌≡◌ {A = Option _} None (Some y) = is in cc)
mapped_some g (Some x) y is = (x, refl, (let same : ◌≡◌ {A = Option _} (Some (g x)) (Some y) = is in cc))

pub bound_some : {X Y : Type 0} (g : X → Option Y) (o : Option X) (y : Y) → option_and_then g o ≡ Some y → (x : X) × (o ≡ Some x) × (g x ≡ Some y)
bound_some g None y is = absurd (let both : ◌≡◌ {A = Option _} None (Some y) = is in cc)
bound_some g (Some x) y is = (x, refl, is)

pub some_one : {X : Type 0} (x y : X) → ◌≡◌ {A = Option X} (Some x) (Some y) → x ≡ y
some_one x y is = cc

-- ---- one more entry

pub entry_with : (k n : Name) (e : Entry Leaf) (rest : Tree Leaf) → entry_of k (with_entry n e rest) ≡ cond (eq_by_cmp name_cmp k n) (Some e) (entry_of k rest)
entry_with k n (single x) rest = refl
entry_with k n (whole t) rest = refl

pub own_with : (n : Name) (e : Entry Leaf) (rest : Tree Leaf) → entry_of n (with_entry n e rest) ≡ Some e
own_with n e rest = entry_with n n e rest ∙ ap (λ o. cond (is_eq o) (Some e) (entry_of n rest)) (name_itself n)

pub other_with : (k n : Name) (e : Entry Leaf) (rest : Tree Leaf) → (k ≡ n → ⊥) → entry_of k (with_entry n e rest) ≡ entry_of k rest
other_with k n e rest other = entry_with k n e rest ∙ ap (λ b. cond b (Some e) (entry_of k rest)) (apart_cmp k n other)

pub ordered_with : (n : Name) (e : Entry Leaf) (rest : Tree Leaf) → IsOrderedEntry e → IsBelowAll n rest → IsOrdered rest → IsOrdered (with_entry n e rest)
ordered_with n (single x) rest own below h = (below, h)
ordered_with n (whole t) rest own below h = (below, own, h)

below_with : (m n : Name) (e : Entry Leaf) (rest : Tree Leaf) → name_cmp m n ≡ Less → IsBelowAll m rest → IsBelowAll m (with_entry n e rest)
below_with m n (single x) rest less h = (less, h)
below_with m n (whole t) rest less h = (less, h)

not_less : (n m : Name) → name_cmp n m ≡ Less → n ≡ m → ⊥
not_less n m less same = let own : name_cmp n n ≡ Less = ap (name_cmp n) same ∙ less in let equal = name_itself n in cc

not_greater : (n m : Name) → name_cmp n m ≡ Greater → n ≡ m → ⊥
not_greater n m greater same = let own : name_cmp n n ≡ Greater = ap (name_cmp n) same ∙ greater in let equal = name_itself n in cc

-- ---- what is joined, at one name

module _ (both : Entry Leaf → Entry Leaf → Option (Entry Leaf)) where
  -- what both have there, and what they come to
  abbrev pub Joined : Option (Entry Leaf) → Option (Entry Leaf) → Option (Entry Leaf) → Type 0
  Joined None b v = v ≡ b
  Joined (Some e) None v = v ≡ Some e
  Joined (Some e) (Some f) v = (g : Entry Leaf) × (both e f ≡ Some g) × (v ≡ Some g)

  -- two entries come to an ordered one
  abbrev pub KeepsOrder : Type 0
  KeepsOrder = (e f g : Entry Leaf) → IsOrderedEntry e → IsOrderedEntry f → both e f ≡ Some g → IsOrderedEntry g

  module _ (n : Name) (e : Entry Leaf) (m : Name) (f : Entry Leaf) (rest : Tree Leaf) (below : IsBelowAll m rest) (later : Option (Tree Leaf)) (v : Tree Leaf) where
    beside_own : ((w : Tree Leaf) → later ≡ Some w → Joined (Some e) (entry_of n rest) (entry_of n w)) → beside both n e m f rest later ≡ Some v
        → Joined (Some e) (entry_of n (with_entry m f rest)) (entry_of n v)
    beside_own more = by (name_cmp n m) refl
      where
        by : (o : Ordering) → name_cmp n m ≡ o → by_order o (Some (with_entry n e (with_entry m f rest))) (option_map (λ g. with_entry m g rest) (both e f)) (option_map (with_entry m f) later) ≡ Some v
            → Joined (Some e) (entry_of n (with_entry m f rest)) (entry_of n v)
        by Less less is =
            let none : entry_of n (with_entry m f rest) ≡ None = other_with n m f rest (not_less n m less) ∙ none-below n rest (below_trans n m rest less below) in
            subst (λ b. Joined (Some e) b (entry_of n v)) (sym none)
            (subst (λ w. entry_of n w ≡ Some e) (some_one (with_entry n e (with_entry m f rest)) v is) (own_with n e (with_entry m f rest)))
        by Equal equal is =
            let own : entry_of n (with_entry m f rest) ≡ Some f = ap (λ k. entry_of k (with_entry m f rest)) (name_same n m equal) ∙ own_with m f rest in
            let found = mapped_some (λ g. with_entry m g rest) (both e f) v is in
            subst (λ b. Joined (Some e) b (entry_of n v)) (sym own)
            (found.0, found.1, subst (λ w. entry_of n w ≡ Some found.0) found.2 (ap (λ k. entry_of k (with_entry m found.0 rest)) (name_same n m equal) ∙ own_with m found.0 rest))
        by Greater greater is =
            let found = mapped_some (with_entry m f) later v is in
            let at : entry_of n v ≡ entry_of n found.0 = ap (entry_of n) (sym found.2) ∙ other_with n m f found.0 (not_greater n m greater) in
            let old : entry_of n (with_entry m f rest) ≡ entry_of n rest = other_with n m f rest (not_greater n m greater) in
            subst (λ b. Joined (Some e) b (entry_of n v)) (sym old) (subst (Joined (Some e) (entry_of n rest)) (sym at) (more found.0 found.1))

    beside_other : (k : Name) → (k ≡ n → ⊥) → ((w : Tree Leaf) → later ≡ Some w → entry_of k w ≡ entry_of k rest) → beside both n e m f rest later ≡ Some v
        → entry_of k v ≡ entry_of k (with_entry m f rest)
    beside_other k other more = by (name_cmp n m) refl
      where
        by : (o : Ordering) → name_cmp n m ≡ o → by_order o (Some (with_entry n e (with_entry m f rest))) (option_map (λ g. with_entry m g rest) (both e f)) (option_map (with_entry m f) later) ≡ Some v
            → entry_of k v ≡ entry_of k (with_entry m f rest)
        by Less less is = ap (entry_of k) (sym (some_one (with_entry n e (with_entry m f rest)) v is)) ∙ other_with k n e (with_entry m f rest) other
        by Equal equal is =
            let found = mapped_some (λ g. with_entry m g rest) (both e f) v is in
            let apart : k ≡ m → ⊥ = λ same. other (same ∙ sym (name_same n m equal)) in
            ap (entry_of k) (sym found.2) ∙ other_with k m found.0 rest apart ∙ sym (other_with k m f rest apart)
        by Greater greater is =
            let found = mapped_some (with_entry m f) later v is in
            ap (entry_of k) (sym found.2) ∙ entry_with k m f found.0 ∙ ap (cond (eq_by_cmp name_cmp k m) (Some f)) (more found.0 found.1) ∙ sym (entry_with k m f rest)

    beside_below : (k : Name) → name_cmp k n ≡ Less → name_cmp k m ≡ Less → IsBelowAll k rest → ((w : Tree Leaf) → later ≡ Some w → IsBelowAll k w) → beside both n e m f rest later ≡ Some v → IsBelowAll k v
    beside_below k first second old more = by (name_cmp n m) refl
      where
        by : (o : Ordering) → name_cmp n m ≡ o → by_order o (Some (with_entry n e (with_entry m f rest))) (option_map (λ g. with_entry m g rest) (both e f)) (option_map (with_entry m f) later) ≡ Some v → IsBelowAll k v
        by Less less is = subst (IsBelowAll k) (some_one (with_entry n e (with_entry m f rest)) v is) (below_with k n e (with_entry m f rest) first (below_with k m f rest second old))
        by Equal equal is = let found = mapped_some (λ g. with_entry m g rest) (both e f) v is in subst (IsBelowAll k) found.2 (below_with k m found.0 rest second old)
        by Greater greater is = let found = mapped_some (with_entry m f) later v is in subst (IsBelowAll k) found.2 (below_with k m f found.0 second (more found.0 found.1))

    beside_ordered : KeepsOrder → IsOrderedEntry e → IsOrderedEntry f → IsOrdered rest → ((w : Tree Leaf) → later ≡ Some w → IsOrdered w × (name_cmp m n ≡ Less → IsBelowAll m w)) → beside both n e m f rest later ≡ Some v → IsOrdered v
    beside_ordered keeps new old behind more = by (name_cmp n m) refl
      where
        by : (o : Ordering) → name_cmp n m ≡ o → by_order o (Some (with_entry n e (with_entry m f rest))) (option_map (λ g. with_entry m g rest) (both e f)) (option_map (with_entry m f) later) ≡ Some v → IsOrdered v
        by Less less is = subst IsOrdered (some_one (with_entry n e (with_entry m f rest)) v is)
            (ordered_with n e (with_entry m f rest) new (below_with n m f rest less (below_trans n m rest less below)) (ordered_with m f rest old below behind))
        by Equal equal is = let found = mapped_some (λ g. with_entry m g rest) (both e f) v is in subst IsOrdered found.2 (ordered_with m found.0 rest (keeps e f found.0 new old found.1) below behind)
        by Greater greater is =
            let found = mapped_some (with_entry m f) later v is in
            let kept = more found.0 found.1 in
            subst IsOrdered found.2 (ordered_with m f found.0 old (kept.1 (name_greater n m greater)) kept.0)

  beside_found : (n : Name) (e : Entry Leaf) (m : Name) (f : Entry Leaf) (rest : Tree Leaf) (later : Option (Tree Leaf)) (o : Option (Entry Leaf)) → Joined (Some e) (entry_of n (with_entry m f rest)) o
      → ((o : Option (Entry Leaf)) → Joined (Some e) (entry_of n rest) o → (w : Tree Leaf) × (later ≡ Some w)) → (v : Tree Leaf) × (beside both n e m f rest later ≡ Some v)
  beside_found n e m f rest later o h more = by (name_cmp n m) refl
    where
      by : (q : Ordering) → name_cmp n m ≡ q → (v : Tree Leaf) × (by_order q (Some (with_entry n e (with_entry m f rest))) (option_map (λ g. with_entry m g rest) (both e f)) (option_map (with_entry m f) later) ≡ Some v)
      by Less less = (with_entry n e (with_entry m f rest), refl)
      by Equal equal =
          let own : entry_of n (with_entry m f rest) ≡ Some f = ap (λ k. entry_of k (with_entry m f rest)) (name_same n m equal) ∙ own_with m f rest in
          let found = subst (λ b. Joined (Some e) b o) own h in
          (with_entry m found.0 rest, ap (option_map (λ g. with_entry m g rest)) found.1)
      by Greater greater =
          let old : entry_of n (with_entry m f rest) ≡ entry_of n rest = other_with n m f rest (not_greater n m greater) in
          let found = more o (subst (λ b. Joined (Some e) b o) old h) in
          (with_entry m f found.0, ap (option_map (with_entry m f)) found.1)

  -- ---- an entry is joined

  joined_own : (n : Name) (e : Entry Leaf) (t v : Tree Leaf) → IsOrdered t → joined both n e t ≡ Some v → Joined (Some e) (entry_of n t) (entry_of n v)
  joined_own n e empty v h is = subst (λ w. entry_of n w ≡ Some e) (some_one (with_entry n e empty) v is) (own_with n e empty)
  joined_own n e (leaf m x rest) v h is = beside_own n e m (single x) rest h.0 (joined both n e rest) v (λ w. joined_own n e rest w h.1) is
  joined_own n e (folder m t rest) v h is = beside_own n e m (whole t) rest h.0 (joined both n e rest) v (λ w. joined_own n e rest w h.2) is

  joined_other : (n : Name) (e : Entry Leaf) (k : Name) → (k ≡ n → ⊥) → (t v : Tree Leaf) → IsOrdered t → joined both n e t ≡ Some v → entry_of k v ≡ entry_of k t
  joined_other n e k other empty v h is = ap (entry_of k) (sym (some_one (with_entry n e empty) v is)) ∙ other_with k n e empty other
  joined_other n e k other (leaf m x rest) v h is = beside_other n e m (single x) rest h.0 (joined both n e rest) v k other (λ w. joined_other n e k other rest w h.1) is
  joined_other n e k other (folder m t rest) v h is = beside_other n e m (whole t) rest h.0 (joined both n e rest) v k other (λ w. joined_other n e k other rest w h.2) is

  joined_below : (n : Name) (e : Entry Leaf) (k : Name) → name_cmp k n ≡ Less → (t v : Tree Leaf) → IsOrdered t → IsBelowAll k t → joined both n e t ≡ Some v → IsBelowAll k v
  joined_below n e k less empty v h old is = subst (IsBelowAll k) (some_one (with_entry n e empty) v is) (below_with k n e empty less tt)
  joined_below n e k less (leaf m x rest) v h old is = beside_below n e m (single x) rest h.0 (joined both n e rest) v k less old.0 old.1 (λ w. joined_below n e k less rest w h.1 old.1) is
  joined_below n e k less (folder m t rest) v h old is = beside_below n e m (whole t) rest h.0 (joined both n e rest) v k less old.0 old.1 (λ w. joined_below n e k less rest w h.2 old.1) is

  joined_ordered : KeepsOrder → (n : Name) (e : Entry Leaf) → IsOrderedEntry e → (t v : Tree Leaf) → IsOrdered t → joined both n e t ≡ Some v → IsOrdered v
  joined_ordered keeps n e new empty v h is = subst IsOrdered (some_one (with_entry n e empty) v is) (ordered_with n e empty new tt tt)
  joined_ordered keeps n e new (leaf m x rest) v h is = beside_ordered n e m (single x) rest h.0 (joined both n e rest) v keeps new tt h.1
      (λ w same. (joined_ordered keeps n e new rest w h.1 same, λ less. joined_below n e m less rest w h.1 h.0 same)) is
  joined_ordered keeps n e new (folder m t rest) v h is = beside_ordered n e m (whole t) rest h.0 (joined both n e rest) v keeps new h.1 h.2
      (λ w same. (joined_ordered keeps n e new rest w h.2 same, λ less. joined_below n e m less rest w h.2 h.0 same)) is

  joined_found : (n : Name) (e : Entry Leaf) (t : Tree Leaf) (o : Option (Entry Leaf)) → Joined (Some e) (entry_of n t) o → (v : Tree Leaf) × (joined both n e t ≡ Some v)
  joined_found n e empty o h = (with_entry n e empty, refl)
  joined_found n e (leaf m x rest) o h = beside_found n e m (single x) rest (joined both n e rest) o h (λ o. joined_found n e rest o)
  joined_found n e (folder m t rest) o h = beside_found n e m (whole t) rest (joined both n e rest) o h (λ o. joined_found n e rest o)

  -- ---- all entries of a directory are joined

  -- what two directories come to
  pub record AreJoined (a t v : Tree Leaf) : Type 0 where
    pub ordered : IsOrdered v
    pub names : (k : Name) → Joined (entry_of k a) (entry_of k t) (entry_of k v)

  one_more : KeepsOrder → (n : Name) (e : Entry Leaf) (rest t w v : Tree Leaf) → IsOrderedEntry e → IsBelowAll n rest → AreJoined rest t w → joined both n e w ≡ Some v → AreJoined (with_entry n e rest) t v
  one_more keeps n e rest t w v own below h is = record { ordered = joined_ordered keeps n e own w v h.ordered is; names = names }
    where
      names : (k : Name) → Joined (entry_of k (with_entry n e rest)) (entry_of k t) (entry_of k v)
      names k = elim (one_or_two k n) [
        | inl same ↦
            let old : entry_of n w ≡ entry_of n t = subst (λ a. Joined a (entry_of n t) (entry_of n w)) (none-below n rest below) (h.names n) in
            subst (λ j. Joined (entry_of j (with_entry n e rest)) (entry_of j t) (entry_of j v)) (sym same)
            (subst (λ a. Joined a (entry_of n t) (entry_of n v)) (sym (own_with n e rest)) (subst (λ b. Joined (Some e) b (entry_of n v)) old (joined_own n e w v h.ordered is)))
        | inr other ↦
            subst (λ a. Joined a (entry_of k t) (entry_of k v)) (sym (other_with k n e rest other))
            (subst (Joined (entry_of k rest) (entry_of k t)) (sym (joined_other n e k other w v h.ordered is)) (h.names k))
      ]

  pub all_joined : KeepsOrder → (a t v : Tree Leaf) → IsOrdered a → IsOrdered t → joined_with both a t ≡ Some v → AreJoined a t v
  all_joined keeps empty t v h g is = subst (AreJoined empty t) (some_one t v is) (record { ordered = g; names = λ k. refl })
  all_joined keeps (leaf n x rest) t v h g is =
      let found = bound_some (joined both n (single x)) (joined_with both rest t) v is in
      one_more keeps n (single x) rest t found.0 v tt h.0 (all_joined keeps rest t found.0 h.1 g found.1) found.2
  all_joined keeps (folder n u rest) t v h g is =
      let found = bound_some (joined both n (whole u)) (joined_with both rest t) v is in
      one_more keeps n (whole u) rest t found.0 v h.1 h.0 (all_joined keeps rest t found.0 h.2 g found.1) found.2

  -- at each name they come to something
  abbrev pub CanJoin : Tree Leaf → Tree Leaf → Type 0
  CanJoin a t = (k : Name) → (o : Option (Entry Leaf)) × Joined (entry_of k a) (entry_of k t) o

  rest_can : (n : Name) (e : Entry Leaf) (rest t : Tree Leaf) → IsBelowAll n rest → CanJoin (with_entry n e rest) t → CanJoin rest t
  rest_can n e rest t below h k = elim (one_or_two k n) [
    | inl same ↦ (entry_of k t, subst (λ a. Joined a (entry_of k t) (entry_of k t)) (sym (ap (λ j. entry_of j rest) same ∙ none-below n rest below)) refl)
    | inr other ↦ ((h k).0, subst (λ a. Joined a (entry_of k t) (h k).0) (other_with k n e rest other) (h k).1)
  ]

  one_found : KeepsOrder → (n : Name) (e : Entry Leaf) (rest t : Tree Leaf) → IsBelowAll n rest → CanJoin (with_entry n e rest) t → (w : Tree Leaf) → AreJoined rest t w
      → (v : Tree Leaf) × (joined both n e w ≡ Some v)
  one_found keeps n e rest t below can w h =
      let old : entry_of n w ≡ entry_of n t = subst (λ a. Joined a (entry_of n t) (entry_of n w)) (none-below n rest below) (h.names n) in
      joined_found n e w (can n).0 (subst (λ b. Joined (Some e) b (can n).0) (sym old) (subst (λ a. Joined a (entry_of n t) (can n).0) (own_with n e rest) (can n).1))

  pub all_found : KeepsOrder → (a t : Tree Leaf) → IsOrdered a → IsOrdered t → CanJoin a t → (v : Tree Leaf) × (joined_with both a t ≡ Some v)
  all_found keeps empty t h g can = (t, refl)
  all_found keeps (leaf n x rest) t h g can =
      let rest_found = all_found keeps rest t h.1 g (rest_can n (single x) rest t h.0 can) in
      let found = one_found keeps n (single x) rest t h.0 can rest_found.0 (all_joined keeps rest t rest_found.0 h.1 g rest_found.1) in
      (found.0, ap (option_and_then (joined both n (single x))) rest_found.1 ∙ found.1)
  all_found keeps (folder n u rest) t h g can =
      let rest_found = all_found keeps rest t h.2 g (rest_can n (whole u) rest t h.0 can) in
      let found = one_found keeps n (whole u) rest t h.0 can rest_found.0 (all_joined keeps rest t rest_found.0 h.2 g rest_found.1) in
      (found.0, ap (option_and_then (joined both n (whole u))) rest_found.1 ∙ found.1)
