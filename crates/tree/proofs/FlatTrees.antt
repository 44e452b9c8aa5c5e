-- A flat tree with one entry more.
use Rattle.std.proofs.Common.{◌≡◌, ◌≢◌, ℕ, zero, suc, ◌+◌, ◌-◌, ◌<◌, ◌≤◌, List, [], ◌∷◌, ◌++◌, refl, ap, sym, ◌∙◌, subst, Bool, true, false, cond, length, take, drop, inl, inr, arith}
use Rattle.std.specs.Prelude.{◌⊎◌, Option, Some}
use Rattle.std.specs.List.{AllByRecursion}
use Rattle.std.specs.Map.{lookup, remove_entry}
use Rattle.std.specs.Ordering.{is_eq, match_ordering}
use Rattle.std.specs.declared.vec.Vec.{Vec}
use Rattle.std.specs.declared.cmp.Ordering.{Ordering}
use Rattle.std.specs.declared.cmp.Ordering.TheVariants.{Less, Equal, Greater}
use Rattle.std.specs.BTreeMap.{insert_entry}
use Rattle.std.specs.Cmp.{tied_itself}
use Rattle.std.specs.Cmp.Lexicographic.{lists_total, nat_list_cmp_total}
use Rattle.messages.specs.declared.node.Node.TheVariants as nodes
use Rattle.messages.specs.Name.{IsName}
use Rattle.messages.specs.Path.{IsPath}
use Rattle.tree.specs.declared.flat_tree.FlatEntry.{FlatEntry}
use Rattle.tree.specs.declared.flat_tree.FlatEntry.TheVariants.{File, Link, Dir}
use Rattle.tree.specs.Tree.{Name, path_cmp, Tree, empty, whole, tree_at, Standing, nothing, a_leaf, a_directory, stands_at}
use Rattle.blob_digest.specs.Digest.{DigestValue}
use Rattle.tree.specs.declared.folding.Folded.{Folded}
use Rattle.tree.specs.Form.{NodeValue, root}
use Rattle.blob_source.specs.Source.{Blobs}
use Rattle.tree.specs.Unfolded.{IsUnfolded}
use Rattle.tree.specs.FlatTree.{standing_in, FlatValue, IsListOf, IsFlatTree, IsFoldOfList, IsTaken, IsAdded, IsFirstMissing, entry_value, found_value, flat_value}
use Rattle.tree.proofs.SameMap.{same_map as same_trees}
use Rattle.tree.proofs.SortedInsert.{path_same, vec_cmp}
use Rattle.tree.proofs.Listings.{same_map, plant, listed_plant, ordered_plant, directory_at, nothing_at, nothing_below}

path_itself : (p : List Name) → path_cmp p p ≡ Equal
path_itself p = tied_itself (lists_total nat_list_cmp_total) p

path_other : (q p : List Name) → (q ≡ p → ⊥) → is_eq (path_cmp q p) ≡ false
path_other q p h = by (path_cmp q p) refl
  where
    by : (o : Ordering) → path_cmp q p ≡ o → is_eq o ≡ false
    by Less e = refl
    by Equal e = absurd (h (path_same q p e))
    by Greater e = refl

fewer_or_more : (d k : ℕ) → (k < d) ⊎ (d ≤ k)
fewer_or_more zero k = inr (omega arith)
fewer_or_more (suc d) zero = inl (omega arith)
fewer_or_more (suc d) (suc k) = elim (fewer_or_more d k) [
  | inl e ↦ inl (omega arith)
  | inr e ↦ inr (omega arith)
]

same_or_more : (d k : ℕ) → d ≤ k → (d ≡ k) ⊎ (d + 1 ≤ k)
same_or_more zero zero h = inl refl
same_or_more zero (suc k) h = inr (omega arith)
same_or_more (suc d) zero h = absurd (omega arith)
same_or_more (suc d) (suc k) h = elim (same_or_more d k (omega arith)) [
  | inl e ↦ inl (ap suc e)
  | inr e ↦ inr (omega arith)
]

-- ---- lists with one entry more

pub at_inserted : (es : FlatValue) (p : List Name) (s : Standing NodeValue) → standing_in (insert_entry path_cmp es p s) p ≡ s
at_inserted [] p s = ap (λ o. cond (is_eq o) s nothing) (path_itself p)
at_inserted (e ∷ es) p s = by (path_cmp p e.0) refl (at_inserted es p s)
  where
    by : (o : Ordering) → path_cmp p e.0 ≡ o → standing_in (insert_entry path_cmp es p s) p ≡ s
        → standing_in (match_ordering o ((p, s) ∷ e ∷ es) ((e.0, s) ∷ es) (e ∷ insert_entry path_cmp es p s)) p ≡ s
    by Less c ih = ap (λ o. cond (is_eq o) s (standing_in (e ∷ es) p)) (path_itself p)
    by Equal c ih = ap (λ o. cond (is_eq o) s (standing_in es p)) c
    by Greater c ih = ap (λ o. cond (is_eq o) e.1 (standing_in (insert_entry path_cmp es p s) p)) c ∙ ih

pub other_inserted : (es : FlatValue) (p q : List Name) (s : Standing NodeValue) → (q ≡ p → ⊥) → standing_in (insert_entry path_cmp es p s) q ≡ standing_in es q
other_inserted [] p q s h = ap (λ b. cond b s nothing) (path_other q p h)
other_inserted (e ∷ es) p q s h = by (path_cmp p e.0) refl (other_inserted es p q s h)
  where
    by : (o : Ordering) → path_cmp p e.0 ≡ o → standing_in (insert_entry path_cmp es p s) q ≡ standing_in es q
        → standing_in (match_ordering o ((p, s) ∷ e ∷ es) ((e.0, s) ∷ es) (e ∷ insert_entry path_cmp es p s)) q ≡ standing_in (e ∷ es) q
    by Less c ih = ap (λ b. cond b s (standing_in (e ∷ es) q)) (path_other q p h)
    by Equal c ih =
        let apart = path_other q e.0 (λ g. h (g ∙ sym (path_same p e.0 c))) in
        ap (λ b. cond b s (standing_in es q)) apart ∙ sym (ap (λ b. cond b e.1 (standing_in es q)) apart)
    by Greater c ih = ap (cond (is_eq (path_cmp q e.0)) e.1) ih

paths_inserted : (P : List Name → Type 0) (es : FlatValue) (p : List Name) (s : Standing NodeValue) → P p → AllByRecursion (λ e. P e.0) es → AllByRecursion (λ e. P e.0) (insert_entry path_cmp es p s)
paths_inserted P [] p s h k = (h, tt)
paths_inserted P (e ∷ es) p s h k = elim (path_cmp p e.0) as (λ o. AllByRecursion (λ e. P e.0) (match_ordering o ((p, s) ∷ e ∷ es) ((e.0, s) ∷ es) (e ∷ insert_entry path_cmp es p s))) [
  | Less ↦ (h, k)
  | Equal ↦ k
  | Greater ↦ (k.0, paths_inserted P es p s h k.1)
]

-- ---- what stands in a flat tree is what stands in its tree

pub stands_in_tree : (es : FlatValue) (t : Tree NodeValue) → IsListOf es t → (p : List Name) → 0 < length p → standing_in es p ≡ stands_at t p
stands_in_tree es t h [] some = absurd (omega arith)
stands_in_tree es t h (n ∷ p) some = ap (λ l. standing_in l (n ∷ p)) h.listing ∙ same_map t h.ordered n p

more_names : (q : List Name) (n : Name) → 0 < length (q ++ n ∷ [])
more_names [] n = omega arith
more_names (k ∷ q) n = omega arith

-- an entry where its parent stands and nothing else
pub planted : (es : FlatValue) (q : List Name) (n : Name) (s : Standing NodeValue) → IsFlatTree es → s ≢ nothing → IsPath (q ++ n ∷ []) → (q ≡ []) ⊎ (standing_in es q ≡ a_directory)
    → standing_in es (q ++ n ∷ []) ≡ nothing → IsFlatTree (insert_entry path_cmp es (q ++ n ∷ []) s)
planted es q n s h some valid parent free =
    let t = h.tree in
    let at = by q parent in
    let none = nothing_at t at.0 q n at.1 (sym (stands_in_tree es t h.list (q ++ n ∷ []) (more_names q n)) ∙ free) in
    record {
      tree = plant q n s t;
      list = record {
        ordered = ordered_plant q n s t h.list.ordered;
        listing = ap (λ l. insert_entry path_cmp l (q ++ n ∷ []) s) h.list.listing ∙ sym (listed_plant q n s t at.0 some h.list.ordered at.1 none);
      };
      paths = paths_inserted IsPath es (q ++ n ∷ []) s valid h.paths;
    }
  where
    by : (q : List Name) → (q ≡ []) ⊎ (standing_in es q ≡ a_directory) → (u : Tree NodeValue) × (tree_at h.tree q ≡ Some (whole u))
    by [] parent = (h.tree, refl)
    by (k ∷ q) (inl e) = cc
    by (k ∷ q) (inr e) = directory_at h.tree (k ∷ q) (sym (stands_in_tree es h.tree h.list (k ∷ q) (omega arith)) ∙ e)

take_some : (k : ℕ) (p : List Name) → 0 < k → 0 < length p → 0 < length (take k p)
take_some zero p h g = absurd (omega arith)
take_some (suc k) [] h g = absurd (omega arith)
take_some (suc k) (n ∷ p) h g = omega arith

take_more : (j k : ℕ) (p : List Name) → j ≤ k → take k p ≡ take j p ++ take (k - j) (drop j p)
take_more zero k p h = ap (λ i. take i p) same
  where
    same : k ≡ k - 0
    same = omega arith
take_more (suc j) zero p h = absurd (omega arith)
take_more (suc j) (suc k) [] h = refl_nil (suc k - suc j)
  where
    refl_nil : (i : ℕ) → ◌≡◌ {A = List Name} [] (take i [])
    refl_nil zero = refl
    refl_nil (suc i) = refl
take_more (suc j) (suc k) (n ∷ p) h =
    let less : suc k - suc j ≡ k - j = omega arith in
    ap (λ r. n ∷ r) (take_more j k p (omega arith)) ∙ ap (λ i. n ∷ (take j p ++ take i (drop j p))) (sym less)

-- where nothing stands, nothing stands below
pub free_below : (es : FlatValue) (p : List Name) (j k : ℕ) → IsFlatTree es → 0 < j → 0 < length p → j ≤ k → standing_in es (take j p) ≡ nothing → standing_in es (take k p) ≡ nothing
free_below es p j k h some names le none =
    let t = h.tree in
    let here = sym (stands_in_tree es t h.list (take j p) (take_some j p some names)) ∙ none in
    stands_in_tree es t h.list (take k p) (take_some k p (omega arith) names) ∙ ap (stands_at t) (take_more j k p le) ∙ nothing_below t (take j p) (take (k - j) (drop j p)) here

-- the last of the first names
pub take_last : (d : ℕ) (p : List Name) → 0 < d → d ≤ length p → (n : Name) × (take d p ≡ take (d - 1) p ++ n ∷ [])
take_last zero p h g = absurd (omega arith)
take_last (suc d) [] h g = absurd (omega arith)
take_last (suc zero) (n ∷ p) h g = (n, refl)
take_last (suc (suc d)) (n ∷ p) h g =
    let rest = take_last (suc d) p (omega arith) (omega arith) in
    let back : suc (suc d) - 1 ≡ suc (suc d - 1) = omega arith in
    (rest.0, ap (λ r. n ∷ r) rest.1 ∙ ap (λ i. take i (n ∷ p) ++ rest.0 ∷ []) (sym back))

pub length_first : (k : ℕ) (p : List Name) → k ≤ length p → length (take k p) ≡ k
length_first zero p h = refl
length_first (suc k) [] h = absurd (omega arith)
length_first (suc k) (n ∷ p) h = let rest = length_first k p (omega arith) in omega (arith, rest)

pub take_apart : (j k : ℕ) (p : List Name) → j < k → k ≤ length p → take j p ≡ take k p → ⊥
take_apart j k p lt le e =
    let a = length_first j p (omega arith) in
    let b = length_first k p le in
    let c = ap length e in
    omega (arith, a, b, c)

pub take_whole : (k : ℕ) (p : List Name) → k ≡ length p → take k p ≡ p
take_whole zero [] h = refl
take_whole zero (n ∷ p) h = absurd (omega arith)
take_whole (suc k) [] h = absurd (omega arith)
take_whole (suc k) (n ∷ p) h = ap (λ r. n ∷ r) (take_whole k p (omega arith))

pub is_value : {A : Type 0} (e : FlatEntry A) → entry_value e ≢ nothing
is_value {A} (File d x) = λ h. cc
is_value {A} (Link l) = λ h. cc
is_value {A} Dir = λ h. cc

all_taken : {X : Type 0} (P : X → Type 0) (k : ℕ) (xs : List X) → AllByRecursion P xs → AllByRecursion P (take k xs)
all_taken P zero xs h = tt
all_taken P (suc k) [] h = tt
all_taken P (suc k) (x ∷ xs) h = (h.0, all_taken P k xs h.1)

path_taken : (p : List Name) (d : ℕ) → IsPath p → 0 < d → d ≤ length p → IsPath (take d p)
path_taken p d h some within =
    let len = length_first d p within in
    let few = h.few in
    record { some = omega (arith, len); few = omega (arith, len, few); each = all_taken IsName d p h.each }

-- an entry at the first names of a path
pub planted_at : (es : FlatValue) (p : List Name) (d : ℕ) (s : Standing NodeValue) → IsFlatTree es → IsPath p → 0 < d → d ≤ length p → s ≢ nothing
    → (d ≡ 1) ⊎ (standing_in es (take (d - 1) p) ≡ a_directory) → standing_in es (take d p) ≡ nothing → IsFlatTree (insert_entry path_cmp es (take d p) s)
planted_at es p d s h valid some within value parent free =
    let last = take_last d p some within in
    subst (λ q. IsFlatTree (insert_entry path_cmp es q s)) (sym last.1)
    (planted es (take (d - 1) p) last.0 s h value (subst IsPath last.1 (path_taken p d valid some within)) (by parent) (sym (ap (standing_in es) last.1) ∙ free))
  where
    by : (d ≡ 1) ⊎ (standing_in es (take (d - 1) p) ≡ a_directory) → (take (d - 1) p ≡ []) ⊎ (standing_in es (take (d - 1) p) ≡ a_directory)
    by (inl e) = inl (ap (λ i. take (i - 1) p) e)
    by (inr e) = inr e

pub no_directory : {A : Type 0} (e : FlatEntry A) → (entry_value e ≡ a_directory → ⊥) → (x : NodeValue) × (entry_value e ≡ a_leaf x)
no_directory {A} (File d x) = λ h. (nodes.File d x, refl)
no_directory {A} (Link l) = λ h. (nodes.Link l, refl)
no_directory {A} Dir = λ h. absurd (h refl)

-- ---- adding with the directories above

-- the last step: the entry itself
pub added_last : (es : FlatValue) (p : List Name) (d : ℕ) (s : Standing NodeValue) → d ≡ length p → IsAdded d p s es (insert_entry path_cmp es (take d p) s)
added_last es p d s is = subst (λ q. IsAdded d p s es (insert_entry path_cmp es q s)) (sym (take_whole d p is)) (record {
  at = at_inserted es p s;
  above = λ k le lt. absurd (omega arith);
  others = λ q h g. other_inserted es p q s h;
})

-- a step before it: a directory
pub added_more : (es fs : FlatValue) (p : List Name) (d : ℕ) (s : Standing NodeValue) → d < length p → IsAdded (d + 1) p s (insert_entry path_cmp es (take d p) a_directory) fs → IsAdded d p s es fs
added_more es fs p d s lt h =
    let whole_is = take_whole (length p) p refl in
    let not_whole : take d p ≡ p → ⊥ = λ e. take_apart d (length p) p lt (omega arith) (e ∙ sym whole_is) in
    record {
      at = h.at;
      above = λ k le less. by k le less (same_or_more d k le);
      others = λ q a b. h.others q a (λ k le less. b k (omega arith) less) ∙ other_inserted es (take d p) q a_directory (b d (omega arith) lt);
    }
  where
    by : (k : ℕ) → d ≤ k → k < length p → (d ≡ k) ⊎ (d + 1 ≤ k) → standing_in fs (take k p) ≡ a_directory
    by k le less (inl e) =
        let whole_is = take_whole (length p) p refl in
        subst (λ i. standing_in fs (take i p) ≡ a_directory) e
        (h.others (take d p) (λ g. take_apart d (length p) p lt (omega arith) (g ∙ sym whole_is)) (λ i le lt2 g. take_apart d i p (omega arith) (omega arith) g) ∙ at_inserted es (take d p) a_directory)
    by k le less (inr e) = h.above k e less

-- what is still free behind a directory that was added
pub still_free : (es : FlatValue) (p : List Name) (d k : ℕ) → d + 1 ≤ k → k ≤ length p → standing_in es (take k p) ≡ nothing → standing_in (insert_entry path_cmp es (take d p) a_directory) (take k p) ≡ nothing
still_free es p d k le within none = other_inserted es (take d p) (take k p) a_directory (λ g. take_apart d k p (omega arith) within (sym g)) ∙ none

-- from the first missing directory on
pub added_from : (es fs : FlatValue) (p : List Name) (d : ℕ) (s : Standing NodeValue) → IsFirstMissing es p d → IsAdded d p s es fs → IsAdded 1 p s es fs
added_from es fs p d s first h = record {
  at = h.at;
  above = λ k le lt. by k le lt (fewer_or_more d k);
  others = λ q a b. h.others q a (λ k le lt. b k (let some = first.some in omega (arith, some)) lt);
}
  where
    by : (k : ℕ) → 1 ≤ k → k < length p → (k < d) ⊎ (d ≤ k) → standing_in fs (take k p) ≡ a_directory
    by k le lt (inl e) =
        let whole_is = take_whole (length p) p refl in
        let within = first.within in
        h.others (take k p) (λ g. take_apart k (length p) p lt (omega arith) (g ∙ sym whole_is)) (λ i below less g. take_apart k i p (omega arith) (omega arith) g) ∙ first.above k (omega arith) e
    by k le lt (inr e) = h.above k e lt

pub has_room : (es : FlatValue) (p : List Name) (d : ℕ) → IsFlatTree es → IsFirstMissing es p d → IsTaken es p → ⊥
has_room es p d h first (inl taken) =
    let whole_is = take_whole (length p) p refl in
    let some = first.some in
    let within = first.within in
    taken (ap (standing_in es) (sym whole_is) ∙ free_below es p d (length p) h some (omega (arith, some, within)) within first.missing)
has_room es p d h first (inr w) = by (fewer_or_more d w.0)
  where
    by : (w.0 < d) ⊎ (d ≤ w.0) → ⊥
    by (inl e) = let dir = first.above w.0 w.1 e in let leaf = w.4 in cc
    by (inr e) =
        let some = first.some in
        let within = first.within in
        let none = free_below es p d w.0 h some (omega (arith, some, within)) e first.missing in
        let leaf = w.4 in
        cc

pub one_more_directory : (es : FlatValue) (p : List Name) (d : ℕ) → ((k : ℕ) → 0 < k → k < d → standing_in es (take k p) ≡ a_directory) → standing_in es (take d p) ≡ a_directory
    → (k : ℕ) → 0 < k → k < d + 1 → standing_in es (take k p) ≡ a_directory
one_more_directory es p d before here k some lt = elim (fewer_or_more d k) [
  | inl e ↦ before k some e
  | inr e ↦ (let same : d ≡ k = omega arith in subst (λ i. standing_in es (take i p) ≡ a_directory) same here)
]

-- ---- what the code keeps

module _ {A : Type 0} where
  pub flat_standing : (es : List (Vec Name A × FlatEntry A)) (p : List Name) → standing_in (flat_value es) p ≡ found_value (lookup (λ (k : Vec Name A). is_eq (path_cmp p k.items)) es)
  flat_standing [] p = refl
  flat_standing (e ∷ es) p = by (is_eq (path_cmp p e.0.items)) (flat_standing es p)
    where
      by : (b : Bool) → standing_in (flat_value es) p ≡ found_value (lookup (λ (k : Vec Name A). is_eq (path_cmp p k.items)) es)
          → cond b (entry_value e.1) (standing_in (flat_value es) p) ≡ found_value (cond b (Some e.1) (lookup (λ (k : Vec Name A). is_eq (path_cmp p k.items)) es))
      by true ih = refl
      by false ih = ih

  pub flat_inserted : (es : List (Vec Name A × FlatEntry A)) (k : Vec Name A) (v : FlatEntry A) → flat_value (insert_entry vec_cmp es k v) ≡ insert_entry path_cmp (flat_value es) k.items (entry_value v)
  flat_inserted [] k v = refl
  flat_inserted (e ∷ es) k v = by (path_cmp k.items e.0.items) (flat_inserted es k v)
    where
      by : (o : Ordering) → flat_value (insert_entry vec_cmp es k v) ≡ insert_entry path_cmp (flat_value es) k.items (entry_value v)
          → flat_value (match_ordering o ((k, v) ∷ e ∷ es) ((e.0, v) ∷ es) (e ∷ insert_entry vec_cmp es k v))
          ≡ match_ordering o ((k.items, entry_value v) ∷ flat_value (e ∷ es)) ((e.0.items, entry_value v) ∷ flat_value es) ((e.0.items, entry_value e.1) ∷ insert_entry path_cmp (flat_value es) k.items (entry_value v))
      by Less ih = refl
      by Equal ih = refl
      by Greater ih = ap (λ r. (e.0.items, entry_value e.1) ∷ r) ih

  -- what was inserted where nothing was is taken out again
  pub removed_again : (es : List (Vec Name A × FlatEntry A)) (k : Vec Name A) (v : FlatEntry A) (p : List Name) → p ≡ k.items → standing_in (flat_value es) p ≡ nothing
      → remove_entry (λ (j : Vec Name A). is_eq (path_cmp p j.items)) (insert_entry vec_cmp es k v) ≡ es
  removed_again [] k v p is none = ap (λ b. cond b [] ((k, v) ∷ [])) (ap is_eq (ap (path_cmp p) (sym is) ∙ path_itself p))
  removed_again (e ∷ es) k v p is none = by (path_cmp k.items e.0.items) (ap (λ q. path_cmp q e.0.items) is) none (λ g. removed_again es k v p is g)
    where
      by : (o : Ordering) → path_cmp p e.0.items ≡ o → cond (is_eq (path_cmp p e.0.items)) (entry_value e.1) (standing_in (flat_value es) p) ≡ nothing
          → (standing_in (flat_value es) p ≡ nothing → remove_entry (λ (j : Vec Name A). is_eq (path_cmp p j.items)) (insert_entry vec_cmp es k v) ≡ es)
          → remove_entry (λ (j : Vec Name A). is_eq (path_cmp p j.items)) (match_ordering o ((k, v) ∷ e ∷ es) ((e.0, v) ∷ es) (e ∷ insert_entry vec_cmp es k v)) ≡ e ∷ es
      by Less c none ih = ap (λ b. cond b (e ∷ es) ((k, v) ∷ remove_entry (λ (j : Vec Name A). is_eq (path_cmp p j.items)) (e ∷ es))) (ap is_eq (ap (path_cmp p) (sym is) ∙ path_itself p))
      by Equal c none ih = absurd (is_value e.1 (sym (ap (λ o. cond (is_eq o) (entry_value e.1) (standing_in (flat_value es) p)) c) ∙ none))
      by Greater c none ih =
          ap (λ o. cond (is_eq o) (insert_entry vec_cmp es k v) (e ∷ remove_entry (λ (j : Vec Name A). is_eq (path_cmp p j.items)) (insert_entry vec_cmp es k v))) c
          ∙ ap (λ r. e ∷ r) (ih (sym (ap (λ o. cond (is_eq o) (entry_value e.1) (standing_in (flat_value es) p)) c) ∙ none))

  -- what a look-up in the map answers
  pub found_at : (es : List (Vec Name A × FlatEntry A)) (now : FlatValue) (p : List Name) (o : Option (FlatEntry A)) → flat_value es ≡ now → o ≡ lookup (λ (k : Vec Name A). is_eq (path_cmp p k.items)) es → standing_in now p ≡ found_value o
  found_at es now p o view is = ap (λ l. standing_in l p) (sym view) ∙ flat_standing es p ∙ ap found_value (sym is)

  pub flat_nothing : (es : List (Vec Name A × FlatEntry A)) → es ≡ [] → IsFlatTree (flat_value es)
  flat_nothing es e = subst (λ l. IsFlatTree (flat_value l)) (sym e) (record { tree = empty; list = record { ordered = tt; listing = refl }; paths = tt })

  pub flat_after : (es fs : List (Vec Name A × FlatEntry A)) (k : Vec Name A) (v : FlatEntry A) (p : List Name) → k.items ≡ p → fs ≡ insert_entry vec_cmp es k v → flat_value fs ≡ insert_entry path_cmp (flat_value es) p (entry_value v)
  flat_after es fs k v p at is = ap flat_value is ∙ flat_inserted es k v ∙ ap (λ q. insert_entry path_cmp (flat_value es) q (entry_value v)) at

-- ---- the one tree of a list

pub one_tree : (es : FlatValue) (t u : Tree NodeValue) → IsListOf es t → IsListOf es u → t ≡ u
one_tree es t u h k = same_trees t u h.ordered k.ordered (λ p. by p)
  where
    by : (p : List Name) → stands_at t p ≡ stands_at u p
    by [] = refl
    by (n ∷ p) = sym (stands_in_tree es t h (n ∷ p) (omega arith)) ∙ stands_in_tree es u k (n ∷ p) (omega arith)

pub list_maps : (es : FlatValue) (t : Tree NodeValue) → IsListOf es t → (n : Name) (p : List Name) → standing_in es (n ∷ p) ≡ stands_at t (n ∷ p)
list_maps es t h n p = stands_in_tree es t h (n ∷ p) (omega arith)

pub folded_again : {A : Type 0} (B : Blobs) (d : DigestValue) (es : FlatValue) (folded : Folded A) → IsUnfolded B d es → IsFoldOfList es folded → folded.root ≡ d
folded_again B d es folded h k = k.fold.root ∙ ap root (one_tree es k.tree h.tree k.list h.list) ∙ h.told.root
