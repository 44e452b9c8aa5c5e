-- What lines come to by digests, name by name and path by path: what the entries come to that they stand for.
use Rattle.std.proofs.Common.{◌≡◌, ◌≢◌, ℕ, zero, suc, ◌≤◌, List, [], ◌∷◌, ◌++◌, map, length, refl, ap, sym, ◌∙◌, subst, cond, inl, inr, arith}
use Rattle.std.specs.Prelude.{◌⊎◌, Option, Some, None}
use Rattle.std.specs.List.{AllByRecursion}
use Rattle.std.specs.declared.cmp.Ordering.TheVariants.{Less}
use Rattle.blob_digest.specs.Digest.{digest_of, NoClash}
use Rattle.messages.specs.declared.node.Node.TheVariants.{File, Link, Dir}
use Rattle.messages.specs.Directory.{directory_bytes}
use Rattle.blob_source.specs.Source.{Blobs}
use Rattle.tree.specs.Tree.{Name, name_cmp, Tree, empty, Entry, single, whole, entry_of, below_entry, Leaf, IsBelowAll, IsOrdered, IsOrderedEntry, Standing, nothing, a_leaf, a_directory, standing}
use Rattle.tree.specs.Form.{NodeValue, form, directory_of, root, entry_node, leaf_node, with_child}
use Rattle.tree.specs.Graft.{with_entry}
use Rattle.tree.specs.Lookup.{IsValue}
use Rattle.tree.specs.Merge.{gives_at, GivesOnly, IsMergeOf, TreeLines}
use Rattle.tree.specs.Stage.{Stage, ◌and_then◌}
use Rattle.tree.specs.Merging.{WithinValue, NodeWithin, MergeLines, MergeFault, conflict, unreadable, lines_at, first_names, counted, IsHeldIn, AreHeld, node_opened, line_opened, opened, NamesDirectory, CanMeetAt, met, lone, stands_or, entry_merged, each_name, merged_in, merged}
use Rattle.tree.specs.MergeAgrees.{GiveNodesOf, IsBlobOfTrees, IsBlobOfEntries, IsOfMerge, TellsOfMerges}
use Rattle.tree.proofs.TreeLemmas.{one_or_two, apart_cmp}
use Rattle.tree.proofs.SameTree.{cons, entry-cons, own_entry}
use Rattle.tree.proofs.SameMap.{same_map}
use Rattle.tree.proofs.MergeGroups.{Ascends, are_names, less_other}
use Rattle.tree.proofs.MergeHeld.{opened_held}
use Rattle.tree.proofs.MergeStages.{all_lines_at, all_counted}
use Rattle.tree.proofs.MergeBridge.{IsGood, AreGood, IsPathOf, IsDirOf, HasNames, AllNamed, all_at_name, dir_splits, dir_joins, path_opens, dir_closes, none_within}
use Rattle.tree.proofs.MergePairs.{Pair, Pairs, AllOf, given, stood, IsPair, ArePairs, at_mapped, named_mapped, all_mapped, opened_pairs}
use Rattle.tree.proofs.MergeCounts.{kept, kept_given, all_kept, some_kept, path_kept, path_from_kept, lone_is, IsHere, lone_here}

-- ---- a tree, name by name

abbrev node_of : Entry NodeValue → NodeValue
node_of (single x) = x
node_of (whole t) = Dir (root t)

directory_with : (n : Name) (e : Entry NodeValue) (rest : Tree NodeValue) → directory_of (with_entry n e rest) ≡ with_child n (node_of e) (directory_of rest)
directory_with n (single x) rest = refl
directory_with n (whole t) rest = refl

form_cons : (n : Name) (e : Entry Leaf) (rest : Tree Leaf) → directory_of (form (cons n e rest)) ≡ with_child n (entry_node e) (directory_of (form rest))
form_cons n (single x) rest = refl
form_cons n (whole t) rest = refl

ordered_cons : (n : Name) (e : Entry Leaf) (rest : Tree Leaf) → IsOrderedEntry e → IsBelowAll n rest → IsOrdered rest → IsOrdered (cons n e rest)
ordered_cons n (single x) rest own below h = (below, h)
ordered_cons n (whole t) rest own below h = (below, own, h)

below_cons : (m n : Name) (e : Entry Leaf) (rest : Tree Leaf) → name_cmp m n ≡ Less → IsBelowAll m rest → IsBelowAll m (cons n e rest)
below_cons m n (single x) rest less h = (less, h)
below_cons m n (whole t) rest less h = (less, h)

other_cons : (k n : Name) (e : Entry Leaf) (rest : Tree Leaf) → (k ≡ n → ⊥) → entry_of k (cons n e rest) ≡ entry_of k rest
other_cons k n e rest other = entry-cons k n e rest ∙ ap (λ b. cond b (Some e) (entry_of k rest)) (apart_cmp k n other)

-- what the lines at a path come to
record IsEntry (k : ℕ) (es : TreeLines) (E : Entry NodeValue) : Type 0 where
  entry : Entry Leaf
  ordered : IsOrderedEntry entry
  path : IsPathOf k es (Some entry)
  same : entry_node entry ≡ node_of E

-- and in a directory
record IsTold (k : ℕ) (es : TreeLines) (T : Tree NodeValue) : Type 0 where
  tree : Tree Leaf
  ordered : IsOrdered tree
  dir : IsDirOf k es tree
  same : directory_of (form tree) ≡ directory_of T

-- so far, with these names
record IsSoFar (k : ℕ) (es : TreeLines) (ns : List Name) (T : Tree NodeValue) : Type 0 where
  tree : Tree Leaf
  ordered : IsOrdered tree
  below : (m : Name) → AllByRecursion (λ n. name_cmp m n ≡ Less) ns → IsBelowAll m tree
  there : AllByRecursion (λ n. IsPathOf k (lines_at n es) (entry_of n tree)) ns
  other : (n : Name) → AllByRecursion (λ m. m ≢ n) ns → entry_of n tree ≡ None
  same : directory_of (form tree) ≡ directory_of T

one_of : (P : Name → Type 0) (n : Name) (ns : List Name) → AllByRecursion P ns → P n ⊎ AllByRecursion (λ m. m ≢ n) ns
one_of P n [] h = inr tt
one_of P n (m ∷ ns) h = elim (one_or_two m n) [
  | inl same ↦ inl (subst P same h.0)
  | inr other ↦ elim (one_of P n ns h.1) [
    | inl here ↦ inl here
    | inr others ↦ inr (other, others)
  ]
]

no_path : (k : ℕ) → IsPathOf k [] None
no_path k = record { lines = tt; nothing_else = λ q none. ap standing (none_within q) }

none_given : (xs : Pairs) → given xs ≡ [] → stood xs ≡ []
none_given [] is = refl
none_given (x ∷ xs) is = absurd (let both : ◌≡◌ {A = MergeLines} ((x.0, x.1.0) ∷ given xs) [] = is in cc)

module _ (k : ℕ) (es : TreeLines) where
  so_far_none : IsSoFar k es [] empty
  so_far_none = record { tree = empty; ordered = tt; below = λ m h. tt; there = tt; other = λ n h. refl; same = refl }

  so_far_more : (n : Name) (ns : List Name) → AllByRecursion (λ m. name_cmp n m ≡ Less) ns → (E : Entry NodeValue) (T : Tree NodeValue) → IsEntry k (lines_at n es) E → IsSoFar k es ns T → IsSoFar k es (n ∷ ns) (with_entry n E T)
  so_far_more n ns up E T e h = record {
    tree = cons n e.entry h.tree;
    ordered = ordered_cons n e.entry h.tree e.ordered (h.below n up) h.ordered;
    below = λ m less. below_cons m n e.entry h.tree less.0 (h.below m less.1);
    there = (subst (IsPathOf k (lines_at n es)) (sym (own_entry n e.entry h.tree)) e.path, others ns up h.there);
    other = λ m apart. other_cons m n e.entry h.tree (λ is. apart.0 (sym is)) ∙ h.other m apart.1;
    same = form_cons n e.entry h.tree ∙ (λ i. with_child n (e.same i) (h.same i)) ∙ sym (directory_with n E T);
  }
    where
      others : (ms : List Name) → AllByRecursion (λ m. name_cmp n m ≡ Less) ms → AllByRecursion (λ m. IsPathOf k (lines_at m es) (entry_of m h.tree)) ms → AllByRecursion (λ m. IsPathOf k (lines_at m es) (entry_of m (cons n e.entry h.tree))) ms
      others [] up h = tt
      others (m ∷ ms) up p = (subst (IsPathOf k (lines_at m es)) (sym (other_cons m n e.entry h.tree (λ is. less_other n m up.0 (sym is)))) p.0, others ms up.1 p.1)

  all_told : AllNamed es → (ns : List Name) → ((n : Name) → AllByRecursion (λ m. m ≢ n) ns → lines_at n es ≡ []) → (T : Tree NodeValue) → IsSoFar k es ns T → IsTold (suc k) es T
  all_told named ns complete T h = record { tree = h.tree; ordered = h.ordered; dir = dir_joins k es h.tree named at; same = h.same }
    where
      at : (n : Name) → IsPathOf k (lines_at n es) (entry_of n h.tree)
      at n = elim (one_of (λ m. IsPathOf k (lines_at m es) (entry_of m h.tree)) n ns h.there) [
        | inl here ↦ here
        | inr others ↦ subst (λ l. IsPathOf k l (entry_of n h.tree)) (sym (complete n others)) (subst (IsPathOf k []) (sym (h.other n others)) (no_path k))
      ]

-- ---- where a path comes to nothing, a leaf, or a directory

abbrev LineGood : ℕ → Option (Entry Leaf) → List Name → Pair → Type 0
LineGood k o p x = IsGood k o p x.1

gives_some : (p : List Name) (e : Entry Leaf) → gives_at p e [] ≡ nothing → ⊥
gives_some [] (single x) is = (let both : ◌≡◌ {A = Standing Leaf} (a_leaf x) nothing = is in cc)
gives_some [] (whole t) is = (let both : ◌≡◌ {A = Standing Leaf} a_directory nothing = is in cc)
gives_some (n ∷ p) e is = (let both : ◌≡◌ {A = Standing Leaf} a_directory nothing = is in cc)

gives_own : (k : ℕ) (o : Option (Entry Leaf)) (p : List Name) (e : Entry Leaf) → IsGood k o p e → gives_at p e [] ≡ standing o
gives_own k o p e h = elim (h.only []) [
  | inl none ↦ absurd (gives_some p e none)
  | inr same ↦ same
]

module _ (S : List ℕ → Type 0) where
  -- a leaf: each line gives that one
  leaf_here : (k : ℕ) (x : Leaf) (p : List Name) (y : Pair) → IsPair S k p y → IsGood k (Some (single x)) p y.1 → IsHere (leaf_node x) p y
  leaf_here k x p y h good = by p y.1 (gives_own k (Some (single x)) p y.1 good) h.node
    where
      by : (p : List Name) (e : Entry Leaf) → gives_at p e [] ≡ a_leaf x → y.0.node ≡ entry_node e → IsHere (leaf_node x) p y
      by [] (single z) is node = (refl, node ∙ ap leaf_node (let both : ◌≡◌ {A = Standing Leaf} (a_leaf z) (a_leaf x) = is in cc))
      by [] (whole t) is node = absurd (let both : ◌≡◌ {A = Standing Leaf} a_directory (a_leaf x) = is in cc)
      by (n ∷ p) e is node = absurd (let both : ◌≡◌ {A = Standing Leaf} a_directory (a_leaf x) = is in cc)

  all_leaf : (k : ℕ) (x : Leaf) (us : Pairs) → ArePairs S k us → AllOf (LineGood k (Some (single x))) us → AllOf (IsHere (leaf_node x)) us
  all_leaf k x [] h good = tt
  all_leaf k x (y ∷ us) h good = (leaf_here k x y.0 y.1 h.0 good.0, all_leaf k x us h.1 good.1)

  -- a directory: the lines can meet
  can_meet : (k : ℕ) (t : Tree Leaf) (us : Pairs) → ArePairs S k us → AllOf (LineGood k (Some (whole t))) us → AllByRecursion (λ (l : List Name × NodeWithin). CanMeetAt l.0 l.1) (given us)
  can_meet k t [] h good = tt
  can_meet k t (y ∷ us) h good = (by y.0 y.1.1 (gives_own k (Some (whole t)) y.0 y.1.1 good.0) h.0.node, can_meet k t us h.1 good.1)
    where
      by : (p : List Name) (e : Entry Leaf) → gives_at p e [] ≡ a_directory → y.1.0.node ≡ entry_node e → CanMeetAt p y.1.0
      by [] (single x) is node = absurd (let both : ◌≡◌ {A = Standing Leaf} (a_leaf x) a_directory = is in cc)
      by [] (whole u) is node = subst NamesDirectory (sym node) tt
      by (n ∷ p) e is node = tt

  -- and where no names are left they are one
  record IsDeep (t : Tree Leaf) (p : List Name) (y : Pair) : Type 0 where
    here : p ≡ []
    tree : Tree Leaf
    entry : y.1 ≡ whole tree
    ordered : IsOrdered tree
    map : (q : List Name) → standing (below_entry q (Some (whole tree))) ≡ standing (below_entry q (Some (whole t)))

  is_deep : (t : Tree Leaf) (p : List Name) (y : Pair) → IsPair S 0 p y → IsGood 0 (Some (whole t)) p y.1 → IsDeep t p y
  is_deep t p y h good = by p y.1 refl h.few h.ordered good (gives_own 0 (Some (whole t)) p y.1 good)
    where
      by : (p : List Name) (e : Entry Leaf) → y.1 ≡ e → length p ≤ 0 → IsOrderedEntry e → IsGood 0 (Some (whole t)) p e → gives_at p e [] ≡ a_directory → IsDeep t p y
      by [] (single x) at few ordered good is = absurd (let both : ◌≡◌ {A = Standing Leaf} (a_leaf x) a_directory = is in cc)
      by [] (whole u) at few ordered good is = record { here = refl; tree = u; entry = at; ordered = ordered; map = λ q. good.deep [] q refl refl }
      by (n ∷ p) e at few ordered good is = absurd (omega (arith, few))

  all_deep : (t u : Tree Leaf) → IsOrdered u → ((q : List Name) → standing (below_entry q (Some (whole u))) ≡ standing (below_entry q (Some (whole t)))) → (us : Pairs) → ArePairs S 0 us → AllOf (LineGood 0 (Some (whole t))) us
      → AllByRecursion (λ (y : List Name × Pair). IsHere (Dir (root (form u))) y.0 y.1) us
  all_deep t u ordered maps [] h good = tt
  all_deep t u ordered maps (y ∷ us) h good =
      let deep = is_deep t y.0 y.1 h.0 good.0 in
      let same : deep.tree ≡ u = same_map deep.tree u deep.ordered ordered (λ q. deep.map q ∙ sym (maps q)) in
      ((deep.here, h.0.node ∙ ap entry_node deep.entry ∙ ap (λ v. Dir (root (form v))) same), all_deep t u ordered maps us h.1 good.1)

  deep_lone : (t : Tree Leaf) (us : Pairs) → us ≢ [] → ArePairs S 0 us → AllOf (LineGood 0 (Some (whole t))) us → (v : NodeValue) × (lone (counted [] (given us)) ≡ Some v)
  deep_lone t [] some h good = absurd (some refl)
  deep_lone t (y ∷ us) some h good =
      let deep = is_deep t y.0 y.1 h.0 good.0 in
      (Dir (root (form deep.tree)), lone_here (Dir (root (form deep.tree))) (y ∷ us) some (all_deep t deep.tree deep.ordered deep.map (y ∷ us) h good))

-- ---- opening is no conflict

module _ (B : Blobs) (c : List Name) where
  node_no_conflict : (x : NodeValue) (within : WithinValue) → (node_opened B x within).fails (conflict c) → ⊥
  unfolding ◌and_then◌
  node_no_conflict (File d b) within h = h
  node_no_conflict (Link t) within h = h
  node_no_conflict (Dir d) within (inl h) = (let both : conflict c ≡ unreadable h.0 = h.2 in cc)
  node_no_conflict (Dir d) within (inr h) = h.2

  line_no_conflict : (p : List Name) (g : NodeWithin) → (line_opened B p g).fails (conflict c) → ⊥
  line_no_conflict [] g h = node_no_conflict g.node g.within h
  line_no_conflict (n ∷ p) g h = h

  opened_no_conflict : (ls : MergeLines) → (opened B ls).fails (conflict c) → ⊥
  unfolding ◌and_then◌
  opened_no_conflict [] h = h
  opened_no_conflict (l ∷ ls) (inl h) = line_no_conflict l.0 l.1 h
  opened_no_conflict (l ∷ ls) (inr (new, here, inl h)) = opened_no_conflict ls h
  opened_no_conflict (l ∷ ls) (inr (new, here, inr h)) = h.2

-- ---- name by name

module _ (B : Blobs) (S : List ℕ → Type 0) (apart : NoClash S) (values : (b : List ℕ) → IsValue B b → S b) where
  abbrev Passes : ℕ → Type 0
  Passes k = (path : List Name) (xs : Pairs) → ArePairs S k xs → AllNamed xs → AreHeld (given xs) → (T : Tree NodeValue) → (merged_in B k path (given xs)).passes T → IsTold k (stood xs) T

  abbrev Conflicts : ℕ → Type 0
  Conflicts k = (path : List Name) (xs : Pairs) → ArePairs S k xs → AllNamed xs → AreHeld (given xs) → (c : List Name) → (merged_in B k path (given xs)).fails (conflict c) → (t : Tree Leaf) → IsDirOf k (stood xs) t → ⊥

  -- each node counted once
  are_kept : (k : ℕ) (us : Pairs) → ArePairs S k us → ArePairs S k (kept [] us)
  are_kept k us are = all_kept (IsPair S k) [] us are

  held_kept : (us : Pairs) → AreHeld (given us) → AreHeld (given (kept [] us))
  held_kept us held = subst AreHeld (sym (kept_given [] us)) (all_counted (λ g. IsHeldIn g.within g.node) [] (given us) held)

  own_path : (k : ℕ) (e : Entry Leaf) → IsPathOf k (([], e) ∷ []) (Some e)
  own_path k e = record { lines = (record { only = λ q. inr refl; deep = λ a q names dir. refl }, tt); nothing_else = λ q none. none.0 }

  -- one alone
  lone_told : (k : ℕ) (us : Pairs) → ArePairs S k us → (x : NodeValue) → lone (given (kept [] us)) ≡ Some x → (E : Entry NodeValue) → E ≡ single x → IsEntry k (stood us) E
  lone_told k us are x is E same =
      let a = lone_is (kept [] us) x is in
      let own : IsPair S k [] a.pair = (subst (ArePairs S k) a.lines (are_kept k us are)).0 in
      record {
        entry = a.pair.1;
        ordered = own.ordered;
        path = path_from_kept S apart k us are (Some a.pair.1) (subst (λ l. IsPathOf k (stood l) (Some a.pair.1)) (sym a.lines) (own_path k a.pair.1));
        same = sym own.node ∙ sym a.node ∙ ap node_of (sym same);
      }

  -- several
  met_told : (k : ℕ) (path : List Name) (us : Pairs) → ArePairs S k us → AreHeld (given us) → us ≢ [] → Passes k → (E : Entry NodeValue) → (met B (merged_in B k path) k path (given (kept [] us))).passes E → IsEntry k (stood us) E
  unfolding ◌and_then◌
  met_told zero path us are held some below E (u, can, rest) = absurd can
  met_told (suc k) path us are held some below E (u, can, (new, read, (T, more, same))) =
      let o = opened_pairs B S apart values k (kept [] us) (are_kept (suc k) us are) (held_kept us held) can new read in
      let told = below path o.pairs o.are o.named (subst AreHeld (sym o.gives) (opened_held B (given (kept [] us)) new (held_kept us held) read)) T (subst (λ l. (merged_in B (suc k) path l).passes T) (sym o.gives) more) in
      record {
        entry = whole told.tree;
        ordered = told.ordered;
        path = path_from_kept S apart (suc k) us are (Some (whole told.tree)) (dir_closes (suc k) (omega arith) told.tree (stood (kept [] us)) (stood o.pairs) (some_kept us some) o.opens told.dir);
        same = ap (λ m. Dir (digest_of (directory_bytes m))) told.same ∙ ap node_of (sym same);
      }

  name_told : (k : ℕ) (path : List Name) (us : Pairs) → ArePairs S k us → AreHeld (given us) → us ≢ [] → Passes k → (E : Entry NodeValue) → (entry_merged B (merged_in B k path) k path (counted [] (given us))).passes E → IsEntry k (stood us) E
  name_told k path us are held some below E h = by (lone (given (kept [] us))) refl (subst (λ l. (entry_merged B (merged_in B k path) k path l).passes E) (sym (kept_given [] us)) h)
    where
      by : (o : Option NodeValue) → lone (given (kept [] us)) ≡ o → (stands_or o (met B (merged_in B k path) k path (given (kept [] us)))).passes E → IsEntry k (stood us) E
      by (Some x) is same = lone_told k us are x is E same
      by None is h = met_told k path us are held some below E h

  -- the lines at a name
  module _ (k : ℕ) (xs : Pairs) (n : Name) where
    are_at : ArePairs S (suc k) xs → ArePairs S k (lines_at n xs)
    are_at are = all_at_name n (IsPair S (suc k)) (IsPair S k) (λ p x h. record { node = h.node; ordered = h.ordered; few = omega (arith, h.few); inside = h.inside; blobs = h.blobs }) xs are

    given_at : given (lines_at n xs) ≡ lines_at n (given xs)
    given_at = at_mapped (λ (x : Pair). x.0) n xs

    stood_at : stood (lines_at n xs) ≡ lines_at n (stood xs)
    stood_at = at_mapped (λ (x : Pair). x.1) n xs

    held_at : AreHeld (given xs) → AreHeld (given (lines_at n xs))
    held_at held = subst AreHeld (sym given_at) (all_lines_at (λ g. IsHeldIn g.within g.node) n (given xs) held)

    some_at : lines_at n (given xs) ≢ [] → lines_at n xs ≢ []
    some_at some = λ e. some (sym given_at ∙ ap given e)

  module _ (k : ℕ) (path : List Name) (xs : Pairs) (are : ArePairs S (suc k) xs) (held : AreHeld (given xs)) where
    abbrev at : Name → MergeLines → Stage MergeFault (Entry NodeValue)
    at n ls = entry_merged B (merged_in B k (path ++ n ∷ [])) k (path ++ n ∷ []) (counted [] ls)

    abbrev each : List Name → Stage MergeFault (Tree NodeValue)
    each ns = each_name at (map (λ n. (n, lines_at n (given xs))) ns)

    each_told : Passes k → (ns : List Name) → Ascends ns → AllByRecursion (λ n. lines_at n (given xs) ≢ []) ns → (T : Tree NodeValue) → (each ns).passes T → IsSoFar k (stood xs) ns T
    unfolding ◌and_then◌
    each_told below [] up some T is = subst (IsSoFar k (stood xs) []) (sym is) (so_far_none k (stood xs))
    each_told below (n ∷ ns) up some T (E, here, (R, rest, same)) =
        subst (IsSoFar k (stood xs) (n ∷ ns)) (sym same)
        (so_far_more k (stood xs) n ns up.0 E R
        (subst (λ l. IsEntry k l E) (stood_at k xs n) (name_told k (path ++ n ∷ []) (lines_at n xs) (are_at k xs n are) (held_at k xs n held) (some_at k xs n some.0) below E (subst (λ l. (at n l).passes E) (sym (given_at k xs n)) here)))
        (each_told below ns up.1 some.1 R rest))

  no_names : (p : List Name) → HasNames p → length p ≤ 0 → ⊥
  no_names [] named few = named
  no_names (n ∷ p) named few = omega (arith, few)

  passes_told : (k : ℕ) → Passes k
  passes_told zero path [] are named held T is = record { tree = empty; ordered = tt; dir = record { lines = tt; nothing_else = λ n q none. ap standing (none_within q) }; same = ap directory_of (sym is) }
  passes_told zero path (x ∷ xs) are named held T is = absurd (no_names x.0 named.0 are.0.few)
  passes_told (suc k) path xs are named held T is =
      let names = are_names (given xs) in
      all_told k (stood xs) (named_mapped (λ (x : Pair). x.1) xs named) (first_names (given xs))
      (λ n others. sym (stood_at k xs n) ∙ none_given (lines_at n xs) (given_at k xs n ∙ names.complete n others)) T
      (each_told k path xs are held (passes_told k) (first_names (given xs)) names.ascends names.present T is)

  -- ---- conflicts

  module _ (k : ℕ) (us : Pairs) (are : ArePairs S k us) (some : us ≢ []) (alone : lone (given (kept [] us)) ≡ None) where
    not_one : (v : NodeValue) → lone (counted [] (given us)) ≡ Some v → ⊥
    not_one v is = (let both : ◌≡◌ {A = Option NodeValue} None (Some v) = sym alone ∙ ap lone (kept_given [] us) ∙ is in cc)

    not_nothing : (us : Pairs) → us ≢ [] → AllOf (LineGood k None) us → ⊥
    not_nothing [] some good = some refl
    not_nothing (y ∷ ys) some good = gives_some y.0 y.1.1 (gives_own k None y.0 y.1.1 good.0)

    not_leaf_here : (x : Leaf) → AllOf (LineGood k (Some (single x))) us → ⊥
    not_leaf_here x good = not_one (leaf_node x) (lone_here (leaf_node x) us some (all_leaf S k x us are good))

  met_conflict : (k : ℕ) (path : List Name) (us : Pairs) → ArePairs S k us → AreHeld (given us) → us ≢ [] → Conflicts k → lone (given (kept [] us)) ≡ None
      → (c : List Name) → (met B (merged_in B k path) k path (given (kept [] us))).fails (conflict c) → (t : Tree Leaf) → IsPathOf k (stood us) (Some (whole t)) → ⊥
  unfolding ◌and_then◌
  met_conflict zero path us are held some below alone c fails t h =
      let deep = deep_lone S t us some are (all_mapped (λ (x : Pair). x.1) (IsGood 0 (Some (whole t))) us h.lines) in
      not_one zero us are some alone deep.0 deep.1
  met_conflict (suc k) path us are held some below alone c (inl (cannot, is)) t h =
      cannot (can_meet S (suc k) t (kept [] us) (are_kept (suc k) us are) (all_mapped (λ (x : Pair). x.1) (IsGood (suc k) (Some (whole t))) (kept [] us) (path_kept S apart (suc k) us are (Some (whole t)) h).lines))
  met_conflict (suc k) path us are held some below alone c (inr (u, can, inl fails)) t h = opened_no_conflict B c (given (kept [] us)) fails
  met_conflict (suc k) path us are held some below alone c (inr (u, can, inr (new, read, inl fails))) t h =
      let o = opened_pairs B S apart values k (kept [] us) (are_kept (suc k) us are) (held_kept us held) can new read in
      below path o.pairs o.are o.named (subst AreHeld (sym o.gives) (opened_held B (given (kept [] us)) new (held_kept us held) read)) c (subst (λ l. (merged_in B (suc k) path l).fails (conflict c)) (sym o.gives) fails)
      t (path_opens (suc k) (omega arith) t (stood (kept [] us)) (stood o.pairs) o.opens (path_kept S apart (suc k) us are (Some (whole t)) h))
  met_conflict (suc k) path us are held some below alone c (inr (u, can, inr (new, read, inr fails))) t h = fails.2

  name_conflict : (k : ℕ) (path : List Name) (us : Pairs) → ArePairs S k us → AreHeld (given us) → us ≢ [] → Conflicts k
      → (c : List Name) → (entry_merged B (merged_in B k path) k path (counted [] (given us))).fails (conflict c) → (o : Option (Entry Leaf)) → IsPathOf k (stood us) o → ⊥
  name_conflict k path us are held some below c h o is = by (lone (given (kept [] us))) refl (subst (λ l. (entry_merged B (merged_in B k path) k path l).fails (conflict c)) (sym (kept_given [] us)) h) o is
    where
      by : (x : Option NodeValue) → lone (given (kept [] us)) ≡ x → (stands_or x (met B (merged_in B k path) k path (given (kept [] us)))).fails (conflict c) → (o : Option (Entry Leaf)) → IsPathOf k (stood us) o → ⊥
      by (Some x) alone h o is = h
      by None alone h None is = not_nothing k us are some alone us some (all_mapped (λ (x : Pair). x.1) (IsGood k None) us is.lines)
      by None alone h (Some (single x)) is = not_leaf_here k us are some alone x (all_mapped (λ (x : Pair). x.1) (IsGood k (Some (single x))) us is.lines)
      by None alone h (Some (whole t)) is = met_conflict k path us are held some below alone c h t is

  module _ (k : ℕ) (path : List Name) (xs : Pairs) (are : ArePairs S (suc k) xs) (held : AreHeld (given xs)) (c : List Name) (t : Tree Leaf) where
    each_conflict : Conflicts k → ((n : Name) → IsPathOf k (lines_at n (stood xs)) (entry_of n t)) → (ns : List Name) → AllByRecursion (λ n. lines_at n (given xs) ≢ []) ns → (each k path xs are held ns).fails (conflict c) → ⊥
    unfolding ◌and_then◌
    each_conflict below h [] some fails = fails
    each_conflict below h (n ∷ ns) some (inl fails) =
        name_conflict k (path ++ n ∷ []) (lines_at n xs) (are_at k xs n are) (held_at k xs n held) (some_at k xs n some.0) below c (subst (λ l. (at k path xs are held n l).fails (conflict c)) (sym (given_at k xs n)) fails)
        (entry_of n t) (subst (λ l. IsPathOf k l (entry_of n t)) (sym (stood_at k xs n)) (h n))
    each_conflict below h (n ∷ ns) some (inr (E, here, inl fails)) = each_conflict below h ns some.1 fails
    each_conflict below h (n ∷ ns) some (inr (E, here, inr fails)) = fails.2

  conflicts_told : (k : ℕ) → Conflicts k
  conflicts_told zero path xs are named held c fails t h = fails
  conflicts_told (suc k) path xs are named held c fails t h =
      each_conflict k path xs are held c t (conflicts_told k) (dir_splits k (stood xs) t (named_mapped (λ (x : Pair). x.1) xs named) h) (first_names (given xs)) (are_names (given xs)).present fails

-- ---- the whole

abbrev paired : MergeLines → TreeLines → Pairs
paired [] es = []
paired (l ∷ ls) [] = []
paired (l ∷ ls) (e ∷ es) = (l.0, (l.1, e.1)) ∷ paired ls es

paired_given : (ls : MergeLines) (es : TreeLines) → GiveNodesOf ls es → given (paired ls es) ≡ ls
paired_given [] es h = refl
paired_given (l ∷ ls) [] h = absurd h
paired_given (l ∷ ls) (e ∷ es) h = ap (λ k. l ∷ k) (paired_given ls es h.1)

paired_stood : (ls : MergeLines) (es : TreeLines) → GiveNodesOf ls es → stood (paired ls es) ≡ es
paired_stood [] [] h = refl
paired_stood [] (e ∷ es) h = absurd h
paired_stood (l ∷ ls) [] h = absurd h
paired_stood (l ∷ ls) (e ∷ es) h = λ i. (h.0.target i, e.1) ∷ paired_stood ls es h.1 i

paired_named : (ls : MergeLines) (es : TreeLines) → GiveNodesOf ls es → AllNamed (paired ls es)
paired_named [] es h = tt
paired_named (l ∷ ls) [] h = absurd h
paired_named (l ∷ ls) (e ∷ es) h = (subst HasNames (sym h.0.target) (by e.0 h.0.some), paired_named ls es h.1)
  where
    by : (p : List Name) → p ≢ [] → HasNames p
    by [] some = some refl
    by (n ∷ p) some = tt

are_paired : (S : List ℕ → Type 0) (ls : MergeLines) (es : TreeLines) → GiveNodesOf ls es → ((b : List ℕ) → IsBlobOfTrees ls b → S b) → ((b : List ℕ) → IsBlobOfEntries es b → S b) → ArePairs S 64 (paired ls es)
are_paired S [] es h trees entries = tt
are_paired S (l ∷ ls) [] h trees entries = absurd h
are_paired S (l ∷ ls) (e ∷ es) h trees entries = (
  record {
    node = h.0.node;
    ordered = h.0.ordered;
    few = subst (λ (p : List Name). length p ≤ 64) (sym h.0.target) h.0.few;
    inside = λ b q. trees b (inl q);
    blobs = λ b q. entries b (inl q);
  },
  are_paired S ls es h.1 (λ b q. trees b (inr q)) (λ b q. entries b (inr q)),
)

merge_of : (es : TreeLines) (t : Tree Leaf) → IsOrdered t → IsDirOf 64 es t → IsMergeOf es t
merge_of es t ordered h = record {
  ordered = ordered;
  lines = only es h.lines;
  nothing_else = h.nothing_else;
  deep = deep es h.lines;
}
  where
    only : (es : TreeLines) → AreGood 64 (Some (whole t)) es → AllByRecursion (λ (l : List Name × Entry Leaf). (p : List Name) → GivesOnly (gives_at l.0 l.1 p) (standing (below_entry p (Some (whole t))))) es
    only [] h = tt
    only (e ∷ es) h = (h.0.only, only es h.1)

    deep : (es : TreeLines) → AreGood 64 (Some (whole t)) es → AllByRecursion (λ (l : List Name × Entry Leaf). (p q : List Name) → length p ≡ 64 → gives_at l.0 l.1 p ≡ a_directory → gives_at l.0 l.1 (p ++ q) ≡ standing (below_entry (p ++ q) (Some (whole t)))) es
    deep [] h = tt
    deep (e ∷ es) h = (h.0.deep, deep es h.1)

dir_of : (es : TreeLines) (t : Tree Leaf) → IsMergeOf es t → IsDirOf 64 es t
dir_of es t h = record { lines = good es h.lines h.deep; nothing_else = h.nothing_else }
  where
    good : (es : TreeLines) → AllByRecursion (λ (l : List Name × Entry Leaf). (p : List Name) → GivesOnly (gives_at l.0 l.1 p) (standing (below_entry p (Some (whole t))))) es
        → AllByRecursion (λ (l : List Name × Entry Leaf). (p q : List Name) → length p ≡ 64 → gives_at l.0 l.1 p ≡ a_directory → gives_at l.0 l.1 (p ++ q) ≡ standing (below_entry (p ++ q) (Some (whole t)))) es → AreGood 64 (Some (whole t)) es
    good [] only deep = tt
    good (e ∷ es) only deep = (record { only = only.0; deep = deep.0 }, good es only.1 deep.1)

module _ (B : Blobs) (ls : MergeLines) (es : TreeLines) (held : AreHeld ls) (stand : GiveNodesOf ls es) (apart : NoClash (IsOfMerge B ls es)) where
  are : ArePairs (IsOfMerge B ls es) 64 (paired ls es)
  are = are_paired (IsOfMerge B ls es) ls es stand (λ b h. inr (inl h)) (λ b h. inr (inr h))

  held_paired : AreHeld (given (paired ls es))
  held_paired = subst AreHeld (sym (paired_given ls es stand)) held

  trees_told : (T : Tree NodeValue) → (merged B ls).passes T → (t : Tree Leaf) × IsMergeOf es t × (root (form t) ≡ root T)
  unfolding merged
  trees_told T h =
      let told = passes_told B (IsOfMerge B ls es) apart (λ b q. inl q) 64 [] (paired ls es) are (paired_named ls es stand) held_paired T (subst (λ l. (merged_in B 64 [] l).passes T) (sym (paired_given ls es stand)) h) in
      (told.tree, merge_of es told.tree told.ordered (subst (λ l. IsDirOf 64 l told.tree) (paired_stood ls es stand) told.dir), ap (λ m. digest_of (directory_bytes m)) told.same)

  none_merges : (c : List Name) → (merged B ls).fails (conflict c) → (t : Tree Leaf) → IsMergeOf es t → ⊥
  unfolding merged
  none_merges c h t is =
      conflicts_told B (IsOfMerge B ls es) apart (λ b q. inl q) 64 [] (paired ls es) are (paired_named ls es stand) held_paired c (subst (λ l. (merged_in B 64 [] l).fails (conflict c)) (sym (paired_given ls es stand)) h)
      t (subst (λ l. IsDirOf 64 l t) (sym (paired_stood ls es stand)) (dir_of es t is))

pub merges_tell : (B : Blobs) (ls : MergeLines) → TellsOfMerges B ls
merges_tell B ls = record { trees = λ es held stand apart. trees_told B ls es held stand apart; conflicts = λ es held stand apart. none_merges B ls es held stand apart }
