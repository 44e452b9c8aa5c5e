-- Lines of which no target equals another or lies under it merge into their graft, and nothing is looked at.
use Rattle.std.proofs.Common.{◌≡◌, ◌≢◌, ℕ, zero, suc, ◌≤◌, List, [], ◌∷◌, ◌++◌, map, length, refl, ap, sym, ◌∙◌, subst, inl, inr, true, false, cond, arith}
use Rattle.std.specs.Prelude.{◌⊎◌, Option, Some, None}
use Rattle.std.specs.List.{AllByRecursion}
use Rattle.std.specs.Ordering.{eq_by_cmp, is_eq}
use Rattle.std.specs.declared.cmp.Ordering.TheVariants.{Less}
use Rattle.messages.specs.Path.{IsApart}
use Rattle.blob_source.specs.Source.{Blobs}
use Rattle.tree.specs.Tree.{Name, name_cmp, Tree, empty, Entry, single, whole, entry_of, IsBelowAll, IsOrdered, IsOrderedEntry}
use Rattle.tree.specs.Form.{NodeValue}
use Rattle.tree.specs.Graft.{put, graft, with_entry, HaveApartTargets}
use Rattle.tree.proofs.Apart.{Apart, apart_from}
use Rattle.tree.specs.Memo.{Asked}
use Rattle.tree.specs.Stage.{Stage, ◌and_then◌}
use Rattle.tree.specs.Merging.{NodeWithin, MergeLines, MergeFault, nodes_in, under_name, lines_at, first_names, is_repeated, counted, line_opened, opened, CanMeetAt, CanMeet, lone, entry_merged, each_name, merged_in}
use Rattle.tree.specs.MergeLooks.{looks, LineLooksAt, OpenedLooksAt, MetLooksAt, StandsOrLooksAt, EachLooksAt, MergeLooksIn}
use Rattle.tree.proofs.TreeLemmas.{put_entry, entry-put, entry-put_other, ordered-graft, one_or_two, name_itself, apart_cmp}
use Rattle.tree.proofs.OrderLemmas.{IsOrderedAt, entry_ordered}
use Rattle.tree.proofs.SameTree.{same_tree}
use Rattle.tree.proofs.MergeGroups.{Ascends, are_names}
use Rattle.tree.proofs.MergeSteps.{meets}
use Rattle.tree.proofs.MergeStages.{once_opened}

-- ---- the lines at a name

lines_nodes : (n : Name) (ls : MergeLines) → lines_at n (nodes_in ls) ≡ nodes_in (lines_at n ls)
lines_nodes n [] = refl
lines_nodes n (l ∷ ls) = by l.0 (lines_nodes n ls)
  where
    by : (p : List Name) → lines_at n (nodes_in ls) ≡ nodes_in (lines_at n ls) → under_name n p l.1.node (lines_at n (nodes_in ls)) ≡ nodes_in (under_name n p l.1 (lines_at n ls))
    by [] ih = ih
    by (m ∷ p) ih = elim (eq_by_cmp name_cmp n m) as (λ b. cond b ((p, l.1.node) ∷ lines_at n (nodes_in ls)) (lines_at n (nodes_in ls)) ≡ nodes_in (cond b ((p, l.1) ∷ lines_at n ls) (lines_at n ls))) [
      | true ↦ ap (λ r. (p, l.1.node) ∷ r) ih
      | false ↦ ih
    ]

-- no target equals a later one or lies under it, or above it
abbrev pub AreLinesApart : MergeLines → Type 0
AreLinesApart [] = Unit {0}
AreLinesApart (l ∷ ls) = AllByRecursion (λ (k : List Name × NodeWithin). Apart l.0 k.0) ls × AreLinesApart ls

abbrev HasNames : List Name → Type 0
HasNames [] = ⊥
HasNames (n ∷ p) = Unit {0}

abbrev pub AllNamed : MergeLines → Type 0
AllNamed ls = AllByRecursion (λ (l : List Name × NodeWithin). HasNames l.0) ls

abbrev pub AllWithin : ℕ → MergeLines → Type 0
AllWithin k ls = AllByRecursion (λ (l : List Name × NodeWithin). length l.0 ≤ k) ls

module _ (n : Name) where
  -- what holds of each line at a name, by what holds of each line
  at_name : (P Q : List Name → Type 0) → ((p : List Name) → P (n ∷ p) → Q p) → (ls : MergeLines) → AllByRecursion (λ (l : List Name × NodeWithin). P l.0) ls → AllByRecursion (λ (l : List Name × NodeWithin). Q l.0) (lines_at n ls)
  at_name P Q to [] h = tt
  at_name P Q to (l ∷ ls) h = by l.0 h.0 (at_name P Q to ls h.1)
    where
      by : (p : List Name) → P p → AllByRecursion (λ (l : List Name × NodeWithin). Q l.0) (lines_at n ls) → AllByRecursion (λ (l : List Name × NodeWithin). Q l.0) (under_name n p l.1 (lines_at n ls))
      by [] here rest = rest
      by (m ∷ p) here rest = elim (one_or_two n m) [
        | inl same ↦ subst (λ b. AllByRecursion (λ (l : List Name × NodeWithin). Q l.0) (cond b ((p, l.1) ∷ lines_at n ls) (lines_at n ls))) (sym (ap (λ k. eq_by_cmp name_cmp n k) (sym same) ∙ ap is_eq (name_itself n)))
            (to p (subst (λ k. P (k ∷ p)) (sym same) here), rest)
        | inr other ↦ subst (λ b. AllByRecursion (λ (l : List Name × NodeWithin). Q l.0) (cond b ((p, l.1) ∷ lines_at n ls) (lines_at n ls))) (sym (apart_cmp n m other)) rest
      ]

  apart_at : (ls : MergeLines) → AreLinesApart ls → AreLinesApart (lines_at n ls)
  apart_at [] h = tt
  apart_at (l ∷ ls) h = by l.0 h.0 (apart_at ls h.1)
    where
      by : (p : List Name) → AllByRecursion (λ (k : List Name × NodeWithin). Apart p k.0) ls → AreLinesApart (lines_at n ls) → AreLinesApart (under_name n p l.1 (lines_at n ls))
      by [] here rest = rest
      by (m ∷ p) here rest = elim (one_or_two n m) [
        | inl same ↦ subst (λ b. AreLinesApart (cond b ((p, l.1) ∷ lines_at n ls) (lines_at n ls))) (sym (ap (λ k. eq_by_cmp name_cmp n k) (sym same) ∙ ap is_eq (name_itself n)))
            (at_name (Apart (m ∷ p)) (Apart p) (λ q a. a (sym same)) ls here, rest)
        | inr other ↦ subst (λ b. AreLinesApart (cond b ((p, l.1) ∷ lines_at n ls) (lines_at n ls))) (sym (apart_cmp n m other)) rest
      ]

  shorter_at : (k : ℕ) (ls : MergeLines) → AllWithin (suc k) ls → AllWithin k (lines_at n ls)
  shorter_at k ls h = at_name (λ p. length p ≤ suc k) (λ p. length p ≤ k) (λ p le. omega (arith, le)) ls h

-- ---- the graft, name by name

abbrev put_all : List (List Name × NodeValue) → Option (Entry NodeValue)
put_all [] = None
put_all (l ∷ ls) = Some (put_entry l.0 l.1 (put_all ls))

under_graft : (n : Name) (ls : List (List Name × NodeValue)) → entry_of n (graft ls) ≡ put_all (lines_at n ls)
under_graft n [] = refl
under_graft n (l ∷ ls) = by l.0 (under_graft n ls)
  where
    by : (p : List Name) → entry_of n (graft ls) ≡ put_all (lines_at n ls) → entry_of n (put p l.1 (graft ls)) ≡ put_all (under_name n p l.1 (lines_at n ls))
    by [] ih = ih
    by (m ∷ p) ih = elim (one_or_two n m) [
      | inl same ↦ ap (λ k. entry_of k (put (m ∷ p) l.1 (graft ls))) same ∙ entry-put m p l.1 (graft ls) (ordered-graft ls) ∙ ap (λ k. Some (put_entry p l.1 (entry_of k (graft ls)))) (sym same) ∙ ap (λ o. Some (put_entry p l.1 o)) ih
          ∙ sym (ap (λ b. put_all (cond b ((p, l.1) ∷ lines_at n ls) (lines_at n ls))) (ap (λ k. eq_by_cmp name_cmp n k) (sym same) ∙ ap is_eq (name_itself n)))
      | inr other ↦ entry-put_other n m p l.1 (graft ls) other ∙ ih ∙ sym (ap (λ b. put_all (cond b ((p, l.1) ∷ lines_at n ls) (lines_at n ls))) (apart_cmp n m other))
    ]

abbrev entry_made : MergeLines → Entry NodeValue
entry_made [] = whole empty
entry_made (l ∷ us) = put_entry l.0 l.1.node (put_all (nodes_in us))

made_is : (us : MergeLines) → us ≢ [] → put_all (nodes_in us) ≡ Some (entry_made us)
made_is [] some = absurd (some refl)
made_is (l ∷ us) some = refl

-- lines that go on below their name
made_whole : (us : MergeLines) → AllNamed us → us ≢ [] → put_all (nodes_in us) ≡ Some (whole (graft (nodes_in us)))
made_whole [] named some = absurd (some refl)
made_whole (l ∷ []) named some = by l.0 named.0
  where
    by : (p : List Name) → HasNames p → ◌≡◌ {A = Option (Entry NodeValue)} (Some (put_entry p l.1.node None)) (Some (whole (put p l.1.node empty)))
    by [] h = elim h [ ]
    by (n ∷ p) h = refl
made_whole (l ∷ k ∷ us) named some =
    ap (λ o. Some (put_entry l.0 l.1.node o)) (made_whole (k ∷ us) named.1 (λ e. cc)) ∙ by l.0 named.0
  where
    by : (p : List Name) → HasNames p → ◌≡◌ {A = Option (Entry NodeValue)} (Some (put_entry p l.1.node (Some (whole (graft (nodes_in (k ∷ us))))))) (Some (whole (put p l.1.node (graft (nodes_in (k ∷ us))))))
    by [] h = elim h [ ]
    by (n ∷ p) h = refl

-- ---- one path

counted_named : (earlier us : MergeLines) → AllNamed us → counted earlier us ≡ us
counted_named earlier [] named = refl
counted_named earlier (l ∷ us) named = by l.0 named.0 ∙ ap (λ r. l ∷ r) (counted_named (earlier ++ l ∷ []) us named.1)
  where
    by : (p : List Name) → HasNames p → cond (is_repeated earlier p l.1) (counted earlier us) (l ∷ counted (earlier ++ l ∷ []) us) ≡ l ∷ counted (earlier ++ l ∷ []) us
    by [] h = elim h [ ]
    by (n ∷ p) h = refl

lone_named : (us : MergeLines) → AllNamed us → lone us ≡ None
lone_named [] named = refl
lone_named (l ∷ []) named = by l.0 named.0
  where
    by : (p : List Name) → HasNames p → lone ((p, l.1) ∷ []) ≡ None
    by [] h = elim h [ ]
    by (n ∷ p) h = refl
lone_named (l ∷ k ∷ us) named = refl

meet_named : (us : MergeLines) → AllNamed us → AllByRecursion (λ (l : List Name × NodeWithin). CanMeetAt l.0 l.1) us
meet_named [] named = tt
meet_named (l ∷ us) named = (by l.0 named.0, meet_named us named.1)
  where
    by : (p : List Name) → HasNames p → CanMeetAt p l.1
    by [] h = elim h [ ]
    by (n ∷ p) h = tt

opened_named : (B : Blobs) (us : MergeLines) → AllNamed us → (opened B us).passes us
unfolding ◌and_then◌
opened_named B [] named = refl
opened_named B (l ∷ us) named = by l.0 named.0 (opened_named B us named.1)
  where
    by : (p : List Name) → HasNames p → (opened B us).passes us → (opened B ((p, l.1) ∷ us)).passes ((p, l.1) ∷ us)
    by [] h rest = elim h [ ]
    by (n ∷ p) h rest = ((n ∷ p, l.1) ∷ [], refl, (us, rest, refl))

can_meet : (k : ℕ) (l : List Name × NodeWithin) (us : MergeLines) → AllNamed (l ∷ us) → AllWithin k (l ∷ us) → CanMeet k (l ∷ us)
can_meet zero l us named within = absurd (by l.0 named.0 within.0)
  where
    by : (p : List Name) → HasNames p → length p ≤ 0 → ⊥
    by [] h le = h
    by (n ∷ p) h le = omega (arith, le)
can_meet (suc k) l us named within = meet_named (l ∷ us) named

-- one line with its target here, or lines that go on
data Kind (us : MergeLines) : Type 0 where
  alone : (g : NodeWithin) → us ≡ ([], g) ∷ [] → Kind us
  further : AllNamed us → us ≢ [] → Kind us

kind : (us : MergeLines) → us ≢ [] → AreLinesApart us → Kind us
kind [] some apart = absurd (some refl)
kind (l ∷ us) some apart = by l.0 refl
  where
    none : (ks : MergeLines) → AllByRecursion (λ (k : List Name × NodeWithin). Apart [] k.0) ks → ks ≡ []
    none [] h = refl
    none (k ∷ ks) h = elim (h.0) [ ]

    named : (n : Name) (p : List Name) (ks : MergeLines) → AllByRecursion (λ (k : List Name × NodeWithin). Apart (n ∷ p) k.0) ks → AllNamed ks
    named n p [] h = tt
    named n p (k ∷ ks) h = (at k.0 h.0, named n p ks h.1)
      where
        at : (q : List Name) → Apart (n ∷ p) q → HasNames q
        at [] a = a
        at (m ∷ q) a = tt

    by : (p : List Name) → l.0 ≡ p → Kind (l ∷ us)
    by [] is = alone l.1 (λ i. (is i, l.1) ∷ none us (subst (λ q. AllByRecursion (λ (k : List Name × NodeWithin). Apart q k.0) us) is apart.0) i)
    by (n ∷ p) is = further (subst HasNames (sym is) tt, named n p us (subst (λ q. AllByRecursion (λ (k : List Name × NodeWithin). Apart q k.0) us) is apart.0)) (λ e. cc)

module _ (B : Blobs) where
  entry_passes : (k : ℕ) (path : List Name) (us : MergeLines) → us ≢ [] → AreLinesApart us → AllWithin k us → (AllNamed us → (merged_in B k path us).passes (graft (nodes_in us)))
      → (entry_merged B (merged_in B k path) k path (counted [] us)).passes (entry_made us)
  entry_passes k path us some apart within below = by us some within below (kind us some apart)
    where
      by : (us : MergeLines) → us ≢ [] → AllWithin k us → (AllNamed us → (merged_in B k path us).passes (graft (nodes_in us))) → Kind us → (entry_merged B (merged_in B k path) k path (counted [] us)).passes (entry_made us)
      by us some within below (alone g is) = subst (λ vs. (entry_merged B (merged_in B k path) k path (counted [] vs)).passes (entry_made vs)) (sym is) refl
      by [] some within below (further named more) = absurd (some refl)
      by (l ∷ us) some within below (further named more) =
          let same = counted_named [] (l ∷ us) named in
          let made : entry_made (l ∷ us) ≡ whole (graft (nodes_in (l ∷ us))) = (let both : ◌≡◌ {A = Option (Entry NodeValue)} (Some (entry_made (l ∷ us))) (Some (whole (graft (nodes_in (l ∷ us))))) = sym (made_is (l ∷ us) some) ∙ made_whole (l ∷ us) named some in cc) in
          subst (λ vs. (entry_merged B (merged_in B k path) k path vs).passes (entry_made (l ∷ us))) (sym same)
          (subst (λ e. (entry_merged B (merged_in B k path) k path (l ∷ us)).passes e) (sym made)
          (meets B (merged_in B k path) k path (l ∷ us) (lone_named (l ∷ us) named) (l ∷ us) (graft (nodes_in (l ∷ us))) (can_meet k l us named within) (opened_named B (l ∷ us) named) (below named)))

  -- ---- a directory

  abbrev built : MergeLines → List Name → Tree NodeValue
  built ls [] = empty
  built ls (n ∷ ns) = with_entry n (entry_made (lines_at n ls)) (built ls ns)

  entry-with : (k n : Name) (e : Entry NodeValue) (rest : Tree NodeValue) → entry_of k (with_entry n e rest) ≡ cond (eq_by_cmp name_cmp k n) (Some e) (entry_of k rest)
  entry-with k n (single x) rest = refl
  entry-with k n (whole t) rest = refl

  built_at : (ls : MergeLines) (k : Name) (ns : List Name) → AllByRecursion (λ m. lines_at m ls ≢ []) ns
      → (AllByRecursion (λ m. m ≢ k) ns × (entry_of k (built ls ns) ≡ None)) ⊎ ((lines_at k ls ≢ []) × (entry_of k (built ls ns) ≡ Some (entry_made (lines_at k ls))))
  built_at ls k [] h = inl (tt, refl)
  built_at ls k (n ∷ ns) h = elim (one_or_two k n) [
    | inl same ↦ inr (
      (λ e. h.0 (ap (λ j. lines_at j ls) (sym same) ∙ e)),
      entry-with k n (entry_made (lines_at n ls)) (built ls ns) ∙ ap (λ b. cond b (Some (entry_made (lines_at n ls))) (entry_of k (built ls ns))) (ap (λ j. eq_by_cmp name_cmp j n) same ∙ ap is_eq (name_itself n)) ∙ ap (λ j. Some (entry_made (lines_at j ls))) (sym same),
    )
    | inr other ↦
        let here = entry-with k n (entry_made (lines_at n ls)) (built ls ns) ∙ ap (λ b. cond b (Some (entry_made (lines_at n ls))) (entry_of k (built ls ns))) (apart_cmp k n other) in
        elim (built_at ls k ns h.1) [
          | inl r ↦ inl (((λ e. other (sym e)), r.0), here ∙ r.1)
          | inr r ↦ inr (r.0, here ∙ r.1)
        ]
  ]

  below_built : (ls : MergeLines) (n : Name) (ns : List Name) → AllByRecursion (λ m. name_cmp n m ≡ Less) ns → IsBelowAll n (built ls ns)
  below_built ls n [] h = tt
  below_built ls n (m ∷ ns) h = by (entry_made (lines_at m ls)) h.0 (below_built ls n ns h.1)
    where
      by : (e : Entry NodeValue) → name_cmp n m ≡ Less → IsBelowAll n (built ls ns) → IsBelowAll n (with_entry m e (built ls ns))
      by (single x) less rest = (less, rest)
      by (whole t) less rest = (less, rest)

  made_ordered : (ls : MergeLines) (n : Name) → lines_at n ls ≢ [] → IsOrderedEntry (entry_made (lines_at n ls))
  made_ordered ls n some =
      let is : entry_of n (graft (nodes_in ls)) ≡ Some (entry_made (lines_at n ls)) = under_graft n (nodes_in ls) ∙ ap put_all (lines_nodes n ls) ∙ made_is (lines_at n ls) some in
      subst IsOrderedAt is (entry_ordered n (graft (nodes_in ls)) (ordered-graft (nodes_in ls)))

  built_ordered : (ls : MergeLines) (ns : List Name) → Ascends ns → AllByRecursion (λ m. lines_at m ls ≢ []) ns → IsOrdered (built ls ns)
  built_ordered ls [] up h = tt
  built_ordered ls (n ∷ ns) up h = by (entry_made (lines_at n ls)) (made_ordered ls n h.0) (below_built ls n ns up.0) (built_ordered ls ns up.1 h.1)
    where
      by : (e : Entry NodeValue) → IsOrderedEntry e → IsBelowAll n (built ls ns) → IsOrdered (built ls ns) → IsOrdered (with_entry n e (built ls ns))
      by (single x) own below rest = (below, rest)
      by (whole t) own below rest = (below, own, rest)

  built_is : (ls : MergeLines) → built ls (first_names ls) ≡ graft (nodes_in ls)
  built_is ls =
      let names = are_names ls in
      same_tree (built ls (first_names ls)) (graft (nodes_in ls)) (built_ordered ls (first_names ls) names.ascends names.present) (ordered-graft (nodes_in ls)) (λ k.
      let under = under_graft k (nodes_in ls) ∙ ap put_all (lines_nodes k ls) in
      elim (built_at ls k (first_names ls) names.present) [
        | inl r ↦ r.1 ∙ sym (under ∙ ap (λ us. put_all (nodes_in us)) (names.complete k r.0))
        | inr r ↦ r.1 ∙ sym (under ∙ made_is (lines_at k ls) r.0)
      ])

  each_passes : (at : Name → MergeLines → Stage MergeFault (Entry NodeValue)) (ls : MergeLines) (ns : List Name) → AllByRecursion (λ m. lines_at m ls ≢ []) ns
      → ((n : Name) → lines_at n ls ≢ [] → (at n (lines_at n ls)).passes (entry_made (lines_at n ls))) → (each_name at (map (λ n. (n, lines_at n ls)) ns)).passes (built ls ns)
  unfolding ◌and_then◌
  each_passes at ls [] h each = refl
  each_passes at ls (n ∷ ns) h each = (entry_made (lines_at n ls), each n h.0, (built ls ns, each_passes at ls ns h.1 each, refl))

  no_lines : (ls : MergeLines) → AllNamed ls → AllWithin 0 ls → ls ≡ []
  no_lines [] named within = refl
  no_lines (l ∷ ls) named within = absurd (by l.0 named.0 within.0)
    where
      by : (p : List Name) → HasNames p → length p ≤ 0 → ⊥
      by [] h le = h
      by (n ∷ p) h le = omega (arith, le)

  pub graft_passes : (k : ℕ) (path : List Name) (ls : MergeLines) → AllNamed ls → AreLinesApart ls → AllWithin k ls → (merged_in B k path ls).passes (graft (nodes_in ls))
  graft_passes zero path ls named apart within = subst (λ vs. (merged_in B zero path vs).passes (graft (nodes_in vs))) (sym (no_lines ls named within)) refl
  graft_passes (suc k) path ls named apart within =
      subst (merged_in B (suc k) path ls).passes (built_is ls)
      (each_passes (λ n given. entry_merged B (merged_in B k (path ++ n ∷ [])) k (path ++ n ∷ []) (counted [] given)) ls (first_names ls) (are_names ls).present (λ n some.
      entry_passes k (path ++ n ∷ []) (lines_at n ls) some (apart_at n ls apart) (shorter_at n k ls within) (λ here. graft_passes k (path ++ n ∷ []) (lines_at n ls) here (apart_at n ls apart) (shorter_at n k ls within))))

  -- ---- nothing is looked at

  opened_nothing : (us : MergeLines) → AllNamed us → (a : Asked) → OpenedLooksAt B us a → ⊥
  unfolding looks
  opened_nothing [] named a h = h
  opened_nothing (l ∷ us) named a h = by l.0 named.0 (opened_nothing us named.1 a) h
    where
      by : (p : List Name) → HasNames p → (OpenedLooksAt B us a → ⊥) → looks (line_opened B p l.1) (LineLooksAt p l.1) (λ _. OpenedLooksAt B us) a → ⊥
      by [] has rest at = has
      by (n ∷ p) has rest (inl at) = at
      by (n ∷ p) has rest (inr at) = rest at.2

  met_nothing : (k : ℕ) (path : List Name) (us : MergeLines) → AllNamed us → (a : Asked) → (MergeLooksIn B k path us a → ⊥) → MetLooksAt B (MergeLooksIn B k path) k us a → ⊥
  unfolding looks
  met_nothing k path us named a below (can, inl h) = opened_nothing us named a h
  met_nothing k path us named a below (can, inr h) =
      below (subst (λ l. MergeLooksIn B k path l a) ((once_opened B us).value h.0 us h.1 (opened_named B us named)) h.2)

  entry_nothing : (k : ℕ) (path : List Name) (us : MergeLines) → us ≢ [] → AreLinesApart us → (a : Asked) → (AllNamed us → MergeLooksIn B k path us a → ⊥)
      → StandsOrLooksAt (lone (counted [] us)) (MetLooksAt B (MergeLooksIn B k path) k (counted [] us) a) → ⊥
  entry_nothing k path us some apart a below = by (kind us some apart)
    where
      by : Kind us → StandsOrLooksAt (lone (counted [] us)) (MetLooksAt B (MergeLooksIn B k path) k (counted [] us) a) → ⊥
      by (alone g is) h = subst (λ vs. StandsOrLooksAt (lone (counted [] vs)) (MetLooksAt B (MergeLooksIn B k path) k (counted [] vs) a)) is h
      by (further named more) h =
          let same = counted_named [] us named in
          met_nothing k path us named a (below named)
          (subst (λ o. StandsOrLooksAt o (MetLooksAt B (MergeLooksIn B k path) k us a)) (lone_named us named)
          (subst (λ vs. StandsOrLooksAt (lone vs) (MetLooksAt B (MergeLooksIn B k path) k vs a)) same h))

  each_nothing : (at : Name → MergeLines → Stage MergeFault (Entry NodeValue)) (look : Name → MergeLines → Asked → Type 0) (ls : MergeLines) (ns : List Name) → AllByRecursion (λ m. lines_at m ls ≢ []) ns
      → (a : Asked) → ((n : Name) → lines_at n ls ≢ [] → look n (lines_at n ls) a → ⊥) → EachLooksAt at look (map (λ n. (n, lines_at n ls)) ns) a → ⊥
  unfolding looks
  each_nothing at look ls [] h a none is = is
  each_nothing at look ls (n ∷ ns) h a none (inl is) = none n h.0 is
  each_nothing at look ls (n ∷ ns) h a none (inr is) = each_nothing at look ls ns h.1 a none is.2

  pub looks_at_nothing : (k : ℕ) (path : List Name) (ls : MergeLines) → AreLinesApart ls → (a : Asked) → MergeLooksIn B k path ls a → ⊥
  looks_at_nothing zero path ls apart a h = h
  looks_at_nothing (suc k) path ls apart a h =
      each_nothing (λ n given. entry_merged B (merged_in B k (path ++ n ∷ [])) k (path ++ n ∷ []) (counted [] given))
      (λ n given b. StandsOrLooksAt (lone (counted [] given)) (MetLooksAt B (MergeLooksIn B k (path ++ n ∷ [])) k (counted [] given) b))
      ls (first_names ls) (are_names ls).present a (λ n some is.
      entry_nothing k (path ++ n ∷ []) (lines_at n ls) some (apart_at n ls apart) a (λ named. looks_at_nothing k (path ++ n ∷ []) (lines_at n ls) (apart_at n ls apart) a) is) h

-- ---- by the rule of targets

pub all_named : (ls : MergeLines) → HaveApartTargets ls → AllNamed ls
all_named [] h = tt
all_named (l ∷ ls) h = (by l.0 h.0, all_named ls h.2)
  where
    by : (p : List Name) → p ≢ [] → HasNames p
    by [] some = absurd (some refl)
    by (n ∷ p) some = tt

pub are_apart : (ls : MergeLines) → HaveApartTargets ls → AreLinesApart ls
are_apart [] h = tt
are_apart (l ∷ ls) h = (each ls h.1, are_apart ls h.2)
  where
    each : (ks : MergeLines) → AllByRecursion (λ (k : List Name × NodeWithin). IsApart l.0 k.0) ks → AllByRecursion (λ (k : List Name × NodeWithin). Apart l.0 k.0) ks
    each [] h = tt
    each (k ∷ ks) h = (apart_from l.0 k.0 h.0, each ks h.1)
