-- The lines below a directory, name by name, as they are merged.
use Rattle.std.proofs.Common.{◌≡◌, ℕ, zero, suc, ◌-◌, ◌<◌, List, [], ◌∷◌, ◌++◌, map, refl, ap, sym, ◌∙◌, subst, arith}
use Rattle.std.specs.Prelude.{Option, Some, None, is_some, true, false, length, slice_index_or}
use Rattle.std.specs.List.{AllByRecursion}
use Rattle.blob_source.specs.Source.{Blobs, Grows, Telling}
use Rattle.tree.specs.declared.error.TreeError.{TreeError}
use Rattle.tree.specs.declared.error.TreeError.TheVariants.{Absent, BlobMissing, BlobWrong, BlobMalformed, TooDeep, Conflict, Fetch, Memory}
use Rattle.tree.specs.declared.merging.Part.{Part}
use Rattle.tree.specs.Tree.{Name, Tree, Entry, single, whole}
use Rattle.tree.specs.Form.{NodeValue, node_value}
use Rattle.tree.specs.Memo.{Asked, Known, Learns}
use Rattle.tree.specs.Stage.{Stage}
use Rattle.tree.specs.Unfolding.{ExplainsChild, IsFull}
use Rattle.tree.specs.Lookup.{names_in}
use Rattle.tree.specs.Merging.{WithinValue, NodeWithin, MergeLines, MergeFault, IsHeldIn, AreHeld, grouped, first_names, lines_at, counted, CanMeet, opened, lone, node_here, stands_or, entry_merged, each_name, merged_in, merged, ExplainsMerge}
use Rattle.tree.specs.MergeLooks.{StandsOrLooksAt, MetLooksAt, OpenedLooksAt, EachLooksAt, MergeLooksIn, MergeLooksAt}
use Rattle.tree.specs.MergeParts.{part_values, lines_met, MeetingLooksAt}
use Rattle.tree.proofs.StageLaws.{looks_here, looks_next}
use Rattle.tree.proofs.Learning.{learns_then}
use Rattle.tree.proofs.MergeLooking.{LooksOn, looks_at, steady_merged_in, steady_opened}
use Rattle.tree.proofs.MergeStages.{all_lines_at, all_counted, stable_opened, stable_entry, stable_merged_in}
use Rattle.tree.proofs.MergeSteps.{lone_stands, comes_below, fails_below}

-- what the lines of a name come to, where below their path names are left for `deeper` more
abbrev pub at_name : ℕ → List Name → Blobs → Name → MergeLines → Stage MergeFault (Entry NodeValue)
at_name deeper path B n given = entry_merged B (merged_in B deeper (path ++ n ∷ [])) deeper (path ++ n ∷ []) (counted [] given)

abbrev pub look_name : ℕ → List Name → Blobs → Name → MergeLines → Asked → Type 0
look_name deeper path B n given a = StandsOrLooksAt (lone (counted [] given)) (MetLooksAt B (MergeLooksIn B deeper (path ++ n ∷ [])) deeper (counted [] given) a)

abbrev pub GroupsHeld : List (Name × MergeLines) → Type 0
GroupsHeld gs = AllByRecursion (λ (g : Name × MergeLines). AreHeld g.1) gs

pub grouped_held : (ls : MergeLines) → AreHeld ls → GroupsHeld (grouped ls)
grouped_held ls h = each (first_names ls)
  where
    each : (ns : List Name) → GroupsHeld (map (λ n. (n, lines_at n ls)) ns)
    each [] = tt
    each (n ∷ ns) = (all_lines_at (λ g. IsHeldIn g.within g.node) n ls h, each ns)

pub counted_held : (ls : MergeLines) → AreHeld ls → AreHeld (counted [] ls)
counted_held ls h = all_counted (λ g. IsHeldIn g.within g.node) [] ls h

-- ---- all names

pred_of : (d : ℕ) → 0 < d → d ≡ suc (d - 1)
pred_of d some = omega (arith, some)

module _ (d : ℕ) (path : List Name) (ls : MergeLines) (some : 0 < d) (B : Blobs) where
  pub whole_passes : (t : Tree NodeValue) → (each_name (at_name (d - 1) path B) (grouped ls)).passes t → (merged_in B d path ls).passes t
  whole_passes t h = subst (λ k. (merged_in B k path ls).passes t) (sym (pred_of d some)) h

  pub whole_fails : (f : MergeFault) → (each_name (at_name (d - 1) path B) (grouped ls)).fails f → (merged_in B d path ls).fails f
  whole_fails f h = subst (λ k. (merged_in B k path ls).fails f) (sym (pred_of d some)) h

  pub whole_looks : (a : Asked) → EachLooksAt (at_name (d - 1) path B) (look_name (d - 1) path B) (grouped ls) a → MergeLooksIn B d path ls a
  whole_looks a h = subst (λ k. MergeLooksIn B k path ls a) (sym (pred_of d some)) h

-- ---- one name

module _ (k : ℕ) (path : List Name) (n : Name) (given kept : MergeLines) (same : kept ≡ counted [] given) where
  pub name_stands : (x : NodeValue) → lone kept ≡ Some x → (B : Blobs) → (at_name k path B n given).passes (single x)
  name_stands x is B = lone_stands B (merged_in B k (path ++ n ∷ [])) k (path ++ n ∷ []) (counted [] given) x (ap lone (sym same) ∙ is)

  module _ (none : lone kept ≡ None) (child : List Name) (here : child ≡ path ++ n ∷ []) (B : Blobs) where
    is_met : lines_met B k child kept ≡ at_name k path B n given
    is_met = ap (λ p. lines_met B k p kept) here ∙ ap (lines_met B k (path ++ n ∷ [])) same ∙ ap (λ o. stands_or o (lines_met B k (path ++ n ∷ []) (counted [] given))) (sym (ap lone (sym same) ∙ none))

    pub name_meets : (t : Tree NodeValue) → (lines_met B k child kept).passes (whole t) → (later : Blobs) → Grows B later → (at_name k path later n given).passes (whole t)
    name_meets t h later g =
        (stable_entry k (path ++ n ∷ []) (counted [] given) (λ new. stable_merged_in k (path ++ n ∷ []) new)).still B later g (whole t) (subst (λ (s : Stage MergeFault (Entry NodeValue)). s.passes (whole t)) is_met h)

    pub name_fails : (f : MergeFault) → (lines_met B k child kept).fails f → (at_name k path B n given).fails f
    name_fails f h = subst (λ (s : Stage MergeFault (Entry NodeValue)). s.fails f) is_met h

    pub name_looks : (a : Asked) → MeetingLooksAt B k child kept a → look_name k path B n given a
    name_looks a h =
        let there = subst (λ p. MeetingLooksAt B k p (counted [] given) a) here (subst (λ l. MeetingLooksAt B k child l a) same h) in
        subst (λ o. StandsOrLooksAt o (MeetingLooksAt B k (path ++ n ∷ []) (counted [] given) a)) (sym (ap lone (sym same) ∙ none)) there

-- what the lines of a name look at, after what those of earlier names did
module _ (d : ℕ) (path : List Name) (ls : MergeLines) (some : 0 < d) (n : Name) (given kept : MergeLines) (left : List (Name × MergeLines)) (same : kept ≡ counted [] given) (none : lone kept ≡ None) (child : List Name) (here : child ≡ path ++ n ∷ []) where
  pub learns_below : {refused : Type 0} {old mid new : Known} {t0 t1 t2 : Telling} → Grows t1.blobs t2.blobs → LooksOn (at_name (d - 1) path) (look_name (d - 1) path) t1.blobs ((n, given) ∷ left) (grouped ls)
      → Learns (MergeLooksIn t1.blobs d path ls) ⊥ old mid t0 t1 → Learns (MeetingLooksAt t2.blobs (d - 1) child kept) refused mid new t1 t2 → Learns (MergeLooksIn t2.blobs d path ls) refused old new t0 t2
  learns_below {t1 = t1} {t2 = t2} more looking before next =
      learns_then {t1 = t1} (λ a. (steady_merged_in d path ls).still t1.blobs t2.blobs more a)
      (λ a h. whole_looks d path ls some t2.blobs a (looks_at (at_name (d - 1) path) (look_name (d - 1) path) n given left (grouped ls) more looking a (name_looks (d - 1) path n given kept same none child here t2.blobs a h))) (λ n. n) before next

-- ---- lines that meet

module _ (k : ℕ) (path : List Name) (kept : MergeLines) (can : CanMeet k kept) (C D : Blobs) (grows : Grows C D) where
  pub opening_looks : (a : Asked) → OpenedLooksAt C kept a → MeetingLooksAt D k path kept a
  opening_looks a h = (can, looks_here (opened D kept) (OpenedLooksAt D kept) (MergeLooksIn D k path) a ((steady_opened kept).still C D grows a h))

  module _ (new : MergeLines) (read : (opened C kept).passes new) where
    read_later : (opened D kept).passes new
    read_later = (stable_opened kept).still C D grows new read

    pub below_passes : (t : Tree NodeValue) → (merged_in D k path new).passes t → (lines_met D k path kept).passes (whole t)
    below_passes t h = comes_below D (merged_in D k path) k path kept new t can read_later h

    pub below_fails : (f : MergeFault) → (merged_in D k path new).fails f → (lines_met D k path kept).fails f
    below_fails f h = fails_below D (merged_in D k path) k path kept f new can read_later h

    pub below_looks : (a : Asked) → MergeLooksIn D k path new a → MeetingLooksAt D k path kept a
    below_looks a h = (can, looks_next (opened D kept) (OpenedLooksAt D kept) (MergeLooksIn D k path) a new read_later h)

-- ---- what the code asks

pub can_more : (d : ℕ) (ls : MergeLines) → CanMeet d ls → 0 < d
can_more zero ls h = absurd h
can_more (suc d) ls h = omega arith

pub no_lone : (o : Option NodeValue) → is_some o ≡ false → o ≡ None
no_lone None e = refl
no_lone (Some x) e = absurd (let both : true ≡ false = e in cc)

node_alone : (names : List Name) (g : NodeWithin) → is_some (node_here names g) ≡ true → node_here names g ≡ Some g.node
node_alone [] g e = refl
node_alone (n ∷ p) g e = absurd (let both : false ≡ true = e in cc)

module _ {A : Type 0} (W : ℕ → WithinValue) where
  pub lone_some : (parts : List (Part A)) → is_some (lone (part_values W parts)) ≡ true → 0 < length parts
  lone_some [] e = absurd (let both : false ≡ true = e in cc)
  lone_some (p ∷ ps) e = omega arith

  pub lone_first : (parts : List (Part A)) (p : Part A) → is_some (lone (part_values W parts)) ≡ true → p ≡ slice_index_or parts 0 p → lone (part_values W parts) ≡ Some (node_value p.node)
  lone_first [] p e is = absurd (let both : false ≡ true = e in cc)
  lone_first (q ∷ []) p e is = node_alone q.names.items (record { node = node_value q.node; within = W q.line }) e ∙ ap (λ (r : Part A). Some (node_value r.node)) (sym is)
  lone_first (q ∷ r ∷ ps) p e is = absurd (let both : false ≡ true = e in cc)

none_full : (above : Option (List Name)) (path : List Name) → length (names_in above) < 64 → IsFull above path → ⊥
none_full None path few full = elim full [ ]
none_full (Some names) path few full = let most = full.1 in omega (arith, few, most)

-- a path with a name less than 64 has room for one
pub has_room : {A : Type 0} (Fails : MergeFault → Type 0) (above : Option (List Name)) (why : TreeError A) → length (names_in above) < 64 → ExplainsChild above why → ExplainsMerge Fails why
has_room Fails above (Absent path) few h = h
has_room Fails above (BlobMissing e) few h = absurd h
has_room Fails above (BlobWrong e) few h = absurd h
has_room Fails above (BlobMalformed e) few h = absurd h
has_room Fails above (TooDeep path) few h = none_full above path few h
has_room Fails above (Conflict path) few h = absurd h
has_room Fails above Fetch few h = tt
has_room Fails above Memory few h = tt

-- ---- from the root

module _ (B : Blobs) (ls lines : MergeLines) (same : ls ≡ lines) where
  pub root_passes : (t : Tree NodeValue) → (merged_in B 64 [] ls).passes t → (merged B lines).passes t
  unfolding merged
  root_passes t h = subst (λ l. (merged_in B 64 [] l).passes t) same h

  pub root_fails : (f : MergeFault) → (merged_in B 64 [] ls).fails f → (merged B lines).fails f
  unfolding merged
  root_fails f h = subst (λ l. (merged_in B 64 [] l).fails f) same h

  pub root_looks : (a : Asked) → MergeLooksIn B 64 [] ls a → MergeLooksAt B lines a
  unfolding MergeLooksAt
  root_looks a h = subst (λ l. MergeLooksIn B 64 [] l a) same h
