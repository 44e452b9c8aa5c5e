-- Merging by digests, among blobs without a clash: what it comes to is the form of what the lines merge into, and a conflict
-- says that they merge into nothing.
use Rattle.std.proofs.Common.{◌≡◌, ◌≢◌, ℕ, zero, suc, ◌<◌, List, [], ◌∷◌, ◌++◌, length, refl, ap, sym, ◌∙◌, subst, inl, inr, Bool, true, false, cond, arith}
use Rattle.std.specs.Prelude.{◌⊎◌, Option, Some, None, Contains, bytes_eq}
use Rattle.std.specs.List.{AllByRecursion}
use Rattle.std.specs.Ordering.{eq_by_cmp, is_eq}
use Rattle.blob_digest.specs.Digest.{DigestValue, digest_of, NoClash}
use Rattle.messages.specs.Tree.{same_digest}
use Rattle.tree.specs.Tree.{Name, name_cmp, Tree, Entry, single, whole, entry_of, below_entry, Leaf, file, link, IsOrderedEntry, Standing, nothing, a_directory, standing, stands_at}
use Rattle.tree.specs.Form.{form, entry_node, root}
use Rattle.tree.specs.Merge.{gives_at, GivesOnly, TreeLines, same_bit}
use Rattle.tree.specs.Merging.{under_name, lines_at, same_node}
use Rattle.tree.proofs.TreeLemmas.{one_or_two, name_itself, apart_cmp}
use Rattle.tree.proofs.MergeHeld.{all_at}
use Rattle.std.proofs.Common.{◌==◌}
use Rattle.std.specs.Cmp.Lexicographic.{bytes_decides}
use Rattle.std.proofs.lemmas.Bool.{eqb-true}
use Rattle.messages.proofs.Choices.{and_first, and_second}
use Rattle.tree.specs.MergeAgrees.{IsBlobOfOne}
use Rattle.tree.proofs.Listings.{all_join}
use Rattle.tree.proofs.SameRoot.{same_root}

-- ---- what one line gives, among others

-- Below a path paths may have so many names. A line that is seen from there gives at a path nothing or what stands there; and
-- where it gives a directory at the last, all that stands below.
pub record IsGood (k : ℕ) (o : Option (Entry Leaf)) (p : List Name) (e : Entry Leaf) : Type 0 where
  pub only : (q : List Name) → GivesOnly (gives_at p e q) (standing (below_entry q o))
  pub deep : (a q : List Name) → length a ≡ k → gives_at p e a ≡ a_directory → gives_at p e (a ++ q) ≡ standing (below_entry (a ++ q) o)

abbrev pub AreGood : ℕ → Option (Entry Leaf) → TreeLines → Type 0
AreGood k o es = AllByRecursion (λ (l : List Name × Entry Leaf). IsGood k o l.0 l.1) es

abbrev pub GiveNothing : List Name → TreeLines → Type 0
GiveNothing q es = AllByRecursion (λ (l : List Name × Entry Leaf). gives_at l.0 l.1 q ≡ nothing) es

-- what lines come to at a path
pub record IsPathOf (k : ℕ) (es : TreeLines) (o : Option (Entry Leaf)) : Type 0 where
  pub lines : AreGood k o es
  pub nothing_else : (q : List Name) → GiveNothing q es → standing (below_entry q o) ≡ nothing

-- and in a directory
pub record IsDirOf (k : ℕ) (es : TreeLines) (t : Tree Leaf) : Type 0 where
  pub lines : AreGood k (Some (whole t)) es
  pub nothing_else : (n : Name) (q : List Name) → GiveNothing (n ∷ q) es → stands_at t (n ∷ q) ≡ nothing

abbrev pub HasNames : List Name → Type 0
HasNames [] = ⊥
HasNames (n ∷ p) = Unit {0}

abbrev pub AllNamed : {X : Type 0} → List (List Name × X) → Type 0
AllNamed {X} ls = AllByRecursion (λ (l : List Name × X). HasNames l.0) ls

pub same_test : (n : Name) → eq_by_cmp name_cmp n n ≡ true
same_test n = ap is_eq (name_itself n)

-- ---- what holds of each line at a name

module _ {X : Type 0} where
  head_at : (n : Name) (p : List Name) (x : X) (rest : List (List Name × X)) → under_name n (n ∷ p) x rest ≡ (p, x) ∷ rest
  head_at n p x rest = ap (λ b. cond b ((p, x) ∷ rest) rest) (same_test n)

  other_at : (n m : Name) (p : List Name) (x : X) (rest : List (List Name × X)) → (n ≡ m → ⊥) → under_name n (m ∷ p) x rest ≡ rest
  other_at n m p x rest other = ap (λ b. cond b ((p, x) ∷ rest) rest) (apart_cmp n m other)

  pub all_at_name : (n : Name) (P Q : List Name → X → Type 0) → ((p : List Name) (x : X) → P (n ∷ p) x → Q p x) → (ls : List (List Name × X)) → AllByRecursion (λ (l : List Name × X). P l.0 l.1) ls
      → AllByRecursion (λ (l : List Name × X). Q l.0 l.1) (lines_at n ls)
  all_at_name n P Q to [] h = tt
  all_at_name n P Q to (l ∷ ls) h = by l.0 h.0 (all_at_name n P Q to ls h.1)
    where
      by : (p : List Name) → P p l.1 → AllByRecursion (λ (k : List Name × X). Q k.0 k.1) (lines_at n ls) → AllByRecursion (λ (k : List Name × X). Q k.0 k.1) (under_name n p l.1 (lines_at n ls))
      by [] here rest = rest
      by (m ∷ p) here rest = elim (one_or_two n m) [
        | inl same ↦ subst (λ j. AllByRecursion (λ (k : List Name × X). Q k.0 k.1) (under_name n (j ∷ p) l.1 (lines_at n ls))) same
            (subst (AllByRecursion (λ (k : List Name × X). Q k.0 k.1)) (sym (head_at n p l.1 (lines_at n ls))) (to p l.1 (subst (λ j. P (j ∷ p) l.1) (sym same) here), rest))
        | inr other ↦ subst (AllByRecursion (λ (k : List Name × X). Q k.0 k.1)) (sym (other_at n m p l.1 (lines_at n ls) other)) rest
      ]

  -- and back, for lines that have a name
  pub all_from_names : (P : List Name → X → Type 0) (Q : Name → List Name → X → Type 0) → ((n : Name) (p : List Name) (x : X) → Q n p x → P (n ∷ p) x) → (ls : List (List Name × X)) → AllNamed ls
      → ((n : Name) → AllByRecursion (λ (l : List Name × X). Q n l.0 l.1) (lines_at n ls)) → AllByRecursion (λ (l : List Name × X). P l.0 l.1) ls
  all_from_names P Q to [] named h = tt
  all_from_names P Q to (l ∷ ls) named h = (here l.0 named.0 h, all_from_names P Q to ls named.1 (λ n. rest n l.0 (h n)))
    where
      here : (p : List Name) → HasNames p → ((n : Name) → AllByRecursion (λ (k : List Name × X). Q n k.0 k.1) (under_name n p l.1 (lines_at n ls))) → P p l.1
      here [] hn h = elim hn [ ]
      here (n ∷ p) named h = to n p l.1 (subst (AllByRecursion (λ (k : List Name × X). Q n k.0 k.1)) (head_at n p l.1 (lines_at n ls)) (h n)).0

      rest : (n : Name) (p : List Name) → AllByRecursion (λ (k : List Name × X). Q n k.0 k.1) (under_name n p l.1 (lines_at n ls)) → AllByRecursion (λ (k : List Name × X). Q n k.0 k.1) (lines_at n ls)
      rest n [] h = h
      rest n (m ∷ p) h = elim (one_or_two n m) [
        | inl same ↦ (subst (AllByRecursion (λ (k : List Name × X). Q n k.0 k.1)) (head_at n p l.1 (lines_at n ls)) (subst (λ j. AllByRecursion (λ (k : List Name × X). Q n k.0 k.1) (under_name n (j ∷ p) l.1 (lines_at n ls))) (sym same) h)).1
        | inr other ↦ subst (AllByRecursion (λ (k : List Name × X). Q n k.0 k.1)) (other_at n m p l.1 (lines_at n ls) other) h
      ]

-- ---- from a directory to one name, and back

pub gives_own : (n : Name) (p : List Name) (e : Entry Leaf) (q : List Name) → gives_at (n ∷ p) e (n ∷ q) ≡ gives_at p e q
gives_own n p e q = ap (λ b. cond b (gives_at p e q) nothing) (same_test n)

pub gives_other : (n m : Name) (p : List Name) (e : Entry Leaf) (q : List Name) → (m ≡ n → ⊥) → gives_at (n ∷ p) e (m ∷ q) ≡ nothing
gives_other n m p e q other = ap (λ b. cond b (gives_at p e q) nothing) (apart_cmp m n other)

good_below : (k : ℕ) (t : Tree Leaf) (n : Name) (p : List Name) (e : Entry Leaf) → IsGood (suc k) (Some (whole t)) (n ∷ p) e → IsGood k (entry_of n t) p e
good_below k t n p e h = record {
  only = λ q. subst (λ s. GivesOnly s (standing (below_entry q (entry_of n t)))) (gives_own n p e q) (h.only (n ∷ q));
  deep = λ a q names dir. sym (gives_own n p e (a ++ q)) ∙ h.deep (n ∷ a) q (omega (arith, names)) (gives_own n p e a ∙ dir);
}

good_above : (k : ℕ) (t : Tree Leaf) (n : Name) (p : List Name) (e : Entry Leaf) → IsGood k (entry_of n t) p e → IsGood (suc k) (Some (whole t)) (n ∷ p) e
good_above k t n p e h = record { only = only; deep = deep }
  where
    only : (q : List Name) → GivesOnly (gives_at (n ∷ p) e q) (stands_at t q)
    only [] = inr refl
    only (m ∷ q) = elim (one_or_two m n) [
      | inl same ↦ subst (λ j. GivesOnly (gives_at (n ∷ p) e (j ∷ q)) (stands_at t (j ∷ q))) (sym same) (subst (λ s. GivesOnly s (stands_at t (n ∷ q))) (sym (gives_own n p e q)) (h.only q))
      | inr other ↦ inl (gives_other n m p e q other)
    ]

    deep : (a q : List Name) → length a ≡ suc k → gives_at (n ∷ p) e a ≡ a_directory → gives_at (n ∷ p) e (a ++ q) ≡ stands_at t (a ++ q)
    deep [] q names dir = absurd (omega (arith, names))
    deep (m ∷ a) q names dir = elim (one_or_two m n) [
      | inl same ↦ subst (λ j. gives_at (n ∷ p) e (j ∷ (a ++ q)) ≡ stands_at t (j ∷ (a ++ q))) (sym same)
          (gives_own n p e (a ++ q) ∙ h.deep a q (omega (arith, names)) (sym (gives_own n p e a) ∙ ap (λ j. gives_at (n ∷ p) e (j ∷ a)) (sym same) ∙ dir))
      | inr other ↦ absurd (let both : ◌≡◌ {A = Standing Leaf} nothing a_directory = sym (gives_other n m p e a other) ∙ dir in cc)
    ]

nothing_below : (n : Name) (q : List Name) (es : TreeLines) → GiveNothing (n ∷ q) es → GiveNothing q (lines_at n es)
nothing_below n q es h = all_at_name n (λ p e. gives_at p e (n ∷ q) ≡ nothing) (λ p e. gives_at p e q ≡ nothing) (λ p e none. sym (gives_own n p e q) ∙ none) es h

nothing_above : (n : Name) (q : List Name) (es : TreeLines) → AllNamed es → GiveNothing q (lines_at n es) → GiveNothing (n ∷ q) es
nothing_above n q [] named h = tt
nothing_above n q (l ∷ es) named h = by l.0 named.0 (nothing_above n q es named.1) h
  where
    by : (p : List Name) → HasNames p → (GiveNothing q (lines_at n es) → GiveNothing (n ∷ q) es) → GiveNothing q (under_name n p l.1 (lines_at n es)) → (gives_at p l.1 (n ∷ q) ≡ nothing) × GiveNothing (n ∷ q) es
    by [] hn rest h = elim hn [ ]
    by (m ∷ p) some rest h = elim (one_or_two n m) [
      | inl same ↦
          let parts = subst (GiveNothing q) (head_at n p l.1 (lines_at n es)) (subst (λ j. GiveNothing q (under_name n (j ∷ p) l.1 (lines_at n es))) (sym same) h) in
          (ap (λ j. gives_at (j ∷ p) l.1 (n ∷ q)) (sym same) ∙ gives_own n p l.1 q ∙ parts.0, rest parts.1)
      | inr other ↦ (gives_other m n p l.1 q other, rest (subst (GiveNothing q) (other_at n m p l.1 (lines_at n es) other) h))
    ]

pub dir_splits : (k : ℕ) (es : TreeLines) (t : Tree Leaf) → AllNamed es → IsDirOf (suc k) es t → (n : Name) → IsPathOf k (lines_at n es) (entry_of n t)
dir_splits k es t named h n = record {
  lines = all_at_name n (IsGood (suc k) (Some (whole t))) (IsGood k (entry_of n t)) (good_below k t n) es h.lines;
  nothing_else = λ q none. h.nothing_else n q (nothing_above n q es named none);
}

pub dir_joins : (k : ℕ) (es : TreeLines) (t : Tree Leaf) → AllNamed es → ((n : Name) → IsPathOf k (lines_at n es) (entry_of n t)) → IsDirOf (suc k) es t
dir_joins k es t named h = record {
  lines = all_from_names (IsGood (suc k) (Some (whole t))) (λ n. IsGood k (entry_of n t)) (good_above k t) es named (λ n. (h n).lines);
  nothing_else = λ n q none. (h n).nothing_else q (nothing_below n q es none);
}

-- ---- directories that are opened

-- lines for the entries of a tree, each at its name
pub record AreEntries (u : Tree Leaf) (cs : TreeLines) : Type 0 where
  pub sound : AllByRecursion (λ (c : List Name × Entry Leaf). (n : Name) × (c.0 ≡ n ∷ []) × (entry_of n u ≡ Some c.1)) cs
  pub complete : (n : Name) (e : Entry Leaf) → entry_of n u ≡ Some e → Contains cs (n ∷ [], e)

pub none_within : (q : List Name) → below_entry {L = Leaf} q None ≡ None
none_within [] = refl
none_within (n ∷ q) = refl

module _ (k : ℕ) (some : 0 < k) (t u : Tree Leaf) where
  child_good : IsGood k (Some (whole t)) [] (whole u) → (n : Name) (e : Entry Leaf) → entry_of n u ≡ Some e → IsGood k (Some (whole t)) (n ∷ []) e
  child_good h n e is = record { only = only; deep = deep }
    where
      own : (q : List Name) → gives_at (n ∷ []) e (n ∷ q) ≡ gives_at [] (whole u) (n ∷ q)
      own q = gives_own n [] e q ∙ ap (λ o. standing (below_entry q o)) (sym is)

      only : (q : List Name) → GivesOnly (gives_at (n ∷ []) e q) (stands_at t q)
      only [] = inr refl
      only (m ∷ q) = elim (one_or_two m n) [
        | inl same ↦ subst (λ j. GivesOnly (gives_at (n ∷ []) e (j ∷ q)) (stands_at t (j ∷ q))) (sym same) (subst (λ s. GivesOnly s (stands_at t (n ∷ q))) (sym (own q)) (h.only (n ∷ q)))
        | inr other ↦ inl (gives_other n m [] e q other)
      ]

      deep : (a q : List Name) → length a ≡ k → gives_at (n ∷ []) e a ≡ a_directory → gives_at (n ∷ []) e (a ++ q) ≡ stands_at t (a ++ q)
      deep [] q names dir = absurd (omega (arith, names, some))
      deep (m ∷ a) q names dir = elim (one_or_two m n) [
        | inl same ↦ subst (λ j. gives_at (n ∷ []) e (j ∷ (a ++ q)) ≡ stands_at t (j ∷ (a ++ q))) (sym same)
            (own (a ++ q) ∙ h.deep (n ∷ a) q names (sym (own a) ∙ ap (λ j. gives_at (n ∷ []) e (j ∷ a)) (sym same) ∙ dir))
        | inr other ↦ absurd (let both : ◌≡◌ {A = Standing Leaf} nothing a_directory = sym (gives_other n m [] e a other) ∙ dir in cc)
      ]

  children_good : IsGood k (Some (whole t)) [] (whole u) → (cs : TreeLines) → AllByRecursion (λ (c : List Name × Entry Leaf). (n : Name) × (c.0 ≡ n ∷ []) × (entry_of n u ≡ Some c.1)) cs → AreGood k (Some (whole t)) cs
  children_good h [] sound = tt
  children_good h (c ∷ cs) sound = (subst (λ p. IsGood k (Some (whole t)) p c.1) (sym sound.0.1) (child_good h sound.0.0 c.1 sound.0.2), children_good h cs sound.1)

  parent_good : (cs : TreeLines) → AreEntries u cs → AreGood k (Some (whole t)) cs → IsGood k (Some (whole t)) [] (whole u)
  parent_good cs are h = record { only = only; deep = deep }
    where
      child : (n : Name) (e : Entry Leaf) → entry_of n u ≡ Some e → IsGood k (Some (whole t)) (n ∷ []) e
      child n e is = all_at (λ (c : List Name × Entry Leaf). IsGood k (Some (whole t)) c.0 c.1) cs (n ∷ [], e) h (are.complete n e is)

      own : (n : Name) (e : Entry Leaf) → entry_of n u ≡ Some e → (q : List Name) → gives_at (n ∷ []) e (n ∷ q) ≡ gives_at [] (whole u) (n ∷ q)
      own n e is q = gives_own n [] e q ∙ ap (λ o. standing (below_entry q o)) (sym is)

      only : (q : List Name) → GivesOnly (gives_at [] (whole u) q) (stands_at t q)
      only [] = inr refl
      only (n ∷ q) = by (entry_of n u) refl
        where
          by : (o : Option (Entry Leaf)) → entry_of n u ≡ o → GivesOnly (gives_at [] (whole u) (n ∷ q)) (stands_at t (n ∷ q))
          by None is = inl (ap (λ o. standing (below_entry q o)) is ∙ ap standing (none_within q))
          by (Some e) is = subst (λ s. GivesOnly s (stands_at t (n ∷ q))) (own n e is q) ((child n e is).only (n ∷ q))

      deep : (a q : List Name) → length a ≡ k → gives_at [] (whole u) a ≡ a_directory → gives_at [] (whole u) (a ++ q) ≡ stands_at t (a ++ q)
      deep [] q names dir = absurd (omega (arith, names, some))
      deep (n ∷ a) q names dir = by (entry_of n u) refl
        where
          by : (o : Option (Entry Leaf)) → entry_of n u ≡ o → gives_at [] (whole u) (n ∷ (a ++ q)) ≡ stands_at t (n ∷ (a ++ q))
          by None is = absurd (let both : ◌≡◌ {A = Standing Leaf} nothing a_directory = sym (ap (λ o. standing (below_entry a o)) is ∙ ap standing (none_within a)) ∙ dir in cc)
          by (Some e) is = sym (own n e is (a ++ q)) ∙ (child n e is).deep (n ∷ a) q names (own n e is a ∙ dir)

-- what gives nothing
module _ (u : Tree Leaf) (n : Name) (q : List Name) where
  children_nothing : gives_at [] (whole u) (n ∷ q) ≡ nothing → (cs : TreeLines) → AllByRecursion (λ (c : List Name × Entry Leaf). (m : Name) × (c.0 ≡ m ∷ []) × (entry_of m u ≡ Some c.1)) cs → GiveNothing (n ∷ q) cs
  children_nothing none [] sound = tt
  children_nothing none (c ∷ cs) sound = (by (one_or_two n sound.0.0), children_nothing none cs sound.1)
    where
      by : (n ≡ sound.0.0) ⊎ (n ≡ sound.0.0 → ⊥) → gives_at c.0 c.1 (n ∷ q) ≡ nothing
      by (inl same) =
          ap (λ p. gives_at p c.1 (n ∷ q)) (sound.0.1 ∙ ap (λ m. m ∷ []) (sym same)) ∙ gives_own n [] c.1 q
          ∙ ap (λ o. standing (below_entry q o)) (sym sound.0.2 ∙ ap (λ m. entry_of m u) (sym same)) ∙ none
      by (inr other) = ap (λ p. gives_at p c.1 (n ∷ q)) sound.0.1 ∙ gives_other sound.0.0 n [] c.1 q other

  parent_nothing : (cs : TreeLines) → AreEntries u cs → GiveNothing (n ∷ q) cs → gives_at [] (whole u) (n ∷ q) ≡ nothing
  parent_nothing cs are none = by (entry_of n u) refl
    where
      by : (o : Option (Entry Leaf)) → entry_of n u ≡ o → gives_at [] (whole u) (n ∷ q) ≡ nothing
      by None is = ap (λ o. standing (below_entry q o)) is ∙ ap standing (none_within q)
      by (Some e) is = ap (λ o. standing (below_entry q o)) is ∙ sym (gives_own n [] e q) ∙ found_nothing cs none (are.complete n e is)
        where
          found_nothing : (cs : TreeLines) → GiveNothing (n ∷ q) cs → Contains cs (n ∷ [], e) → gives_at (n ∷ []) e (n ∷ q) ≡ nothing
          found_nothing [] none (i, lt, is) = absurd (omega arith)
          found_nothing (c ∷ cs) none (zero, lt, is) = subst (λ (l : List Name × Entry Leaf). gives_at l.0 l.1 (n ∷ q) ≡ nothing) is none.0
          found_nothing (c ∷ cs) none (suc i, lt, is) = found_nothing cs none.1 (i, omega (arith, lt), is)

-- line by line: a directory at the path itself with lines for its entries, or the line
pub data Opens : TreeLines → TreeLines → Type 0 where
  none_opened : Opens [] []
  dir_opened : (u : Tree Leaf) (cs : TreeLines) → AreEntries u cs → {es new : TreeLines} → Opens es new → Opens (([], whole u) ∷ es) (cs ++ new)
  line_kept : (n : Name) (p : List Name) (e : Entry Leaf) {es new : TreeLines} → Opens es new → Opens ((n ∷ p, e) ∷ es) ((n ∷ p, e) ∷ new)

split_left : {X : Type 0} (P : X → Type 0) (xs ys : List X) → AllByRecursion P (xs ++ ys) → AllByRecursion P xs
split_left P [] ys h = tt
split_left P (x ∷ xs) ys h = (h.0, split_left P xs ys h.1)

split_right : {X : Type 0} (P : X → Type 0) (xs ys : List X) → AllByRecursion P (xs ++ ys) → AllByRecursion P ys
split_right P [] ys h = h
split_right P (x ∷ xs) ys h = split_right P xs ys h.1

module _ (k : ℕ) (some : 0 < k) (t : Tree Leaf) where
  good_opened : (es new : TreeLines) → Opens es new → AreGood k (Some (whole t)) es → AreGood k (Some (whole t)) new
  good_opened [] [] none_opened h = tt
  good_opened [] (c ∷ new) opens h = elim opens [ ]
  good_opened (l ∷ ls) new (dir_opened u cs are {es = es} {new = rest} more) h =
      all_join (λ (l : List Name × Entry Leaf). IsGood k (Some (whole t)) l.0 l.1) cs rest (children_good k some t u h.0 cs are.sound) (good_opened es rest more h.1)
  good_opened (l ∷ ls) new (line_kept n p e {es = es} {new = rest} more) h = (h.0, good_opened es rest more h.1)

  good_closed : (es new : TreeLines) → Opens es new → AreGood k (Some (whole t)) new → AreGood k (Some (whole t)) es
  good_closed [] [] none_opened h = tt
  good_closed [] (c ∷ new) opens h = elim opens [ ]
  good_closed (l ∷ ls) new (dir_opened u cs are {es = es} {new = rest} more) h = (
    parent_good k some t u cs are (split_left (λ (l : List Name × Entry Leaf). IsGood k (Some (whole t)) l.0 l.1) cs rest h),
    good_closed es rest more (split_right (λ (l : List Name × Entry Leaf). IsGood k (Some (whole t)) l.0 l.1) cs rest h),
  )
  good_closed (l ∷ ls) new (line_kept n p e {es = es} {new = rest} more) h = (h.0, good_closed es rest more h.1)

module _ (n : Name) (q : List Name) where
  nothing_opened : (es new : TreeLines) → Opens es new → GiveNothing (n ∷ q) es → GiveNothing (n ∷ q) new
  nothing_opened [] [] none_opened h = tt
  nothing_opened [] (c ∷ new) opens h = elim opens [ ]
  nothing_opened (l ∷ ls) new (dir_opened u cs are {es = es} {new = rest} more) h =
      all_join (λ (l : List Name × Entry Leaf). gives_at l.0 l.1 (n ∷ q) ≡ nothing) cs rest (children_nothing u n q h.0 cs are.sound) (nothing_opened es rest more h.1)
  nothing_opened (l ∷ ls) new (line_kept m p e {es = es} {new = rest} more) h = (h.0, nothing_opened es rest more h.1)

  nothing_closed : (es new : TreeLines) → Opens es new → GiveNothing (n ∷ q) new → GiveNothing (n ∷ q) es
  nothing_closed [] [] none_opened h = tt
  nothing_closed [] (c ∷ new) opens h = elim opens [ ]
  nothing_closed (l ∷ ls) new (dir_opened u cs are {es = es} {new = rest} more) h = (
    parent_nothing u n q cs are (split_left (λ (l : List Name × Entry Leaf). gives_at l.0 l.1 (n ∷ q) ≡ nothing) cs rest h),
    nothing_closed es rest more (split_right (λ (l : List Name × Entry Leaf). gives_at l.0 l.1 (n ∷ q) ≡ nothing) cs rest h),
  )
  nothing_closed (l ∷ ls) new (line_kept m p e {es = es} {new = rest} more) h = (h.0, nothing_closed es rest more h.1)

-- Directories that meet come to a directory, and it is what the opened lines come to.
pub path_opens : (k : ℕ) → 0 < k → (t : Tree Leaf) (es new : TreeLines) → Opens es new → IsPathOf k es (Some (whole t)) → IsDirOf k new t
path_opens k some t es new opens h = record {
  lines = good_opened k some t es new opens h.lines;
  nothing_else = λ n q none. h.nothing_else (n ∷ q) (nothing_closed n q es new opens none);
}

pub dir_closes : (k : ℕ) → 0 < k → (t : Tree Leaf) (es new : TreeLines) → es ≢ [] → Opens es new → IsDirOf k new t → IsPathOf k es (Some (whole t))
dir_closes k some t es new given opens h = record { lines = good_closed k some t es new opens h.lines; nothing_else = other }
  where
    nothing_given : (es new : TreeLines) → es ≢ [] → Opens es new → GiveNothing [] es → ⊥
    nothing_given [] new given opens none = given refl
    nothing_given (l ∷ ls) new given (dir_opened u cs are {es = es} {new = rest} more) none = (let both : ◌≡◌ {A = Standing Leaf} a_directory nothing = none.0 in cc)
    nothing_given (l ∷ ls) new given (line_kept n p e {es = es} {new = rest} more) none = (let both : ◌≡◌ {A = Standing Leaf} a_directory nothing = none.0 in cc)

    other : (q : List Name) → GiveNothing q es → standing (below_entry q (Some (whole t))) ≡ nothing
    other [] none = absurd (nothing_given es new given opens none)
    other (n ∷ q) none = h.nothing_else n q (nothing_opened n q es new opens none)

-- ---- nodes that count once

pub same_bit_is : (x y : Bool) → same_bit x y ≡ true → x ≡ y
same_bit_is true true e = refl
same_bit_is true false e = absurd (let both : false ≡ true = e in cc)
same_bit_is false true e = absurd (let both : false ≡ true = e in cc)
same_bit_is false false e = refl

pub digest_is : (d e : DigestValue) → same_digest d e ≡ true → d ≡ e
digest_is d e h =
    let hashes = (bytes_decides d.hash e.hash).0 (and_first (bytes_eq d.hash e.hash) (d.size == e.size) h) in
    let sizes = eqb-true d.size e.size (and_second (bytes_eq d.hash e.hash) (d.size == e.size) h) in
    λ i. record { hash = hashes i; size = sizes i }

-- what of entries is concerned has no clash: equal nodes are those of one entry
module _ (S : List ℕ → Type 0) (apart : NoClash S) where
  pub same_one : (e f : Entry Leaf) → IsOrderedEntry e → IsOrderedEntry f → ((b : List ℕ) → IsBlobOfOne e b → S b) → ((b : List ℕ) → IsBlobOfOne f b → S b) → same_node (entry_node e) (entry_node f) ≡ true → e ≡ f
  same_one (single (file c x)) (single (file d y)) g h be bf is =
      let contents = apart c d (be c refl) (bf d refl) (digest_is (digest_of c) (digest_of d) (and_first (same_digest (digest_of c) (digest_of d)) (same_bit x y) is)) in
      let bits = same_bit_is x y (and_second (same_digest (digest_of c) (digest_of d)) (same_bit x y) is) in
      λ i. single (file (contents i) (bits i))
  same_one (single (link s)) (single (link t)) g h be bf is = ap (λ r. single (link r)) ((bytes_decides s t).0 is)
  same_one (whole t) (whole u) g h be bf is = ap whole (same_root S apart t u g h be bf (digest_is (root (form t)) (root (form u)) is))
  same_one (single (file c x)) (single (link t)) g h be bf is = absurd (let both : false ≡ true = is in cc)
  same_one (single (file c x)) (whole u) g h be bf is = absurd (let both : false ≡ true = is in cc)
  same_one (single (link s)) (single (file d y)) g h be bf is = absurd (let both : false ≡ true = is in cc)
  same_one (single (link s)) (whole u) g h be bf is = absurd (let both : false ≡ true = is in cc)
  same_one (whole t) (single (file d y)) g h be bf is = absurd (let both : false ≡ true = is in cc)
  same_one (whole t) (single (link s)) g h be bf is = absurd (let both : false ≡ true = is in cc)
