-- Equal nodes count once: among blobs without a clash they are of one entry, so no entry is evicted.
use Rattle.std.proofs.Common.{◌≡◌, ◌≢◌, ℕ, List, [], ◌∷◌, ◌++◌, refl, ap, sym, ◌∙◌, subst, Bool, true, false, cond}
use Rattle.std.specs.Prelude.{◌||◌, Option, Some, None}
use Rattle.std.specs.List.{AllByRecursion, list_any}
use Rattle.std.specs.Cmp.Lexicographic.{bytes_decides}
use Rattle.std.proofs.lemmas.List.{map-append}
use Rattle.std.proofs.lemmas.Bool.{eq-eqb}
use Rattle.messages.proofs.Choices.{and_both}
use Rattle.blob_digest.specs.Digest.{DigestValue, NoClash}
use Rattle.messages.specs.Tree.{same_digest}
use Rattle.messages.specs.declared.node.Node.TheVariants.{File, Link, Dir}
use Rattle.tree.specs.Tree.{Name, Entry, Leaf, nothing}
use Rattle.tree.specs.Form.{NodeValue, entry_node}
use Rattle.tree.specs.Merge.{gives_at, same_bit}
use Rattle.tree.specs.Merging.{NodeWithin, same_node, gives_node, is_repeated, counted, node_here, lone}
use Rattle.tree.proofs.MergeBridge.{IsGood, IsPathOf, same_one}
use Rattle.tree.proofs.MergePairs.{Pair, Pairs, AllOf, given, stood, IsPair, ArePairs, all_mapped, all_unmapped}

abbrev pub kept : Pairs → Pairs → Pairs
kept earlier [] = []
kept earlier (x ∷ xs) = cond (is_repeated (given earlier) x.0 x.1.0) (kept earlier xs) (x ∷ kept (earlier ++ x ∷ []) xs)

pub kept_given : (earlier xs : Pairs) → given (kept earlier xs) ≡ counted (given earlier) (given xs)
kept_given earlier [] = refl
kept_given earlier (x ∷ xs) = elim (is_repeated (given earlier) x.0 x.1.0) as (λ b. given (cond b (kept earlier xs) (x ∷ kept (earlier ++ x ∷ []) xs)) ≡ cond b (counted (given earlier) (given xs)) (line ∷ counted (given earlier ++ line ∷ []) (given xs))) [
  | true ↦ kept_given earlier xs
  | false ↦ ap (λ l. line ∷ l) (kept_given (earlier ++ x ∷ []) xs ∙ ap (λ l. counted l (given xs)) appended)
]
  where
    line : List Name × NodeWithin
    line = (x.0, x.1.0)

    appended : given (earlier ++ x ∷ []) ≡ given earlier ++ (x.0, x.1.0) ∷ []
    appended = map-append {B = List Name × NodeWithin} (λ (x : List Name × Pair). (x.0, x.1.0)) earlier (x ∷ [])

-- what holds of all
pub all_kept : (P : List Name → Pair → Type 0) (earlier xs : Pairs) → AllOf P xs → AllOf P (kept earlier xs)
all_kept P earlier [] h = tt
all_kept P earlier (x ∷ xs) h = elim (is_repeated (given earlier) x.0 x.1.0) as (λ b. AllOf P (cond b (kept earlier xs) (x ∷ kept (earlier ++ x ∷ []) xs))) [
  | true ↦ all_kept P earlier xs h.1
  | false ↦ (h.0, all_kept P (earlier ++ x ∷ []) xs h.1)
]

none_earlier : (p : List Name) (g : NodeWithin) → is_repeated [] p g ≡ false
none_earlier [] g = refl
none_earlier (n ∷ p) g = refl

pub some_kept : (xs : Pairs) → xs ≢ [] → stood (kept [] xs) ≢ []
some_kept [] some = absurd (some refl)
some_kept (x ∷ xs) some = λ e. (let both : ◌≡◌ {A = List (List Name × Entry Leaf)} ((x.0, x.1.1) ∷ stood (kept (x ∷ []) xs)) [] = sym (ap (λ b. stood (cond b (kept [] xs) (x ∷ kept (x ∷ []) xs))) (none_earlier x.0 x.1.0)) ∙ e in cc)

-- and what holds of those that are kept
module _ (S : List ℕ → Type 0) (apart : NoClash S) (k : ℕ) (P : List Name → Entry Leaf → Type 0) where
  abbrev Holds : Pairs → Type 0
  Holds xs = AllByRecursion (λ (x : List Name × Pair). P x.0 x.1.1) xs

  earlier_holds : (g : Pair) → IsPair S k [] g → (ys : Pairs) → ArePairs S k ys → Holds ys → list_any (λ (l : List Name × NodeWithin). gives_node g.0.node l.0 l.1) (given ys) ≡ true → P [] g.1
  earlier_holds g h [] hs ps is = absurd (let both : false ≡ true = is in cc)
  earlier_holds g h (y ∷ ys) hs ps is = by y.0 hs.0 ps.0 (gives_node g.0.node y.0 y.1.0) refl is (earlier_holds g h ys hs.1 ps.1)
    where
      here : (p : List Name) → IsPair S k p y.1 → P p y.1.1 → gives_node g.0.node p y.1.0 ≡ true → P [] g.1
      here [] hy py same = subst (P []) (sym (same_one S apart g.1 y.1.1 h.ordered hy.ordered h.blobs hy.blobs (ap (λ x. same_node x (entry_node y.1.1)) (sym h.node) ∙ ap (λ x. same_node g.0.node x) (sym hy.node) ∙ same))) py
      here (n ∷ p) hy py same = absurd (let both : false ≡ true = same in cc)

      by : (p : List Name) → IsPair S k p y.1 → P p y.1.1 → (b : Bool) → gives_node g.0.node y.0 y.1.0 ≡ b → (b || list_any (λ (l : List Name × NodeWithin). gives_node g.0.node l.0 l.1) (given ys)) ≡ true
          → (list_any (λ (l : List Name × NodeWithin). gives_node g.0.node l.0 l.1) (given ys) ≡ true → P [] g.1) → P [] g.1
      by p hy py true same is rest = here y.0 hs.0 ps.0 same
      by p hy py false same is rest = rest is

  repeated_holds : (p : List Name) (g : Pair) → IsPair S k p g → (ys : Pairs) → ArePairs S k ys → Holds ys → is_repeated (given ys) p g.0 ≡ true → P p g.1
  repeated_holds [] g h ys hs ps is = earlier_holds g h ys hs ps is
  repeated_holds (n ∷ p) g h ys hs ps is = absurd (let both : false ≡ true = is in cc)

  joined : (Q : List Name → Pair → Type 0) (ys : Pairs) (x : List Name × Pair) → AllOf Q ys → Q x.0 x.1 → AllOf Q (ys ++ x ∷ [])
  joined Q [] x h q = (q, tt)
  joined Q (y ∷ ys) x h q = (h.0, joined Q ys x h.1 q)

  all_from_kept : (earlier xs : Pairs) → ArePairs S k earlier → Holds earlier → ArePairs S k xs → Holds (kept earlier xs) → Holds xs
  all_from_kept earlier [] he pe hx h = tt
  all_from_kept earlier (x ∷ xs) he pe hx h =
      by (is_repeated (given earlier) x.0 x.1.0) refl h
      (λ rest. all_from_kept earlier xs he pe hx.1 rest)
      (λ own rest. all_from_kept (earlier ++ x ∷ []) xs (joined (IsPair S k) earlier x he hx.0) (joined (λ p g. P p g.1) earlier x pe own) hx.1 rest)
    where
      by : (b : Bool) → is_repeated (given earlier) x.0 x.1.0 ≡ b → Holds (cond b (kept earlier xs) (x ∷ kept (earlier ++ x ∷ []) xs)) → (Holds (kept earlier xs) → Holds xs) → (P x.0 x.1.1 → Holds (kept (earlier ++ x ∷ []) xs) → Holds xs) → Holds (x ∷ xs)
      by true is h old new = (repeated_holds x.0 x.1 hx.0 earlier he pe is, old h)
      by false is h old new = (h.0, new h.0 h.1)

  pub stood_from_kept : (xs : Pairs) → ArePairs S k xs → AllByRecursion (λ (l : List Name × Entry Leaf). P l.0 l.1) (stood (kept [] xs)) → AllByRecursion (λ (l : List Name × Entry Leaf). P l.0 l.1) (stood xs)
  stood_from_kept xs hx h = all_unmapped (λ (x : Pair). x.1) P xs (all_from_kept [] xs tt tt hx (all_mapped (λ (x : Pair). x.1) P (kept [] xs) h))

  pub stood_kept : (xs : Pairs) → AllByRecursion (λ (l : List Name × Entry Leaf). P l.0 l.1) (stood xs) → AllByRecursion (λ (l : List Name × Entry Leaf). P l.0 l.1) (stood (kept [] xs))
  stood_kept xs h = all_unmapped (λ (x : Pair). x.1) P (kept [] xs) (all_kept (λ p g. P p g.1) [] xs (all_mapped (λ (x : Pair). x.1) P xs h))

-- so a path comes to the same
module _ (S : List ℕ → Type 0) (apart : NoClash S) (k : ℕ) (xs : Pairs) (are : ArePairs S k xs) (o : Option (Entry Leaf)) where
  pub path_kept : IsPathOf k (stood xs) o → IsPathOf k (stood (kept [] xs)) o
  path_kept h = record {
    lines = stood_kept S apart k (IsGood k o) xs h.lines;
    nothing_else = λ q none. h.nothing_else q (stood_from_kept S apart k (λ p e. gives_at p e q ≡ nothing) xs are none);
  }

  pub path_from_kept : IsPathOf k (stood (kept [] xs)) o → IsPathOf k (stood xs) o
  path_from_kept h = record {
    lines = stood_from_kept S apart k (IsGood k o) xs are h.lines;
    nothing_else = λ q none. h.nothing_else q (stood_kept S apart k (λ p e. gives_at p e q ≡ nothing) xs none);
  }

-- ---- one alone

pub record IsAlone (ks : Pairs) (x : NodeValue) : Type 0 where
  pub pair : Pair
  pub lines : ks ≡ ([], pair) ∷ []
  pub node : x ≡ pair.0.node

pub lone_is : (ks : Pairs) (x : NodeValue) → lone (given ks) ≡ Some x → IsAlone ks x
lone_is [] x is = absurd (let both : ◌≡◌ {A = Option NodeValue} None (Some x) = is in cc)
lone_is (y ∷ []) x is = by y.0 refl is
  where
    by : (p : List Name) → y.0 ≡ p → node_here p y.1.0 ≡ Some x → IsAlone (y ∷ []) x
    by [] at is = record { pair = y.1; lines = (λ i. (at i, y.1) ∷ []); node = (let both : ◌≡◌ {A = Option NodeValue} (Some y.1.0.node) (Some x) = is in let same : y.1.0.node ≡ x = cc in sym same) }
    by (n ∷ p) at is = absurd (let both : ◌≡◌ {A = Option NodeValue} None (Some x) = is in cc)
lone_is (y ∷ z ∷ ks) x is = absurd (let both : ◌≡◌ {A = Option NodeValue} None (Some x) = is in cc)

-- one node for all
pub digest_itself : (d : DigestValue) → same_digest d d ≡ true
digest_itself d = and_both _ _ ((bytes_decides d.hash d.hash).1 refl) (eq-eqb d.size d.size refl)

bit_itself : (b : Bool) → same_bit b b ≡ true
bit_itself true = refl
bit_itself false = refl

node_itself : (x : NodeValue) → same_node x x ≡ true
node_itself (File d b) = and_both _ _ (digest_itself d) (bit_itself b)
node_itself (Link t) = (bytes_decides t t).1 refl
node_itself (Dir d) = digest_itself d

abbrev pub IsHere : NodeValue → List Name → Pair → Type 0
IsHere v p x = (p ≡ []) × (x.0.node ≡ v)

counts_nothing : (v : NodeValue) (g : NodeWithin) → g.node ≡ v → (ys : Pairs) → AllOf (IsHere v) ys → counted (([], g) ∷ []) (given ys) ≡ []
counts_nothing v g is [] h = refl
counts_nothing v g is (y ∷ ys) h =
    ap (λ b. cond b (counted (([], g) ∷ []) (given ys)) ((y.0, y.1.0) ∷ counted (([], g) ∷ (y.0, y.1.0) ∷ []) (given ys)))
    (ap (λ p. is_repeated (([], g) ∷ []) p y.1.0) h.0.0 ∙ ap (λ b. b || false) (ap (λ x. same_node y.1.0.node x) (is ∙ sym h.0.1) ∙ node_itself y.1.0.node))
    ∙ counts_nothing v g is ys h.1

pub lone_here : (v : NodeValue) (us : Pairs) → us ≢ [] → AllOf (IsHere v) us → lone (counted [] (given us)) ≡ Some v
lone_here v [] some h = absurd (some refl)
lone_here v (y ∷ ys) some h =
    ap (λ p. lone (counted [] ((p, y.1.0) ∷ given ys))) h.0.0
    ∙ ap (λ l. lone (([], y.1.0) ∷ l)) (counts_nothing v y.1.0 h.0.1 ys h.1)
    ∙ ap Some h.0.1
