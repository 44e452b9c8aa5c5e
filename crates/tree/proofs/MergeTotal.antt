-- Lines merge into a tree exactly where `merge` comes to it.
use Rattle.std.proofs.Common.{◌≡◌, ◌≢◌, ℕ, zero, suc, List, [], ◌∷◌, ◌++◌, length, refl, ap, sym, ◌∙◌, subst, inl, inr, Bool, true, false, cond, arith}
use Rattle.std.specs.Prelude.{◌&&◌, bytes_eq, Option, Some, None, option_map, option_and_then}
use Rattle.std.specs.List.{AllByRecursion}
use Rattle.std.specs.Cmp.Lexicographic.{bytes_decides}
use Rattle.messages.proofs.Choices.{and_first, and_second, and_both}
use Rattle.tree.specs.Tree.{Name, Tree, empty, leaf, folder, Entry, single, whole, entry_of, below_entry, Leaf, file, link, IsOrdered, IsOrderedEntry, Standing, nothing, a_leaf, a_directory, standing, stands_at}
use Rattle.tree.specs.Graft.{with_entry}
use Rattle.tree.specs.Merge.{gives_at, GivesOnly, IsMergeOf, TreeLines, same_bit, same_leaf, same_tree, same_entry, joined_with, meeting, line_entry, line_tree, merge, AreMergeable, TellsMerge}
use Rattle.tree.proofs.TreeLemmas.{one_or_two}
use Rattle.tree.proofs.OrderLemmas.{IsOrderedAt, entry_ordered}
use Rattle.tree.proofs.SameMap.{same_map}
use Rattle.tree.proofs.MergeLaws.{merge_once}
use Rattle.tree.proofs.MergeBridge.{same_bit_is, none_within, gives_own, gives_other}
use Rattle.tree.proofs.MergeJoins.{mapped_some, bound_some, some_one, own_with, other_with, ordered_with, Joined, KeepsOrder, AreJoined, all_joined, all_found}

-- ---- tests

bit_itself : (b : Bool) → same_bit b b ≡ true
bit_itself true = refl
bit_itself false = refl

leaf_is : (x y : Leaf) → same_leaf x y ≡ true → x ≡ y
leaf_is (file c b) (file d e) h =
    let contents = (bytes_decides c d).0 (and_first (bytes_eq c d) (same_bit b e) h) in
    let bits = same_bit_is b e (and_second (bytes_eq c d) (same_bit b e) h) in
    λ i. file (contents i) (bits i)
leaf_is (link s) (link t) h = ap link ((bytes_decides s t).0 h)
leaf_is (file c b) (link t) h = absurd (let both : false ≡ true = h in cc)
leaf_is (link s) (file d e) h = absurd (let both : false ≡ true = h in cc)

leaf_itself : (x : Leaf) → same_leaf x x ≡ true
leaf_itself (file c b) = and_both (bytes_eq c c) (same_bit b b) ((bytes_decides c c).1 refl) (bit_itself b)
leaf_itself (link s) = (bytes_decides s s).1 refl

tree_is : (t u : Tree Leaf) → same_tree t u ≡ true → t ≡ u
tree_is empty empty h = refl
tree_is (leaf n x t) (leaf m y u) h =
    let names = (bytes_decides n m).0 (and_first (bytes_eq n m) (same_leaf x y && same_tree t u) h) in
    let behind = and_second (bytes_eq n m) (same_leaf x y && same_tree t u) h in
    let leaves = leaf_is x y (and_first (same_leaf x y) (same_tree t u) behind) in
    let rest = tree_is t u (and_second (same_leaf x y) (same_tree t u) behind) in
    λ i. leaf (names i) (leaves i) (rest i)
tree_is (folder n s t) (folder m r u) h =
    let names = (bytes_decides n m).0 (and_first (bytes_eq n m) (same_tree s r && same_tree t u) h) in
    let behind = and_second (bytes_eq n m) (same_tree s r && same_tree t u) h in
    let below = tree_is s r (and_first (same_tree s r) (same_tree t u) behind) in
    let rest = tree_is t u (and_second (same_tree s r) (same_tree t u) behind) in
    λ i. folder (names i) (below i) (rest i)
tree_is empty (leaf m y u) h = absurd (let both : false ≡ true = h in cc)
tree_is empty (folder m r u) h = absurd (let both : false ≡ true = h in cc)
tree_is (leaf n x t) empty h = absurd (let both : false ≡ true = h in cc)
tree_is (leaf n x t) (folder m r u) h = absurd (let both : false ≡ true = h in cc)
tree_is (folder n s t) empty h = absurd (let both : false ≡ true = h in cc)
tree_is (folder n s t) (leaf m y u) h = absurd (let both : false ≡ true = h in cc)

tree_itself : (t : Tree Leaf) → same_tree t t ≡ true
tree_itself empty = refl
tree_itself (leaf n x t) = and_both (bytes_eq n n) (same_leaf x x && same_tree t t) ((bytes_decides n n).1 refl) (and_both (same_leaf x x) (same_tree t t) (leaf_itself x) (tree_itself t))
tree_itself (folder n s t) = and_both (bytes_eq n n) (same_tree s s && same_tree t t) ((bytes_decides n n).1 refl) (and_both (same_tree s s) (same_tree t t) (tree_itself s) (tree_itself t))

entry_is : (e f : Entry Leaf) → same_entry e f ≡ true → e ≡ f
entry_is (single x) (single y) h = ap single (leaf_is x y h)
entry_is (whole t) (whole u) h = ap whole (tree_is t u h)
entry_is (single x) (whole u) h = absurd (let both : false ≡ true = h in cc)
entry_is (whole t) (single y) h = absurd (let both : false ≡ true = h in cc)

entry_itself : (e : Entry Leaf) → same_entry e e ≡ true
entry_itself (single x) = leaf_itself x
entry_itself (whole t) = tree_itself t

-- equal entries come to one of them
equal_met : (e f g : Entry Leaf) → cond (same_entry e f) (Some e) None ≡ Some g → (e ≡ f) × (e ≡ g)
equal_met e f g is = by (same_entry e f) refl is
  where
    by : (b : Bool) → same_entry e f ≡ b → cond b (Some e) None ≡ Some g → (e ≡ f) × (e ≡ g)
    by true same is = (entry_is e f same, some_one e g is)
    by false same is = absurd (let both : ◌≡◌ {A = Option (Entry Leaf)} None (Some g) = is in cc)

equal_found : (e f : Entry Leaf) → e ≡ f → cond (same_entry e f) (Some e) None ≡ Some e
equal_found e f is = ap (λ b. cond b (Some e) None) (ap (same_entry e) (sym is) ∙ entry_itself e)

-- ---- what fits

-- What stands below the one stands below the other, and where a directory stands there at the last name, all that is below
-- it is the same.
record Fits (k : ℕ) (a o : Option (Entry Leaf)) : Type 0 where
  only : (q : List Name) → GivesOnly (standing (below_entry q a)) (standing (below_entry q o))
  deep : (p q : List Name) → length p ≡ k → standing (below_entry p a) ≡ a_directory → standing (below_entry (p ++ q) a) ≡ standing (below_entry (p ++ q) o)

no_standing : (q : List Name) → standing (below_entry {L = Leaf} q None) ≡ nothing
no_standing q = ap standing (none_within q)

fits_itself : (k : ℕ) (o : Option (Entry Leaf)) → Fits k o o
fits_itself k o = record { only = λ q. inr refl; deep = λ p q names dir. refl }

none_fits : (k : ℕ) (o : Option (Entry Leaf)) → Fits k None o
none_fits k o = record {
  only = λ q. inl (no_standing q);
  deep = λ p q names dir. absurd (let both : ◌≡◌ {A = Standing Leaf} nothing a_directory = sym (no_standing p) ∙ dir in cc);
}

fits_trans : (k : ℕ) (a b c : Option (Entry Leaf)) → Fits k a b → Fits k b c → Fits k a c
fits_trans k a b c h g = record { only = λ q. only q (h.only q) (g.only q); deep = λ p q names dir. deep p q names dir (h.only p) }
  where
    only : (q : List Name) → GivesOnly (standing (below_entry q a)) (standing (below_entry q b)) → GivesOnly (standing (below_entry q b)) (standing (below_entry q c))
        → GivesOnly (standing (below_entry q a)) (standing (below_entry q c))
    only q (inl none) second = inl none
    only q (inr same) (inl none) = inl (same ∙ none)
    only q (inr same) (inr next) = inr (same ∙ next)

    deep : (p q : List Name) → length p ≡ k → standing (below_entry p a) ≡ a_directory → GivesOnly (standing (below_entry p a)) (standing (below_entry p b)) → standing (below_entry (p ++ q) a) ≡ standing (below_entry (p ++ q) c)
    deep p q names dir (inl none) = absurd (let both : ◌≡◌ {A = Standing Leaf} nothing a_directory = sym none ∙ dir in cc)
    deep p q names dir (inr same) = h.deep p q names dir ∙ g.deep p q names (sym same ∙ dir)

fits_above : (k : ℕ) (a t : Tree Leaf) → ((n : Name) → Fits k (entry_of n a) (entry_of n t)) → Fits (suc k) (Some (whole a)) (Some (whole t))
fits_above k a t h = record { only = only; deep = deep }
  where
    only : (q : List Name) → GivesOnly (stands_at a q) (stands_at t q)
    only [] = inr refl
    only (n ∷ q) = (h n).only q

    deep : (p q : List Name) → length p ≡ suc k → stands_at a p ≡ a_directory → stands_at a (p ++ q) ≡ stands_at t (p ++ q)
    deep [] q names dir = absurd (omega (arith, names))
    deep (n ∷ p) q names dir = (h n).deep p q (omega (arith, names)) dir

fits_below : (k : ℕ) (a t : Tree Leaf) → Fits (suc k) (Some (whole a)) (Some (whole t)) → (n : Name) → Fits k (entry_of n a) (entry_of n t)
fits_below k a t h n = record {
  only = λ q. h.only (n ∷ q);
  deep = λ p q names dir. h.deep (n ∷ p) q (omega (arith, names)) dir;
}

-- ---- what two entries come to

-- both fit in it, and nothing else is there
record IsUnion (k : ℕ) (a b v : Option (Entry Leaf)) : Type 0 where
  first : Fits k a v
  second : Fits k b v
  nothing_else : (q : List Name) → standing (below_entry q a) ≡ nothing → standing (below_entry q b) ≡ nothing → standing (below_entry q v) ≡ nothing

-- at one name
union_at : (k : ℕ) → ((e f g : Entry Leaf) → IsOrderedEntry e → IsOrderedEntry f → meeting k e f ≡ Some g → IsOrderedEntry g × IsUnion k (Some e) (Some f) (Some g))
    → (a b v : Option (Entry Leaf)) → IsOrderedAt a → IsOrderedAt b → Joined (meeting k) a b v → IsUnion k a b v
union_at k known None b v h g j = subst (IsUnion k None b) (sym j) (record { first = none_fits k b; second = fits_itself k b; nothing_else = λ q none more. more })
union_at k known (Some e) None v h g j = subst (IsUnion k (Some e) None) (sym j) (record { first = fits_itself k (Some e); second = none_fits k (Some e); nothing_else = λ q none more. none })
union_at k known (Some e) (Some f) v h g j = subst (IsUnion k (Some e) (Some f)) (sym j.2) (known e f j.0 h g j.1).1

one_union : (k : ℕ) (e f g : Entry Leaf) → IsOrderedEntry e → cond (same_entry e f) (Some e) None ≡ Some g → IsOrderedEntry g × IsUnion k (Some e) (Some f) (Some g)
one_union k e f g h is =
    let same = equal_met e f g is in (
      subst IsOrderedEntry same.1 h,
      subst (λ x. IsUnion k (Some e) (Some f) (Some x)) same.1 (subst (λ x. IsUnion k (Some e) (Some x) (Some e)) same.0
          (record { first = fits_itself k (Some e); second = fits_itself k (Some e); nothing_else = λ q none more. none })),
    )

abbrev MeetsInUnion : ℕ → Type 0
MeetsInUnion k = (e f g : Entry Leaf) → IsOrderedEntry e → IsOrderedEntry f → meeting k e f ≡ Some g → IsOrderedEntry g × IsUnion k (Some e) (Some f) (Some g)

trees_union : (k : ℕ) → MeetsInUnion k → (t u v : Tree Leaf) → IsOrdered t → IsOrdered u → AreJoined (meeting k) t u v → IsUnion (suc k) (Some (whole t)) (Some (whole u)) (Some (whole v))
trees_union k known t u v h i are = record { first = fits_above k t v (λ n. (at n).first); second = fits_above k u v (λ n. (at n).second); nothing_else = other }
  where
    at : (n : Name) → IsUnion k (entry_of n t) (entry_of n u) (entry_of n v)
    at n = union_at k known (entry_of n t) (entry_of n u) (entry_of n v) (entry_ordered n t h) (entry_ordered n u i) (are.names n)

    other : (q : List Name) → stands_at t q ≡ nothing → stands_at u q ≡ nothing → stands_at v q ≡ nothing
    other [] none more = absurd (let both : ◌≡◌ {A = Standing Leaf} a_directory nothing = none in cc)
    other (n ∷ q) none more = (at n).nothing_else q none more

meeting_union : (k : ℕ) → MeetsInUnion k
meeting_union zero (single x) (single y) g h i is = one_union zero (single x) (single y) g h is
meeting_union zero (single x) (whole u) g h i is = one_union zero (single x) (whole u) g h is
meeting_union zero (whole t) (single y) g h i is = one_union zero (whole t) (single y) g h is
meeting_union zero (whole t) (whole u) g h i is = one_union zero (whole t) (whole u) g h is
meeting_union (suc k) (single x) (single y) g h i is = one_union (suc k) (single x) (single y) g h is
meeting_union (suc k) (single x) (whole u) g h i is = one_union (suc k) (single x) (whole u) g h is
meeting_union (suc k) (whole t) (single y) g h i is = one_union (suc k) (whole t) (single y) g h is
meeting_union (suc k) (whole t) (whole u) g h i is =
    let known = meeting_union k in
    let found = mapped_some whole (joined_with (meeting k) t u) g is in
    let are = all_joined (meeting k) (λ e f g a b s. (known e f g a b s).0) t u found.0 h i found.1 in
    subst (λ x. IsOrderedEntry x × IsUnion (suc k) (Some (whole t)) (Some (whole u)) (Some x)) found.2 (are.ordered, trees_union k known t u found.0 h i are)

keeps_order : (k : ℕ) → KeepsOrder (meeting k)
keeps_order k e f g h i is = (meeting_union k e f g h i is).0

-- ---- where both fit in something they come to something

-- what stands at the path itself
own_standing : (k : ℕ) (e : Entry Leaf) (o : Option (Entry Leaf)) → Fits k (Some e) o → standing (Some e) ≡ standing o
own_standing k (single x) o h = elim (h.only []) [
  | inl none ↦ absurd (let both : ◌≡◌ {A = Standing Leaf} (a_leaf x) nothing = none in cc)
  | inr same ↦ same
]
own_standing k (whole t) o h = elim (h.only []) [
  | inl none ↦ absurd (let both : ◌≡◌ {A = Standing Leaf} a_directory nothing = none in cc)
  | inr same ↦ same
]

-- an entry that is found, and fits there too
abbrev Meets : ℕ → Entry Leaf → Entry Leaf → Option (Entry Leaf) → Type 0
Meets k e f o = (g : Entry Leaf) × (meeting k e f ≡ Some g) × Fits k (Some g) o

leaves_same : (x y : Leaf) (s : Standing Leaf) → a_leaf x ≡ s → a_leaf y ≡ s → x ≡ y
leaves_same x y s h g = let both : ◌≡◌ {A = Standing Leaf} (a_leaf x) (a_leaf y) = h ∙ sym g in cc

mixed : {P : Type 0} (x : Leaf) (s : Standing Leaf) → a_leaf x ≡ s → ◌≡◌ {A = Standing Leaf} a_directory s → P
mixed x s h g = absurd (let both : ◌≡◌ {A = Standing Leaf} (a_leaf x) a_directory = h ∙ sym g in cc)

-- at one name
can_join : (k : ℕ) → ((e f : Entry Leaf) (o : Option (Entry Leaf)) → IsOrderedEntry e → IsOrderedEntry f → Fits k (Some e) o → Fits k (Some f) o → Meets k e f o)
    → (a b o : Option (Entry Leaf)) → IsOrderedAt a → IsOrderedAt b → Fits k a o → Fits k b o → (v : Option (Entry Leaf)) × Joined (meeting k) a b v
can_join k known None b o h i s t = (b, refl)
can_join k known (Some e) None o h i s t = (Some e, refl)
can_join k known (Some e) (Some f) o h i s t = let found = known e f o h i s t in (Some found.0, (found.0, found.1, refl))

-- and what they come to fits there
joined_fits : (k : ℕ) → ((e f : Entry Leaf) (o : Option (Entry Leaf)) → IsOrderedEntry e → IsOrderedEntry f → Fits k (Some e) o → Fits k (Some f) o → Meets k e f o)
    → (a b o v : Option (Entry Leaf)) → IsOrderedAt a → IsOrderedAt b → Fits k a o → Fits k b o → Joined (meeting k) a b v → Fits k v o
joined_fits k known None b o v h i s t j = subst (λ x. Fits k x o) (sym j) t
joined_fits k known (Some e) None o v h i s t j = subst (λ x. Fits k x o) (sym j) s
joined_fits k known (Some e) (Some f) o v h i s t j =
    let found = known e f o h i s t in
    let same : found.0 ≡ j.0 = some_one found.0 j.0 (sym found.1 ∙ j.1) in
    subst (λ x. Fits k x o) (sym j.2) (subst (λ g. Fits k (Some g) o) same found.2)

meeting_found : (k : ℕ) (e f : Entry Leaf) (o : Option (Entry Leaf)) → IsOrderedEntry e → IsOrderedEntry f → Fits k (Some e) o → Fits k (Some f) o → Meets k e f o
meeting_found zero (single x) (single y) o h i s t =
    (single x, equal_found (single x) (single y) (ap single (leaves_same x y (standing o) (own_standing zero (single x) o s) (own_standing zero (single y) o t))), s)
meeting_found zero (single x) (whole u) o h i s t = mixed x (standing o) (own_standing zero (single x) o s) (own_standing zero (whole u) o t)
meeting_found zero (whole t) (single y) o h i s g = mixed y (standing o) (own_standing zero (single y) o g) (own_standing zero (whole t) o s)
meeting_found zero (whole t) (whole u) o h i s g =
    let same : t ≡ u = same_map t u h i (λ p. s.deep [] p refl refl ∙ sym (g.deep [] p refl refl)) in
    (whole t, equal_found (whole t) (whole u) (ap whole same), s)
meeting_found (suc k) (single x) (single y) o h i s t =
    (single x, equal_found (single x) (single y) (ap single (leaves_same x y (standing o) (own_standing (suc k) (single x) o s) (own_standing (suc k) (single y) o t))), s)
meeting_found (suc k) (single x) (whole u) o h i s t = mixed x (standing o) (own_standing (suc k) (single x) o s) (own_standing (suc k) (whole u) o t)
meeting_found (suc k) (whole t) (single y) o h i s g = mixed y (standing o) (own_standing (suc k) (single y) o g) (own_standing (suc k) (whole t) o s)
meeting_found (suc k) (whole t) (whole u) None h i s g = absurd (let both : ◌≡◌ {A = Standing Leaf} a_directory nothing = own_standing (suc k) (whole t) None s in cc)
meeting_found (suc k) (whole t) (whole u) (Some (single x)) h i s g = absurd (let both : ◌≡◌ {A = Standing Leaf} a_directory (a_leaf x) = own_standing (suc k) (whole t) (Some (single x)) s in cc)
meeting_found (suc k) (whole t) (whole u) (Some (whole w)) h i s g =
    let found = all_found (meeting k) (keeps_order k) t u h i
    (λ n. can_join k (meeting_found k) (entry_of n t) (entry_of n u) (entry_of n w) (entry_ordered n t h) (entry_ordered n u i) (fits_below k t w s n) (fits_below k u w g n)) in
    let are = all_joined (meeting k) (keeps_order k) t u found.0 h i found.1 in (
      whole found.0,
      ap (option_map whole) found.1,
      fits_above k found.0 w (λ n. joined_fits k (meeting_found k) (entry_of n t) (entry_of n u) (entry_of n w) (entry_of n found.0) (entry_ordered n t h) (entry_ordered n u i) (fits_below k t w s n) (fits_below k u w g n) (are.names n)),
    )

-- ---- a line as a tree

gives_line : (p : List Name) (e : Entry Leaf) (q : List Name) → gives_at p e q ≡ standing (below_entry q (Some (line_entry p e)))
gives_line [] e q = refl
gives_line (n ∷ p) e [] = refl
gives_line (n ∷ p) e (m ∷ q) = elim (one_or_two m n) [
  | inl same ↦ subst (λ j. gives_at (n ∷ p) e (j ∷ q) ≡ standing (below_entry q (entry_of j (with_entry n (line_entry p e) empty)))) (sym same)
      (gives_own n p e q ∙ gives_line p e q ∙ ap (λ o. standing (below_entry q o)) (sym (own_with n (line_entry p e) empty)))
  | inr other ↦ gives_other n m p e q other ∙ sym (ap (λ o. standing (below_entry q o)) (other_with m n (line_entry p e) empty other) ∙ no_standing q)
]

line_ordered : (p : List Name) (e : Entry Leaf) → IsOrderedEntry e → IsOrderedEntry (line_entry p e)
line_ordered [] e h = h
line_ordered (n ∷ p) e h = ordered_with n (line_entry p e) empty (line_ordered p e h) tt tt

-- ---- all lines

abbrev AllFit : Tree Leaf → TreeLines → Type 0
AllFit t es = AllByRecursion (λ (l : List Name × Entry Leaf). Fits 64 (Some (line_entry l.0 l.1)) (Some (whole t))) es

-- what lines come to: each fits in it, and nothing else is there
record IsMade (es : TreeLines) (t : Tree Leaf) : Type 0 where
  ordered : IsOrdered t
  lines : AllFit t es
  nothing_else : (n : Name) (q : List Name) → AllByRecursion (λ (l : List Name × Entry Leaf). gives_at l.0 l.1 (n ∷ q) ≡ nothing) es → stands_at t (n ∷ q) ≡ nothing

all_further : (t u : Tree Leaf) → Fits 64 (Some (whole t)) (Some (whole u)) → (es : TreeLines) → AllFit t es → AllFit u es
all_further t u more [] h = tt
all_further t u more (l ∷ ls) h = (fits_trans 64 (Some (line_entry l.0 l.1)) (Some (whole t)) (Some (whole u)) h.0 more, all_further t u more ls h.1)

-- one more line
one_line : (p : List Name) → (p ≢ []) → (e : Entry Leaf) → IsOrderedEntry e → (ls : TreeLines) (u t : Tree Leaf) → IsMade ls u → joined_with (meeting 63) (line_tree p e) u ≡ Some t → IsMade ((p, e) ∷ ls) t
one_line [] some e own ls u t h is = absurd (some refl)
one_line (n ∷ p) some e own ls u t h is =
    let union = meeting_union 64 (line_entry (n ∷ p) e) (whole u) (whole t) (line_ordered (n ∷ p) e own) h.ordered (ap (option_map whole) is) in
    record {
      ordered = union.0;
      lines = (union.1.first, all_further u t union.1.second ls h.lines);
      nothing_else = λ m q none. union.1.nothing_else (m ∷ q) (sym (gives_line (n ∷ p) e (m ∷ q)) ∙ none.0) (h.nothing_else m q none.1);
    }

made : (es : TreeLines) → AreMergeable es → (t : Tree Leaf) → merge es ≡ Some t → IsMade es t
unfolding merge
made [] are t is = subst (IsMade []) (some_one empty t is) (record { ordered = tt; lines = tt; nothing_else = λ n q none. no_standing q })
made (l ∷ ls) are t is =
    let found = bound_some (joined_with (meeting 63) (line_tree l.0 l.1)) (merge ls) t is in
    one_line l.0 are.0.0 l.1 are.0.1 ls found.0 t (made ls are.1 found.0 found.1) found.2

found_made : (es : TreeLines) → AreMergeable es → (t : Tree Leaf) → AllFit t es → (u : Tree Leaf) × (merge es ≡ Some u) × Fits 64 (Some (whole u)) (Some (whole t))
unfolding merge
found_made [] are t h = (empty, refl, empty_fits)
  where
    empty_fits : Fits 64 (Some (whole empty)) (Some (whole t))
    empty_fits = fits_above 63 empty t (λ n. none_fits 63 (entry_of n t))
found_made (l ∷ ls) are t h = by l.0 are.0.0 h.0 (found_made ls are.1 t h.1)
  where
    by : (p : List Name) → (p ≢ []) → Fits 64 (Some (line_entry p l.1)) (Some (whole t)) → (u : Tree Leaf) × (merge ls ≡ Some u) × Fits 64 (Some (whole u)) (Some (whole t))
        → (u : Tree Leaf) × (option_and_then (joined_with (meeting 63) (line_tree p l.1)) (merge ls) ≡ Some u) × Fits 64 (Some (whole u)) (Some (whole t))
    by [] some fits rest = absurd (some refl)
    by (n ∷ p) some fits rest =
        let known = made ls are.1 rest.0 rest.1 in
        let found = meeting_found 64 (line_entry (n ∷ p) l.1) (whole rest.0) (Some (whole t)) (line_ordered (n ∷ p) l.1 are.0.1) known.ordered fits rest.2 in
        let tree = mapped_some whole (joined_with (meeting 63) (line_tree (n ∷ p) l.1) rest.0) found.0 found.1 in
        (tree.0, ap (option_and_then (joined_with (meeting 63) (line_tree (n ∷ p) l.1))) rest.1 ∙ tree.1, subst (λ x. Fits 64 (Some x) (Some (whole t))) (sym tree.2) found.2)

-- ---- the law

is_merge : (es : TreeLines) (t : Tree Leaf) → IsMade es t → IsMergeOf es t
is_merge es t h = record { ordered = h.ordered; lines = only es h.lines; nothing_else = h.nothing_else; deep = deep es h.lines }
  where
    only : (es : TreeLines) → AllFit t es → AllByRecursion (λ (l : List Name × Entry Leaf). (p : List Name) → GivesOnly (gives_at l.0 l.1 p) (stands_at t p)) es
    only [] h = tt
    only (l ∷ ls) h = ((λ p. subst (λ s. GivesOnly s (stands_at t p)) (sym (gives_line l.0 l.1 p)) (h.0.only p)), only ls h.1)

    deep : (es : TreeLines) → AllFit t es → AllByRecursion (λ (l : List Name × Entry Leaf). (p q : List Name) → length p ≡ 64 → gives_at l.0 l.1 p ≡ a_directory → gives_at l.0 l.1 (p ++ q) ≡ stands_at t (p ++ q)) es
    deep [] h = tt
    deep (l ∷ ls) h = ((λ p q names dir. gives_line l.0 l.1 (p ++ q) ∙ h.0.deep p q names (sym (gives_line l.0 l.1 p) ∙ dir)), deep ls h.1)

all_fit : (es : TreeLines) (t : Tree Leaf) → AllByRecursion (λ (l : List Name × Entry Leaf). (p : List Name) → GivesOnly (gives_at l.0 l.1 p) (stands_at t p)) es
    → AllByRecursion (λ (l : List Name × Entry Leaf). (p q : List Name) → length p ≡ 64 → gives_at l.0 l.1 p ≡ a_directory → gives_at l.0 l.1 (p ++ q) ≡ stands_at t (p ++ q)) es → AllFit t es
all_fit [] t only deep = tt
all_fit (l ∷ ls) t only deep = (
  record {
    only = λ q. subst (λ s. GivesOnly s (stands_at t q)) (gives_line l.0 l.1 q) (only.0 q);
    deep = λ p q names dir. sym (gives_line l.0 l.1 (p ++ q)) ∙ deep.0 p q names (gives_line l.0 l.1 p ∙ dir);
  },
  all_fit ls t only.1 deep.1,
)

pub tells_merge : (es : TreeLines) → TellsMerge es
tells_merge es = record { sound = λ are t is. is_merge es t (made es are t is); complete = complete }
  where
    complete : AreMergeable es → (t : Tree Leaf) → IsMergeOf es t → merge es ≡ Some t
    complete are t h =
        let found = found_made es are t (all_fit es t h.lines h.deep) in
        let same : found.0 ≡ t = merge_once es found.0 t (is_merge es found.0 (made es are found.0 found.1)) h in
        found.1 ∙ ap Some same
