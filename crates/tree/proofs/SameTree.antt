-- Trees that answer alike are one, and so are trees with one root among blobs without a clash.
use Rattle.std.proofs.Common.{◌≡◌, refl, ap, sym, ◌∙◌, subst, cond, inl, inr}
use Rattle.std.specs.Prelude.{Option, Some, None}
use Rattle.std.specs.declared.cmp.Ordering.{Ordering}
use Rattle.std.specs.declared.cmp.Ordering.TheVariants.{Less, Equal, Greater}
use Rattle.std.specs.Ordering.{eq_by_cmp, is_eq, ordering_reverse}
use Rattle.std.specs.Cmp.Lexicographic.{nat_list_cmp_total}
use Rattle.tree.specs.Tree.{Name, name_cmp, Tree, empty, leaf, folder, Entry, single, whole, entry_of, IsBelowAll, IsOrdered}
use Rattle.tree.proofs.TreeLemmas.{name_itself, name_same, none-below, below_trans, apart_cmp, one_or_two}

-- a tree of one entry and the rest
abbrev pub cons : {L : Type 0} → Name → Entry L → Tree L → Tree L
cons n (single x) rest = leaf n x rest
cons n (whole t) rest = folder n t rest

pub entry-cons : {L : Type 0} (k n : Name) (e : Entry L) (rest : Tree L) → entry_of k (cons n e rest) ≡ cond (eq_by_cmp name_cmp k n) (Some e) (entry_of k rest)
entry-cons k n (single x) rest = refl
entry-cons k n (whole t) rest = refl

pub own_entry : {L : Type 0} (n : Name) (e : Entry L) (rest : Tree L) → entry_of n (cons n e rest) ≡ Some e
own_entry n e rest = entry-cons n n e rest ∙ ap (λ o. cond (is_eq o) (Some e) (entry_of n rest)) (name_itself n)

-- the heads of two trees that answer alike
heads : {L : Type 0} (n : Name) (e : Entry L) (t : Tree L) (m : Name) (f : Entry L) (u : Tree L) → IsBelowAll n t → IsBelowAll m u
    → ((k : Name) → entry_of k (cons n e t) ≡ entry_of k (cons m f u)) → (o : Ordering) → name_cmp n m ≡ o → n ≡ m
heads n e t m f u h g same Less is =
    let no : entry_of n (cons m f u) ≡ None = entry-cons n m f u ∙ ap (λ o. cond (is_eq o) (Some f) (entry_of n u)) is ∙ none-below n u (below_trans n m u is g) in
    let yes : entry_of n (cons m f u) ≡ Some e = sym (same n) ∙ own_entry n e t in
    cc
heads n e t m f u h g same Equal is = name_same n m is
heads n e t m f u h g same Greater is =
    let less : name_cmp m n ≡ Less = nat_list_cmp_total.antisymm m n ∙ ap ordering_reverse is in
    let no : entry_of m (cons n e t) ≡ None = entry-cons m n e t ∙ ap (λ o. cond (is_eq o) (Some e) (entry_of m t)) less ∙ none-below m t (below_trans m n t less h) in
    let yes : entry_of m (cons n e t) ≡ Some f = same m ∙ own_entry m f u in
    cc

-- and their tails answer alike
tails : {L : Type 0} (n : Name) (e f : Entry L) (t u : Tree L) → IsBelowAll n t → IsBelowAll n u
    → ((k : Name) → entry_of k (cons n e t) ≡ entry_of k (cons n f u)) → (k : Name) → entry_of k t ≡ entry_of k u
tails n e f t u h g same k = elim (one_or_two k n) [
  | inl is ↦ ap (λ j. entry_of j t) is ∙ none-below n t h ∙ sym (none-below n u g) ∙ ap (λ j. entry_of j u) (sym is)
  | inr is ↦ ap (λ b. cond b (Some e) (entry_of k t)) (sym (apart_cmp k n is)) ∙ sym (entry-cons k n e t) ∙ same k ∙ entry-cons k n f u ∙ ap (λ b. cond b (Some f) (entry_of k u)) (apart_cmp k n is)
]

-- trees with the same entries are one
grow : {L : Type 0} (n : Name) (e : Entry L) (t : Tree L) (m : Name) (f : Entry L) (u : Tree L) → IsBelowAll n t → IsBelowAll m u
    → ((k : Name) → entry_of k (cons n e t) ≡ entry_of k (cons m f u)) → (((k : Name) → entry_of k t ≡ entry_of k u) → t ≡ u) → cons n e t ≡ cons m f u
grow n e t m f u h g same ih =
    let name = heads n e t m f u h g same (name_cmp n m) refl in
    let below : IsBelowAll n u = subst (λ j. IsBelowAll j u) (sym name) g in
    let alike : (k : Name) → entry_of k (cons n e t) ≡ entry_of k (cons n f u) = λ k. same k ∙ ap (λ j. entry_of k (cons j f u)) (sym name) in
    let entries : e ≡ f = (let both : ◌≡◌ {A = Option (Entry _)} (Some e) (Some f) = sym (own_entry n e t) ∙ alike n ∙ own_entry n f u in cc) in
    let rest = ih (tails n e f t u h below alike) in
    λ i. cons (name i) (entries i) (rest i)

nothing_there : {L : Type 0} (n : Name) (e : Entry L) (t : Tree L) → ((k : Name) → None ≡ entry_of k (cons n e t)) → ⊥
nothing_there n e t same = let yes = same n ∙ own_entry n e t in cc

pub same_tree : {L : Type 0} (t u : Tree L) → IsOrdered t → IsOrdered u → ((k : Name) → entry_of k t ≡ entry_of k u) → t ≡ u
same_tree empty empty h g same = refl
same_tree empty (leaf m y u) h g same = absurd (nothing_there m (single y) u same)
same_tree empty (folder m v u) h g same = absurd (nothing_there m (whole v) u same)
same_tree (leaf n x t) empty h g same = absurd (nothing_there n (single x) t (λ k. sym (same k)))
same_tree (folder n s t) empty h g same = absurd (nothing_there n (whole s) t (λ k. sym (same k)))
same_tree (leaf n x t) (leaf m y u) h g same = grow n (single x) t m (single y) u h.0 g.0 same (same_tree t u h.1 g.1)
same_tree (leaf n x t) (folder m v u) h g same = grow n (single x) t m (whole v) u h.0 g.0 same (same_tree t u h.1 g.2)
same_tree (folder n s t) (leaf m y u) h g same = grow n (whole s) t m (single y) u h.0 g.0 same (same_tree t u h.2 g.1)
same_tree (folder n s t) (folder m v u) h g same = grow n (whole s) t m (whole v) u h.0 g.0 same (same_tree t u h.2 g.2)
