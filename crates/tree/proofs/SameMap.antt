-- Ordered trees that are one finite map are one tree.
use Rattle.std.proofs.Common.{◌≡◌, List, [], ◌∷◌, refl, ap, sym, subst, ◌∙◌, cond, inl, inr}
use Rattle.std.specs.Prelude.{Some, None}
use Rattle.std.specs.declared.cmp.Ordering.{Ordering}
use Rattle.std.specs.declared.cmp.Ordering.TheVariants.{Less, Equal, Greater}
use Rattle.std.specs.Ordering.{is_eq, ordering_reverse}
use Rattle.std.specs.Cmp.Lexicographic.{nat_list_cmp_total}
use Rattle.tree.specs.Tree.{Name, name_cmp, Tree, empty, leaf, folder, Entry, single, whole, entry_of, below_entry, IsBelowAll, IsOrdered, Standing, nothing, a_leaf, a_directory, standing, stands_at}
use Rattle.tree.proofs.TreeLemmas.{name_same, none-below, below_trans, apart_cmp, one_or_two}
use Rattle.tree.proofs.SameTree.{cons, entry-cons, own_entry}

-- the trees are one finite map
abbrev IsSameMap : {L : Type 0} → Tree L → Tree L → Type 0
IsSameMap t u = (p : List Name) → stands_at t p ≡ stands_at u p

something : {L : Type 0} (e : Entry L) → standing (Some e) ≡ nothing → ⊥
something (single x) h = cc
something (whole t) h = cc

-- the names of the first entries are one
first_names : {L : Type 0} (n : Name) (e : Entry L) (t : Tree L) (m : Name) (f : Entry L) (u : Tree L) → IsBelowAll n t → IsBelowAll m u
    → IsSameMap (cons n e t) (cons m f u) → (o : Ordering) → name_cmp n m ≡ o → n ≡ m
first_names n e t m f u h g same Less is =
    let none : entry_of n (cons m f u) ≡ None = entry-cons n m f u ∙ ap (λ o. cond (is_eq o) (Some f) (entry_of n u)) is ∙ none-below n u (below_trans n m u is g) in
    absurd (something e (sym (ap standing (own_entry n e t)) ∙ same (n ∷ []) ∙ ap standing none))
first_names n e t m f u h g same Equal is = name_same n m is
first_names n e t m f u h g same Greater is =
    let less : name_cmp m n ≡ Less = nat_list_cmp_total.antisymm m n ∙ ap ordering_reverse is in
    let none : entry_of m (cons n e t) ≡ None = entry-cons m n e t ∙ ap (λ o. cond (is_eq o) (Some e) (entry_of m t)) less ∙ none-below m t (below_trans m n t less h) in
    absurd (something f (sym (ap standing (own_entry m f u)) ∙ sym (same (m ∷ [])) ∙ ap standing none))

-- what stands below the first entry
first_standing : {L : Type 0} (n : Name) (e f : Entry L) (t u : Tree L) → IsSameMap (cons n e t) (cons n f u) → (q : List Name) → standing (below_entry q (Some e)) ≡ standing (below_entry q (Some f))
first_standing n e f t u same q = sym (ap (λ o. standing (below_entry q o)) (own_entry n e t)) ∙ same (n ∷ q) ∙ ap (λ o. standing (below_entry q o)) (own_entry n f u)

-- the entries behind the first are one finite map
others : {L : Type 0} (n : Name) (e f : Entry L) (t u : Tree L) → IsBelowAll n t → IsBelowAll n u → IsSameMap (cons n e t) (cons n f u) → IsSameMap t u
others n e f t u h g same [] = refl
others n e f t u h g same (k ∷ q) = elim (one_or_two k n) [
  | inl s ↦
      let left : entry_of k t ≡ None = ap (λ j. entry_of j t) s ∙ none-below n t h in
      let right : entry_of k u ≡ None = ap (λ j. entry_of j u) s ∙ none-below n u g in
      ap (λ o. standing (below_entry q o)) (left ∙ sym right)
  | inr apart ↦
      let left : entry_of k (cons n e t) ≡ entry_of k t = entry-cons k n e t ∙ ap (λ b. cond b (Some e) (entry_of k t)) (apart_cmp k n apart) in
      let right : entry_of k (cons n f u) ≡ entry_of k u = entry-cons k n f u ∙ ap (λ b. cond b (Some f) (entry_of k u)) (apart_cmp k n apart) in
      sym (ap (λ o. standing (below_entry q o)) left) ∙ same (k ∷ q) ∙ ap (λ o. standing (below_entry q o)) right
]

-- under one name for both
renamed : {L : Type 0} (n m : Name) (e f : Entry L) (t u : Tree L) → n ≡ m → IsSameMap (cons n e t) (cons m f u) → IsSameMap (cons n e t) (cons n f u)
renamed n m e f t u name same p = same p ∙ ap (λ j. stands_at (cons j f u) p) (sym name)

no_first : {L : Type 0} (n : Name) (e : Entry L) (t : Tree L) → IsSameMap empty (cons n e t) → ⊥
no_first n e t same = something e (sym (ap standing (own_entry n e t)) ∙ sym (same (n ∷ [])))

pub same_map : {L : Type 0} (t u : Tree L) → IsOrdered t → IsOrdered u → IsSameMap t u → t ≡ u
same_map empty empty h g same = refl
same_map empty (leaf m y u) h g same = absurd (no_first m (single y) u same)
same_map empty (folder m v u) h g same = absurd (no_first m (whole v) u same)
same_map (leaf n x t) empty h g same = absurd (no_first n (single x) t (λ p. sym (same p)))
same_map (folder n s t) empty h g same = absurd (no_first n (whole s) t (λ p. sym (same p)))
same_map (leaf n x t) (leaf m y u) h g same =
    let name = first_names n (single x) t m (single y) u h.0 g.0 same (name_cmp n m) refl in
    let one = renamed n m (single x) (single y) t u name same in
    let below : IsBelowAll n u = subst (λ j. IsBelowAll j u) (sym name) g.0 in
    let leaves : x ≡ y = (let both : ◌≡◌ {A = Standing _} (a_leaf x) (a_leaf y) = first_standing n (single x) (single y) t u one [] in cc) in
    let rest = same_map t u h.1 g.1 (others n (single x) (single y) t u h.0 below one) in
    λ i. leaf (name i) (leaves i) (rest i)
same_map (leaf n x t) (folder m v u) h g same =
    let name = first_names n (single x) t m (whole v) u h.0 g.0 same (name_cmp n m) refl in
    let both : ◌≡◌ {A = Standing _} (a_leaf x) a_directory = first_standing n (single x) (whole v) t u (renamed n m (single x) (whole v) t u name same) [] in
    cc
same_map (folder n s t) (leaf m y u) h g same =
    let name = first_names n (whole s) t m (single y) u h.0 g.0 same (name_cmp n m) refl in
    let both : ◌≡◌ {A = Standing _} a_directory (a_leaf y) = first_standing n (whole s) (single y) t u (renamed n m (whole s) (single y) t u name same) [] in
    cc
same_map (folder n s t) (folder m v u) h g same =
    let name = first_names n (whole s) t m (whole v) u h.0 g.0 same (name_cmp n m) refl in
    let one = renamed n m (whole s) (whole v) t u name same in
    let under : IsBelowAll n u = subst (λ j. IsBelowAll j u) (sym name) g.0 in
    let below = same_map s v h.1 g.1 (first_standing n (whole s) (whole v) t u one) in
    let rest = same_map t u h.2 g.2 (others n (whole s) (whole v) t u h.0 under one) in
    λ i. folder (name i) (below i) (rest i)
