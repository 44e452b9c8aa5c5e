-- What a graft has at each path.
use Rattle.std.proofs.Common.{◌≡◌, ◌≢◌, List, [], ◌∷◌, ◌++◌, refl, ap, sym, ◌∙◌, subst, Bool, true, false, cond, inl, inr}
use Rattle.std.specs.Prelude.{Option, Some, None, option_map}
use Rattle.std.specs.List.{AllByRecursion}
use Rattle.std.specs.Ordering.{eq_by_cmp}
use Rattle.tree.proofs.Apart.{Apart, HaveApart}
use Rattle.tree.specs.Tree.{Name, name_cmp, Tree, empty, leaf, folder, Entry, single, whole, entry_of, below_entry, tree_at, IsOrdered}
use Rattle.tree.specs.Graft.{put, graft, expand, with_entry}
use Rattle.tree.proofs.TreeLemmas.{entry-put, entry-put_other, put_entry, one_or_two, ordered-graft}

-- nothing stands at the path, above it or below it
abbrev pub IsFree : {X : Type 0} → List Name → Option (Entry X) → Type 0
IsFree p None = Unit {0}
IsFree p (Some (single x)) = ⊥
IsFree [] (Some (whole t)) = ⊥
IsFree (n ∷ p) (Some (whole t)) = IsFree p (entry_of n t)

abbrev pub IsInOrder : {X : Type 0} → Option (Entry X) → Type 0
IsInOrder None = Unit {0}
IsInOrder (Some (single x)) = Unit {0}
IsInOrder (Some (whole t)) = IsOrdered t

pub in_order : {X : Type 0} (n : Name) (t : Tree X) → IsOrdered t → IsInOrder (entry_of n t)
in_order n empty h = tt
in_order n (leaf m x rest) h = elim (eq_by_cmp name_cmp n m) as (λ q. IsInOrder (cond q (Some (single x)) (entry_of n rest))) [ true ↦ tt | false ↦ in_order n rest h.1 ]
in_order n (folder m below rest) h = elim (eq_by_cmp name_cmp n m) as (λ q. IsInOrder (cond q (Some (whole below)) (entry_of n rest))) [ true ↦ h.1 | false ↦ in_order n rest h.2 ]

pub none_within : {X : Type 0} (p : List Name) → below_entry {L = X} p None ≡ None
none_within [] = refl
none_within (n ∷ p) = refl

at_put : {X : Type 0} (p : List Name) (x : X) (o : Option (Entry X)) → IsInOrder o → IsFree p o → below_entry p (Some (put_entry p x o)) ≡ Some (single x)
at_put [] x None h f = refl
at_put (n ∷ p) x None h f = ap (below_entry p) (entry-put n p x empty tt) ∙ at_put p x None tt tt
at_put [] x (Some (single y)) h f = elim f [ ]
at_put (n ∷ p) x (Some (single y)) h f = elim f [ ]
at_put [] x (Some (whole t)) h f = elim f [ ]
at_put (n ∷ p) x (Some (whole t)) h f = ap (below_entry p) (entry-put n p x t h) ∙ at_put p x (entry_of n t) (in_order n t h) f

-- what stands at a path apart from it stays
at_other : {X : Type 0} (p q : List Name) (x : X) (o : Option (Entry X)) → IsInOrder o → Apart p q → below_entry q (Some (put_entry p x o)) ≡ below_entry q o
at_other [] q x o h a = elim a [ ]
at_other (n ∷ p) [] x o h a = elim a [ ]
at_other (n ∷ p) (m ∷ q) x (Some (single y)) h a = refl
at_other (n ∷ p) (m ∷ q) x None h a = elim (one_or_two n m) [
  | inl e ↦ subst (λ k. below_entry q (entry_of k (put (n ∷ p) x empty)) ≡ None) e (ap (below_entry q) (entry-put n p x empty tt) ∙ at_other p q x None tt (a e) ∙ none_within q)
  | inr e ↦ ap (below_entry q) (entry-put_other m n p x empty (λ s. e (sym s))) ∙ none_within q
]
at_other (n ∷ p) (m ∷ q) x (Some (whole t)) h a = elim (one_or_two n m) [
  | inl e ↦ subst (λ k. below_entry q (entry_of k (put (n ∷ p) x t)) ≡ below_entry q (entry_of k t)) e (ap (below_entry q) (entry-put n p x t h) ∙ at_other p q x (entry_of n t) (in_order n t h) (a e))
  | inr e ↦ ap (below_entry q) (entry-put_other m n p x t (λ s. e (sym s)))
]

free_other : {X : Type 0} (p q : List Name) (x : X) (o : Option (Entry X)) → IsInOrder o → Apart p q → IsFree q o → IsFree q (Some (put_entry p x o))
free_other [] q x o h a f = elim a [ ]
free_other (n ∷ p) [] x o h a f = elim a [ ]
free_other (n ∷ p) (m ∷ q) x (Some (single y)) h a f = f
free_other (n ∷ p) (m ∷ q) x None h a f = elim (one_or_two n m) [
  | inl e ↦ subst (λ k. IsFree q (entry_of k (put (n ∷ p) x empty))) e (subst (IsFree q) (sym (entry-put n p x empty tt)) (free_other p q x None tt (a e) tt))
  | inr e ↦ subst (IsFree q) (sym (entry-put_other m n p x empty (λ s. e (sym s)))) tt
]
free_other (n ∷ p) (m ∷ q) x (Some (whole t)) h a f = elim (one_or_two n m) [
  | inl e ↦ subst (λ k. IsFree q (entry_of k (put (n ∷ p) x t))) e (subst (IsFree q) (sym (entry-put n p x t h)) (free_other p q x (entry_of n t) (in_order n t h) (a e) (subst (λ k. IsFree q (entry_of k t)) (sym e) f)))
  | inr e ↦ subst (IsFree q) (sym (entry-put_other m n p x t (λ s. e (sym s)))) f
]

-- a path above the put leaf is a directory
above_put : {X : Type 0} (q : List Name) (n : Name) (r : List Name) (x : X) (o : Option (Entry X)) → IsInOrder o → IsFree (q ++ n ∷ r) o → (u : Tree X) × (below_entry q (Some (put_entry (q ++ n ∷ r) x o)) ≡ Some (whole u))
above_put [] n r x None h f = (put (n ∷ r) x empty, refl)
above_put [] n r x (Some (single y)) h f = elim f [ ]
above_put [] n r x (Some (whole t)) h f = (put (n ∷ r) x t, refl)
above_put (m ∷ q) n r x None h f =
    let rest = above_put q n r x None tt tt in
    (rest.0, ap (below_entry q) (entry-put m (q ++ n ∷ r) x empty tt) ∙ rest.1)
above_put (m ∷ q) n r x (Some (single y)) h f = elim f [ ]
above_put (m ∷ q) n r x (Some (whole t)) h f =
    let rest = above_put q n r x (entry_of m t) (in_order m t h) f in
    (rest.0, ap (below_entry q) (entry-put m (q ++ n ∷ r) x t h) ∙ rest.1)

-- a directory stays one
folder_kept : {X : Type 0} (p q : List Name) (x : X) (o : Option (Entry X)) (u : Tree X) → IsInOrder o → below_entry q o ≡ Some (whole u) → (v : Tree X) × (below_entry q (Some (put_entry p x o)) ≡ Some (whole v))
folder_kept p [] x None u h e = cc
folder_kept p [] x (Some (single y)) u h e = cc
folder_kept p [] x (Some (whole t)) u h e = (put p x t, refl)
folder_kept p (m ∷ q) x None u h e = cc
folder_kept p (m ∷ q) x (Some (single y)) u h e = cc
folder_kept [] (m ∷ q) x (Some (whole t)) u h e = (u, e)
folder_kept (n ∷ p) (m ∷ q) x (Some (whole t)) u h e = elim (one_or_two n m) [
  | inl s ↦ let rest = folder_kept p q x (entry_of n t) u (in_order n t h) (ap (λ k. below_entry q (entry_of k t)) s ∙ e) in
      (rest.0, ap (λ k. below_entry q (entry_of k (put (n ∷ p) x t))) (sym s) ∙ ap (below_entry q) (entry-put n p x t h) ∙ rest.1)
  | inr s ↦ (u, ap (below_entry q) (entry-put_other m n p x t (λ w. s (sym w))) ∙ e)
]

-- a path of the graft's lines
pub all_of : {A : Type 0} {P Q : A → Type 0} (xs : List A) → ((x : A) → P x → Q x) → AllByRecursion P xs → AllByRecursion Q xs
all_of [] f h = tt
all_of (x ∷ xs) f h = (f x h.0, all_of xs f h.1)

-- what is free at a path where nothing was put
pub free_graft : {X : Type 0} (ls : List (List Name × X)) (n : Name) (q : List Name) → AllByRecursion (λ (l : List Name × X). Apart l.0 (n ∷ q)) ls → IsFree (n ∷ q) (Some (whole (graft ls)))
free_graft [] n q h = tt
free_graft (l ∷ ls) n q h = free_other l.0 (n ∷ q) l.1 (Some (whole (graft ls))) (ordered-graft ls) h.0 (free_graft ls n q h.1)

free_at : {X : Type 0} (ls : List (List Name × X)) (p : List Name) → p ≢ [] → AllByRecursion (λ (l : List Name × X). Apart l.0 p) ls → IsFree p (Some (whole (graft ls)))
free_at ls [] some h = absurd (some refl)
free_at ls (n ∷ p) some h = free_graft ls n p h

-- each line's leaf stands at its target
pub graft_lines : {X : Type 0} (ls : List (List Name × X)) → HaveApart ls → AllByRecursion (λ (l : List Name × X). tree_at (graft ls) l.0 ≡ Some (single l.1)) ls
graft_lines [] h = tt
graft_lines (l ∷ ls) h = (
  at_put l.0 l.1 (Some (whole (graft ls))) (ordered-graft ls) (free_at ls l.0 h.0 (all_of ls (λ k a. a.1) h.1)),
  both ls l.0 (graft ls) (ordered-graft ls) l.1 h.1 (graft_lines ls h.2),
)
  where
    both : {X : Type 0} (ks : List (List Name × X)) (p : List Name) (t : Tree X) → IsOrdered t → (x : X) → AllByRecursion (λ k. Apart p k.0 × Apart k.0 p) ks → AllByRecursion (λ (k : List Name × X). tree_at t k.0 ≡ Some (single k.1)) ks
        → AllByRecursion (λ (k : List Name × X). tree_at (put p x t) k.0 ≡ Some (single k.1)) ks
    both [] p t o x a h = tt
    both (k ∷ ks) p t o x a h = (at_other p k.0 x (Some (whole t)) o a.0.0 ∙ h.0, both ks p t o x a.1 h.1)

-- each path above a target is a directory
pub graft_parents : {X : Type 0} (ls : List (List Name × X)) → HaveApart ls → AllByRecursion (λ (l : List Name × X). (q : List Name) (n : Name) (r : List Name) → l.0 ≡ q ++ n ∷ r → (u : Tree X) × (tree_at (graft ls) q ≡ Some (whole u))) ls
graft_parents [] h = tt
graft_parents (l ∷ ls) h = (
  λ q n r e. let above = above_put q n r l.1 (Some (whole (graft ls))) (ordered-graft ls) (subst (λ p. IsFree p (Some (whole (graft ls)))) e (free_at ls l.0 h.0 (all_of ls (λ k a. a.1) h.1))) in
      (above.0, ap (λ p. below_entry q (Some (put_entry p l.1 (Some (whole (graft ls)))))) e ∙ above.1),
  all_of ls (λ k f q n r e. let old = f q n r e in folder_kept l.0 q l.1 (Some (whole (graft ls))) old.0 (ordered-graft ls) old.1) (graft_parents ls h.2),
)

-- An entry in a leaf's place.

abbrev pub expand_entry : {L : Type 0} → Entry (Entry L) → Entry L
expand_entry (single e) = e
expand_entry (whole t) = whole (expand t)

entry-with : {L : Type 0} (n m : Name) (e : Entry L) (t : Tree L) → entry_of n (with_entry m e t) ≡ cond (eq_by_cmp name_cmp n m) (Some e) (entry_of n t)
entry-with n m (single x) t = refl
entry-with n m (whole u) t = refl

chosen : {A B : Type 0} (f : A → B) (b : Bool) (x : A) (o : Option A) → cond b (Some (f x)) (option_map f o) ≡ option_map f (cond b (Some x) o)
chosen f true x o = refl
chosen f false x o = refl

entry-expand : {L : Type 0} (n : Name) (t : Tree (Entry L)) → entry_of n (expand t) ≡ option_map expand_entry (entry_of n t)
entry-expand n empty = refl
entry-expand n (leaf m e rest) = entry-with n m e (expand rest) ∙ ap (cond (eq_by_cmp name_cmp n m) (Some e)) (entry-expand n rest) ∙ chosen expand_entry (eq_by_cmp name_cmp n m) (single e) (entry_of n rest)
entry-expand n (folder m below rest) = ap (cond (eq_by_cmp name_cmp n m) (Some (whole (expand below)))) (entry-expand n rest) ∙ chosen expand_entry (eq_by_cmp name_cmp n m) (whole below) (entry_of n rest)

-- below a leaf stands what stands in its entry
pub at_expand : {L : Type 0} (p q : List Name) (o : Option (Entry (Entry L))) (e : Entry L) → below_entry p o ≡ Some (single e) → below_entry (p ++ q) (option_map expand_entry o) ≡ below_entry q (Some e)
at_expand [] q o e h = ap (λ k. below_entry q (option_map expand_entry k)) h
at_expand (n ∷ p) q None e h = cc
at_expand (n ∷ p) q (Some (single y)) e h = cc
at_expand (n ∷ p) q (Some (whole t)) e h = ap (below_entry (p ++ q)) (entry-expand n t) ∙ at_expand p q (entry_of n t) e h

pub nothing_expand : {L : Type 0} (p : List Name) (o : Option (Entry (Entry L))) → IsFree p o → below_entry p (option_map expand_entry o) ≡ None
nothing_expand p None f = none_within p
nothing_expand p (Some (single e)) f = elim f [ ]
nothing_expand [] (Some (whole t)) f = elim f [ ]
nothing_expand (n ∷ p) (Some (whole t)) f = ap (below_entry p) (entry-expand n t) ∙ nothing_expand p (entry_of n t) f

pub folder_expand : {L : Type 0} (p : List Name) (o : Option (Entry (Entry L))) (u : Tree (Entry L)) → below_entry p o ≡ Some (whole u) → below_entry p (option_map expand_entry o) ≡ Some (whole (expand u))
folder_expand [] o u h = ap (option_map expand_entry) h
folder_expand (n ∷ p) None u h = cc
folder_expand (n ∷ p) (Some (single e)) u h = cc
folder_expand (n ∷ p) (Some (whole t)) u h = ap (below_entry p) (entry-expand n t) ∙ folder_expand p (entry_of n t) u h
