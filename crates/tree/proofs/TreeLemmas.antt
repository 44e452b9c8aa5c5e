-- A tree as a finite map from paths.
use Rattle.std.proofs.Common.{inl, inr, ◌≡◌, List, [], ◌∷◌, refl, ap, sym, ◌∙◌, false, cond}
use Rattle.std.specs.Prelude.{◌⊎◌, Option, Some, None}
use Rattle.std.specs.declared.cmp.Ordering.{Ordering}
use Rattle.std.specs.declared.cmp.Ordering.TheVariants.{Less, Equal, Greater}
use Rattle.std.specs.Ordering.{eq_by_cmp, is_eq, ordering_reverse}
use Rattle.std.specs.FinMap.Entries.{by_order}
use Rattle.std.specs.FinMap.{slice_cmp-IsAntisymmetric, nat_cmp-IsAntisymmetric}
use Rattle.std.specs.Cmp.{tied_itself}
use Rattle.std.specs.Cmp.Lexicographic.{nat_list_cmp_total}
use Rattle.tree.specs.Tree.{Name, name_cmp, path_cmp, Tree, empty, leaf, folder, Entry, single, whole, entry_of, IsBelowAll, IsOrdered}
use Rattle.tree.specs.Graft.{sole, put, graft}

-- the path without names is the first
pub never_less : (q : List Name) → path_cmp q [] ≡ Less → ⊥
never_less [] h = cc
never_less (a ∷ q) h = cc

pub name_itself : (n : Name) → name_cmp n n ≡ Equal
name_itself n = tied_itself nat_list_cmp_total n

pub name_same : (n m : Name) → name_cmp n m ≡ Equal → n ≡ m
name_same n m e = slice_cmp-IsAntisymmetric nat_cmp-IsAntisymmetric n m e

pub name_greater : (n m : Name) → name_cmp n m ≡ Greater → name_cmp m n ≡ Less
name_greater n m e = nat_list_cmp_total.antisymm m n ∙ ap ordering_reverse e

pub name_trans : (n m k : Name) → name_cmp n m ≡ Less → name_cmp m k ≡ Less → name_cmp n k ≡ Less
name_trans n m k p q = nat_list_cmp_total.trans n m k p q

pub apart_cmp : (k n : Name) → (k ≡ n → ⊥) → eq_by_cmp name_cmp k n ≡ false
apart_cmp k n h = other (name_cmp k n) refl
  where
    other : (o : Ordering) → name_cmp k n ≡ o → is_eq o ≡ false
    other Less e = refl
    other Equal e = absurd (h (name_same k n e))
    other Greater e = refl

-- names are one or two
pub one_or_two : (n m : Name) → (n ≡ m) ⊎ (n ≡ m → ⊥)
one_or_two n m = by (name_cmp n m) refl
  where
    by : (o : Ordering) → name_cmp n m ≡ o → (n ≡ m) ⊎ (n ≡ m → ⊥)
    by Less e = inr (λ q. let same : name_cmp n n ≡ Less = ap (name_cmp n) q ∙ e in let own = name_itself n in cc)
    by Equal e = inl (name_same n m e)
    by Greater e = inr (λ q. let same : name_cmp n n ≡ Greater = ap (name_cmp n) q ∙ e in let own = name_itself n in cc)

pub below_trans : {L : Type 0} (n m : Name) (t : Tree L) → name_cmp n m ≡ Less → IsBelowAll m t → IsBelowAll n t
below_trans n m empty e h = tt
below_trans n m (leaf k x rest) e h = (name_trans n m k e h.0, below_trans n m rest e h.1)
below_trans n m (folder k below rest) e h = (name_trans n m k e h.0, below_trans n m rest e h.1)

pub none-below : {L : Type 0} (n : Name) (t : Tree L) → IsBelowAll n t → entry_of n t ≡ None
none-below n empty h = refl
none-below n (leaf m x rest) h = ap (λ o. cond (is_eq o) (Some (single x)) (entry_of n rest)) h.0 ∙ none-below n rest h.1
none-below n (folder m below rest) h = ap (λ o. cond (is_eq o) (Some (whole below)) (entry_of n rest)) h.0 ∙ none-below n rest h.1

-- what stands under the first name after a leaf is put at a path
abbrev pub put_entry : {X : Type 0} → List Name → X → Option (Entry X) → Entry X
put_entry [] x None = single x
put_entry (n ∷ p) x None = whole (put (n ∷ p) x empty)
put_entry p x (Some (single y)) = single y
put_entry p x (Some (whole t)) = whole (put p x t)

entry-sole : {X : Type 0} (n : Name) (p : List Name) (x : X) (rest : Tree X) → entry_of n (sole (n ∷ p) x rest) ≡ Some (put_entry p x None)
entry-sole n [] x rest = ap (λ o. cond (is_eq o) (Some (single x)) (entry_of n rest)) (name_itself n)
entry-sole n (m ∷ p) x rest = ap (λ o. cond (is_eq o) (Some (whole (sole (m ∷ p) x empty))) (entry_of n rest)) (name_itself n)

other-sole : {X : Type 0} (k n : Name) (p : List Name) (x : X) (rest : Tree X) → (k ≡ n → ⊥) → entry_of k (sole (n ∷ p) x rest) ≡ entry_of k rest
other-sole k n [] x rest h = ap (λ b. cond b (Some (single x)) (entry_of k rest)) (apart_cmp k n h)
other-sole k n (m ∷ p) x rest h = ap (λ b. cond b (Some (whole (sole (m ∷ p) x empty))) (entry_of k rest)) (apart_cmp k n h)

put_at_leaf : {X : Type 0} (n : Name) (p : List Name) (x : X) (m : Name) (y : X) (rest : Tree X) → IsOrdered (leaf m y rest)
    → entry_of n (put (n ∷ p) x rest) ≡ Some (put_entry p x (entry_of n rest)) → (o : Ordering) → name_cmp n m ≡ o
    → entry_of n (by_order o (sole (n ∷ p) x (leaf m y rest)) (leaf m y rest) (leaf m y (put (n ∷ p) x rest))) ≡ Some (put_entry p x (cond (is_eq o) (Some (single y)) (entry_of n rest)))
put_at_leaf n p x m y rest h ih Less e = entry-sole n p x (leaf m y rest) ∙ ap (λ q. Some (put_entry p x q)) (sym (none-below n rest (below_trans n m rest e h.0)))
put_at_leaf n p x m y rest h ih Equal e = ap (λ o. cond (is_eq o) (Some (single y)) (entry_of n rest)) e
put_at_leaf n p x m y rest h ih Greater e = ap (λ o. cond (is_eq o) (Some (single y)) (entry_of n (put (n ∷ p) x rest))) e ∙ ih

put_at_folder : {X : Type 0} (n : Name) (p : List Name) (x : X) (m : Name) (below rest : Tree X) → IsOrdered (folder m below rest)
    → entry_of n (put (n ∷ p) x rest) ≡ Some (put_entry p x (entry_of n rest)) → (o : Ordering) → name_cmp n m ≡ o
    → entry_of n (by_order o (sole (n ∷ p) x (folder m below rest)) (folder m (put p x below) rest) (folder m below (put (n ∷ p) x rest))) ≡ Some (put_entry p x (cond (is_eq o) (Some (whole below)) (entry_of n rest)))
put_at_folder n p x m below rest h ih Less e = entry-sole n p x (folder m below rest) ∙ ap (λ q. Some (put_entry p x q)) (sym (none-below n rest (below_trans n m rest e h.0)))
put_at_folder n p x m below rest h ih Equal e = ap (λ o. cond (is_eq o) (Some (whole (put p x below))) (entry_of n rest)) e
put_at_folder n p x m below rest h ih Greater e = ap (λ o. cond (is_eq o) (Some (whole below)) (entry_of n (put (n ∷ p) x rest))) e ∙ ih

-- the entry of the first name, after a leaf was put at a path
pub entry-put : {X : Type 0} (n : Name) (p : List Name) (x : X) (t : Tree X) → IsOrdered t → entry_of n (put (n ∷ p) x t) ≡ Some (put_entry p x (entry_of n t))
entry-put n p x empty h = entry-sole n p x empty
entry-put n p x (leaf m y rest) h = put_at_leaf n p x m y rest h (entry-put n p x rest h.1) (name_cmp n m) refl
entry-put n p x (folder m below rest) h = put_at_folder n p x m below rest h (entry-put n p x rest h.2) (name_cmp n m) refl

-- the entry of any other name stays
pub entry-put_other : {X : Type 0} (k n : Name) (p : List Name) (x : X) (t : Tree X) → (k ≡ n → ⊥) → entry_of k (put (n ∷ p) x t) ≡ entry_of k t
entry-put_other k n p x empty h = other-sole k n p x empty h
entry-put_other k n p x (leaf m y rest) h =
    let ih = entry-put_other k n p x rest h in
    elim (name_cmp n m) as (λ o. entry_of k (by_order o (sole (n ∷ p) x (leaf m y rest)) (leaf m y rest) (leaf m y (put (n ∷ p) x rest))) ≡ entry_of k (leaf m y rest)) [
      | Less ↦ other-sole k n p x (leaf m y rest) h
      | Equal ↦ refl
      | Greater ↦ ap (cond (eq_by_cmp name_cmp k m) (Some (single y))) ih
    ]
entry-put_other k n p x (folder m below rest) h =
    let ih = entry-put_other k n p x rest h in
    put_other_folder k n p x m below rest h ih (name_cmp n m) refl
  where
    put_other_folder : {X : Type 0} (k n : Name) (p : List Name) (x : X) (m : Name) (below rest : Tree X) → (k ≡ n → ⊥) → entry_of k (put (n ∷ p) x rest) ≡ entry_of k rest → (o : Ordering) → name_cmp n m ≡ o
        → entry_of k (by_order o (sole (n ∷ p) x (folder m below rest)) (folder m (put p x below) rest) (folder m below (put (n ∷ p) x rest))) ≡ entry_of k (folder m below rest)
    put_other_folder k n p x m below rest h ih Less e = other-sole k n p x (folder m below rest) h
    put_other_folder k n p x m below rest h ih Equal e =
        let apart : eq_by_cmp name_cmp k m ≡ false = apart_cmp k m (λ q. h (q ∙ sym (name_same n m e))) in
        ap (λ b. cond b (Some (whole (put p x below))) (entry_of k rest)) apart ∙ sym (ap (λ b. cond b (Some (whole below)) (entry_of k rest)) apart)
    put_other_folder k n p x m below rest h ih Greater e = ap (cond (eq_by_cmp name_cmp k m) (Some (whole below))) ih

-- names still rise
below-sole : {X : Type 0} (k n : Name) (p : List Name) (x : X) (rest : Tree X) → name_cmp k n ≡ Less → IsBelowAll k rest → IsBelowAll k (sole (n ∷ p) x rest)
below-sole k n [] x rest e h = (e, h)
below-sole k n (m ∷ p) x rest e h = (e, h)

pub below-put : {X : Type 0} (k n : Name) (p : List Name) (x : X) (t : Tree X) → name_cmp k n ≡ Less → IsBelowAll k t → IsBelowAll k (put (n ∷ p) x t)
below-put k n p x empty e h = below-sole k n p x empty e tt
below-put k n p x (leaf m y rest) e h =
    elim (name_cmp n m) as (λ o. IsBelowAll k (by_order o (sole (n ∷ p) x (leaf m y rest)) (leaf m y rest) (leaf m y (put (n ∷ p) x rest)))) [
      | Less ↦ below-sole k n p x (leaf m y rest) e h
      | Equal ↦ h
      | Greater ↦ (h.0, below-put k n p x rest e h.1)
    ]
below-put k n p x (folder m below rest) e h =
    elim (name_cmp n m) as (λ o. IsBelowAll k (by_order o (sole (n ∷ p) x (folder m below rest)) (folder m (put p x below) rest) (folder m below (put (n ∷ p) x rest)))) [
      | Less ↦ below-sole k n p x (folder m below rest) e h
      | Equal ↦ h
      | Greater ↦ (h.0, below-put k n p x rest e h.1)
    ]

ordered-sole : {X : Type 0} (n : Name) (p : List Name) (x : X) (rest : Tree X) → IsBelowAll n rest → IsOrdered rest → IsOrdered (sole (n ∷ p) x rest)
ordered-sole n [] x rest b h = (b, h)
ordered-sole n (m ∷ p) x rest b h = (b, ordered-sole m p x empty tt tt, h)

-- a tree in which a leaf is put is in order
pub ordered-put : {X : Type 0} (p : List Name) (x : X) (t : Tree X) → IsOrdered t → IsOrdered (put p x t)
ordered-put [] x t h = h
ordered-put (n ∷ p) x empty h = ordered-sole n p x empty tt tt
ordered-put (n ∷ p) x (leaf m y rest) h =
    (elim (name_cmp n m) as (λ o. name_cmp n m ≡ o → IsOrdered (by_order o (sole (n ∷ p) x (leaf m y rest)) (leaf m y rest) (leaf m y (put (n ∷ p) x rest)))) [
      | Less ↦ λ e. ordered-sole n p x (leaf m y rest) (e, below_trans n m rest e h.0) h
      | Equal ↦ λ e. h
      | Greater ↦ λ e. (below-put m n p x rest (name_greater n m e) h.0, ordered-put (n ∷ p) x rest h.1)
    ]) refl
ordered-put (n ∷ p) x (folder m below rest) h =
    (elim (name_cmp n m) as (λ o. name_cmp n m ≡ o → IsOrdered (by_order o (sole (n ∷ p) x (folder m below rest)) (folder m (put p x below) rest) (folder m below (put (n ∷ p) x rest)))) [
      | Less ↦ λ e. ordered-sole n p x (folder m below rest) (e, below_trans n m rest e h.0) h
      | Equal ↦ λ e. (h.0, ordered-put p x below h.1, h.2)
      | Greater ↦ λ e. (below-put m n p x rest (name_greater n m e) h.0, h.1, ordered-put (n ∷ p) x rest h.2)
    ]) refl

pub ordered-graft : {X : Type 0} (ls : List (List Name × X)) → IsOrdered (graft ls)
ordered-graft [] = tt
ordered-graft (l ∷ ls) = ordered-put l.0 l.1 (graft ls) (ordered-graft ls)
