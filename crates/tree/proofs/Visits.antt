-- A fold holds the Directory of each directory of the tree once, the root's first.
use Rattle.std.proofs.Common.{◌≡◌, ℕ, zero, suc, Bool, true, false, cond, List, [], ◌∷◌, ◌++◌, Option, Some, None, refl, ap, sym, ◌∙◌, subst, arith, inl, inr, ◌⊎◌}
use Rattle.std.specs.Prelude.{bytes_eq, ◌||◌, Contains}
use Rattle.std.specs.List.{AllByRecursion, list_any, IsDistinct}
use Rattle.std.specs.Ordering.{eq_by_cmp, is_eq}
use Rattle.std.proofs.lemmas.List.Elements.{Contains-append_left, Contains-append_right, Contains-append_cases}
use Rattle.std.proofs.lemmas.List.Folds.{list_any-append}
use Rattle.std.proofs.lemmas.Slice.Eq.{bytes_eq-Decides}
use Rattle.tree.specs.Tree.{Name, name_cmp, Tree, empty, leaf, folder, Entry, single, whole, entry_of, below_entry, tree_at, IsBelowAll, IsOrdered}
use Rattle.tree.specs.Form.{NodeValue, top}
use Rattle.tree.specs.Folded.{tops_below, visited, unseen, first_visits}
use Rattle.tree.proofs.Children.{same_name}
use Rattle.tree.proofs.TreeLemmas.{name_itself, none-below}

-- ---- each once

behind : {X : Type 0} (y : X) (xs : List X) (x : X) → Contains xs x → Contains (y ∷ xs) x
behind y xs x h = Contains-append_right (y ∷ []) xs x h

or_false : (a b : Bool) → (a || b) ≡ false → (a ≡ false) × (b ≡ false)
or_false true b e = absurd cc
or_false false b e = (refl, e)

or_true : (a b : Bool) → (a || b) ≡ true → (a ≡ true) ⊎ (b ≡ true)
or_true true b e = inl refl
or_true false b e = inr e

-- what is left holds nothing but what was there
unseen_held : (seen bs : List (List ℕ)) (b : List ℕ) → Contains (unseen seen bs) b → Contains bs b
unseen_held seen [] b h = h
unseen_held seen (x ∷ bs) b h = by (list_any (bytes_eq x) seen) h (unseen_held seen bs b) (unseen_held (seen ++ x ∷ []) bs b)
  where
    by : (q : Bool) → Contains (cond q (unseen seen bs) (x ∷ unseen (seen ++ x ∷ []) bs)) b → (Contains (unseen seen bs) b → Contains bs b) → (Contains (unseen (seen ++ x ∷ []) bs) b → Contains bs b) → Contains (x ∷ bs) b
    by true h same more = behind x bs b (same h)
    by false (zero, lt, e) same more = (0, omega arith, e)
    by false (suc k, lt, e) same more = behind x bs b (more (k, omega (arith, lt), e))

-- what was there is left, or was seen
held_unseen : (seen bs : List (List ℕ)) (b : List ℕ) → Contains bs b → (list_any (bytes_eq b) seen ≡ true) ⊎ Contains (unseen seen bs) b
held_unseen seen [] b (k, lt, e) = absurd (omega (arith, lt))
held_unseen seen (x ∷ bs) b (zero, lt, e) = by (list_any (bytes_eq x) seen) refl
  where
    by : (q : Bool) → list_any (bytes_eq x) seen ≡ q → (list_any (bytes_eq b) seen ≡ true) ⊎ Contains (cond q (unseen seen bs) (x ∷ unseen (seen ++ x ∷ []) bs)) b
    by true is = inl (ap (λ y. list_any (bytes_eq y) seen) (sym e) ∙ is)
    by false is = inr (0, omega arith, e)
held_unseen seen (x ∷ bs) b (suc k, lt, e) = by (list_any (bytes_eq x) seen) (held_unseen seen bs b (k, omega (arith, lt), e)) (held_unseen (seen ++ x ∷ []) bs b (k, omega (arith, lt), e))
  where
    more : (list_any (bytes_eq b) seen ≡ true) ⊎ ((bytes_eq b x || false) ≡ true) → (list_any (bytes_eq b) seen ≡ true) ⊎ Contains (x ∷ unseen (seen ++ x ∷ []) bs) b
    more (inl is) = inl is
    more (inr is) = inr (0, omega arith, one (or_true (bytes_eq b x) false is))
      where
        one : (bytes_eq b x ≡ true) ⊎ (false ≡ true) → x ≡ b
        one (inl is) = sym ((bytes_eq-Decides b x).0 is)
        one (inr is) = absurd cc

    by : (q : Bool) → (list_any (bytes_eq b) seen ≡ true) ⊎ Contains (unseen seen bs) b → (list_any (bytes_eq b) (seen ++ x ∷ []) ≡ true) ⊎ Contains (unseen (seen ++ x ∷ []) bs) b
        → (list_any (bytes_eq b) seen ≡ true) ⊎ Contains (cond q (unseen seen bs) (x ∷ unseen (seen ++ x ∷ []) bs)) b
    by true same rest = same
    by false same (inl is) = more (or_true (list_any (bytes_eq b) seen) (bytes_eq b x || false) (sym (list_any-append (bytes_eq b) seen (x ∷ [])) ∙ is))
    by false same (inr h) = inr (behind x (unseen (seen ++ x ∷ []) bs) b h)

-- nothing that is left was seen
abbrev AreNew : List (List ℕ) → List (List ℕ) → Type 0
AreNew seen bs = AllByRecursion (λ b. list_any (bytes_eq b) seen ≡ false) bs

less_new : (seen : List (List ℕ)) (x : List ℕ) (bs : List (List ℕ)) → AreNew (seen ++ x ∷ []) bs → AreNew seen bs
less_new seen x [] h = tt
less_new seen x (b ∷ bs) h = ((or_false (list_any (bytes_eq b) seen) (bytes_eq b x || false) (sym (list_any-append (bytes_eq b) seen (x ∷ [])) ∙ h.0)).0, less_new seen x bs h.1)

none_is : (seen : List (List ℕ)) (x : List ℕ) (bs : List (List ℕ)) → AreNew (seen ++ x ∷ []) bs → AllByRecursion (λ b. bytes_eq x b ≡ false) bs
none_is seen x [] h = tt
none_is seen x (b ∷ bs) h =
    let last = (or_false (list_any (bytes_eq b) seen) (bytes_eq b x || false) (sym (list_any-append (bytes_eq b) seen (x ∷ [])) ∙ h.0)).1 in
    let other = (or_false (bytes_eq b x) false last).0 in
    (by (bytes_eq x b) refl other, none_is seen x bs h.1)
  where
    by : (q : Bool) → bytes_eq x b ≡ q → bytes_eq b x ≡ false → bytes_eq x b ≡ false
    by false is other = is
    by true is other =
        let same = (bytes_eq-Decides x b).0 is in
        let clash : false ≡ true = sym other ∙ (bytes_eq-Decides b x).1 (sym same) in
        cc

are_new : (seen bs : List (List ℕ)) → AreNew seen (unseen seen bs)
are_new seen [] = tt
are_new seen (x ∷ bs) = by (list_any (bytes_eq x) seen) refl (are_new seen bs) (are_new (seen ++ x ∷ []) bs)
  where
    by : (q : Bool) → list_any (bytes_eq x) seen ≡ q → AreNew seen (unseen seen bs) → AreNew (seen ++ x ∷ []) (unseen (seen ++ x ∷ []) bs) → AreNew seen (cond q (unseen seen bs) (x ∷ unseen (seen ++ x ∷ []) bs))
    by true is same more = same
    by false is same more = (is, less_new seen x (unseen (seen ++ x ∷ []) bs) more)

unseen_distinct : (seen bs : List (List ℕ)) → IsDistinct bytes_eq (unseen seen bs)
unfolding IsDistinct
unseen_distinct seen [] = tt
unseen_distinct seen (x ∷ bs) =
    elim (list_any (bytes_eq x) seen) as (λ q. IsDistinct bytes_eq (cond q (unseen seen bs) (x ∷ unseen (seen ++ x ∷ []) bs))) [
      | true ↦ unseen_distinct seen bs
      | false ↦ (none_is seen x (unseen (seen ++ x ∷ []) bs) (are_new (seen ++ x ∷ []) bs), unseen_distinct (seen ++ x ∷ []) bs)
    ]

pub visits_once : (t : Tree NodeValue) → (rest : List (List ℕ)) × (first_visits t ≡ top t ∷ rest) × IsDistinct bytes_eq (first_visits t)
visits_once t = (unseen ([] ++ top t ∷ []) (tops_below t), refl, unseen_distinct [] (visited t))

-- ---- the directories of a tree

abbrev pub IsTopAt : Tree NodeValue → List Name → List ℕ → Type 0
IsTopAt t p b = (u : Tree NodeValue) × (tree_at t p ≡ Some (whole u)) × (b ≡ top u)

-- what stands among the entries behind a name has another name
pub entry_behind : {L : Type 0} (m : Name) (e : Entry L) (rest : Tree L) (n : Name) (p : List Name) (found : Entry L) → IsBelowAll m rest → tree_at rest (n ∷ p) ≡ Some found
    → below_entry p (cond (eq_by_cmp name_cmp n m) (Some e) (entry_of n rest)) ≡ Some found
entry_behind {L = L} m e rest n p found h at = by (eq_by_cmp name_cmp n m) refl
  where
    none : (q : List Name) → below_entry {L = L} q None ≡ None
    none [] = refl
    none (k ∷ q) = refl

    by : (q : Bool) → eq_by_cmp name_cmp n m ≡ q → below_entry p (cond q (Some e) (entry_of n rest)) ≡ Some found
    by false is = at
    by true is =
        let same = same_name n m is in
        let nothing : ◌≡◌ {A = Option (Entry L)} None (Some found) = sym (none p) ∙ ap (below_entry p) (sym (none-below m rest h) ∙ ap (λ k. entry_of k rest) (sym same)) ∙ at in
        absurd cc

top_found : (t : Tree NodeValue) (b : List ℕ) → IsOrdered t → Contains (tops_below t) b → (n : Name) × (p : List Name) × IsTopAt t (n ∷ p) b
top_found empty b ordered (k, lt, e) = absurd (omega (arith, lt))
top_found (leaf m x rest) b ordered h =
    let r = top_found rest b ordered.1 h in
    (r.0, r.1, (r.2.0, entry_behind m (single x) rest r.0 r.1 (whole r.2.0) ordered.0 r.2.1, r.2.2))
top_found (folder m below rest) b ordered h = by (Contains-append_cases (top below ∷ tops_below below) (tops_below rest) b h) (top_found below b ordered.1) (top_found rest b ordered.2)
  where
    own : (q : List Name) → tree_at (folder m below rest) (m ∷ q) ≡ below_entry q (Some (whole below))
    own q = ap (λ o. below_entry q (cond (is_eq o) (Some (whole below)) (entry_of m rest))) (name_itself m)

    by : Contains (top below ∷ tops_below below) b ⊎ Contains (tops_below rest) b → (Contains (tops_below below) b → (n : Name) × (p : List Name) × IsTopAt below (n ∷ p) b) → (Contains (tops_below rest) b → (n : Name) × (p : List Name) × IsTopAt rest (n ∷ p) b)
        → (n : Name) × (p : List Name) × IsTopAt (folder m below rest) (n ∷ p) b
    by (inl (zero, lt, e)) inner outer = (m, [], (below, own [], sym e))
    by (inl (suc k, lt, e)) inner outer =
        let r = inner (k, omega (arith, lt), e) in
        (m, r.0 ∷ r.1, (r.2.0, own (r.0 ∷ r.1) ∙ r.2.1, r.2.2))
    by (inr h) inner outer =
        let r = outer h in
        (r.0, r.1, (r.2.0, entry_behind m (whole below) rest r.0 r.1 (whole r.2.0) ordered.0 r.2.1, r.2.2))

top_held : (t : Tree NodeValue) (n : Name) (p : List Name) (u : Tree NodeValue) → tree_at t (n ∷ p) ≡ Some (whole u) → Contains (tops_below t) (top u)
top_held empty n [] u at = absurd cc
top_held empty n (k ∷ p) u at = absurd cc
top_held (leaf m x rest) n p u at = by (eq_by_cmp name_cmp n m) at (top_held rest n p u)
  where
    leaf_only : (p : List Name) → below_entry p (Some (single x)) ≡ Some (whole u) → ⊥
    leaf_only [] e = cc
    leaf_only (k ∷ q) e = cc

    by : (q : Bool) → below_entry p (cond q (Some (single x)) (entry_of n rest)) ≡ Some (whole u) → (tree_at rest (n ∷ p) ≡ Some (whole u) → Contains (tops_below rest) (top u)) → Contains (tops_below rest) (top u)
    by true e others = absurd (leaf_only p e)
    by false e others = others e
top_held (folder m below rest) n p u at = by (eq_by_cmp name_cmp n m) at (λ k q. top_held below k q u) (top_held rest n p u)
  where
    here : (p : List Name) → below_entry p (Some (whole below)) ≡ Some (whole u) → ((k : Name) (q : List Name) → tree_at below (k ∷ q) ≡ Some (whole u) → Contains (tops_below below) (top u))
        → Contains (top below ∷ tops_below below) (top u)
    here [] e inner = let same : below ≡ u = cc in (0, omega arith, ap top same)
    here (k ∷ q) e inner = behind (top below) (tops_below below) (top u) (inner k q e)

    by : (q : Bool) → below_entry p (cond q (Some (whole below)) (entry_of n rest)) ≡ Some (whole u) → ((k : Name) (q : List Name) → tree_at below (k ∷ q) ≡ Some (whole u) → Contains (tops_below below) (top u))
        → (tree_at rest (n ∷ p) ≡ Some (whole u) → Contains (tops_below rest) (top u)) → Contains ((top below ∷ tops_below below) ++ tops_below rest) (top u)
    by true e inner others = Contains-append_left (top below ∷ tops_below below) (tops_below rest) (top u) (here p e inner)
    by false e inner others = Contains-append_right (top below ∷ tops_below below) (tops_below rest) (top u) (others e)

-- a Directory is held exactly where it is that of a directory of the tree
pub visits_found : (t : Tree NodeValue) (b : List ℕ) → IsOrdered t → Contains (first_visits t) b → (p : List Name) × IsTopAt t p b
visits_found t b ordered h = by (unseen_held [] (visited t) b h)
  where
    by : Contains (visited t) b → (p : List Name) × IsTopAt t p b
    by (zero, lt, e) = ([], (t, refl, sym e))
    by (suc k, lt, e) = let r = top_found t b ordered (k, omega (arith, lt), e) in (r.0 ∷ r.1, r.2)

pub visits_held : (t : Tree NodeValue) (b : List ℕ) (p : List Name) → IsTopAt t p b → Contains (first_visits t) b
visits_held t b p at = subst (Contains (first_visits t)) (sym at.2) (new (held_unseen [] (visited t) (top at.0) (by p at.1)))
  where
    by : (p : List Name) → tree_at t p ≡ Some (whole at.0) → Contains (visited t) (top at.0)
    by [] e = let same : t ≡ at.0 = cc in (0, omega arith, ap top same)
    by (n ∷ q) e = behind (top t) (tops_below t) (top at.0) (top_held t n q at.0 e)

    new : (false ≡ true) ⊎ Contains (first_visits t) (top at.0) → Contains (first_visits t) (top at.0)
    new (inl none) = absurd cc
    new (inr h) = h
