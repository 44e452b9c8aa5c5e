-- The blobs of a tree are those of what stands at its paths.
use Rattle.std.proofs.Common.{◌≡◌, ℕ, Bool, true, false, cond, subst, List, [], ◌∷◌, Some, None, refl, ap, sym, ◌∙◌, inl, inr, ◌⊎◌}
use Rattle.std.specs.Ordering.{eq_by_cmp, is_eq}
use Rattle.tree.specs.Tree.{Name, name_cmp, Tree, empty, leaf, folder, Leaf, Entry, single, whole, entry_of, below_entry, tree_at, IsOrdered}
use Rattle.tree.specs.Form.{form, top, IsContent, IsBlobBelow, IsBlobOf, IsBlobAt}
use Rattle.tree.proofs.TreeLemmas.{name_itself}
use Rattle.tree.proofs.Visits.{entry_behind}

abbrev Stands : Tree Leaf → List Name → List ℕ → Type 0
Stands t p b = (e : Entry Leaf) × (tree_at t p ≡ Some e) × IsBlobAt e b

abbrev StandsBelow : Tree Leaf → List ℕ → Type 0
StandsBelow t b = (n : Name) × (p : List Name) × Stands t (n ∷ p) b

blob_found : (t : Tree Leaf) (b : List ℕ) → IsOrdered t → IsBlobBelow t b → StandsBelow t b
blob_found empty b ordered h = absurd h
blob_found (leaf m x rest) b ordered (inl h) = (m, [], (single x, ap (λ o. cond (is_eq o) (Some (single x)) (entry_of m rest)) (name_itself m), h))
blob_found (leaf m x rest) b ordered (inr h) =
    let r = blob_found rest b ordered.1 h in
    (r.0, r.1, (r.2.0, entry_behind m (single x) rest r.0 r.1 r.2.0 ordered.0 r.2.1, r.2.2))
blob_found (folder m below rest) b ordered (inl (inl h)) = (m, [], (whole below, ap (λ o. cond (is_eq o) (Some (whole below)) (entry_of m rest)) (name_itself m), h))
blob_found (folder m below rest) b ordered (inl (inr h)) =
    let r = blob_found below b ordered.1 h in
    let own : tree_at (folder m below rest) (m ∷ r.0 ∷ r.1) ≡ below_entry (r.0 ∷ r.1) (Some (whole below)) = ap (λ o. below_entry (r.0 ∷ r.1) (cond (is_eq o) (Some (whole below)) (entry_of m rest))) (name_itself m) in
    (m, r.0 ∷ r.1, (r.2.0, own ∙ r.2.1, r.2.2))
blob_found (folder m below rest) b ordered (inr h) =
    let r = blob_found rest b ordered.2 h in
    (r.0, r.1, (r.2.0, entry_behind m (whole below) rest r.0 r.1 r.2.0 ordered.0 r.2.1, r.2.2))

none_there : (p : List Name) (e : Entry Leaf) → below_entry p None ≡ Some e → ⊥
none_there [] e h = cc
none_there (n ∷ p) e h = cc

blob_held : (t : Tree Leaf) (n : Name) (p : List Name) (e : Entry Leaf) (b : List ℕ) → tree_at t (n ∷ p) ≡ Some e → IsBlobAt e b → IsBlobBelow t b
blob_held empty n p e b at h = absurd (none_there p e at)
blob_held (leaf m x rest) n p e b at h = by (eq_by_cmp name_cmp n m) at (blob_held rest n p e b)
  where
    leaf_only : (p : List Name) (e : Entry Leaf) → below_entry p (Some (single x)) ≡ Some e → IsBlobAt e b → IsContent x b
    leaf_only [] (single y) at h = let same : x ≡ y = cc in subst (λ z. IsContent z b) (sym same) h
    leaf_only [] (whole u) at h = absurd cc
    leaf_only (k ∷ q) e at h = absurd cc

    by : (q : Bool) → below_entry p (cond q (Some (single x)) (entry_of n rest)) ≡ Some e → (tree_at rest (n ∷ p) ≡ Some e → IsBlobAt e b → IsBlobBelow rest b) → IsContent x b ⊎ IsBlobBelow rest b
    by true at others = inl (leaf_only p e at h)
    by false at others = inr (others at h)
blob_held (folder m below rest) n p e b at h = by (eq_by_cmp name_cmp n m) at (λ k q. blob_held below k q e b) (blob_held rest n p e b)
  where
    here : (p : List Name) (e : Entry Leaf) → below_entry p (Some (whole below)) ≡ Some e → IsBlobAt e b → ((k : Name) (q : List Name) → tree_at below (k ∷ q) ≡ Some e → IsBlobAt e b → IsBlobBelow below b)
        → (b ≡ top (form below)) ⊎ IsBlobBelow below b
    here [] (single y) at h inner = absurd cc
    here [] (whole u) at h inner = let same : below ≡ u = cc in inl (h ∙ ap (λ z. top (form z)) (sym same))
    here (k ∷ q) e at h inner = inr (inner k q at h)

    by : (q : Bool) → below_entry p (cond q (Some (whole below)) (entry_of n rest)) ≡ Some e → ((k : Name) (q : List Name) → tree_at below (k ∷ q) ≡ Some e → IsBlobAt e b → IsBlobBelow below b)
        → (tree_at rest (n ∷ p) ≡ Some e → IsBlobAt e b → IsBlobBelow rest b) → ((b ≡ top (form below)) ⊎ IsBlobBelow below b) ⊎ IsBlobBelow rest b
    by true at inner others = inl (here p e at h inner)
    by false at inner others = inr (others at h)

pub blobs_found : (t : Tree Leaf) (b : List ℕ) → IsOrdered t → IsBlobOf t b → (p : List Name) × Stands t p b
blobs_found t b ordered (inl h) = ([], (whole t, refl, h))
blobs_found t b ordered (inr h) = let r = blob_found t b ordered h in (r.0 ∷ r.1, r.2)

pub blobs_held : (t : Tree Leaf) (b : List ℕ) (p : List Name) → Stands t p b → IsBlobOf t b
blobs_held t b [] (single x, at, h) = absurd cc
blobs_held t b [] (whole u, at, h) = let same : t ≡ u = cc in inl (h ∙ ap (λ z. top (form z)) (sym same))
blobs_held t b (n ∷ p) (e, at, h) = inr (blob_held t n p e b at h)
