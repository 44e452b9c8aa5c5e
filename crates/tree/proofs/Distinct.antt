-- Encodings that are inserted one after another, each once.
use Rattle.std.proofs.Common.{◌≡◌, ℕ, List, [], ◌∷◌, ◌++◌, refl, ap, ◌∙◌, append_assoc, Bool, true, false, cond}
use Rattle.std.specs.Prelude.{nat_eq, bytes_eq, ◌||◌}
use Rattle.std.specs.List.{list_any}
use Rattle.std.specs.Cmp.Lexicographic.{pointwise}
use Rattle.std.specs.declared.vec.Vec.{Vec}
use Rattle.std.proofs.lemmas.List.{map-append}
use Rattle.indexmap.specs.IndexSet.{insert_key}
use Rattle.tree.specs.Folded.{items_of, unseen}

module _ {A : Type 0} where
  any_items : (b : List ℕ) (ks : List (Vec ℕ A)) → list_any (λ (y : Vec ℕ A). pointwise nat_eq b y.items) ks ≡ list_any (bytes_eq b) (items_of ks)
  any_items b [] = refl
  any_items b (k ∷ ks) = ap (λ t. pointwise nat_eq b k.items || t) (any_items b ks)

  -- one more encoding, and those that are left
  pub inserted : (ks : List (Vec ℕ A)) (k : Vec ℕ A) (rest : List (List ℕ))
      → items_of (insert_key (λ (x y : Vec ℕ A). pointwise nat_eq x.items y.items) ks k) ++ unseen (items_of (insert_key (λ (x y : Vec ℕ A). pointwise nat_eq x.items y.items) ks k)) rest
      ≡ items_of ks ++ unseen (items_of ks) (k.items ∷ rest)
  inserted ks k rest = by (list_any (λ (y : Vec ℕ A). pointwise nat_eq k.items y.items) ks) (any_items k.items ks)
    where
      by : (b : Bool) → b ≡ list_any (bytes_eq k.items) (items_of ks)
          → items_of (cond b ks (ks ++ k ∷ [])) ++ unseen (items_of (cond b ks (ks ++ k ∷ []))) rest ≡ items_of ks ++ unseen (items_of ks) (k.items ∷ rest)
      by true e = ap (λ t. items_of ks ++ cond t (unseen (items_of ks) rest) (k.items ∷ unseen (items_of ks ++ k.items ∷ []) rest)) e
      by false e =
          ap (λ q. q ++ unseen q rest) (map-append (λ (v : Vec ℕ A). v.items) ks (k ∷ []))
          ∙ append_assoc (items_of ks) (k.items ∷ []) (unseen (items_of ks ++ k.items ∷ []) rest)
          ∙ ap (λ t. items_of ks ++ cond t (unseen (items_of ks) rest) (k.items ∷ unseen (items_of ks ++ k.items ∷ []) rest)) e
