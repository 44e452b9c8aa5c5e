-- Entries under distinct keys: one key's entry, and the others.
use Rattle.std.proofs.Common.{◌≡◌, Bool, true, false, cond, not, List, [], ◌∷◌, ◌++◌, reverse, Option, Some, None, refl, ap, sym, ◌∙◌, subst}
use Rattle.std.specs.Cmp.{IsEquivalence}
use Rattle.std.specs.List.{filter, AllByRecursion, IsDistinct}
use Rattle.std.specs.Map.{keys_of, lookup_entry, remove_entry}
use Rattle.std.specs.Option.{option_map_or}
use Rattle.std.proofs.lemmas.List.Sorted.{IsPermutation-reverse}
use Rattle.std.proofs.lemmas.Map.Keys.{IsDistinct-head, IsDistinct-tail, IsDistinct-cons, IsDistinct-IsPermutation}
use Rattle.std.proofs.lemmas.Map.{NonePasses}
use Rattle.std.proofs.lemmas.Map.Entries.{none_past_head}
use Rattle.lru.specs.LruCache.{promoted}
use Rattle.eviction.proofs.Filters.{filter_none, filter_all, map-reverse}

module _ {K X : Type 0} (eq : K → K → Bool) where
  -- an entry, if there is one, as a list
  abbrev pub listed : Option (K × X) → List (K × X)
  listed None = []
  listed (Some e) = e ∷ []

  not_true : (q : K) (es : List (K × X)) → NonePasses (eq q) es → AllByRecursion (λ e. not (eq q e.0) ≡ true) es
  not_true q [] h = tt
  not_true q (e ∷ es) h = (rw h.0 refl, not_true q es h.1)

  pub others_all : (q : K) (es : List (K × X)) → NonePasses (eq q) es → filter (λ e. not (eq q e.0)) es ≡ es
  others_all q es h = filter_all (λ e. not (eq q e.0)) es (not_true q es h)

  module _ (laws : IsEquivalence eq) where
    pub remove_others : (q : K) (es : List (K × X)) → IsDistinct eq (keys_of es) → remove_entry (eq q) es ≡ filter (λ e. not (eq q e.0)) es
    remove_others q [] d = refl
    remove_others q (e ∷ es) d = (elim (eq q e.0) as (λ b. eq q e.0 ≡ b → cond b es (e ∷ remove_entry (eq q) es) ≡ cond (not b) (e ∷ filter (λ f. not (eq q f.0)) es) (filter (λ f. not (eq q f.0)) es)) [
      | true ↦ λ t. sym (others_all q es (none_past_head laws q e es d t))
      | false ↦ λ t. ap (λ l. e ∷ l) (remove_others q es (IsDistinct-tail eq e.0 (keys_of es) d))
    ]) refl

    pub filter_one : (q : K) (es : List (K × X)) → IsDistinct eq (keys_of es) → filter (λ e. eq q e.0) es ≡ listed (lookup_entry (eq q) es)
    filter_one q [] d = refl
    filter_one q (e ∷ es) d = (elim (eq q e.0) as (λ b. eq q e.0 ≡ b → cond b (e ∷ filter (λ f. eq q f.0) es) (filter (λ f. eq q f.0) es) ≡ listed (cond b (Some e) (lookup_entry (eq q) es))) [
      | true ↦ λ t. ap (λ l. e ∷ l) (filter_none (λ f. eq q f.0) es (none_past_head laws q e es d t))
      | false ↦ λ t. filter_one q es (IsDistinct-tail eq e.0 (keys_of es) d)
    ]) refl

    none_entry : (q : K) (es : List (K × X)) → lookup_entry (eq q) es ≡ None → remove_entry (eq q) es ≡ es
    none_entry q [] h = refl
    none_entry q (e ∷ es) h = (elim (eq q e.0) as (λ b. eq q e.0 ≡ b → remove_entry (eq q) (e ∷ es) ≡ e ∷ es) [
      | true ↦ λ t. let h' = rw t at h in cc
      | false ↦ λ t. rw t (ap (λ l. e ∷ l) (none_entry q es (rw t at h)))
    ]) refl

    -- no entry has the key: all are others
    pub others_absent : (q : K) (es : List (K × X)) → lookup_entry (eq q) es ≡ None → IsDistinct eq (keys_of es) → filter (λ e. not (eq q e.0)) es ≡ es
    others_absent q es h d = sym (remove_others q es d) ∙ none_entry q es h

    front_cases : (q : K) (es : List (K × X)) (o : Option (K × X)) → lookup_entry (eq q) es ≡ o → IsDistinct eq (keys_of es)
        → option_map_or (λ e. e ∷ remove_entry (eq q) es) o es ≡ listed o ++ filter (λ e. not (eq q e.0)) es
    front_cases q es None h d = sym (others_absent q es h d)
    front_cases q es (Some e) h d = ap (λ l. e ∷ l) (remove_others q es d)

    -- to move an entry to the front is to take it and then the others
    pub promoted_front : (q : K) (es : List (K × X)) → IsDistinct eq (keys_of es) → promoted (eq q) es ≡ filter (λ e. eq q e.0) es ++ filter (λ e. not (eq q e.0)) es
    promoted_front q es d = front_cases q es (lookup_entry (eq q) es) refl d ∙ ap (λ l. l ++ filter (λ e. not (eq q e.0)) es) (sym (filter_one q es d))

    pub reverse_distinct : (es : List (K × X)) → IsDistinct eq (keys_of es) → IsDistinct eq (keys_of (reverse es))
    reverse_distinct es d = subst (IsDistinct eq) (sym (map-reverse (λ e. e.0) es)) (IsDistinct-IsPermutation eq laws.symm (keys_of es) (reverse (keys_of es)) (IsPermutation-reverse (keys_of es)) d)

  fewer : (P : K → Type 0) (p : K × X → Bool) (es : List (K × X)) → AllByRecursion P (keys_of es) → AllByRecursion P (keys_of (filter p es))
  fewer P p [] h = tt
  fewer P p (e ∷ es) h = elim (p e) as (λ b. AllByRecursion P (keys_of (cond b (e ∷ filter p es) (filter p es)))) [ true ↦ (h.0, fewer P p es h.1) | false ↦ fewer P p es h.1 ]

  pub filter_distinct : (p : K × X → Bool) (es : List (K × X)) → IsDistinct eq (keys_of es) → IsDistinct eq (keys_of (filter p es))
  filter_distinct p [] d = d
  filter_distinct p (e ∷ es) d =
      let on = filter_distinct p es (IsDistinct-tail eq e.0 (keys_of es) d) in
      elim (p e) as (λ b. IsDistinct eq (keys_of (cond b (e ∷ filter p es) (filter p es)))) [
        | true ↦ IsDistinct-cons eq e.0 (keys_of (filter p es)) (fewer (λ y. eq e.0 y ≡ false) p es (IsDistinct-head eq e.0 (keys_of es) d)) on
        | false ↦ on
      ]
