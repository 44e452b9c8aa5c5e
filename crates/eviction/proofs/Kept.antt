-- What an entry that enters leaves of the others: the pinned ones as they were.
use Rattle.std.proofs.Common.{◌≡◌, ℕ, zero, suc, Bool, true, false, cond, nat_lt, List, [], ◌∷◌, reverse, Option, Some, None, refl, ap, sym, ◌∙◌, subst, arith, ◌⊎◌, inl, inr}
use Rattle.std.specs.Cmp.{IsEquivalence}
use Rattle.std.specs.List.{AllByRecursion, IsDistinct}
use Rattle.std.specs.Map.{keys_of, lookup}
use Rattle.std.specs.Option.{option_map_or}
use Rattle.std.proofs.lemmas.Bool.Decides.{nat_tests}
use Rattle.std.proofs.lemmas.Map.{NonePasses, lookup-none}
use Rattle.std.proofs.lemmas.Map.Keys.{IsDistinct-head, IsDistinct-tail, IsDistinct-cons}
use Rattle.std.proofs.lemmas.Map.Entries.{none_past_head}
use Rattle.eviction.specs.Kept.{Held, is_pinned}
use Rattle.eviction.specs.Entering.{spared, spared_last}
use Rattle.eviction.proofs.Distinct.{reverse_distinct}
use Rattle.eviction.proofs.Looks.{option_or, lookup-append}
use Rattle.std.proofs.lemmas.List.{reverse-append}

module _ {K : Type 0} (eq : K → K → Bool) (laws : IsEquivalence eq) where
  -- a look-up after some unpinned entries went finds what it found, or what it found was unpinned
  abbrev pub Leaves : Option Held → Option Held → Type 0
  Leaves old new = (new ≡ old) ⊎ ((new ≡ None) × (option_map_or (λ h. h.pins) old 0 ≡ 0))

  gone : (q : K) (m : ℕ) (es : List (K × Held)) → NonePasses (eq q) es → NonePasses (eq q) (spared is_pinned m es)
  gone q m [] a = tt
  gone q zero (e ∷ es) a = a
  gone q (suc m) (e ∷ es) a = elim (is_pinned e) as (λ b. NonePasses (eq q) (cond b (e ∷ spared is_pinned (suc m) es) (spared is_pinned m es))) [
    | true ↦ (a.0, gone q (suc m) es a.1)
    | false ↦ gone q m es a.1
  ]

  unpinned_is : (n : ℕ) → nat_lt 0 n ≡ false → n ≡ 0
  unpinned_is n h = grind (arith, nat_tests)

  pub spared_leaves : (q : K) (m : ℕ) (es : List (K × Held)) → IsDistinct eq (keys_of es) → Leaves (lookup (eq q) es) (lookup (eq q) (spared is_pinned m es))
  spared_leaves q m [] d = inl refl
  spared_leaves q zero (e ∷ es) d = inl refl
  spared_leaves q (suc m) (e ∷ es) d = (elim (is_pinned e) as (λ b. is_pinned e ≡ b → Leaves (lookup (eq q) (e ∷ es)) (lookup (eq q) (cond b (e ∷ spared is_pinned (suc m) es) (spared is_pinned m es)))) [
    | true ↦ λ p. elim (eq q e.0) as (λ b. Leaves (cond b (Some e.1) (lookup (eq q) es)) (cond b (Some e.1) (lookup (eq q) (spared is_pinned (suc m) es)))) [
      | true ↦ inl refl
      | false ↦ spared_leaves q (suc m) es (IsDistinct-tail eq e.0 (keys_of es) d)
    ]
    | false ↦ λ p. (elim (eq q e.0) as (λ b. eq q e.0 ≡ b → Leaves (cond b (Some e.1) (lookup (eq q) es)) (lookup (eq q) (spared is_pinned m es))) [
      | true ↦ λ t. inr (lookup-none (eq q) (spared is_pinned m es) (gone q m es (none_past_head laws q e es d t)), unpinned_is e.1.pins p)
      | false ↦ λ t. spared_leaves q m es (IsDistinct-tail eq e.0 (keys_of es) d)
    ]) refl
  ]) refl

  pub lookup-reverse : (q : K) (es : List (K × Held)) → IsDistinct eq (keys_of es) → lookup (eq q) (reverse es) ≡ lookup (eq q) es
  lookup-reverse q [] d = refl
  lookup-reverse q (e ∷ es) d =
      ap (lookup (eq q)) (reverse-append (e ∷ []) es)
      ∙ lookup-append (eq q) (reverse es) (e ∷ [])
      ∙ ap (λ o. option_or o (lookup (eq q) (e ∷ []))) (lookup-reverse q es (IsDistinct-tail eq e.0 (keys_of es) d))
      ∙ (elim (eq q e.0) as (λ b. eq q e.0 ≡ b → option_or (lookup (eq q) es) (cond b (Some e.1) None) ≡ cond b (Some e.1) (lookup (eq q) es)) [
        | true ↦ λ t. ap (λ o. option_or o (Some e.1)) (lookup-none (eq q) es (none_past_head laws q e es d t))
        | false ↦ λ t. or_none (lookup (eq q) es)
      ]) refl
    where
      or_none : (o : Option Held) → option_or o None ≡ o
      or_none None = refl
      or_none (Some x) = refl

  distinct_spared : (m : ℕ) (es : List (K × Held)) → IsDistinct eq (keys_of es) → IsDistinct eq (keys_of (spared is_pinned m es))
  distinct_spared m [] d = d
  distinct_spared zero (e ∷ es) d = d
  distinct_spared (suc m) (e ∷ es) d = elim (is_pinned e) as (λ b. IsDistinct eq (keys_of (cond b (e ∷ spared is_pinned (suc m) es) (spared is_pinned m es)))) [
    | true ↦ IsDistinct-cons eq e.0 (keys_of (spared is_pinned (suc m) es)) (fewer (λ y. eq e.0 y ≡ false) (suc m) es (IsDistinct-head eq e.0 (keys_of es) d)) (distinct_spared (suc m) es (IsDistinct-tail eq e.0 (keys_of es) d))
    | false ↦ distinct_spared m es (IsDistinct-tail eq e.0 (keys_of es) d)
  ]
    where
      fewer : (P : K → Type 0) (m : ℕ) (es : List (K × Held)) → AllByRecursion P (keys_of es) → AllByRecursion P (keys_of (spared is_pinned m es))
      fewer P m [] a = tt
      fewer P zero (e ∷ es) a = a
      fewer P (suc m) (e ∷ es) a = elim (is_pinned e) as (λ b. AllByRecursion P (keys_of (cond b (e ∷ spared is_pinned (suc m) es) (spared is_pinned m es)))) [ true ↦ (a.0, fewer P (suc m) es a.1) | false ↦ fewer P m es a.1 ]

  -- what is found after the last m unpinned entries went
  pub spared_last_leaves : (q : K) (m : ℕ) (es : List (K × Held)) → IsDistinct eq (keys_of es) → Leaves (lookup (eq q) es) (lookup (eq q) (spared_last is_pinned m es))
  spared_last_leaves q m es d =
      let back = reverse_distinct eq laws es d in
      subst (λ o. Leaves o (lookup (eq q) (spared_last is_pinned m es))) (lookup-reverse q es d)
      (subst (Leaves (lookup (eq q) (reverse es))) (sym (lookup-reverse q (spared is_pinned m (reverse es)) (distinct_spared m (reverse es) back))) (spared_leaves q m (reverse es) back))
