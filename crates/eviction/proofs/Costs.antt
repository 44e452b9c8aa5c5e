-- What entries cost.
use Rattle.std.proofs.Common.{◌≡◌, ℕ, ◌+◌, ◌≤◌, Bool, true, false, cond, not, nat_lt, List, [], ◌∷◌, ◌++◌, reverse, length, Option, Some, None, refl, ap, sym, ◌∙◌, arith}
use Rattle.std.specs.Cmp.{IsEquivalence}
use Rattle.std.specs.List.{filter, IsDistinct}
use Rattle.std.specs.Map.{keys_of, lookup, lookup_entry}
use Rattle.std.specs.Option.{option_map_or}
use mathlib.Core.List.{reverse_aux}
use Rattle.std.proofs.lemmas.List.Elements.{filter-append}
use Rattle.eviction.specs.Kept.{Held, is_pinned, total_cost, pinned_cost, others, moved_to_front, IsTallied}
use Rattle.eviction.specs.Pinning.{pins_of}
use Rattle.eviction.proofs.Filters.{filter_swap}
use Rattle.eviction.proofs.Distinct.{listed, filter_one, filter_distinct}
use Rattle.std.proofs.lemmas.Map.Entries.{option_filter, lookup-filter-values}

-- what the entry under a key costs, 0 if there is none
abbrev pub cost_under : {K : Type 0} → ℕ → (K → K → Bool) → K → List (K × Held) → ℕ
cost_under overhead eq k es = option_map_or (λ h. length h.bytes + overhead) (lookup (eq k) es) 0

module _ {K : Type 0} (overhead : ℕ) where
  pub total_both : (p : K × Held → Bool) (es : List (K × Held)) → total_cost overhead (filter p es) + total_cost overhead (filter (λ e. not (p e)) es) ≡ total_cost overhead es
  total_both p [] = refl
  total_both p (e ∷ es) =
      let on = total_both p es in
      elim (p e) as (λ b. total_cost overhead (cond b (e ∷ filter p es) (filter p es)) + total_cost overhead (cond (not b) (e ∷ filter (λ f. not (p f)) es) (filter (λ f. not (p f)) es)) ≡ total_cost overhead (e ∷ es)) [
        | true ↦ omega arith
        | false ↦ omega arith
      ]

  reversed : (xs r : List (K × Held)) → total_cost overhead (reverse_aux xs r) ≡ total_cost overhead xs + total_cost overhead r
  reversed [] r = omega arith
  reversed (x ∷ xs) r = let on = reversed xs (x ∷ r) in omega arith

  pub total-reverse : (xs : List (K × Held)) → total_cost overhead (reverse xs) ≡ total_cost overhead xs
  total-reverse xs = let on = reversed xs [] in omega arith

  module _ (eq : K → K → Bool) (laws : IsEquivalence eq) where
    lookup_listed : (k : K) (es : List (K × Held)) → lookup (eq k) es ≡ lookup (λ _. true) (listed eq (lookup_entry (eq k) es))
    lookup_listed k [] = refl
    lookup_listed k (e ∷ es) = elim (eq k e.0) as (λ b. cond b (Some e.1) (lookup (eq k) es) ≡ lookup (λ _. true) (listed eq (cond b (Some e) (lookup_entry (eq k) es))))
        [ true ↦ refl | false ↦ lookup_listed k es ]

    listed_cost : (o : Option (K × Held)) → total_cost overhead (listed eq o) ≡ option_map_or (λ h. length h.bytes + overhead) (lookup (λ _. true) (listed eq o)) 0
    listed_cost None = refl
    listed_cost (Some e) = omega arith

    pub total_others : (k : K) (es : List (K × Held)) → IsDistinct eq (keys_of es) → cost_under overhead eq k es + total_cost overhead (others eq k es) ≡ total_cost overhead es
    total_others k es d = rw (lookup_listed k es, ← listed_cost (lookup_entry (eq k) es), ← filter_one eq laws k es d) (total_both (λ e. eq k e.0) es)

    pinned_value : (o : Option Held) → option_map_or (λ h. length h.bytes + overhead) (option_filter (λ h. nat_lt 0 h.pins) o) 0 ≡ cond (nat_lt 0 (option_map_or (λ h. h.pins) o 0)) (option_map_or (λ h. length h.bytes + overhead) o 0) 0
    pinned_value None = refl
    pinned_value (Some h) = elim (nat_lt 0 h.pins) as (λ b. option_map_or (λ h. length h.bytes + overhead) (cond b (Some h) None) 0 ≡ cond b (length h.bytes + overhead) 0) [ true ↦ refl | false ↦ refl ]

    -- what is pinned under other keys, and under this one
    pub pinned_others : (k : K) (es : List (K × Held)) → IsDistinct eq (keys_of es)
        → cond (nat_lt 0 (pins_of eq es k)) (cost_under overhead eq k es) 0 + pinned_cost overhead (others eq k es) ≡ pinned_cost overhead es
    pinned_others k es d =
        let under = ap (λ o. option_map_or (λ h. length h.bytes + overhead) o 0) (lookup-filter-values laws (λ h. nat_lt 0 h.pins) k es d) ∙ pinned_value (lookup (eq k) es) in
        rw (← under, filter_swap is_pinned (λ e. not (eq k e.0)) es) (total_others k (filter is_pinned es) (filter_distinct eq is_pinned es d))

  pub total-append : (es fs : List (K × Held)) → total_cost overhead (es ++ fs) ≡ total_cost overhead es + total_cost overhead fs
  total-append [] fs = omega arith
  total-append (e ∷ es) fs = let on = total-append es fs in omega arith

  module _ (eq : K → K → Bool) (k : K) where
    pub total_moved : (es : List (K × Held)) → total_cost overhead (moved_to_front eq k es) ≡ total_cost overhead es
    total_moved es = total-append (filter (λ e. eq k e.0) es) (others eq k es) ∙ total_both (λ e. eq k e.0) es

    pub pinned_moved : (es : List (K × Held)) → pinned_cost overhead (moved_to_front eq k es) ≡ pinned_cost overhead es
    pinned_moved es =
        ap (total_cost overhead) (filter-append is_pinned (filter (λ e. eq k e.0) es) (others eq k es) ∙ λ i. filter_swap is_pinned (λ e. eq k e.0) es i ++ filter_swap is_pinned (λ e. not (eq k e.0)) es i)
        ∙ total_moved (filter is_pinned es)

    -- the sums stay, whatever the order
    pub tallied_moved : (es : List (K × Held)) (limit held pinned : ℕ) → IsTallied es limit overhead held pinned → IsTallied (moved_to_front eq k es) limit overhead held pinned
    tallied_moved es limit held pinned t = record {
      held_is = t.held_is ∙ sym (total_moved es);
      pinned_is = t.pinned_is ∙ sym (pinned_moved es);
      within = t.within;
      limit_is = t.limit_is;
    }

  pub pinned_le : (es : List (K × Held)) → pinned_cost overhead es ≤ total_cost overhead es
  pinned_le es = let both = total_both is_pinned es in omega arith
