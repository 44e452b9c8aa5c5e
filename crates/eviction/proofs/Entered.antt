-- What a store is that an entry entered.
use Rattle.std.proofs.Common.{◌≡◌, ℕ, ◌+◌, ◌<◌, ◌≤◌, Bool, true, false, cond, nat_le, List, ◌∷◌, reverse, length, Some, None, option_map, refl, ap, sym, ◌∙◌, arith}
use Rattle.std.specs.Cmp.{IsEquivalence}
use Rattle.std.specs.List.{filter}
use Rattle.std.proofs.lemmas.List.{reverse-reverse}
use Rattle.eviction.specs.Kept.{Held, Kept, is_pinned, cost_of, total_cost, others}
use Rattle.eviction.specs.Entering.{spared, spared_last, fits, without_last, new_entry, can_enter, evicted, entered, IsLeast, FitsWithout}
use Rattle.eviction.proofs.Filters.{filter-reverse}
use Rattle.eviction.proofs.Costs.{total-reverse}
use Rattle.eviction.proofs.Choices.{without_first, le_is, is_le, least_passes, least_is_least, pinned-without_first, without_all, pinned_rest, shorter}

module _ {K : Type 0} where
  pub pinned-spared_last : (m : ℕ) (es : List (K × Held)) → filter is_pinned (spared_last is_pinned m es) ≡ filter is_pinned es
  pinned-spared_last m es =
      filter-reverse is_pinned (spared is_pinned m (reverse es))
      ∙ ap reverse (pinned-without_first m (reverse es) ∙ filter-reverse is_pinned es)
      ∙ reverse-reverse (filter is_pinned es)

  abbrev pub with_entries : Kept K → List (K × Held) → Kept K
  with_entries s es = record { entries = es; limit = s.limit; overhead = s.overhead }

  module _ (eq : K → K → Bool) where
    pub record IsEntered (s t : Kept K) (k : K) (b : List ℕ) : Type 0 where
      pub entries : t.entries ≡ new_entry eq s k b ∷ spared_last is_pinned (evicted eq s k b) (others eq k s.entries)
      pub limit : t.limit ≡ s.limit
      pub overhead : t.overhead ≡ s.overhead

    pub entered_is : (s t : Kept K) (k : K) (b : List ℕ) → entered eq s k b ≡ Some t → IsEntered s t k b
    entered_is s t k b e = by_room (can_enter eq s k b) refl e
      where
        by_room : (y : Bool) → can_enter eq s k b ≡ y → option_map (with_entries s) (cond y (Some (new_entry eq s k b ∷ spared_last is_pinned (evicted eq s k b) (others eq k s.entries))) None) ≡ Some t → IsEntered s t k b
        by_room true c e = let same : with_entries s (new_entry eq s k b ∷ spared_last is_pinned (evicted eq s k b) (others eq k s.entries)) ≡ t = cc in record {
          entries = sym (ap (λ (x : Kept K). x.entries) same);
          limit = sym (ap (λ (x : Kept K). x.limit) same);
          overhead = sym (ap (λ (x : Kept K). x.overhead) same);
        }
        by_room false c e = absurd cc

    pub entered_pinned : (s t : Kept K) (k : K) (b : List ℕ) → entered eq s k b ≡ Some t → filter is_pinned t.entries ≡ filter is_pinned (new_entry eq s k b ∷ others eq k s.entries)
    entered_pinned s t k b e =
        let new = new_entry eq s k b in
        ap (filter is_pinned) (entered_is s t k b e).entries
        ∙ ap (λ l. cond (is_pinned new) (new ∷ l) l) (pinned-spared_last (evicted eq s k b) (others eq k s.entries))

    module _ (laws : IsEquivalence eq) (s : Kept K) (k : K) (b : List ℕ) where
      cost_all : total_cost s.overhead (without_last (length (others eq k s.entries)) (others eq k s.entries)) ≡ total_cost s.overhead (filter is_pinned (others eq k s.entries))
      cost_all =
          total-reverse s.overhead (without_first (length (others eq k s.entries)) (reverse (others eq k s.entries)))
          ∙ ap (total_cost s.overhead) (without_all (length (others eq k s.entries)) (reverse (others eq k s.entries)) (shorter eq laws s k b))
          ∙ pinned_rest eq laws s k b

      pub evicts_least : can_enter eq s k b ≡ true → IsLeast (FitsWithout eq s k b) (evicted eq s k b)
      evicts_least c =
          let test : ℕ → Bool = fits is_pinned (cost_of s.overhead) s.limit (new_entry eq s k b) (others eq k s.entries) in
          let most = length (others eq k s.entries) in
          let all : test most ≡ true = ap (λ n. nat_le (length b + s.overhead + n) s.limit) cost_all ∙ c in
          record {
            holds = is_le (total_cost s.overhead (new_entry eq s k b ∷ without_last (evicted eq s k b) (others eq k s.entries))) s.limit (least_passes test most all);
            least = λ m passes. by_order m passes (le_is (total_cost s.overhead (new_entry eq s k b ∷ without_last m (others eq k s.entries))) s.limit passes) (least_is_least test most m);
          }
        where
          not_below : (m n : ℕ) → (m < n → ⊥) → n ≤ m
          not_below m n h = omega arith

          by_order : (m : ℕ) → FitsWithout eq s k b m → fits is_pinned (cost_of s.overhead) s.limit (new_entry eq s k b) (others eq k s.entries) m ≡ true
              → (m < evicted eq s k b → fits is_pinned (cost_of s.overhead) s.limit (new_entry eq s k b) (others eq k s.entries) m ≡ false) → evicted eq s k b ≤ m
          by_order m p t f = not_below m (evicted eq s k b) (λ below. let no = f below in absurd cc)
