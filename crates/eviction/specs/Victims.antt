-- What the one pass from the least recent entry picks: words of private functions.
use Rattle.std.specs.Prelude.{◌≡◌, ℕ, ◌+◌, ◌-◌, Bool, not, ◌||◌, ◌==◌, nat_lt, List, [], ◌∷◌}
use Rattle.std.specs.Prelude.{if◌then◌else◌}
use Rattle.std.specs.List.{filter}
use Rattle.eviction.specs.Kept.{Held, is_pinned, cost_of, total_cost, pinned_cost, others}
use Rattle.eviction.specs.Pinning.{is_among, pins_of}
use Rattle.eviction.specs.Entering.{stored_key}

-- what an entry adds to the costs of the pinned entries
abbrev pub part_if_pinned : ℕ → ℕ → ℕ
part_if_pinned pins cost = if nat_lt 0 pins then cost else 0

module _ {K : Type 0} (eq : K → K → Bool) where
  -- the keys of the first unpinned entries under other keys than k that together cost at least the
  -- excess
  abbrev pub victims : K → ℕ → ℕ → List (K × Held) → List K
  victims k overhead excess [] = []
  victims k overhead excess (e ∷ es) =
      if excess == 0 then []
      else (if eq k e.0 || is_pinned e then victims k overhead excess es
      else e.0 ∷ victims k overhead (excess - cost_of overhead e) es)

  -- the entries under none of the keys
  abbrev pub without_keys : List K → List (K × Held) → List (K × Held)
  without_keys ks es = filter (λ e. not (is_among eq ks e.0)) es

  -- what stands under the key first, in place of what stood there
  abbrev pub placed_first : K → Held → List (K × Held) → List (K × Held)
  placed_first k h es = (stored_key eq es k, h) ∷ others eq k es

module _ {K : Type 0} where
  -- what stands under a key, and what the others cost
  pub record IsStanding (eq : K → K → Bool) (k : K) (overhead : ℕ) (es : List (K × Held))
      (cost pins : ℕ) : Type 0 where
    pub pins_are : pins ≡ pins_of eq es k
    pub rest_are : cost + total_cost overhead (others eq k es) ≡ total_cost overhead es
    pub pinned_are : part_if_pinned pins cost + pinned_cost overhead (others eq k es)
        ≡ pinned_cost overhead es
