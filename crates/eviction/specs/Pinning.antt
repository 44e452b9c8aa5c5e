-- How counts of pins change.
use Rattle.std.specs.Prelude.{◌≡◌, ℕ, ◌+◌, ◌-◌, ◌<◌, ◌^◌, Bool, true, List, map, is_some, nat_lt}
use Rattle.std.specs.Prelude.{if◌then◌else◌}
use Rattle.std.specs.List.{list_any, list_all}
use Rattle.std.specs.Map.{lookup}
use Rattle.std.specs.Option.{option_map_or}
use Rattle.eviction.specs.Kept.{Held, Kept}

module _ {K : Type 0} where
  -- each entry with another count of pins, by its key and its count
  abbrev pub repinned : (K → ℕ → ℕ) → List (K × Held) → List (K × Held)
  repinned count es =
      map (λ e. (e.0, record { bytes = e.1.bytes; pins = count e.0 e.1.pins })) es

  module _ (eq : K → K → Bool) where
    -- the key is one of the keys
    abbrev pub is_among : List K → K → Bool
    is_among ks k = list_any (λ x. eq x k) ks

    -- an entry stands under the key
    abbrev pub is_stored : List (K × Held) → K → Bool
    is_stored es k = is_some (lookup (eq k) es)

    -- how often a key is pinned
    abbrev pub pins_of : List (K × Held) → K → ℕ
    pins_of es k = option_map_or (λ h. h.pins) (lookup (eq k) es) 0

    -- an entry stands under each of the keys
    abbrev pub all_stored : List (K × Held) → List K → Bool
    all_stored es ks = list_all (is_stored es) ks

    -- each of the keys is pinned
    abbrev pub all_pinned : List (K × Held) → List K → Bool
    all_pinned es ks = list_all (λ k. nat_lt 0 (pins_of es k)) ks

    -- no count of one of the keys is at its greatest
    abbrev pub CanPinMore : List (K × Held) → List K → Type 0
    CanPinMore es ks = (k : K) → is_among ks k ≡ true → pins_of es k + 1 < 2 ^ 64

    -- a count of the key, one more if it is among the keys
    abbrev pub one_more : List K → K → ℕ → ℕ
    one_more ks k n = if is_among ks k then n + 1 else n

    -- a count of the key, one less if it is among the keys
    abbrev pub one_less : List K → K → ℕ → ℕ
    one_less ks k n = if is_among ks k then n - 1 else n

    -- each of the keys is pinned once more
    abbrev pub pinned_all : Kept K → List K → Kept K
    pinned_all s ks = record {
      entries = repinned (one_more ks) s.entries;
      limit = s.limit;
      overhead = s.overhead;
    }

    -- each of the keys is pinned once less
    abbrev pub unpinned_all : Kept K → List K → Kept K
    unpinned_all s ks = record {
      entries = repinned (one_less ks) s.entries;
      limit = s.limit;
      overhead = s.overhead;
    }
