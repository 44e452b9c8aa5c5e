-- How an entry enters a store, and what is evicted for it.
use Rattle.std.specs.Prelude.{ℕ, zero, suc, ◌+◌, ◌≤◌, Bool, nat_le, List, [], ◌∷◌, reverse, length}
use Rattle.std.specs.Prelude.{Option, Some, None, option_map, if◌then◌else◌}
use Rattle.std.specs.List.{filter}
use Rattle.std.specs.Option.{option_map_or}
use Rattle.std.specs.Map.{lookup_entry}
use Rattle.eviction.specs.Pinning.{pins_of}
use Rattle.eviction.specs.Kept.{Held, Kept, is_pinned, total, cost_of, total_cost, others}

-- the least number that passes the test, if one below n does, else n
abbrev pub least : (ℕ → Bool) → ℕ → ℕ
least test zero = zero
least test (suc n) = if test 0 then 0 else suc (least (λ m. test (suc m)) n)

module _ {E : Type 0} (pinned : E → Bool) where
  -- the entries without the first m that are not pinned
  abbrev pub spared : ℕ → List E → List E
  spared m [] = []
  spared zero (e ∷ es) = e ∷ es
  spared (suc m) (e ∷ es) = if pinned e then e ∷ spared (suc m) es else spared m es

  -- the entries without the last m that are not pinned
  abbrev pub spared_last : ℕ → List E → List E
  spared_last m es = reverse (spared m (reverse es))

  module _ (cost : E → ℕ) (limit : ℕ) (new : E) (others : List E) where
    -- whether the new entry and the pinned others fit the limit
    abbrev pub has_room : Bool
    has_room = nat_le (cost new + total cost (filter pinned others)) limit

    -- whether all costs fit when the last m unpinned others are gone
    abbrev pub fits : ℕ → Bool
    fits m = nat_le (total cost (new ∷ spared_last m others)) limit

    -- how many others are evicted: the least number with which all costs fit
    abbrev pub evicted_for : ℕ
    evicted_for = least fits (length others)

    -- the entries when the new one has entered, if it can
    abbrev pub enter : Option (List E)
    enter = if has_room then Some (new ∷ spared_last evicted_for others) else None

module _ {K : Type 0} where
  -- the entries without the last m that are not pinned
  abbrev pub without_last : ℕ → List (K × Held) → List (K × Held)
  without_last m es = spared_last is_pinned m es

  -- the key under which an entry stands: the equal one that is held, if one is
  abbrev pub stored_key : (K → K → Bool) → List (K × Held) → K → K
  stored_key eq es k = option_map_or (λ e. e.0) (lookup_entry (eq k) es) k

  module _ (eq : K → K → Bool) (s : Kept K) (k : K) (bytes : List ℕ) where
    -- the new entry: a key that is held stays as it is, with its count of pins
    abbrev pub new_entry : K × Held
    new_entry =
        (stored_key eq s.entries k, record { bytes = bytes; pins = pins_of eq s.entries k })

    -- the entries under other keys
    abbrev pub rest_of : List (K × Held)
    rest_of = others eq k s.entries

    -- whether the new entry and the pinned others fit the limit
    abbrev pub can_enter : Bool
    can_enter = has_room is_pinned (cost_of s.overhead) s.limit new_entry rest_of

    -- how many of the least recent unpinned others are evicted
    abbrev pub evicted : ℕ
    evicted = evicted_for is_pinned (cost_of s.overhead) s.limit new_entry rest_of

    -- the entries when the new one has entered, if it can
    abbrev pub entries_entered : Option (List (K × Held))
    entries_entered = enter is_pinned (cost_of s.overhead) s.limit new_entry rest_of

    -- the store with these entries
    abbrev pub with_entries : List (K × Held) → Kept K
    with_entries es = record { entries = es; limit = s.limit; overhead = s.overhead }

    -- the store after the entry entered, if it can
    abbrev pub entered : Option (Kept K)
    entered = option_map with_entries entries_entered

    -- the costs fit when the last m unpinned others are gone
    abbrev pub FitsWithout : ℕ → Type 0
    FitsWithout m = total_cost s.overhead (new_entry ∷ without_last m rest_of) ≤ s.limit

-- the least number of which P holds
pub record IsLeast (P : ℕ → Type 0) (n : ℕ) : Type 0 where
  pub holds : P n
  pub least : (m : ℕ) → P m → n ≤ m
