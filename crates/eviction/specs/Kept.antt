-- What a bounded store holds, as contracts see it.
use Rattle.std.specs.Prelude.{◌≡◌, ℕ, ◌+◌, ◌≤◌, ◌<◌, ◌^◌, Bool, not, nat_lt, List, [], ◌∷◌, length}
use Rattle.std.specs.Prelude.{◌++◌, Option, option_map}
use Rattle.std.specs.List.{filter, IsDistinct}
use Rattle.std.specs.Map.{keys_of, lookup}

-- an entry's bytes, and how often it is pinned
pub record Held : Type 0 where
  pub bytes : List ℕ
  pub pins : ℕ

-- the entries, most recently used first, the limit on their costs, and what each costs beyond its
-- bytes
pub record Kept (K : Type 0) : Type 0 where
  pub entries : List (K × Held)
  pub limit : ℕ
  pub overhead : ℕ

-- what all entries cost
abbrev pub total : {E : Type 0} → (E → ℕ) → List E → ℕ
total cost [] = 0
total cost (e ∷ es) = cost e + total cost es

module _ {K : Type 0} where
  -- an entry is pinned once or more often
  abbrev pub is_pinned : K × Held → Bool
  is_pinned e = nat_lt 0 e.1.pins

  -- what an entry costs: its length and the overhead
  abbrev pub cost_of : ℕ → K × Held → ℕ
  cost_of overhead e = length e.1.bytes + overhead

  -- what the entries cost together
  abbrev pub total_cost : ℕ → List (K × Held) → ℕ
  total_cost overhead es = total (cost_of overhead) es

  -- what the pinned entries cost
  abbrev pub pinned_cost : ℕ → List (K × Held) → ℕ
  pinned_cost overhead es = total_cost overhead (filter is_pinned es)

  module _ (eq : K → K → Bool) where
    -- the entries under other keys
    abbrev pub others : K → List (K × Held) → List (K × Held)
    others k es = filter (λ e. not (eq k e.0)) es

    -- the entry under the key first, and the others as they were
    abbrev pub moved_to_front : K → List (K × Held) → List (K × Held)
    moved_to_front k es = filter (λ e. eq k e.0) es ++ others k es

    -- the store after a use of the entry under a key
    abbrev pub touched : Kept K → K → Kept K
    touched s k = record {
      entries = moved_to_front k s.entries;
      limit = s.limit;
      overhead = s.overhead;
    }

    -- the bytes under a key, if it is held
    abbrev pub bytes_under : List (K × Held) → K → Option (List ℕ)
    bytes_under es k = option_map (λ h. h.bytes) (lookup (eq k) es)

    -- what holds of every store: no two keys are equal, and the costs fit the limit
    pub record IsWellKept (s : Kept K) : Type 0 where
      pub distinct : IsDistinct eq (keys_of s.entries)
      pub fits : total_cost s.overhead s.entries ≤ s.limit

  -- the sums that a store keeps beside its entries are theirs, the costs fit, and the limit is
  -- below 2^63
  pub record IsTallied (es : List (K × Held)) (limit overhead held pinned : ℕ) : Type 0 where
    pub held_is : held ≡ total_cost overhead es
    pub pinned_is : pinned ≡ pinned_cost overhead es
    pub within : held ≤ limit
    pub limit_is : limit < 2 ^ 63
