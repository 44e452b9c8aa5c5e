-- The entries without where they lie in memory.
use Rattle.std.specs.Prelude.{ℕ, Bool, List, map}
use Rattle.std.specs.Map.{lookup}
use Rattle.std.specs.Option.{option_map_or}
use Rattle.eviction.specs.declared.entry.Entry.{Entry}
use Rattle.eviction.specs.Kept.{Held}

-- an entry as contracts see it
abbrev pub held : {A : Type 0} → Entry A → Held
held e = record { bytes = e.bytes; pins = e.pins }

-- each entry as contracts see it, under its key
abbrev pub held_all : {K A : Type 0} → List (K × Entry A) → List (K × Held)
held_all es = map (λ e. (e.0, held e.1)) es

-- how often a key is pinned
abbrev pub count_in : {K A : Type 0} → (K → K → Bool) → List (K × Entry A) → K → ℕ
count_in eq es k = option_map_or (λ e. e.pins) (lookup (eq k) es) 0
