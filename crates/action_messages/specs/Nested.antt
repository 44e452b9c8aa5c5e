-- What the messages within a message say. `Says a rs` is what the records of one message say of its
-- value.
use Rattle.std.specs.Prelude.{◌≡◌, ◌≢◌, ℕ, List, [], ◌∷◌, Option, Some, None, IsPermutation}
use Rattle.wire.specs.Record.{Record}
use Rattle.wire.specs.AnySpelling.{SpellsAny}
use Rattle.canonical.specs.Known.{SpellsEach}

-- a message by its bytes
abbrev pub SaysBytes : {A : Type 0} → (A → List Record → Type 0) → A → List ℕ → Type 0
SaysBytes Says a bytes = (rs : List Record) × SpellsAny bytes rs × Says a rs

-- A single message, by the payloads of its records: it is there where one is, and it is what the
-- records of all of them say, one after another.
abbrev pub SaysOne : {A : Type 0} → (A → List Record → Type 0)
    → Option A → List (List ℕ) → Type 0
SaysOne Says None payloads = payloads ≡ []
SaysOne Says (Some a) payloads =
    (payloads ≢ []) × ((rs : List Record) × SpellsEach payloads rs × Says a rs)

-- the messages of a repeated field: an element for each payload
abbrev pub SaysEach : {A : Type 0} → (A → List Record → Type 0)
    → List A → List (List ℕ) → Type 0
SaysEach Says [] [] = Unit {0}
SaysEach Says [] (bytes ∷ payloads) = ⊥
SaysEach Says (a ∷ others) [] = ⊥
SaysEach Says (a ∷ others) (bytes ∷ payloads) =
    SaysBytes Says a bytes × SaysEach Says others payloads

-- the messages of a repeated field, in any order of its payloads
pub record SaysSorted {A : Type 0} (Says : A → List Record → Type 0)
    (sorted : List A) (payloads : List (List ℕ)) : Type 0 where
  pub read : List A
  pub each : SaysEach Says read payloads
  pub same : IsPermutation read sorted
