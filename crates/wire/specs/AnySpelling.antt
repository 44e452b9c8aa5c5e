-- All spellings of a list of records (Protocol Buffers encoding guide, "Base 128 Varints" and
-- "Message Structure"): a varint may have more groups than its number needs. The one spelling that
-- is written is that of `Spells`.
use Rattle.std.specs.Prelude.{◌≡◌, ◌≢◌, Bool, true, false, ℕ, ◌+◌, ◌*◌, ◌^◌, ◌<◌, ◌≤◌, List, []}
use Rattle.std.specs.Prelude.{◌∷◌, ◌++◌, length}
use Rattle.wire.specs.Record.{Value, Varint, Eight, Bytes, Four, Record, IsFieldNumber}
use Rattle.wire.specs.Spelling.{wire_type}
use Rattle.wire.specs.declared.error.WireError.{WireError}
use Rattle.wire.specs.declared.error.WireError.TheVariants.{NotMinimal}
use Rattle.wire.specs.Varint.{varint, group_sum, AreGroups, HasVarintFault}

-- Groups of seven bits, ten at most, that make a number of 64 bits: the top bit is set in each byte
-- but the last, and the last groups may be zero.
pub record IsVarint (n : ℕ) (text : List ℕ) : Type 0 where
  pub form : AreGroups text
  pub sum : group_sum text ≡ n
  pub few : length text ≤ 10
  pub fits : n < 2 ^ 64

-- the faults, of which no bytes have two: those of a varint in its shortest form, except that it
-- isn't in it
abbrev pub HasAnyVarintFault : WireError → List ℕ → Type 0
HasAnyVarintFault e bytes = HasVarintFault e bytes × (e ≢ NotMinimal)

-- ---- in the shortest form, or in any

abbrev pub IsVarintBy : Bool → ℕ → List ℕ → Type 0
IsVarintBy true n text = (n < 2 ^ 64) × (text ≡ varint n)
IsVarintBy false n text = IsVarint n text

abbrev pub HasVarintFaultBy : Bool → WireError → List ℕ → Type 0
HasVarintFaultBy true e bytes = HasVarintFault e bytes
HasVarintFaultBy false e bytes = HasAnyVarintFault e bytes

-- ---- records

-- bytes after their length
pub record HasLength (bytes text : List ℕ) : Type 0 where
  pub len : List ℕ
  pub counts : IsVarint (length bytes) len
  pub parts : text ≡ len ++ bytes

abbrev pub IsValueText : Value → List ℕ → Type 0
IsValueText (Varint n) text = IsVarint n text
IsValueText (Eight bytes) text = (length bytes ≡ 8) × (text ≡ bytes)
IsValueText (Bytes bytes) text = HasLength bytes text
IsValueText (Four bytes) text = (length bytes ≡ 4) × (text ≡ bytes)

-- a tag, and then the payload
pub record IsRecordText (r : Record) (text : List ℕ) : Type 0 where
  pub number : IsFieldNumber r.number
  pub tag : List ℕ
  pub payload : List ℕ
  pub tagged : IsVarint (r.number * 8 + wire_type r.value) tag
  pub spelled : IsValueText r.value payload
  pub parts : text ≡ tag ++ payload

-- the bytes are the records of the list, one after another
abbrev pub SpellsAny : List ℕ → List Record → Type 0
SpellsAny bytes [] = bytes ≡ []
SpellsAny bytes (r ∷ rs) =
    (text : List ℕ) × (rest : List ℕ) × (bytes ≡ text ++ rest)
    × IsRecordText r text × SpellsAny rest rs
