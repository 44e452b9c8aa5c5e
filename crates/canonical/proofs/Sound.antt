-- The payloads of records that bytes spell: numbers of 64 bits, and bytes, not too many.
use Rattle.std.proofs.Common.{◌≡◌, ℕ, zero, suc, ◌+◌, ◌*◌, ◌^◌, ◌<◌, List, [], ◌∷◌, ◌++◌, length, Option, Some, None, subst, inl, inr, lit<}
use Rattle.std.specs.Prelude.{IfSome}
use Rattle.std.specs.List.{AllByRecursion}
use Rattle.std.proofs.lemmas.List.Concat.{flat_map-cons}
use Rattle.wire.specs.Record.{Record, Value, Varint, Eight, Bytes, Four}
use Rattle.wire.specs.Varint.{varint}
use Rattle.wire.specs.Spelling.{record_text, spelling, wire_type, value_text, FitsRecord, FitsValue}
use Rattle.wire.specs.Bytes.{IsBytes, AreBytes}
use Rattle.canonical.specs.Columns.{column}
use Rattle.canonical.specs.Fields.{message_field, element_fields, number_of, last_behind, number_at}
use Rattle.canonical.proofs.Columns.{column_cases}

abbrev pub SoundValue : Value → Type 0
SoundValue (Varint n) = n < 2 ^ 64
SoundValue (Eight bytes) = Unit {0}
SoundValue (Bytes bytes) = AreBytes bytes
SoundValue (Four bytes) = Unit {0}

abbrev pub AreSound : List Record → Type 0
AreSound rs = AllByRecursion (λ r. SoundValue r.value) rs

bytes_front : (a b : List ℕ) → IsBytes (a ++ b) → IsBytes a
bytes_front [] b h i = lit< tt
bytes_front (x ∷ a) b h zero = h 0
bytes_front (x ∷ a) b h (suc i) = bytes_front a b (λ j. h (suc j)) i

bytes_back : (a b : List ℕ) → IsBytes (a ++ b) → IsBytes b
bytes_back [] b h = h
bytes_back (x ∷ a) b h = bytes_back a b (λ j. h (suc j))

value_sound : (v : Value) → FitsValue v → IsBytes (value_text v) → SoundValue v
value_sound (Varint n) f h = f
value_sound (Eight bytes) f h = tt
value_sound (Bytes bytes) f h = (f, bytes_back (varint (length bytes)) bytes h)
value_sound (Four bytes) f h = tt

pub sound : (rs : List Record) → AllByRecursion FitsRecord rs → IsBytes (spelling rs) → AreSound rs
sound [] fits h = tt
sound (r ∷ rs) fits h =
    let split : IsBytes (record_text r ++ spelling rs) = subst IsBytes (flat_map-cons record_text r rs) h in
    (value_sound r.value fits.0.value (bytes_back (varint (r.number * 8 + wire_type r.value)) (value_text r.value) (bytes_front (record_text r) (spelling rs) split)), sound rs fits.1 (bytes_back (record_text r) (spelling rs) split))

pub column_sound : (n : ℕ) (rs : List Record) → AreSound rs → AreSound (column n rs)
column_sound n [] s = tt
column_sound n (r ∷ rs) s = elim (column_cases n r rs) [ inl e ↦ rw e (s.0, column_sound n rs s.1) | inr e ↦ rw e (column_sound n rs s.1) ]

pub message_sound : (n : ℕ) (rs : List Record) (bytes : List ℕ) → AreSound rs → column n rs ≡ message_field n (Some bytes) → AreBytes bytes
message_sound n rs bytes s e = (subst AreSound e (column_sound n rs s)).0

elements_sound_in : (n : ℕ) (xs : List (List ℕ)) → AreSound (element_fields n xs) → AllByRecursion AreBytes xs
elements_sound_in n [] s = tt
elements_sound_in n (x ∷ xs) s = (s.0, elements_sound_in n xs s.1)

pub elements_sound : (n : ℕ) (rs : List Record) (xs : List (List ℕ)) → AreSound rs → column n rs ≡ element_fields n xs → AllByRecursion AreBytes xs
elements_sound n rs xs s e = elements_sound_in n xs (subst AreSound e (column_sound n rs s))

pub option_sound : (n : ℕ) (rs : List Record) (o : Option (List ℕ)) → AreSound rs → column n rs ≡ message_field n o → IfSome o AreBytes
option_sound n rs None s e = tt
option_sound n rs (Some bytes) s e = message_sound n rs bytes s e

one_sound : (v : Value) → SoundValue v → number_of (Some v) < 2 ^ 64
one_sound (Varint n) s = s
one_sound (Eight bytes) s = lit< tt
one_sound (Bytes bytes) s = lit< tt
one_sound (Four bytes) s = lit< tt

last_sound : (found : Option Value) (rs : List Record) → number_of found < 2 ^ 64 → AreSound rs → number_of (last_behind found rs) < 2 ^ 64
last_sound found [] lt s = lt
last_sound found (r ∷ rs) lt s = last_sound (Some r.value) rs (one_sound r.value s.0) s.1

pub number_sound : (n : ℕ) (rs : List Record) → AreSound rs → number_at n rs < 2 ^ 64
unfolding number_at
number_sound n rs s = last_sound None (column n rs) (lit< tt) (column_sound n rs s)
