-- What is written is one of the spellings that are read.
use Rattle.std.proofs.Common.{ℕ, zero, suc, ◌+◌, ◌*◌, ◌/◌, ◌^◌, ◌<◌, ◌≤◌, List, [], ◌∷◌, length, refl, sym, subst, arith, lit<, inl, inr}
use Rattle.std.proofs.lemmas.Bool.{lt-ltb, le-ltb, cases_lt}
use Rattle.std.proofs.lemmas.List.Concat.{flat_map-cons}
use Rattle.std.specs.List.{AllByRecursion}
use Rattle.wire.specs.Record.{Value, Varint, Eight, Bytes, Four, Record}
use Rattle.wire.specs.Spelling.{wire_type, value_text, record_text, spelling, FitsValue, FitsRecord, Spells}
use Rattle.wire.specs.Varint.{groups, varint}
use Rattle.wire.proofs.Shortest.{varint_shortest}
use Rattle.wire.specs.AnySpelling.{IsVarint, IsValueText, IsRecordText, SpellsAny}

groups_few : (count n : ℕ) → length (groups count n) ≤ count + 1
unfolding groups
groups_few zero n = omega arith
groups_few (suc count) n =
    elim (cases_lt n 128) [
      | inl small ↦ let s = lt-ltb n 128 small in rw s (omega arith)
      | inr large ↦ let l = le-ltb n 128 large in let rest = groups_few count (n / 128) in rw l (omega (arith, rest))
    ]

varint_few : (n : ℕ) → length (varint n) ≤ 10
unfolding varint
varint_few n = groups_few 9 n

varint_is : (n : ℕ) → n < 2 ^ 64 → IsVarint n (varint n)
varint_is n lt = let s = varint_shortest n lt in record { form = s.form; sum = s.sum; few = varint_few n; fits = lt }

value_is : (v : Value) → FitsValue v → IsValueText v (value_text v)
value_is (Varint n) f = varint_is n f
value_is (Eight bytes) f = (f, refl)
value_is (Bytes bytes) f = record { len = varint (length bytes); counts = varint_is (length bytes) f; parts = refl }
value_is (Four bytes) f = (f, refl)

wire_type_low : (value : Value) → wire_type value < 8
wire_type_low (Varint n) = lit< tt
wire_type_low (Eight bytes) = lit< tt
wire_type_low (Bytes bytes) = lit< tt
wire_type_low (Four bytes) = lit< tt

record_is : (r : Record) → FitsRecord r → IsRecordText r (record_text r)
record_is r f =
    let low = wire_type_low r.value in
    let most = f.number.1 in
    record {
      number = f.number;
      tag = varint (r.number * 8 + wire_type r.value);
      payload = value_text r.value;
      tagged = varint_is (r.number * 8 + wire_type r.value) (omega (arith, low, most));
      spelled = value_is r.value f.value;
      parts = refl;
    }

spelling_is : (rs : List Record) → AllByRecursion FitsRecord rs → SpellsAny (spelling rs) rs
spelling_is [] fits = refl
spelling_is (r ∷ rs) fits = (record_text r, spelling rs, flat_map-cons record_text r rs, record_is r fits.0, spelling_is rs fits.1)

pub spelled_any : (bytes : List ℕ) (rs : List Record) → Spells bytes rs → SpellsAny bytes rs
spelled_any bytes rs s = subst (λ (l : List ℕ). SpellsAny l rs) (sym s.1) (spelling_is rs s.0)
