-- A reader tells the fault that the bytes have.
use Rattle.std.proofs.Common.{◌≡◌, ◌≢◌, ℕ, zero, suc, ◌/◌, ◌%◌, ◌<◌, ◌≤◌, ◌⊎◌, Bool, true, false, cond, eqb, ltb, ◌||◌, List, [], ◌∷◌, ◌++◌, length, take, drop, Result, Ok, Err, refl, sym, ap, subst, ◌∙◌, arith, inl, inr}
use Rattle.std.specs.List.{AllByRecursion}
use Rattle.std.proofs.lemmas.Bool.{eqb-true, lt-ltb, le-ltb, ltb-true, ltb-false}
use Rattle.std.proofs.lemmas.Bool.Decides.{Decides-eqb}
use Rattle.wire.specs.declared.error.WireError.{WireError}
use Rattle.wire.specs.declared.error.WireError.TheVariants.{Truncated, VarintTooLong, NotMinimal, BadWireType, BadNumber}
use Rattle.wire.specs.AnySpelling.{HasAnyVarintFault, HasVarintFaultBy}
use Rattle.wire.specs.Bytes.{IsBytes}
use Rattle.wire.specs.Record.{Value, Varint, Eight, Bytes, Four, Record, IsFieldNumber}
use Rattle.wire.specs.Steps.{◌>>=◌}
use Rattle.wire.specs.Varint.{groups_by, varint_by, varint_at, HasVarintFault}
use Rattle.wire.specs.Reading.{fixed_at, value_by, record_by, IsShort, BeginsWith, HasLengthFault, HasPayloadFault, HasTagFault, HasRecordFaultBy}
use Rattle.wire.proofs.AnyFaults as any
use Rattle.wire.proofs.AnyRecords as any_records
use Rattle.wire.proofs.Faults.{failed, err_is, varint_faulty}
use Rattle.wire.proofs.Records.{chosen, varint_takes, varint_again}

-- ---- groups

-- bytes that all say that another follows
all_follow : (shortest : Bool) (count : ℕ) (bytes : List ℕ) → length bytes ≤ count → AllByRecursion (λ a. 128 ≤ a) bytes → groups_by shortest count bytes ≡ failed Truncated
unfolding groups_by
all_follow shortest zero [] few all = refl
all_follow shortest (suc count) [] few all = refl
all_follow shortest zero (b ∷ bytes) few all = absurd (omega (arith, few))
all_follow shortest (suc count) (b ∷ bytes) few all = rw (le-ltb b 128 all.0, all_follow shortest count bytes (omega (arith, few)) all.1) refl

too_long : (shortest : Bool) (front rest : List ℕ) (c : ℕ) → AllByRecursion (λ a. 128 ≤ a) front → 1 < c → groups_by shortest (length front) (front ++ c ∷ rest) ≡ failed VarintTooLong
unfolding groups_by
too_long shortest [] rest c all big = rw (lt-ltb 1 c big) refl
too_long shortest (b ∷ front) rest c all big = rw (le-ltb b 128 all.0, too_long shortest front rest c all.1 big) refl

not_minimal : (count : ℕ) (front rest : List ℕ) → length front ≤ count → AllByRecursion (λ a. 128 ≤ a) front → groups_by true count (front ++ 0 ∷ rest) ≡ failed NotMinimal
unfolding groups_by
not_minimal zero [] rest few all = refl
not_minimal (suc count) [] rest few all = refl
not_minimal zero (b ∷ front) rest few all = absurd (omega (arith, few))
not_minimal (suc count) (b ∷ front) rest few all = rw (le-ltb b 128 all.0, not_minimal count front rest (omega (arith, few)) all.1) refl

-- ---- a varint

behind_first : (shortest : Bool) (b : ℕ) (bytes : List ℕ) (e : WireError) → 128 ≤ b → groups_by shortest 8 bytes ≡ failed e → varint_by shortest (b ∷ bytes) ≡ failed e
unfolding varint_by
behind_first shortest b bytes e le h = rw (le-ltb b 128 le, h) refl

cut_told : (shortest : Bool) (bytes : List ℕ) → HasVarintFault Truncated bytes → varint_by shortest bytes ≡ failed Truncated
unfolding varint_by
cut_told shortest [] h = refl
cut_told shortest (b ∷ bytes) h = let few = h.0 in behind_first shortest b bytes Truncated h.1.0 (all_follow shortest 8 bytes (omega (arith, few)) h.1.1)

long_told : (shortest : Bool) (bytes : List ℕ) → HasVarintFault VarintTooLong bytes → varint_by shortest bytes ≡ failed VarintTooLong
long_told shortest bytes (a ∷ front, c, len, big, s) =
    let eight : length front ≡ 8 = omega (arith, len) in
    subst (λ l. varint_by shortest l ≡ failed VarintTooLong) (sym s.parts)
    (behind_first shortest a (front ++ c ∷ s.rest) VarintTooLong s.follow.0 (subst (λ n. groups_by shortest n (front ++ c ∷ s.rest) ≡ failed VarintTooLong) eight (too_long shortest front s.rest c s.follow.1 big)))
long_told shortest bytes ([], c, len, big, s) = absurd (omega (arith, len))

pub varint_told : (bytes : List ℕ) (e : WireError) → HasVarintFault e bytes → varint_at bytes ≡ failed e
varint_told bytes Truncated h = cut_told true bytes h
varint_told bytes VarintTooLong h = long_told true bytes h
varint_told bytes NotMinimal ([], some, few, s) = absurd (omega (arith, some))
varint_told bytes NotMinimal (a ∷ front, some, few, s) =
    subst (λ l. varint_at l ≡ failed NotMinimal) (sym s.parts) (behind_first true a (front ++ 0 ∷ s.rest) NotMinimal s.follow.0 (not_minimal 8 front s.rest (omega (arith, few)) s.follow.1))
varint_told bytes BadWireType h = absurd h
varint_told bytes BadNumber h = absurd h

pub any_varint_told : (bytes : List ℕ) (e : WireError) → HasAnyVarintFault e bytes → varint_by false bytes ≡ failed e
any_varint_told bytes Truncated h = cut_told false bytes h.0
any_varint_told bytes VarintTooLong h = long_told false bytes h.0
any_varint_told bytes NotMinimal h = absurd (h.1 refl)
any_varint_told bytes BadWireType h = absurd h.0
any_varint_told bytes BadNumber h = absurd h.0

-- ---- a varint, in its shortest form or in any

told_by : (shortest : Bool) (bytes : List ℕ) (e : WireError) → HasVarintFaultBy shortest e bytes → varint_by shortest bytes ≡ failed e
told_by true bytes e h = varint_told bytes e h
told_by false bytes e h = any_varint_told bytes e h

faulty_by : (shortest : Bool) (bytes : List ℕ) (e : WireError) → varint_by shortest bytes ≡ failed e → HasVarintFaultBy shortest e bytes
faulty_by true bytes e h = varint_faulty bytes e h
faulty_by false bytes e h = any.varint_faulty bytes e h

record TakesBy (shortest : Bool) (bytes : List ℕ) (n : ℕ) (rest : List ℕ) : Type 0 where
  begins : BeginsWith shortest n rest bytes
  rest_fits : IsBytes rest

takes_by : (shortest : Bool) (bytes : List ℕ) (x : ℕ × List ℕ) → IsBytes bytes → varint_by shortest bytes ≡ Ok x → TakesBy shortest bytes x.0 x.1
takes_by true bytes x fits e = let t = varint_takes bytes x fits e in record { begins = (_, (t.1, refl), t.0.parts); rest_fits = t.0.rest_fits }
takes_by false bytes x fits e = let t = any_records.varint_takes bytes x fits e in record { begins = (t.text, t.spelled, t.parts); rest_fits = t.rest_fits }

again_by : (shortest : Bool) (n : ℕ) (rest bytes : List ℕ) → IsBytes bytes → BeginsWith shortest n rest bytes → varint_by shortest bytes ≡ Ok (n, rest)
again_by true n rest bytes fits (text, spelled, is) = ap varint_at (is ∙ ap (λ (l : List ℕ). l ++ rest) spelled.1) ∙ varint_again n rest spelled.0
again_by false n rest bytes fits (text, spelled, is) = ap (varint_by false) is ∙ any_records.varint_again n text rest (any_records.bytes_front text rest (subst IsBytes is fits)) spelled

begins_fits : (shortest : Bool) (n : ℕ) (rest bytes : List ℕ) → IsBytes bytes → BeginsWith shortest n rest bytes → IsBytes rest
begins_fits shortest n rest bytes fits (text, spelled, is) = any_records.bytes_back text rest (subst IsBytes is fits)

-- ---- a payload

fixed_told : (len : ℕ) (bytes : List ℕ) (e : WireError) → IsShort len e bytes → fixed_at len bytes ≡ failed e
fixed_told len bytes e h = rw (lt-ltb (length bytes) len h.1, h.0) refl

-- a text that is read behind its length
abbrev text_behind : ℕ → List ℕ → Result (Value × List ℕ) WireError
text_behind len rest = fixed_at len rest >>= λ x. Ok (Bytes x.0, x.1)

abbrev text_by : Bool → List ℕ → Result (Value × List ℕ) WireError
text_by shortest bytes = varint_by shortest bytes >>= λ len. text_behind len.0 len.1

length_told : (shortest : Bool) (bytes : List ℕ) (e : WireError) → IsBytes bytes → HasLengthFault shortest e bytes → text_by shortest bytes ≡ failed e
length_told shortest bytes e fits (inl h) = rw (told_by shortest bytes e h) refl
length_told shortest bytes e fits (inr (len, rest, begins, short)) = rw (again_by shortest len rest bytes fits begins, fixed_told len rest e short) refl

other_number : (k n : ℕ) → k ≢ n → eqb k n ≡ false
other_number k n differ = by (eqb k n) refl
  where
    by : (b : Bool) → eqb k n ≡ b → eqb k n ≡ false
    by true is = absurd (differ ((Decides-eqb k n).0 is))
    by false is = is

value_told : (shortest : Bool) (kind : ℕ) (bytes : List ℕ) (e : WireError) → IsBytes bytes → HasPayloadFault shortest e kind bytes → value_by shortest kind bytes ≡ failed e
unfolding value_by
value_told shortest kind bytes e fits (inl (k, h)) = rw (k, told_by shortest bytes e h) refl
value_told shortest kind bytes e fits (inr (inl (k, h))) = rw (k, fixed_told 8 bytes e h) refl
value_told shortest kind bytes e fits (inr (inr (inl (k, h)))) = rw k (length_told shortest bytes e fits h)
value_told shortest kind bytes e fits (inr (inr (inr (inl (k, h))))) = rw (k, fixed_told 4 bytes e h) refl
value_told shortest kind bytes e fits (inr (inr (inr (inr h)))) = rw (other_number kind 0 h.0, other_number kind 1 h.1, other_number kind 2 h.2, other_number kind 5 h.3, h.4) refl

-- ---- a record

number_differs : (k n : ℕ) → eqb k n ≡ false → k ≢ n
number_differs k n is same = let both : false ≡ true = sym is ∙ (Decides-eqb k n).1 same in cc

positive : (n : ℕ) → n ≢ 0 → 1 ≤ n
positive zero differ = absurd (differ refl)
positive (suc n) differ = omega arith

-- what is no field number fails the test
no_number : (n : ℕ) → ¬ IsFieldNumber n → (eqb n 0 || ltb 536870911 n) ≡ true
no_number n none = by (eqb n 0) (ltb 536870911 n) refl refl
  where
    by : (a b : Bool) → eqb n 0 ≡ a → ltb 536870911 n ≡ b → (a || b) ≡ true
    by true b is large = refl
    by false true is large = refl
    by false false is large = absurd (none (positive n (number_differs n 0 is), ltb-false 536870911 n large))

pub record_told : (shortest : Bool) (bytes : List ℕ) (e : WireError) → IsBytes bytes → HasRecordFaultBy shortest e bytes → record_by shortest bytes ≡ failed e
unfolding record_by
record_told shortest bytes e fits (inl h) = rw (told_by shortest bytes e h) refl
record_told shortest bytes e fits (inr (tag, rest, begins, inl (none, bad))) = rw (again_by shortest tag rest bytes fits begins, no_number (tag / 8) none, bad) refl
record_told shortest bytes e fits (inr (tag, rest, begins, inr (number, h))) =
    let least = number.0 in
    let some : eqb (tag / 8) 0 ≡ false = other_number (tag / 8) 0 (λ z. omega (arith, z, least)) in
    rw (again_by shortest tag rest bytes fits begins, some, le-ltb 536870911 (tag / 8) number.1, value_told shortest (tag % 8) rest e (begins_fits shortest tag rest bytes fits begins) h) refl

-- ---- and the other way round

-- a step that ends in a fault, or the next one does
bind_fault : {A B : Type 0} (r : Result A WireError) (f : A → Result B WireError) (e : WireError) → (r >>= f) ≡ failed e → (r ≡ failed e) ⊎ ((x : A) × (r ≡ Ok x) × (f x ≡ failed e))
bind_fault (Ok x) f e h = inr (x, refl, h)
bind_fault {A} {B} (Err d) f e h = let same : d ≡ e = err_is {A = B} d e h in inl (ap (λ (x : WireError). failed {A = A} x) same)

done_fault : {A B : Type 0} (r : Result A WireError) (f : A → B) (e : WireError) → (r >>= λ x. Ok (f x)) ≡ failed e → r ≡ failed e
done_fault (Ok x) f e h = absurd cc
done_fault {A} {B} (Err d) f e h = let same : d ≡ e = err_is {A = B} d e h in ap (λ (x : WireError). failed {A = A} x) same

fixed_faulty : (len : ℕ) (bytes : List ℕ) (e : WireError) → fixed_at len bytes ≡ failed e → IsShort len e bytes
fixed_faulty len bytes e h =
    elim (chosen (ltb (length bytes) len) (failed Truncated) (Ok (take len bytes, drop len bytes)) (failed e) h) [
      | inl g ↦ (sym (err_is {A = List ℕ × List ℕ} Truncated e g.1), ltb-true (length bytes) len g.0)
      | inr g ↦ let none = g.1 in absurd cc
    ]

length_faulty : (shortest : Bool) (bytes : List ℕ) (e : WireError) → IsBytes bytes → text_by shortest bytes ≡ failed e → HasLengthFault shortest e bytes
length_faulty shortest bytes e fits h = by (bind_fault {A = ℕ × List ℕ} {B = Value × List ℕ} (varint_by shortest bytes) (λ len. text_behind len.0 len.1) e h)
  where
    by : (varint_by shortest bytes ≡ failed e) ⊎ ((x : ℕ × List ℕ) × (varint_by shortest bytes ≡ Ok x) × (text_behind x.0 x.1 ≡ failed e)) → HasLengthFault shortest e bytes
    by (inl g) = inl (faulty_by shortest bytes e g)
    by (inr g) =
        let t = takes_by shortest bytes g.0 fits g.1 in
        inr (g.0.0, g.0.1, t.begins, fixed_faulty g.0.0 g.0.1 e (done_fault {B = Value × List ℕ} (fixed_at g.0.0 g.0.1) (λ y. (Bytes y.0, y.1)) e g.2))

value_faulty : (shortest : Bool) (kind : ℕ) (bytes : List ℕ) (e : WireError) → IsBytes bytes → value_by shortest kind bytes ≡ failed e → HasPayloadFault shortest e kind bytes
unfolding value_by
value_faulty shortest kind bytes e fits h =
    elim (chosen (eqb kind 0) _ _ _ h) [
      | inl g ↦ inl (eqb-true kind 0 g.0, faulty_by shortest bytes e (done_fault {B = Value × List ℕ} (varint_by shortest bytes) (λ n. (Varint n.0, n.1)) e g.1))
      | inr g0 ↦ elim (chosen (eqb kind 1) _ _ _ g0.1) [
        | inl g ↦ inr (inl (eqb-true kind 1 g.0, fixed_faulty 8 bytes e (done_fault {B = Value × List ℕ} (fixed_at 8 bytes) (λ y. (Eight y.0, y.1)) e g.1)))
        | inr g1 ↦ elim (chosen (eqb kind 2) _ _ _ g1.1) [
          | inl g ↦ inr (inr (inl (eqb-true kind 2 g.0, length_faulty shortest bytes e fits g.1)))
          | inr g2 ↦ elim (chosen (eqb kind 5) _ _ _ g2.1) [
            | inl g ↦ inr (inr (inr (inl (eqb-true kind 5 g.0, fixed_faulty 4 bytes e (done_fault {B = Value × List ℕ} (fixed_at 4 bytes) (λ y. (Four y.0, y.1)) e g.1)))))
            | inr g3 ↦
                inr (inr (inr (inr (
                  number_differs kind 0 g0.0,
                  number_differs kind 1 g1.0,
                  number_differs kind 2 g2.0,
                  number_differs kind 5 g3.0,
                  sym (err_is {A = Value × List ℕ} BadWireType e g3.1),
                ))))
          ]
        ]
      ]
    ]

-- what the tag's number and the payload come to
tag_faulty : (shortest : Bool) (tag : ℕ) (rest : List ℕ) (e : WireError) → IsBytes rest
    → cond {A = Result (Record × List ℕ) WireError} (eqb (tag / 8) 0 || ltb 536870911 (tag / 8)) (failed BadNumber) (value_by shortest (tag % 8) rest >>= λ x. Ok (record { number = tag / 8; value = x.0 }, x.1)) ≡ failed e → HasTagFault shortest e tag rest
tag_faulty shortest tag rest e fits h = by (eqb (tag / 8) 0) (ltb 536870911 (tag / 8)) refl refl h
  where
    by : (a b : Bool) → eqb (tag / 8) 0 ≡ a → ltb 536870911 (tag / 8) ≡ b
        → cond {A = Result (Record × List ℕ) WireError} (a || b) (failed BadNumber) (value_by shortest (tag % 8) rest >>= λ x. Ok (record { number = tag / 8; value = x.0 }, x.1)) ≡ failed e → HasTagFault shortest e tag rest
    by true b none large h = inl ((λ number. let least = number.0 in let is = eqb-true (tag / 8) 0 none in absurd (omega (arith, is, least))), sym (err_is {A = Record × List ℕ} BadNumber e h))
    by false true none large h = inl ((λ number. let most = number.1 in let above = ltb-true 536870911 (tag / 8) large in absurd (omega (arith, above, most))), sym (err_is {A = Record × List ℕ} BadNumber e h))
    by false false none large h =
        let some = number_differs (tag / 8) 0 none in
        inr ((positive (tag / 8) some, ltb-false 536870911 (tag / 8) large), value_faulty shortest (tag % 8) rest e fits (done_fault {B = Record × List ℕ} (value_by shortest (tag % 8) rest) (λ x. (record { number = tag / 8; value = x.0 }, x.1)) e h))

pub record_faulty : (shortest : Bool) (bytes : List ℕ) (e : WireError) → IsBytes bytes → record_by shortest bytes ≡ failed e → HasRecordFaultBy shortest e bytes
unfolding record_by
record_faulty shortest bytes e fits h =
    elim (bind_fault {A = ℕ × List ℕ} {B = Record × List ℕ} (varint_by shortest bytes) _ e h) [
      | inl g ↦ inl (faulty_by shortest bytes e g)
      | inr g ↦ let t = takes_by shortest bytes g.0 fits g.1 in inr (g.0.0, g.0.1, t.begins, tag_faulty shortest g.0.0 g.0.1 e t.rest_fits g.2)
    ]
