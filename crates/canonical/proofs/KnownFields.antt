-- Fields that are read tolerantly, as a loop checks them, and what they are.
use Rattle.std.proofs.Common.{◌≡◌, ℕ, zero, suc, ◌+◌, ◌<◌, ◌≤◌, length, drop, slice_index_or, arith, add-one, Bool, true, false, cond, not, List, [], ◌∷◌, ◌++◌, Option, Some, None, Result, Ok, Err, refl, sym, ap, subst, ◌∙◌, inl, inr, ◌⊎◌}
use Rattle.std.specs.Prelude.{IfOk}
use Rattle.std.specs.List.{AllByRecursion, flat_map}
use Rattle.std.specs.declared.vec.Vec.{Vec}
use Rattle.std.proofs.lemmas.List.{append-nil, length-map}
use Rattle.std.proofs.lemmas.List.Concat.{flat_map-cons}
use Rattle.std.specs.Borrow.{Bor}
use Rattle.canonical.specs.View.{slices}
use Rattle.wire.specs.declared.error.WireError.{WireError}
use Rattle.wire.specs.declared.field.Field.{Field}
use Rattle.wire.specs.Bytes.{IsBytes}
use Rattle.wire.specs.Reading.{any_fields_of}
use Rattle.wire.specs.Record.{Record, records_of}
use Rattle.wire.specs.Steps.{◌>>=◌}
use Rattle.wire.proofs.AnyLists.{spelled_fields, fields_spelled}
use Rattle.wire.proofs.Steps.{bind_ok, ok_is, with_front, with_none, regroup}
use Rattle.canonical.specs.declared.error.CanonError.{CanonError}
use Rattle.canonical.specs.declared.error.CanonError.TheVariants as errors
use Rattle.canonical.specs.declared.shape.Entry.{Entry}
use Rattle.canonical.specs.Checking.{ChecksUnlessMemory}
use Rattle.canonical.specs.Known.{SpellsEach, IsFieldOf, is_skipped, AreKnown, any_refusals_of, any_entry_kept, any_kept_if, any_field_kept, any_checked, any_fields_checked}
use Rattle.canonical.specs.Shape.{shape_entry, has_wire_type, keeps_text}
use Rattle.std.proofs.Math.ListN.{drop_of_length-le}
use Rattle.canonical.proofs.Behind.{as_items}
use Rattle.canonical.proofs.Columns.{none_holds}

-- ---- the loop

pub goes_on : (front : List Record) (entries : List Entry) (skipped : List ℕ) (r : Record) (items others : List (Result Record WireError)) (total : Result (List Record) CanonError)
    → items ≡ Ok r ∷ others → any_field_kept entries skipped r ≡ Ok tt → with_front front (any_checked entries skipped items) ≡ total
    → with_front (front ++ r ∷ []) (any_checked entries skipped others) ≡ total
unfolding any_checked
goes_on front entries skipped r items others total is kept so_far = sym (regroup front r (any_checked entries skipped others)) ∙ rw (is, kept) at so_far

pub breaks : (e : CanonError) (front : List Record) (entries : List Entry) (skipped : List ℕ) (r : Record) (items others : List (Result Record WireError)) (total : Result (List Record) CanonError)
    → items ≡ Ok r ∷ others → any_field_kept entries skipped r ≡ Err e → with_front front (any_checked entries skipped items) ≡ total → total ≡ Err e
unfolding any_checked
breaks e front entries skipped r items others total is broken so_far = sym so_far ∙ rw (is, broken) refl

pub faults : (e : WireError) (front : List Record) (entries : List Entry) (skipped : List ℕ) (items others : List (Result Record WireError)) (total : Result (List Record) CanonError)
    → items ≡ Err e ∷ others → with_front front (any_checked entries skipped items) ≡ total → total ≡ Err (errors.Wire e)
unfolding any_checked
faults e front entries skipped items others total is so_far = sym so_far ∙ rw is refl

pub ends : (front : List Record) (entries : List Entry) (skipped : List ℕ) (items : List (Result Record WireError)) (total : Result (List Record) CanonError) → items ≡ [] → with_front front (any_checked entries skipped items) ≡ total → total ≡ Ok front
unfolding any_checked
ends front entries skipped items total is so_far = sym so_far ∙ rw is (ap (λ (l : List Record). Ok l) (append-nil front))

-- ---- what a rule keeps

not_true : (b : Bool) → not b ≡ false → b ≡ true
not_true true e = refl
not_true false e = absurd cc

field_facts : (entries : List Entry) (r : Record) (o : Option Entry) → shape_entry r.number entries ≡ o → any_kept_if r o ≡ Ok tt → IsFieldOf entries r
unfolding any_entry_kept
field_facts entries r None is e = absurd cc
field_facts entries r (Some entry) is e =
    let k = none_holds (any_refusals_of entry r) e in
    record { entry = entry; listed = is; wire = not_true (has_wire_type entry.kind r.value) k.0; text = not_true (keeps_text entry.kind r.value) k.1.0 }

known_facts : (entries : List Entry) (skipped : List ℕ) (r : Record) → any_field_kept entries skipped r ≡ Ok tt → (is_skipped skipped r.number ≡ true) ⊎ IsFieldOf entries r
unfolding any_field_kept
known_facts entries skipped r e = by (is_skipped skipped r.number) refl e
  where
    by : (b : Bool) → is_skipped skipped r.number ≡ b → cond {A = Result (Unit {0}) CanonError} b (Ok tt) (any_kept_if r (shape_entry r.number entries)) ≡ Ok tt → (is_skipped skipped r.number ≡ true) ⊎ IsFieldOf entries r
    by true is h = inl is
    by false is h = inr (field_facts entries r (shape_entry r.number entries) refl h)

entry_given : (entry : Entry) (r : Record) → has_wire_type entry.kind r.value ≡ true → keeps_text entry.kind r.value ≡ true → any_entry_kept entry r ≡ Ok tt
unfolding any_entry_kept
entry_given entry r wire text = rw (wire, text) refl

either : (b : Bool) (x : Result (Unit {0}) CanonError) → x ≡ Ok tt → cond b (Ok tt) x ≡ Ok tt
either true x e = refl
either false x e = e

pub known_given : (entries : List Entry) (skipped : List ℕ) (r : Record) → (is_skipped skipped r.number ≡ true) ⊎ IsFieldOf entries r → any_field_kept entries skipped r ≡ Ok tt
unfolding any_field_kept
known_given entries skipped r (inl is) = rw is refl
known_given entries skipped r (inr f) = either (is_skipped skipped r.number) (any_kept_if r (shape_entry r.number entries)) (ap (any_kept_if r) f.listed ∙ entry_given f.entry r f.wire f.text)

-- ---- all records

all_known : (entries : List Entry) (skipped : List ℕ) (items : List (Result Record WireError)) (rs : List Record) → any_checked entries skipped items ≡ Ok rs → (items ≡ as_items rs) × AreKnown entries skipped rs
unfolding any_checked
all_known entries skipped [] rs e = subst (λ (x : List Record). ([] ≡ as_items x) × AreKnown entries skipped x) (ok_is {E = CanonError} [] rs e) (refl, tt)
all_known entries skipped (Err fault ∷ items) rs e = absurd cc
all_known entries skipped (Ok r ∷ items) rs e =
    let a = bind_ok (any_field_kept entries skipped r) (λ _. any_checked entries skipped items >>= λ x. Ok (r ∷ x)) rs e in
    let b = bind_ok (any_checked entries skipped items) (λ x. Ok (r ∷ x)) rs a.2 in
    let others = all_known entries skipped items b.0 b.1 in
    subst (λ (x : List Record). ((Ok r ∷ items) ≡ as_items x) × AreKnown entries skipped x) (ok_is {E = CanonError} (r ∷ b.0) rs b.2)
    (ap (λ (l : List (Result Record WireError)). Ok r ∷ l) others.0, (known_facts entries skipped r a.1, others.1))

known_checked : (entries : List Entry) (skipped : List ℕ) (rs : List Record) → AreKnown entries skipped rs → any_checked entries skipped (as_items rs) ≡ Ok rs
unfolding any_checked
known_checked entries skipped [] k = refl
known_checked entries skipped (r ∷ rs) k = rw (known_given entries skipped r k.0, known_checked entries skipped rs k.1) refl

-- ---- the texts

abbrev pub Items : Type 0
Items = List (Result Record WireError)

-- the records of a front and of the rest
record Split (xs ys : Items) (rs : List Record) : Type 0 where
  front : List Record
  others : List Record
  parts : rs ≡ front ++ others
  first : xs ≡ as_items front
  last : ys ≡ as_items others

split : (xs ys : Items) (rs : List Record) → xs ++ ys ≡ as_items rs → Split xs ys rs
split [] ys rs e = record { front = []; others = rs; parts = refl; first = refl; last = e }
split (x ∷ xs) ys [] e = absurd cc
split (x ∷ xs) ys (r ∷ rs) e =
    let heads : x ≡ Ok r = cc in
    let tails : xs ++ ys ≡ as_items rs = cc in
    let s = split xs ys rs tails in
    record {
      front = r ∷ s.front;
      others = s.others;
      parts = ap (λ (l : List Record). r ∷ l) s.parts;
      first = λ i. heads i ∷ s.first i;
      last = s.last;
    }

pub as_items_append : (xs ys : List Record) → as_items (xs ++ ys) ≡ as_items xs ++ as_items ys
as_items_append [] ys = refl
as_items_append (x ∷ xs) ys = ap (λ (l : Items). Ok x ∷ l) (as_items_append xs ys)

texts_spelled : (texts : List (List ℕ)) (rs : List Record) → AllByRecursion IsBytes texts → flat_map any_fields_of texts ≡ as_items rs → SpellsEach texts rs
texts_spelled [] [] fits e = refl
texts_spelled [] (r ∷ rs) fits e = absurd cc
texts_spelled (text ∷ texts) rs fits e =
    let s = split (any_fields_of text) (flat_map any_fields_of texts) rs (sym (flat_map-cons any_fields_of text texts) ∙ e) in
    (s.front, s.others, s.parts, spelled_fields s.front text fits.0 s.first, texts_spelled texts s.others fits.1 s.last)

spelled_texts : (texts : List (List ℕ)) (rs : List Record) → AllByRecursion IsBytes texts → SpellsEach texts rs → flat_map any_fields_of texts ≡ as_items rs
spelled_texts [] rs fits s = ap as_items (sym s)
spelled_texts (text ∷ texts) rs fits (front, others, parts, spelled, rest) =
    flat_map-cons any_fields_of text texts ∙ (λ i. fields_spelled text front fits.0 spelled i ++ spelled_texts texts others fits.1 rest i) ∙ sym (as_items_append front others) ∙ ap as_items (sym parts)

-- what is accepted, and only that
pub known_found : (entries : List Entry) (skipped : List ℕ) (texts : List (List ℕ)) (rs : List Record) → AllByRecursion IsBytes texts → any_fields_checked entries skipped texts ≡ Ok rs → SpellsEach texts rs × AreKnown entries skipped rs
known_found entries skipped texts rs fits e = let a = all_known entries skipped (flat_map any_fields_of texts) rs e in (texts_spelled texts rs fits a.0, a.1)

pub known_only : (entries : List Entry) (skipped : List ℕ) (texts : List (List ℕ)) (rs : List Record) → AllByRecursion IsBytes texts → SpellsEach texts rs → AreKnown entries skipped rs → any_fields_checked entries skipped texts ≡ Ok rs
known_only entries skipped texts rs fits s k = ap (any_checked entries skipped) (spelled_texts texts rs fits s) ∙ known_checked entries skipped rs k

pub is_found : {A : Type 0} (entries : List Entry) (skipped : List ℕ) (texts : List (List ℕ)) (r : Result (Vec Field A) CanonError) → AllByRecursion IsBytes texts → ChecksUnlessMemory (λ v. records_of v.items) r (any_fields_checked entries skipped texts)
    → IfOk r (λ v. SpellsEach texts (records_of v.items) × AreKnown entries skipped (records_of v.items))
is_found entries skipped texts (Ok v) fits given = known_found entries skipped texts (records_of v.items) fits given
is_found entries skipped texts (Err e) fits given = tt

-- the text at i, and what comes behind it
pub next_text : (texts : List (Bor (List ℕ))) (i : ℕ) (d : Bor (List ℕ)) → i < length texts → drop i (slices texts) ≡ (slice_index_or texts i d).now ∷ drop (i + 1) (slices texts)
next_text [] i d lt = absurd (omega (arith, lt))
next_text (t ∷ texts) zero d lt = refl
next_text (t ∷ texts) (suc i) d lt = rw add-one (next_text texts i d (omega (arith, lt)) ∙ rw add-one refl)

pub enters : (front : List Record) (entries : List Entry) (skipped : List ℕ) (texts : List (Bor (List ℕ))) (i : ℕ) (d : Bor (List ℕ)) (items : Items) (total : Result (List Record) CanonError) → i < length texts → items ≡ any_fields_of (slice_index_or texts i d).now
    → with_front front (any_checked entries skipped (flat_map any_fields_of (drop i (slices texts)))) ≡ total
    → with_front front (any_checked entries skipped (items ++ flat_map any_fields_of (drop (i + 1) (slices texts)))) ≡ total
enters front entries skipped texts i d items total lt is so_far =
    let whole : flat_map any_fields_of (drop i (slices texts)) ≡ items ++ flat_map any_fields_of (drop (i + 1) (slices texts)) = ap (flat_map any_fields_of) (next_text texts i d lt) ∙ flat_map-cons any_fields_of (slice_index_or texts i d).now (drop (i + 1) (slices texts)) ∙ ap (λ (l : Items). l ++ flat_map any_fields_of (drop (i + 1) (slices texts))) (sym is) in
    ap (λ (l : Items). with_front front (any_checked entries skipped l)) (sym whole) ∙ so_far

pub starts : (front : List Record) (entries : List Entry) (skipped : List ℕ) (texts : List (List ℕ)) → front ≡ [] → with_front front (any_checked entries skipped (flat_map any_fields_of (drop 0 texts))) ≡ any_fields_checked entries skipped texts
starts front entries skipped texts is = rw is (with_none (any_fields_checked entries skipped texts))

pub leaves : (front : List Record) (entries : List Entry) (skipped : List ℕ) (items others : Items) (total : Result (List Record) CanonError) → items ≡ [] → with_front front (any_checked entries skipped (items ++ others)) ≡ total → with_front front (any_checked entries skipped others) ≡ total
leaves front entries skipped items others total is so_far = ap (λ (l : Items). with_front front (any_checked entries skipped (l ++ others))) (sym is) ∙ so_far

pub finishes : (front : List Record) (entries : List Entry) (skipped : List ℕ) (texts : List (Bor (List ℕ))) (i : ℕ) (total : Result (List Record) CanonError) → length texts ≤ i
    → with_front front (any_checked entries skipped (flat_map any_fields_of (drop i (slices texts)))) ≡ total → total ≡ Ok front
finishes front entries skipped texts i total le so_far =
    let long : length (slices texts) ≤ i = omega (arith, length-map texts (λ (t : Bor (List ℕ)). t.now), le) in
    ends front entries skipped (flat_map any_fields_of (drop i (slices texts))) total (ap (flat_map any_fields_of) (drop_of_length-le (slices texts) long)) so_far
