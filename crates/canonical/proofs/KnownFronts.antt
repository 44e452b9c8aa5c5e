-- Behind known records of several texts, the first record that can't be read or breaks a rule decides.
use Rattle.std.proofs.Common.{◌≡◌, ℕ, ◌<◌, false, length, List, [], ◌∷◌, ◌++◌, Ok, Err, refl, sym, ap, subst, ◌∙◌, append_assoc}
use Rattle.std.specs.List.{AllByRecursion, flat_map}
use Rattle.std.proofs.lemmas.List.{append-nil}
use Rattle.std.proofs.lemmas.List.Concat.{flat_map-cons}
use Rattle.wire.specs.declared.error.WireError.{WireError}
use Rattle.wire.specs.Bytes.{IsBytes}
use Rattle.wire.specs.Reading.{any_record_at, any_fields_of}
use Rattle.wire.specs.Record.{Record}
use Rattle.wire.proofs.AnyLists.{fields_front, fields_spelled}
use Rattle.wire.proofs.AnyRecords.{bytes_front}
use Rattle.wire.proofs.Lists.{fields_step, fields_fault}
use Rattle.canonical.specs.declared.error.CanonError.{CanonError}
use Rattle.canonical.specs.declared.error.CanonError.TheVariants as errors
use Rattle.canonical.specs.declared.shape.Entry.{Entry}
use Rattle.canonical.specs.Known.{SpellsEach, AreKnown, GoesOn, any_field_kept, any_checked, any_fields_checked}
use Rattle.wire.proofs.Steps.{with_front, with_none, with_first}
use Rattle.canonical.proofs.Behind.{as_items}
use Rattle.canonical.proofs.KnownFields.{Items, known_given, as_items_append}

known_front : (entries : List Entry) (skipped : List ℕ) (rs : List Record) (items : Items) → AreKnown entries skipped rs → any_checked entries skipped (as_items rs ++ items) ≡ with_front rs (any_checked entries skipped items)
unfolding any_checked
known_front entries skipped [] items k = sym (with_none (any_checked entries skipped items))
known_front entries skipped (r ∷ rs) items k = rw (known_given entries skipped r k.0, known_front entries skipped rs items k.1) (with_first r rs (any_checked entries skipped items))

-- the records of the front, and those of what comes behind it
items_behind : (firsts : List (List ℕ)) (front rest : List ℕ) (others : List (List ℕ)) (rs : List Record) → AllByRecursion IsBytes (firsts ++ (front ++ rest) ∷ others) → SpellsEach (firsts ++ front ∷ []) rs
    → flat_map any_fields_of (firsts ++ (front ++ rest) ∷ others) ≡ as_items rs ++ (any_fields_of rest ++ flat_map any_fields_of others)
items_behind [] front rest others rs fits (begin, end, is, spelled, none) =
    let whole : rs ≡ begin = is ∙ ap (λ (l : List Record). begin ++ l) none ∙ append-nil begin in
    flat_map-cons any_fields_of (front ++ rest) others
    ∙ ap (λ (l : Items). l ++ flat_map any_fields_of others) (fields_front begin front rest (bytes_front front rest fits.0) spelled)
    ∙ append_assoc (as_items begin) (any_fields_of rest) (flat_map any_fields_of others)
    ∙ ap (λ (l : List Record). as_items l ++ (any_fields_of rest ++ flat_map any_fields_of others)) (sym whole)
items_behind (text ∷ firsts) front rest others rs fits (begin, end, is, spelled, more) =
    let behind : Items = any_fields_of rest ++ flat_map any_fields_of others in
    flat_map-cons any_fields_of text (firsts ++ (front ++ rest) ∷ others)
    ∙ (λ i. fields_spelled text begin fits.0 spelled i ++ items_behind firsts front rest others end fits.1 more i)
    ∙ sym (append_assoc (as_items begin) (as_items end) behind)
    ∙ ap (λ (l : Items). l ++ behind) (sym (as_items_append begin end) ∙ ap as_items (sym is))

refused_behind : (entries : List Entry) (skipped : List ℕ) (texts : List (List ℕ)) (rest : List ℕ) (items : Items) (e : CanonError) → AllByRecursion IsBytes texts → GoesOn entries skipped texts rest → any_fields_of rest ≡ items
    → ((more : Items) → any_checked entries skipped (items ++ more) ≡ Err e) → any_fields_checked entries skipped texts ≡ Err e
refused_behind entries skipped texts rest items e fits g is refused =
    let more : Items = flat_map any_fields_of g.others in
    let whole : flat_map any_fields_of texts ≡ as_items g.rs ++ (any_fields_of rest ++ more) = ap (flat_map any_fields_of) g.parts ∙ items_behind g.firsts g.front rest g.others g.rs (subst (AllByRecursion IsBytes) g.parts fits) g.spelled in
    ap (any_checked entries skipped) (whole ∙ ap (λ (l : Items). as_items g.rs ++ (l ++ more)) is) ∙ known_front entries skipped g.rs (items ++ more) g.known ∙ ap (with_front g.rs) (refused more)

fault_first : (entries : List Entry) (skipped : List ℕ) (e : WireError) (more : Items) → any_checked entries skipped (Err e ∷ more) ≡ Err (errors.Wire e)
unfolding any_checked
fault_first entries skipped e more = refl

broken_first : (entries : List Entry) (skipped : List ℕ) (r : Record) (e : CanonError) (more : Items) → any_field_kept entries skipped r ≡ Err e → any_checked entries skipped (Ok r ∷ more) ≡ Err e
unfolding any_checked
broken_first entries skipped r e more broken = rw broken refl

pub unread_known : (entries : List Entry) (skipped : List ℕ) (texts : List (List ℕ)) (rest : List ℕ) (e : WireError) → AllByRecursion IsBytes texts → GoesOn entries skipped texts rest → 0 < length rest → any_record_at rest ≡ Err e
    → any_fields_checked entries skipped texts ≡ Err (errors.Wire e)
unread_known entries skipped texts rest e fits g some fault =
    refused_behind entries skipped texts rest (Err e ∷ []) (errors.Wire e) fits g (fields_fault false rest e some fault) (λ more. fault_first entries skipped e more)

pub broken_known : (entries : List Entry) (skipped : List ℕ) (texts : List (List ℕ)) (rest after : List ℕ) (r : Record) (e : CanonError) → AllByRecursion IsBytes texts → GoesOn entries skipped texts rest → any_record_at rest ≡ Ok (r, after)
    → any_field_kept entries skipped r ≡ Err e → any_fields_checked entries skipped texts ≡ Err e
broken_known entries skipped texts rest after r e fits g here broken =
    refused_behind entries skipped texts rest (Ok r ∷ any_fields_of after) e fits g (fields_step false rest (r, after) here) (λ more. broken_first entries skipped r e (any_fields_of after ++ more) broken)
