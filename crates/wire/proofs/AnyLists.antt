-- Records one after another, their numbers in any groups.
use Rattle.std.proofs.Common.{◌≡◌, ℕ, ◌<◌, false, List, [], ◌∷◌, ◌++◌, length, map, Result, Ok, Err, refl, sym, ap, subst, ◌∙◌, append_assoc, arith, inl, inr, ◌⊎◌}
use Rattle.std.proofs.lemmas.List.{append-nil}
use Rattle.wire.specs.declared.error.WireError.{WireError}
use Rattle.wire.specs.AnySpelling.{IsRecordText, SpellsAny}
use Rattle.wire.specs.Bytes.{IsBytes}
use Rattle.wire.specs.Reading.{record_by, fields_within, fields_by}
use Rattle.wire.specs.Record.{Record}
use Rattle.wire.proofs.Steps.{ok_is}
use Rattle.wire.proofs.Lists.{fields_none, fields_step, fields_fault}
use Rattle.wire.proofs.AnyRecords.{bytes_front, bytes_back, record_takes, record_again}

-- the front of the bytes is spelled by the records, and then comes the rest
pub fields_front : (rs : List Record) (front rest : List ℕ) → IsBytes front → SpellsAny front rs → fields_by false (front ++ rest) ≡ map Ok rs ++ fields_by false rest
fields_front [] front rest fits s = ap (λ (l : List ℕ). fields_by false (l ++ rest)) s
fields_front (r ∷ rs) front rest fits (text, more, is, spelled, others) =
    let both : IsBytes (text ++ more) = subst IsBytes is fits in
    let regrouped : front ++ rest ≡ text ++ (more ++ rest) = ap (λ (l : List ℕ). l ++ rest) is ∙ append_assoc text more rest in
    ap (fields_by false) regrouped ∙ fields_step false (text ++ (more ++ rest)) (r, more ++ rest) (record_again r text (more ++ rest) (bytes_front text more both) spelled)
    ∙ ap (λ (l : List (Result Record WireError)). Ok r ∷ l) (fields_front rs more rest (bytes_back text more both) others)

pub fields_spelled : (bytes : List ℕ) (rs : List Record) → IsBytes bytes → SpellsAny bytes rs → fields_by false bytes ≡ map Ok rs
fields_spelled bytes rs fits s =
    ap (fields_by false) (sym (append-nil bytes)) ∙ fields_front rs bytes [] fits s ∙ ap (λ (l : List (Result Record WireError)). map Ok rs ++ l) (fields_none false) ∙ append-nil (map Ok rs)

record_or_fault : (bytes : List ℕ) → ((x : Record × List ℕ) × (record_by false bytes ≡ Ok x)) ⊎ ((e : WireError) × (record_by false bytes ≡ Err e))
record_or_fault bytes = elim (record_by false bytes) as (λ r. ((x : Record × List ℕ) × (r ≡ Ok x)) ⊎ ((e : WireError) × (r ≡ Err e))) [ Ok x ↦ inl (x, refl) | Err e ↦ inr (e, refl) ]

pub spelled_fields : (rs : List Record) (bytes : List ℕ) → IsBytes bytes → fields_by false bytes ≡ map Ok rs → SpellsAny bytes rs
unfolding fields_by fields_within
spelled_fields [] [] fits e = refl
spelled_fields [] (b ∷ bytes) fits e =
    elim (record_or_fault (b ∷ bytes)) [
      | inl found ↦ let no = sym (fields_step false (b ∷ bytes) found.0 found.1) ∙ e in absurd cc
      | inr fault ↦ let no = sym (fields_fault false (b ∷ bytes) fault.0 (omega arith) fault.1) ∙ e in absurd cc
    ]
spelled_fields (r ∷ rs) [] fits e = absurd cc
spelled_fields (r ∷ rs) (b ∷ bytes) fits e =
    elim (record_or_fault (b ∷ bytes)) [
      | inl found ↦
          let both = sym (fields_step false (b ∷ bytes) found.0 found.1) ∙ e in
          let first : found.0.0 ≡ r = ok_is {E = WireError} found.0.0 r (cc) in
          let others : fields_by false found.0.1 ≡ map Ok rs = cc in
          let t = record_takes (b ∷ bytes) found.0 fits found.1 in
          let s = spelled_fields rs found.0.1 (bytes_back t.text found.0.1 (subst IsBytes t.parts fits)) others in
          (t.text, found.0.1, t.parts, subst (λ (x : Record). IsRecordText x t.text) first t.spelled, s)
      | inr fault ↦ let no = sym (fields_fault false (b ∷ bytes) fault.0 (omega arith) fault.1) ∙ e in absurd cc
    ]

pub fields_faulty : (rs : List Record) (bytes front rest : List ℕ) (e : WireError) → IsBytes bytes → SpellsAny front rs → bytes ≡ front ++ rest → 0 < length rest → record_by false rest ≡ Err e → fields_by false bytes ≡ map Ok rs ++ Err e ∷ []
fields_faulty rs bytes front rest e fits spelled is some fault =
    ap (fields_by false) is ∙ fields_front rs front rest (bytes_front front rest (subst IsBytes is fits)) spelled ∙ ap (λ (l : List (Result Record WireError)). map Ok rs ++ l) (fields_fault false rest e some fault)
