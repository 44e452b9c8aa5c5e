-- What fields say of a body's length, one field after another.
use Rattle.std.proofs.Common.{◌≡◌, ℕ, Bool, true, false, List, [], ◌∷◌, map, refl, ◌∙◌, codes, if◌then◌else◌}
use Rattle.std.specs.Prelude.{⊤}
use Rattle.std.specs.List.{filter}
use Rattle.std.specs.Str.Parse.{digits_value}
use Rattle.http_core.specs.Names.{same_name}
use Rattle.http_core.specs.declared.rules.Length.{Length}
use Rattle.http_core.specs.declared.rules.Length.TheVariants.{Absent, Bad, Is}
use Rattle.http_core.specs.Rules.{is_length, read_length, values_of, length_among, length_of}

-- a second length is bad
abbrev pub next_length : Length → List ℕ → Length
next_length Absent text = read_length text
next_length Bad text = Bad
next_length (Is n) text = Bad

-- the length behind what was found in fields before these
abbrev pub length_from : Length → List (List ℕ × List ℕ) → Length
length_from found [] = found
length_from found (f ∷ fields) =
    length_from (if same_name f.0 (codes "content-length") then next_length found f.1 else found) fields

among : Length → List (List ℕ) → Length
among Absent texts = length_among texts
among Bad texts = Bad
among (Is n) [] = Is n
among (Is n) (text ∷ texts) = Bad

among_none : (found : Length) → found ≡ among found []
unfolding among
among_none Absent = refl
among_none Bad = refl
among_none (Is n) = refl

abbrev IsRead : Length → Type 0
IsRead Absent = ⊥
IsRead Bad = ⊤
IsRead (Is n) = ⊤

read_one : (text : List ℕ) → IsRead (read_length text)
unfolding read_length
read_one text = by_test (is_length text)
  where
    by_test : (b : Bool) → IsRead (if b then Is (digits_value 10 text) else Bad)
    by_test true = tt
    by_test false = tt

among_read : (text : List ℕ) (texts : List (List ℕ)) (r : Length) → IsRead r → r ≡ read_length text → among r texts ≡ length_among (text ∷ texts)
unfolding among
among_read text [] Bad h e = e
among_read text [] (Is n) h e = e
among_read text (other ∷ texts) Bad h e = refl
among_read text (other ∷ texts) (Is n) h e = refl
among_read text texts Absent h e = absurd h

among_next : (found : Length) (text : List ℕ) (texts : List (List ℕ)) → among (next_length found text) texts ≡ among found (text ∷ texts)
unfolding among
among_next Absent text texts = among_read text texts (read_length text) (read_one text) refl
among_next Bad text texts = refl
among_next (Is n) text texts = refl

length_from_is : (found : Length) (fields : List (List ℕ × List ℕ)) → length_from found fields ≡ among found (values_of (codes "content-length") fields)
length_from_is found [] = among_none found
length_from_is found (f ∷ fields) = by_test (same_name f.0 (codes "content-length")) (length_from_is (next_length found f.1) fields) (length_from_is found fields)
  where
    by_test : (b : Bool)
        → length_from (next_length found f.1) fields ≡ among (next_length found f.1) (values_of (codes "content-length") fields)
        → length_from found fields ≡ among found (values_of (codes "content-length") fields)
        → length_from (if b then next_length found f.1 else found) fields
        ≡ among found (map (λ (h : List ℕ × List ℕ). h.1) (if b then f ∷ filter (λ h. same_name h.0 (codes "content-length")) fields else filter (λ h. same_name h.0 (codes "content-length")) fields))
    by_test true yes_ no_ = yes_ ∙ among_next found f.1 (values_of (codes "content-length") fields)
    by_test false yes_ no_ = no_

pub length_from_absent : (fields : List (List ℕ × List ℕ)) → length_from Absent fields ≡ length_of fields
unfolding among
length_from_absent fields = length_from_is Absent fields
