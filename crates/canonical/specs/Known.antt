-- Messages that are read tolerantly: the records may stand in any order and any number, numbers in
-- any groups, and some field numbers are skipped.
use Rattle.std.specs.Prelude.{◌≡◌, ◌⊎◌, ℕ, Bool, true, ◌==◌, not, List, [], ◌∷◌, ◌++◌, Option, Some}
use Rattle.std.specs.Prelude.{None, Result, Ok, Err, if◌then◌else◌}
use Rattle.std.specs.List.{AllByRecursion, flat_map, list_any}
use Rattle.wire.specs.declared.error.WireError.{WireError}
use Rattle.wire.specs.declared.error.WireError.TheVariants.{BadWireType}
use Rattle.wire.specs.AnySpelling.{SpellsAny}
use Rattle.wire.specs.Reading.{any_fields_of}
use Rattle.wire.specs.Record.{Record}
use Rattle.wire.specs.Steps.{◌>>=◌}
use Rattle.canonical.specs.declared.error.CanonError.{CanonError}
use Rattle.canonical.specs.declared.error.CanonError.TheVariants.{Wire, UnknownField, BadUtf8}
use Rattle.canonical.specs.declared.shape.Entry.{Entry}
use Rattle.canonical.specs.Checking.{first_refusal}
use Rattle.canonical.specs.Shape.{shape_entry, has_wire_type, keeps_text}

-- the records of several texts, each cut by itself, one after another
abbrev pub SpellsEach : List (List ℕ) → List Record → Type 0
SpellsEach [] rs = rs ≡ []
SpellsEach (text ∷ texts) rs =
    (front : List Record) × (others : List Record) × (rs ≡ front ++ others)
    × SpellsAny text front × SpellsEach texts others

-- a record of a field of the shape: it has the wire type of its kind, and a string is UTF-8
pub record IsFieldOf (entries : List Entry) (r : Record) : Type 0 where
  pub entry : Entry
  pub listed : shape_entry r.number entries ≡ Some entry
  pub wire : has_wire_type entry.kind r.value ≡ true
  pub text : keeps_text entry.kind r.value ≡ true

abbrev pub is_skipped : List ℕ → ℕ → Bool
is_skipped skipped number = list_any (λ n. n == number) skipped

-- each record has a number that is skipped, whatever it holds, or is one of the shape
abbrev pub AreKnown : List Entry → List ℕ → List Record → Type 0
AreKnown entries skipped rs =
    AllByRecursion (λ r. (is_skipped skipped r.number ≡ true) ⊎ IsFieldOf entries r) rs

-- the texts spell the records, and these are known
abbrev pub AreRead : List Entry → List ℕ → List (List ℕ) → List Record → Type 0
AreRead entries skipped texts rs = SpellsEach texts rs × AreKnown entries skipped rs

-- after known records of the texts, the bytes of one of them go on with the rest
pub record GoesOn (entries : List Entry) (skipped : List ℕ) (texts : List (List ℕ)) (rest : List ℕ)
    : Type 0 where
  pub firsts : List (List ℕ)
  pub front : List ℕ
  pub others : List (List ℕ)
  pub rs : List Record
  pub parts : texts ≡ firsts ++ (front ++ rest) ∷ others
  pub spelled : SpellsEach (firsts ++ front ∷ []) rs
  pub known : AreKnown entries skipped rs

-- ---- the first refusal

-- the rules of a field in their order
abbrev pub any_refusals_of : Entry → Record → List (Bool × CanonError)
any_refusals_of entry r =
    (not (has_wire_type entry.kind r.value), Wire BadWireType) ∷
    (not (keeps_text entry.kind r.value), BadUtf8) ∷
    []

unfoldable pub any_entry_kept : Entry → Record → Result (Unit {0}) CanonError
any_entry_kept entry r = first_refusal (any_refusals_of entry r)

abbrev pub any_kept_if : Record → Option Entry → Result (Unit {0}) CanonError
any_kept_if r None = Err (UnknownField r.number)
any_kept_if r (Some entry) = any_entry_kept entry r

unfoldable pub any_field_kept : List Entry → List ℕ → Record → Result (Unit {0}) CanonError
any_field_kept entries skipped r =
    if is_skipped skipped r.number then Ok tt else any_kept_if r (shape_entry r.number entries)

-- the records, up to the first that can't be read or breaks a rule
unfoldable pub any_checked : List Entry → List ℕ → List (Result Record WireError)
    → Result (List Record) CanonError
any_checked entries skipped [] = Ok []
any_checked entries skipped (Err e ∷ items) = Err (Wire e)
any_checked entries skipped (Ok r ∷ items) =
    any_field_kept entries skipped r >>= λ _.
    any_checked entries skipped items >>= λ rs.
    Ok (r ∷ rs)

-- the records of several texts, each cut by itself
abbrev pub any_fields_checked : List Entry → List ℕ → List (List ℕ)
    → Result (List Record) CanonError
any_fields_checked entries skipped texts =
    any_checked entries skipped (flat_map any_fields_of texts)
