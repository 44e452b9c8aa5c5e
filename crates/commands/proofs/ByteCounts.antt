-- What texts spell as numbers of bytes.
use Rattle.std.proofs.Common.{◌≡◌, ◌∙◌, ◌*◌, ◌<◌, ◌≤◌, ◌^◌, ℕ, List, [], ◌∷◌, ◌++◌, Option, None, Some, ap, arith, subst, sym}
use Rattle.std.specs.Prelude.{IfNone, IfSome, SomeIff}
use Rattle.std.proofs.lemmas.List.{same_from_push}
use Rattle.std.specs.Char.{digit_value}
use Rattle.std.specs.Str.Parse.{AllDigits}
use Rattle.std.proofs.lemmas.Bool.Decides.{nat_tests}
use Rattle.std.proofs.lemmas.Str.Parse.{digit_from_value}
use Rattle.commands.specs.ByteCounts.{HasUnit, SpellsBytes, SpellsBytesUpTo, unit_of}
use Rattle.commands.specs.ByteCounts.SpellsBytes.{alone, in_units}
use Rattle.commands.specs.Options.{IsNumber, decimal_number}

-- one unit stands behind a text
unit_same : (text digits others : List ℕ) (unit other : ℕ) → HasUnit text digits unit → HasUnit text others other → (digits ≡ others) × (unit ≡ other)
unit_same text digits others unit other h i =
    let same = same_from_push digits others h.letter i.letter (sym h.cut ∙ i.cut) in
    let letters : h.letter ≡ i.letter = same.1 in
    let one : unit_of h.letter ≡ Some unit = h.is_unit in
    let two : unit_of i.letter ≡ Some other = i.is_unit in
    (same.0, cc (ap unit_of letters))

pub units_spell : (text digits : List ℕ) (unit : ℕ) (r : Option ℕ) → HasUnit text digits unit → SomeIff r (IsNumber digits × (decimal_number digits * unit < 2 ^ 64)) (decimal_number digits * unit)
    → IfSome r (SpellsBytes text)
units_spell text digits unit None has h = tt
units_spell text digits unit (Some bytes) has h = in_units digits unit has h.0.0 h.1 (subst (λ n. n < 2 ^ 64) (sym h.1) h.0.1)

pub units_spell_none : (text digits : List ℕ) (unit : ℕ) (r : Option ℕ) → (IsNumber text → ⊥) → HasUnit text digits unit
    → SomeIff r (IsNumber digits × (decimal_number digits * unit < 2 ^ 64)) (decimal_number digits * unit) → IfNone r ((bytes : ℕ) → SpellsBytes text bytes → ⊥)
units_spell_none text digits unit (Some bytes) none has h = tt
units_spell_none text digits unit None none has h = λ bytes spells. go bytes spells
  where
    go : (bytes : ℕ) → SpellsBytes text bytes → ⊥
    go bytes (alone is _) = none is
    go bytes (in_units ds u other number is less) =
        let same = unit_same text digits ds unit u has other in
        let number_here : IsNumber digits = subst IsNumber (sym same.0) number in
        let product : decimal_number digits * unit ≡ bytes = ap (λ n. n * unit) (ap decimal_number same.0) ∙ ap (λ n. decimal_number ds * n) same.1 ∙ sym is in
        h (number_here, subst (λ n. n < 2 ^ 64) (sym product) less)

pub nothing_spelled : (text : List ℕ) → (IsNumber text → ⊥) → ((digits : List ℕ) (unit : ℕ) → HasUnit text digits unit → ⊥) → (bytes : ℕ) → SpellsBytes text bytes → ⊥
nothing_spelled text none without bytes (alone is _) = none is
nothing_spelled text none without bytes (in_units digits unit has number is less) = without digits unit has

-- ---- a text spells one number

-- the letter of a unit is no digit
no_digit : (letter unit : ℕ) → letter ≤ 57 → unit_of letter ≡ Some unit → ⊥
no_digit letter unit less is = grind (arith, nat_tests)

last_digit : (digits : List ℕ) (letter : ℕ) → AllDigits 10 (digits ++ letter ∷ []) → digit_value letter < 10
last_digit [] letter h = h.0
last_digit (d ∷ digits) letter h = last_digit digits letter h.1

number_or_units : (text digits : List ℕ) (unit : ℕ) → IsNumber text → HasUnit text digits unit → ⊥
number_or_units text digits unit number has =
    let all : AllDigits 10 (digits ++ has.letter ∷ []) = subst (AllDigits 10) has.cut number.0.1 in
    no_digit has.letter unit (digit_from_value has.letter (last_digit digits has.letter all)).1 has.is_unit

spelled_once : (text : List ℕ) (a b : ℕ) → SpellsBytes text a → SpellsBytes text b → a ≡ b
spelled_once text a b (alone n is) (alone m be) = is ∙ sym be
spelled_once text a b (alone n is) (in_units ds u has m be less) = absurd (number_or_units text ds u n has)
spelled_once text a b (in_units ds u has n is less) (alone m be) = absurd (number_or_units text ds u m has)
spelled_once text a b (in_units ds u has n is less) (in_units es v too m be few) =
    let same = unit_same text ds es u v has too in
    is ∙ (ap (λ x. decimal_number x * u) same.0 ∙ (ap (λ x. decimal_number es * x) same.1 ∙ sym be))

-- one that is too great leaves no other
pub too_great : (text : List ℕ) (bytes greatest : ℕ) → SpellsBytes text bytes → greatest < bytes → SpellsBytesUpTo greatest text → ⊥
too_great text bytes greatest spells great up_to =
    let same : bytes ≡ up_to.0 = spelled_once text bytes up_to.0 spells up_to.1 in
    let less : up_to.0 ≤ greatest = up_to.2 in
    absurd (omega arith)
