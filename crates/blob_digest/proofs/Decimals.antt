-- The decimals without a leading zero are the texts of the numbers.
use Rattle.std.proofs.Common.{◌≡◌, ℕ, ◌^◌, ◌<◌, true, List, length, get_or, Result, Ok, Err, refl, sym, inl, inr, arith, rules}
use Rattle.std.specs.Prelude.{IfOk, decimal}
use Rattle.std.specs.Char.{is_ascii_digit}
use Rattle.std.specs.Int.{IsInRange}
use Rattle.std.specs.List.{AllPass}
use Rattle.std.specs.Result.{OkIff}
use Rattle.std.specs.Str.Parse.{digits_value, ParsesUnsigned}
use Rattle.std.proofs.lemmas.Bool.{cases_lt}
use Rattle.std.proofs.lemmas.Fmt.{decimal_digit, decimal_nonempty, decimal-digits_value, digits_decimal, first_decimal}
use Rattle.std.proofs.lemmas.List.Elements.{All-cons, All-head, All-nil, All-tail}
use Rattle.std.proofs.lemmas.Str.Parse.{IsDigitsTest, IsNumeralModel, numerals_by_value, parse_digits}
use Rattle.blob_digest.specs.Text.{IsDecimal}

abbrev is_digit : ℕ → Type 0
is_digit c = is_ascii_digit c ≡ true

in_range : (c : ℕ) → is_digit c → IsInRange 48 57 c
in_range c h = search rules

from_range : (c : ℕ) → IsInRange 48 57 c → is_digit c
from_range c h = search rules

test : IsDigitsTest (AllPass is_ascii_digit)
test = record {
  empty = All-nil is_digit;
  parts = λ c cs h. (in_range c (All-head is_digit c cs h), All-tail is_digit c cs h);
  more = λ c cs r h. All-cons is_digit c cs (from_range c r) h;
}

model : IsNumeralModel (AllPass is_ascii_digit) (digits_value 10)
model = numerals_by_value (AllPass is_ascii_digit) test

lone_zero : (n : ℕ) → n < 2 ^ 64 → get_or (decimal n) 0 0 ≡ 48 → length (decimal n) ≡ 1
lone_zero n h e = elim (cases_lt 0 n) [
  | inl above ↦ let first = first_decimal n above h in absurd (omega arith)
  | inr none ↦ let z : n ≡ 0 = omega arith in rw (z, decimal_digit 0 (omega arith)) refl
]

-- what a number is written as is a decimal without a leading zero
pub decimal-IsDecimal : (n : ℕ) → n < 2 ^ 64 → IsDecimal (decimal n)
decimal-IsDecimal n h = record {
  some = decimal_nonempty n h;
  digits = digits_decimal model n h;
  no_leading_zero = lone_zero n h;
}

given : {E : Type 0} (bs : List ℕ) (r : Result ℕ E) → IsDecimal bs → OkIff r ((0 < length bs) × (digits_value 10 bs < 2 ^ 64)) (digits_value 10 bs) → IfOk r (λ n. bs ≡ decimal n)
given bs (Ok n) h e = rw e.1 (sym (decimal-digits_value model bs h.digits h.some h.no_leading_zero e.0.1))
given bs (Err x) h e = tt

-- what is parsed of a decimal without a leading zero is written as that decimal
pub parsed-decimal : {E : Type 0} (bs : List ℕ) (r : Result ℕ E) → IsDecimal bs → ParsesUnsigned 64 10 bs r → IfOk r (λ n. bs ≡ decimal n)
parsed-decimal bs r h p = given bs r h (parse_digits model 64 bs r p h.digits)
