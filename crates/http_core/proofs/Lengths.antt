-- Lengths of 1 to 19 digits.
use Rattle.std.proofs.Common.{◌≡◌, ℕ, ◌<◌, ◌≤◌, ◌^◌, ◌&&◌, Bool, true, false, nat_lt, nat_le, List, length, get_or, Result, Ok, Err, refl, sym, ◌∙◌, ap, arith, rules, if◌then◌else◌}
use Rattle.std.specs.Char.{is_ascii_digit}
use Rattle.std.specs.Int.{IsInRange}
use Rattle.std.specs.List.{AllPass, list_all}
use Rattle.std.specs.Prelude.{IsUtf8}
use Rattle.std.specs.Result.{OkIff}
use Rattle.std.specs.Str.Parse.{digits_value, ParsesUnsigned}
use Rattle.std.proofs.lemmas.List.Elements.{All-cons, All-head, All-nil, All-tail}
use Rattle.std.proofs.lemmas.List.Sums.{AllPass-from_list_all}
use Rattle.std.proofs.lemmas.Str.{IsUtf8-from_ascii}
use Rattle.std.proofs.lemmas.Str.Ascii.{IsAscii-from_all}
use Rattle.std.proofs.lemmas.Str.Parse.{IsDigitsTest, IsNumeralModel, numerals_by_value, parse_digits, digits_value_short}
use Rattle.http_core.specs.declared.rules.Length.TheVariants.{Is, Bad}
use Rattle.http_core.specs.Rules.{is_length, read_length}

abbrev is_digit : ℕ → Type 0
is_digit c = is_ascii_digit c ≡ true

in_range : (c : ℕ) → is_digit c → IsInRange 48 57 c
in_range c h = search rules

from_range : (c : ℕ) → IsInRange 48 57 c → is_digit c
from_range c h = search rules

below : (c : ℕ) → is_digit c → c < 128
below c h = let r : IsInRange 48 57 c = in_range c h in omega arith

test : IsDigitsTest (AllPass is_ascii_digit)
test = record {
  empty = All-nil is_digit;
  parts = λ c cs h. (in_range c (All-head is_digit c cs h), All-tail is_digit c cs h);
  more = λ c cs r h. All-cons is_digit c cs (from_range c r) h;
}

model : IsNumeralModel (AllPass is_ascii_digit) (digits_value 10)
model = numerals_by_value (AllPass is_ascii_digit) test

both : (a b : Bool) → (a && b) ≡ true → (a ≡ true) × (b ≡ true)
both true true e = (refl, refl)
both true false e = cc
both false b e = cc

some_of : (n : ℕ) → nat_lt 0 n ≡ true → 0 < n
some_of n e = grind arith

most_of : (n : ℕ) → nat_le n 19 ≡ true → n ≤ 19
most_of n e = grind arith

pub record IsLength (text : List ℕ) : Type 0 where
  pub some : 0 < length text
  pub most : length text ≤ 19
  pub digits : AllPass is_ascii_digit text

pub length_parts : (text : List ℕ) → is_length text ≡ true → IsLength text
length_parts text e =
    let x = both (nat_lt 0 (length text) && nat_le (length text) 19) (list_all is_ascii_digit text) e in
    let y = both (nat_lt 0 (length text)) (nat_le (length text) 19) x.0 in
    record { some = some_of (length text) y.0; most = most_of (length text) y.1; digits = AllPass-from_list_all is_ascii_digit text x.1 }

pub length_utf8 : (text : List ℕ) → IsLength text → IsUtf8 text
length_utf8 text h = IsUtf8-from_ascii text (IsAscii-from_all text (λ k d l. below (get_or text k d) (h.digits k d l)))

pub length_small : (text : List ℕ) → IsLength text → digits_value 10 text < 2 ^ 64
length_small text h = let k : digits_value 10 text < 10 ^ 19 = digits_value_short model text 19 h.digits h.most in omega arith

pub length_parsed : {E : Type 0} (text : List ℕ) (r : Result ℕ E) → IsLength text → ParsesUnsigned 64 10 text r → OkIff r ((0 < length text) × (digits_value 10 text < 2 ^ 64)) (digits_value 10 text)
length_parsed text r h p = parse_digits model 64 text r p h.digits

yes : (text : List ℕ) (b : Bool) → b ≡ true → (if b then Is (digits_value 10 text) else Bad) ≡ Is (digits_value 10 text)
yes text true e = refl
yes text false e = cc

ok_value : {E : Type 0} (text : List ℕ) (r : Result ℕ E) (n : ℕ) → r ≡ Ok n → OkIff r ((0 < length text) × (digits_value 10 text < 2 ^ 64)) (digits_value 10 text) → n ≡ digits_value 10 text
ok_value text (Ok m) n e h = let k : m ≡ n = cc in sym k ∙ h.1
ok_value text (Err x) n e h = cc

no_err : {E : Type 0} (text : List ℕ) (r : Result ℕ E) (x : E) → r ≡ Err x → OkIff r ((0 < length text) × (digits_value 10 text < 2 ^ 64)) (digits_value 10 text) → IsLength text → ⊥
no_err text (Ok m) x e h l = cc
no_err text (Err y) x e h l = h (l.some, length_small text l)

pub read_is : {E : Type 0} (text : List ℕ) (r : Result ℕ E) (n : ℕ) → is_length text ≡ true → ParsesUnsigned 64 10 text r → r ≡ Ok n → Is n ≡ read_length text
unfolding read_length
read_is text r n e p ok = ap Is (ok_value text r n ok (length_parsed text r (length_parts text e) p)) ∙ sym (yes text (is_length text) e)

pub never_err : {E : Type 0} (text : List ℕ) (r : Result ℕ E) (x : E) → is_length text ≡ true → ParsesUnsigned 64 10 text r → r ≡ Err x → ⊥
never_err text r x e p err = no_err text r x err (length_parsed text r (length_parts text e) p) (length_parts text e)
