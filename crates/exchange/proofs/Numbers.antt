-- Decimal numbers, as fields have them.
use Rattle.std.proofs.Common.{◌≡◌, ℕ, zero, suc, ◌+◌, ◌/◌, ◌%◌, ◌^◌, ◌<◌, ◌≤◌, ◌==◌, ◌&&◌, nat_lt, nat_le, Bool, true, false, cond, List, [], ◌∷◌, length, reverse, refl, sym, ◌∙◌, ap, subst, arith}
use Rattle.std.specs.Fmt.{decimal, digit_glyph, digits, digits_onto}
use Rattle.std.specs.Char.{is_ascii_digit}
use Rattle.std.specs.List.{list_all}
use Rattle.std.specs.Str.Parse.{digits_value}
use Rattle.std.proofs.lemmas.Bool.{agree_below_at}
use Rattle.std.proofs.lemmas.Fmt.{decimal_is_IsNumeral, length-decimal-le}
use Rattle.std.proofs.lemmas.List.Sums.{AllPass-from_list_all, list_all-from_AllPass}
use Rattle.httparse.specs.Grammar.{is_ows, skip_ows, trim_ows}
use Rattle.httparse.proofs.TrimLemmas.{AllPass-reverse, trim_ows_space}
use Rattle.http_core.specs.Rules.{body_size, is_length, read_length}
use Rattle.exchange.proofs.Lines.{both}
use Rattle.exchange.proofs.Bytes.{all_implied, is_visible, visible_digit}

-- the digits of a number, written in front of others
abbrev written : ℕ → ℕ → List ℕ → List ℕ
written k n acc = digits_onto k 10 false n acc

written_all : (n : ℕ) → written 64 n [] ≡ decimal n
unfolding digits
written_all n = refl

written_digits : (k n : ℕ) (acc : List ℕ) → list_all is_ascii_digit acc ≡ true → list_all is_ascii_digit (written k n acc) ≡ true
written_digits zero n acc h = h
written_digits (suc k) n acc h =
    let small : n % 10 < 10 = omega arith in
    let glyph : is_ascii_digit (digit_glyph false (n % 10)) ≡ true = agree_below_at (λ d. is_ascii_digit (digit_glyph false d)) (λ d. true) 10 (n % 10) refl small in
    let more : list_all is_ascii_digit (digit_glyph false (n % 10) ∷ acc) ≡ true = ap (λ a. a && list_all is_ascii_digit acc) glyph ∙ h in
    either (n / 10 == 0) _ _ more (written_digits k (n / 10) (digit_glyph false (n % 10) ∷ acc) more)
  where
    either : (b : Bool) (xs ys : List ℕ) → list_all is_ascii_digit xs ≡ true → list_all is_ascii_digit ys ≡ true → list_all is_ascii_digit (cond b xs ys) ≡ true
    either true xs ys p q = p
    either false xs ys p q = q

pub decimal_digits : (n : ℕ) → list_all is_ascii_digit (decimal n) ≡ true
decimal_digits n = subst (λ ds. list_all is_ascii_digit ds ≡ true) (written_all n) (written_digits 64 n [] refl)

pub decimal_visible : (n : ℕ) → list_all is_visible (decimal n) ≡ true
decimal_visible n = all_implied is_ascii_digit is_visible visible_digit (decimal n) (decimal_digits n)

-- ---- how many digits

longer_either : (b : Bool) (m : ℕ) (xs ys : List ℕ) → m ≤ length xs → m ≤ length ys → m ≤ length (cond b xs ys)
longer_either true m xs ys p q = p
longer_either false m xs ys p q = q

written_longer : (k n : ℕ) (acc : List ℕ) → length acc ≤ length (written k n acc)
written_longer zero n acc = omega arith
written_longer (suc k) n acc =
    let more = written_longer k (n / 10) (digit_glyph false (n % 10) ∷ acc) in
    longer_either (n / 10 == 0) (length acc) (digit_glyph false (n % 10) ∷ acc) (written k (n / 10) (digit_glyph false (n % 10) ∷ acc)) (omega arith) (omega arith)

written_more : (k n : ℕ) (acc : List ℕ) → suc (length acc) ≤ length (written (suc k) n acc)
written_more k n acc =
    let more = written_longer k (n / 10) (digit_glyph false (n % 10) ∷ acc) in
    longer_either (n / 10 == 0) (suc (length acc)) (digit_glyph false (n % 10) ∷ acc) (written k (n / 10) (digit_glyph false (n % 10) ∷ acc)) (omega arith) more

written_long : (j k n : ℕ) (acc : List ℕ) → 10 ^ j ≤ n → j ≤ k → suc (j + length acc) ≤ length (written (suc k) n acc)
written_long zero k n acc h l = let m = written_more k n acc in omega arith
written_long (suc j) zero n acc h l = absurd (omega arith)
written_long (suc j) (suc k) n acc h l =
    let other : n / 10 ≡ 0 → ⊥ = λ e. (let one : 1 ≤ 10 ^ j = pos j in omega arith) in
    let step : written (suc (suc k)) n acc ≡ written (suc k) (n / 10) (digit_glyph false (n % 10) ∷ acc) =
    ap (λ t. cond t (digit_glyph false (n % 10) ∷ acc) (written (suc k) (n / 10) (digit_glyph false (n % 10) ∷ acc))) (apart (n / 10) other) in
    let more = written_long j k (n / 10) (digit_glyph false (n % 10) ∷ acc) (omega arith) (omega arith) in
    subst (λ ds. suc (suc j + length acc) ≤ length ds) (sym step) (omega arith)
  where
    apart : (m : ℕ) → (m ≡ 0 → ⊥) → (m == 0) ≡ false
    apart m other = grind arith

    pos : (i : ℕ) → 1 ≤ 10 ^ i
    pos zero = omega arith
    pos (suc i) = let m = pos i in omega arith

pub decimal_some : (n : ℕ) → 0 < length (decimal n)
decimal_some n = subst (λ ds. 0 < length ds) (written_all n) (written_more 63 n [])

decimal_long : (n : ℕ) → 10000000000000000000 ≤ n → 19 < length (decimal n)
decimal_long n h = subst (λ ds. 19 < length ds) (written_all n) (let m = written_long 19 63 n [] (omega arith) (omega arith) in omega arith)

pub decimal_three : (n : ℕ) → 100 ≤ n → 3 ≤ length (decimal n)
decimal_three n h = subst (λ ds. 3 ≤ length ds) (written_all n) (let m = written_long 2 63 n [] (omega arith) (omega arith) in omega arith)

-- ---- as the value of a field

skip_visible : (bytes : List ℕ) → list_all is_visible bytes ≡ true → skip_ows bytes ≡ bytes
skip_visible [] h = refl
skip_visible (b ∷ bytes) h =
    let k = both (nat_le 33 b) (nat_le b 126) (both (is_visible b) (list_all is_visible bytes) h).0 in
    let other : is_ows b ≡ false = (let e = k.0 in grind arith) in
    ap (λ t. cond t (skip_ows bytes) (b ∷ bytes)) other

pub trimmed : (bytes : List ℕ) → list_all is_visible bytes ≡ true → trim_ows (32 ∷ bytes) ≡ bytes
trimmed bytes h =
    trim_ows_space bytes (skip_visible bytes h)
    (skip_visible (reverse bytes) (list_all-from_AllPass is_visible (reverse bytes) (AllPass-reverse is_visible bytes (AllPass-from_list_all is_visible bytes h))))

-- a number below 10^19 is read as itself
pub decimal_length : (n : ℕ) → n < 10000000000000000000 → is_length (decimal n) ≡ true
decimal_length n h =
    let some : nat_lt 0 (length (decimal n)) ≡ true = (let e = decimal_some n in grind arith) in
    let fits : nat_le (length (decimal n)) 19 ≡ true = (let e = length-decimal-le 19 n (omega arith) (omega arith) (omega arith) in grind arith) in
    rw (some, fits, decimal_digits n)

pub decimal_value : (n : ℕ) → n < 10000000000000000000 → digits_value 10 (decimal n) ≡ n
decimal_value n h = (decimal_is_IsNumeral n (omega arith)).1

pub decimal_size : (n : ℕ) → n < 10000000000000000000 → body_size (read_length (decimal n)) ≡ n
unfolding read_length
decimal_size n h = rw (decimal_length n h) (decimal_value n h)

-- and no other is read
pub huge_length : (n : ℕ) → 10000000000000000000 ≤ n → is_length (decimal n) ≡ false
huge_length n h =
    let wide : nat_le (length (decimal n)) 19 ≡ false = (let e = decimal_long n h in grind arith) in
    rw wide (first_false (nat_lt 0 (length (decimal n))))
  where
    first_false : (a : Bool) → ((a && false) && list_all is_ascii_digit (decimal n)) ≡ false
    first_false true = refl
    first_false false = refl
