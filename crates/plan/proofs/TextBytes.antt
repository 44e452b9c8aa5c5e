-- The bytes of a text are bytes.
use Rattle.std.proofs.Common.{◌≡◌, ℕ, ◌+◌, ◌/◌, ◌%◌, ◌<◌, cond, true, ltb, List, [], ◌∷◌, All, IsUtf8, encode_utf8_all, subst, ⊎_elim, arith}
use Rattle.std.specs.Char.{encode_utf8}
use lib.Utf8.{scalar, scalars, scalar_cases}
use Rattle.std.proofs.lemmas.Bool.{cond_both, and_parts}
use Rattle.std.proofs.lemmas.Bool.Decides.{nat_tests}
use Rattle.std.proofs.lemmas.List.Elements.{All-nil, All-cons, All-append}
use Rattle.percent_encoding.proofs.PercentLemmas.{IsByte}

one : (a : ℕ) → a < 256 → All IsByte (a ∷ [])
one a p = All-cons IsByte a [] p (All-nil IsByte)

two : (a b : ℕ) → a < 256 → b < 256 → All IsByte (a ∷ b ∷ [])
two a b p q = All-cons IsByte a (b ∷ []) p (one b q)

three : (a b c : ℕ) → a < 256 → b < 256 → c < 256 → All IsByte (a ∷ b ∷ c ∷ [])
three a b c p q r = All-cons IsByte a (b ∷ c ∷ []) p (two b c q r)

four : (a b c d : ℕ) → a < 256 → b < 256 → c < 256 → d < 256 → All IsByte (a ∷ b ∷ c ∷ d ∷ [])
four a b c d p q r s = All-cons IsByte a (b ∷ c ∷ d ∷ []) p (three b c d q r s)

wide : (c : ℕ) → c < 1114112 → All IsByte (cond (ltb c 65536) ((224 + c / 4096) ∷ (128 + (c / 64) % 64) ∷ (128 + c % 64) ∷ []) ((240 + c / 262144) ∷ (128 + (c / 4096) % 64) ∷ (128 + (c / 64) % 64) ∷ (128 + c % 64) ∷ []))
wide c top =
    cond_both (ltb c 65536) _ _ (All IsByte)
    (λ e. let small : c < 65536 = grind (arith, nat_tests) in three (224 + c / 4096) (128 + (c / 64) % 64) (128 + c % 64) (omega arith) (omega arith) (omega arith))
    (λ _. four (240 + c / 262144) (128 + (c / 4096) % 64) (128 + (c / 64) % 64) (128 + c % 64) (omega arith) (omega arith) (omega arith) (omega arith))

All-encode_utf8 : (c : ℕ) → scalar c ≡ true → All IsByte (encode_utf8 c)
unfolding encode_utf8
All-encode_utf8 c is =
    let top : c < 1114112 = ⊎_elim (λ low. omega arith) (λ high. high.1) (scalar_cases c is) in
    cond_both (ltb c 128) _ _ (All IsByte)
    (λ e. let small : c < 128 = grind (arith, nat_tests) in one c (omega arith))
    (λ _. cond_both (ltb c 2048) _ _ (All IsByte)
    (λ e. let small : c < 2048 = grind (arith, nat_tests) in two (192 + c / 64) (128 + c % 64) (omega arith) (omega arith))
    (λ _. wide c top))

All-encode_utf8_all : (cs : List ℕ) → scalars cs ≡ true → All IsByte (encode_utf8_all cs)
All-encode_utf8_all [] is = All-nil IsByte
All-encode_utf8_all (c ∷ cs) is =
    let parts = and_parts (scalar c) (scalars cs) is in
    All-append IsByte (encode_utf8 c) (encode_utf8_all cs) (All-encode_utf8 c parts.0) (All-encode_utf8_all cs parts.1)

pub All-from_IsUtf8 : (text : List ℕ) → IsUtf8 text → All IsByte text
All-from_IsUtf8 text u = subst (All IsByte) u.1.1 (All-encode_utf8_all u.0 u.1.0)
