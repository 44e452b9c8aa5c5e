-- Pairs CR LF, counted byte after byte.
use Rattle.std.proofs.Common.{◌≡◌, ℕ, ◌+◌, ◌==◌, ◌&&◌, Bool, true, false, List, [], ◌∷◌, if◌then◌else◌, refl, ap, sym, ◌∙◌, arith}
use Rattle.http_core.specs.Judging.{pairs}

-- how many LF stand right after a CR, where one may stand in front
abbrev pub pairs_behind : Bool → List ℕ → ℕ
pairs_behind after [] = 0
pairs_behind after (b ∷ bytes) = (if after && b == 10 then 1 else 0) + pairs_behind (b == 13) bytes

and_true : (p q : Bool) → (p && (q && true)) ≡ (p && q)
and_true true true = refl
and_true true false = refl
and_true false q = refl

and_false : (p : Bool) → (p && false) ≡ false
and_false true = refl
and_false false = refl

behind_is : (a : ℕ) (bytes : List ℕ) → pairs_behind (a == 13) bytes ≡ pairs (a ∷ bytes)
behind_is a [] = ap (λ (t : Bool). (if t then 1 else 0) + 0) (sym (and_false (a == 13)))
behind_is a (b ∷ bytes) = ap (λ n. (if (a == 13) && b == 10 then 1 else 0) + n) (behind_is b bytes) ∙ ap (λ (t : Bool). (if t then 1 else 0) + pairs (b ∷ bytes)) (sym (and_true (a == 13) (b == 10)))

zero_more : (n : ℕ) → 0 + n ≡ n
zero_more n = omega arith

all_pairs : (bytes : List ℕ) → pairs_behind false bytes ≡ pairs bytes
all_pairs [] = refl
all_pairs (b ∷ bytes) = zero_more (pairs_behind (b == 13) bytes) ∙ behind_is b bytes

pub pairs_from : (bytes : List ℕ) → 0 + pairs_behind false bytes ≡ pairs bytes
pairs_from bytes = zero_more (pairs_behind false bytes) ∙ all_pairs bytes
