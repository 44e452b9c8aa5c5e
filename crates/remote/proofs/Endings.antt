-- How far bytes are from the end of a block, and blocks as they are read.
use Rattle.std.proofs.Common.{◌≡◌, ℕ, suc, ◌+◌, ◌<◌, ◌≤◌, inl, inr, List, [], ◌∷◌, ◌++◌, length, length-append, append_assoc, refl, sym, ◌∙◌, ap, subst, arith}
use Rattle.std.proofs.lemmas.List.{append-nil}
use Rattle.http_core.specs.Block.{empty_line, EndsBlock, HasNoBlock}
use Rattle.http_core.proofs.Lists.{IsShorter, compare_fronts, same_fronts}
use Rattle.remote.specs.Steps.{WantsMore}

-- the bytes don't end so
abbrev pub IsNoTail : List ℕ → List ℕ → Type 0
IsNoTail bytes tail = (front : List ℕ) → bytes ≡ front ++ tail → ⊥

-- bytes that end the more end what is before it, by so many
tail_before : (bytes more front tail last : List ℕ) → bytes ++ more ≡ front ++ (tail ++ last) → length more ≡ length last → bytes ≡ front ++ tail
tail_before bytes more front tail last e n =
    let f : bytes ++ more ≡ (front ++ tail) ++ last = e ∙ sym (append_assoc front tail last) in
    let l : length (bytes ++ more) ≡ length ((front ++ tail) ++ last) = ap length f in
    let i : length (bytes ++ more) ≡ length bytes + length more = length-append bytes more in
    let j : length ((front ++ tail) ++ last) ≡ length (front ++ tail) + length last = length-append (front ++ tail) last in
    same_fronts bytes more (front ++ tail) last f (omega (arith, l, i, j, n))

whole_line : (bytes front : List ℕ) → bytes ++ [] ≡ front ++ empty_line → bytes ≡ front ++ empty_line
whole_line bytes front e = sym (append-nil bytes) ∙ e

pub wants_one : (bytes more : List ℕ) → IsNoTail bytes empty_line → EndsBlock (bytes ++ more) → 1 ≤ length more
wants_one bytes [] all (front, e) = absurd (all front (whole_line bytes front e))
wants_one bytes (a ∷ more) all h = omega arith

pub wants_two : (bytes more : List ℕ) → IsNoTail bytes empty_line → IsNoTail bytes (13 ∷ 10 ∷ 13 ∷ []) → EndsBlock (bytes ++ more) → 2 ≤ length more
wants_two bytes [] all three (front, e) = absurd (all front (whole_line bytes front e))
wants_two bytes (a ∷ []) all three (front, e) = absurd (three front (tail_before bytes (a ∷ []) front (13 ∷ 10 ∷ 13 ∷ []) (10 ∷ []) e refl))
wants_two bytes (a ∷ b ∷ more) all three h = omega arith

pub wants_three : (bytes more : List ℕ) → IsNoTail bytes empty_line → IsNoTail bytes (13 ∷ 10 ∷ 13 ∷ []) → IsNoTail bytes (13 ∷ 10 ∷ []) → EndsBlock (bytes ++ more) → 3 ≤ length more
wants_three bytes [] all three two (front, e) = absurd (all front (whole_line bytes front e))
wants_three bytes (a ∷ []) all three two (front, e) = absurd (three front (tail_before bytes (a ∷ []) front (13 ∷ 10 ∷ 13 ∷ []) (10 ∷ []) e refl))
wants_three bytes (a ∷ b ∷ []) all three two (front, e) = absurd (two front (tail_before bytes (a ∷ b ∷ []) front (13 ∷ 10 ∷ []) (13 ∷ 10 ∷ []) e refl))
wants_three bytes (a ∷ b ∷ c ∷ more) all three two h = omega arith

pub wants_four : (bytes more : List ℕ) → IsNoTail bytes empty_line → IsNoTail bytes (13 ∷ 10 ∷ 13 ∷ []) → IsNoTail bytes (13 ∷ 10 ∷ []) → IsNoTail bytes (13 ∷ []) → EndsBlock (bytes ++ more) → 4 ≤ length more
wants_four bytes [] all three two one (front, e) = absurd (all front (whole_line bytes front e))
wants_four bytes (a ∷ []) all three two one (front, e) = absurd (three front (tail_before bytes (a ∷ []) front (13 ∷ 10 ∷ 13 ∷ []) (10 ∷ []) e refl))
wants_four bytes (a ∷ b ∷ []) all three two one (front, e) = absurd (two front (tail_before bytes (a ∷ b ∷ []) front (13 ∷ 10 ∷ []) (13 ∷ 10 ∷ []) e refl))
wants_four bytes (a ∷ b ∷ c ∷ []) all three two one (front, e) = absurd (one front (tail_before bytes (a ∷ b ∷ c ∷ []) front (13 ∷ []) (10 ∷ 13 ∷ 10 ∷ []) e refl))
wants_four bytes (a ∷ b ∷ c ∷ d ∷ more) all three two one h = omega arith

-- the bytes end so, and with this they end a block
pub ends_with_more : (bytes front tail more : List ℕ) → bytes ≡ front ++ tail → tail ++ more ≡ empty_line → EndsBlock (bytes ++ more)
ends_with_more bytes front tail more e f = (front, ap (λ z. z ++ more) e ∙ append_assoc front tail more ∙ ap (λ z. front ++ z) f)

-- no beginning ends a block but the whole
abbrev pub EndsLast : List ℕ → Type 0
EndsLast bytes = (front rest : List ℕ) → bytes ≡ front ++ rest → EndsBlock front → rest ≡ []

is_empty : (xs : List ℕ) → length xs ≡ 0 → xs ≡ []
is_empty [] e = refl
is_empty (x ∷ xs) e = absurd (not_zero (length xs) e)
  where
    not_zero : (n : ℕ) → suc n ≡ 0 → ⊥
    not_zero n e = omega arith

-- so many bytes came as are missing at least
pub ends_last_more : (bytes came new : List ℕ) (count : ℕ) → EndsLast bytes → WantsMore bytes count → 0 < count → length came ≤ count → new ≡ bytes ++ came → EndsLast new
ends_last_more bytes came new count last wants some few is front rest e h = elim (compare_fronts bytes came front rest (sym is ∙ e)) [
  | inl s ↦ within s
  | inr s ↦ absurd (before s)
]
  where
    within : IsShorter bytes came front rest → rest ≡ []
    within s =
        let n : count ≤ length s.between = wants.fewest s.between (subst EndsBlock s.front h) in
        let l : length came ≡ length (s.between ++ rest) = ap length s.rest in
        let i : length (s.between ++ rest) ≡ length s.between + length rest = length-append s.between rest in
        is_empty rest (omega (arith, n, l, i, few))

    before : IsShorter front rest bytes came → ⊥
    before s =
        let none : s.between ≡ [] = last front s.between s.front h in
        let same : bytes ≡ front = s.front ∙ ap (λ z. front ++ z) none ∙ append-nil front in
        let n : count ≤ length {A = ℕ} [] = wants.fewest [] (subst EndsBlock (sym (append-nil bytes ∙ same)) h) in
        omega (arith, n, some)

-- some byte is missing
pub none_ended : (bytes : List ℕ) (count : ℕ) → EndsLast bytes → WantsMore bytes count → 0 < count → HasNoBlock bytes
none_ended bytes count last wants some front rest e h =
    let none : rest ≡ [] = last front rest e h in
    let same : bytes ≡ front = e ∙ ap (λ z. front ++ z) none ∙ append-nil front in
    let n : count ≤ length {A = ℕ} [] = wants.fewest [] (subst EndsBlock (sym (append-nil bytes ∙ same)) h) in
    omega (arith, n, some)
