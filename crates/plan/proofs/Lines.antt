-- One line, and one space in it, stand at one place.
use Rattle.std.specs.Prelude.{codes, decimal}
use Rattle.std.proofs.Common.{◌≡◌, ◌≢◌, ℕ, suc, ◌<◌, ◌≤◌, ◌^◌, ◌==◌, Bool, not, true, false, inl, inr, List, [], ◌∷◌, ◌++◌, length, refl, sym, ap, ◌∙◌, subst, append_assoc, arith}
use Rattle.std.specs.List.{Contains, list_all}
use Rattle.std.proofs.lemmas.Bool.{eqb-true}
use Rattle.std.proofs.lemmas.Fmt.{decimal_injective}
use Rattle.std.proofs.lemmas.List.{append_cancel_left}
use Rattle.std.proofs.lemmas.List.Elements.{Contains-append_cases, Contains-append_right}
use Rattle.std.proofs.lemmas.List.Sums.{AllPass-from_list_all}
use Rattle.hex.specs.Hex.{encode_lower, decode_sized}
use Rattle.blob_digest.specs.Digest.{DigestValue, IsDigest}
use Rattle.blob_digest.specs.DigestValue.{greatest_size}
use Rattle.blob_digest.specs.Text.{digest_text, is_lower_hex}
use Rattle.blob_digest.proofs.DigestTexts.{all_pass-without, digest_text-without, in_tail}
use Rattle.blob_digest.proofs.HexTexts.{lower-encode, hash_given}
use Rattle.plan.specs.Line.{IsStepName, is_step_name_byte, step_words, line_text}

within : (h c : ℕ) (xs : List ℕ) → Contains xs c → Contains (h ∷ xs) c
within h c xs (k, lt, e) = (suc k, omega arith, e)

-- what stands before and behind the first such byte
pub once : (c : ℕ) (a b x y : List ℕ) → ¬ Contains a c → ¬ Contains b c → a ++ c ∷ x ≡ b ++ c ∷ y → (a ≡ b) × (x ≡ y)
once c [] [] x y p q e = (refl, cc e)
once c [] (k ∷ b) x y p q e = let same : c ≡ k = cc e in absurd (q (0, omega arith, sym same))
once c (h ∷ a) [] x y p q e = let same : h ≡ c = cc e in absurd (p (0, omega arith, same))
once c (h ∷ a) (k ∷ b) x y p q e =
    let first : h ≡ k = cc e in
    let rest : a ++ c ∷ x ≡ b ++ c ∷ y = cc e in
    let ih = once c a b x y (λ i. p (within h c a i)) (λ i. q (within k c b i)) rest in
    (rw (first, ih.0) refl, ih.1)

-- no space and no newline stands in a step's name
pub name-without : (name : List ℕ) (c : ℕ) → IsStepName name → is_step_name_byte c ≡ false → ¬ Contains name c
name-without name c h out = all_pass-without is_step_name_byte name c h.bytes out

-- a space stands behind a word
pub has_space : (word rest : List ℕ) → Contains (word ++ 32 ∷ rest) 32
has_space word rest = Contains-append_right word (32 ∷ rest) 32 (0, omega arith, refl)

-- what a line's text ends in
pub line_front : (words rest : List ℕ) → line_text words ++ rest ≡ words ++ 10 ∷ rest
line_front words rest = append_assoc words (10 ∷ []) rest

pub nothing_left : (rest : List ℕ) → (length rest == 0) ≡ true → rest ≡ []
nothing_left [] e = refl
nothing_left (b ∷ rest) e = absurd (omega (arith, eqb-true (length (b ∷ rest)) 0 e))

pub some_left : (rest : List ℕ) → (length rest == 0) ≡ false → rest ≢ []
some_left rest e none = let zero_len = ap (λ (l : List ℕ). length l == 0) none in cc (sym e ∙ zero_len)

pub heads : (a b : ℕ) (x y : List ℕ) → a < b → a ∷ x ≡ b ∷ y → ⊥
heads a b x y h e = let same : a ≡ b = cc e in omega arith

-- ---- without a byte

abbrev is_no_newline : ℕ → Bool
is_no_newline c = not (c == 10)

pub free_of_newline : (text : List ℕ) → list_all is_no_newline text ≡ true → ¬ Contains text 10
free_of_newline text h = all_pass-without is_no_newline text 10 (AllPass-from_list_all is_no_newline text h) refl

pub behind_front : (front rest : List ℕ) → list_all is_no_newline front ≡ true → ¬ Contains rest 10 → ¬ Contains (front ++ rest) 10
behind_front front rest h free has = elim (Contains-append_cases front rest 10 has) [
  | inl first ↦ free_of_newline front h first
  | inr last ↦ free last
]

pub behind_space : (word rest : List ℕ) → ¬ Contains word 10 → ¬ Contains rest 10 → ¬ Contains (word ++ 32 ∷ rest) 10
behind_space word rest h free has = elim (Contains-append_cases word (32 ∷ rest) 10 has) [
  | inl first ↦ h first
  | inr last ↦ elim (in_tail 32 rest 10 last) [ inl e ↦ cc e | inr tail ↦ free tail ]
]

-- ---- a step's line

-- behind `step ` and a first space stand the name and the digest
pub step_parts : (words rest name digest named : List ℕ) (d : DigestValue) → words ≡ codes "step " ++ rest → rest ≡ name ++ 32 ∷ digest → ¬ Contains name 32 → IsStepName named
    → words ≡ step_words named d → (name ≡ named) × (digest ≡ digest_text d)
step_parts words rest name digest named d e f none is told =
    let both = append_cancel_left (codes "step ") rest (named ++ 32 ∷ digest_text d) (sym e ∙ told) in
    once 32 name named digest (digest_text d) none (name-without named 32 is refl) (sym f ∙ both)

pub step_has_space : (words rest named : List ℕ) (d : DigestValue) → words ≡ codes "step " ++ rest → words ≡ step_words named d → Contains rest 32
step_has_space words rest named d e told =
    let both = append_cancel_left (codes "step ") rest (named ++ 32 ∷ digest_text d) (sym e ∙ told) in
    subst (λ (l : List ℕ). Contains l 32) (sym both) (has_space named (digest_text d))

-- it has no newline
pub step_words-without : (name : List ℕ) (d : DigestValue) → IsStepName name → IsDigest d → ¬ Contains (step_words name d) 10
step_words-without name d named valid =
    behind_front (codes "step ") (name ++ 32 ∷ digest_text d) refl
    (behind_space name (digest_text d) (name-without name 10 named refl) (digest_text-without d 10 valid refl refl (λ e. omega (arith, e))))

small_size : (n : ℕ) → n ≤ greatest_size → n < 2 ^ 64
small_size n h = omega arith

digest_with : List ℕ → ℕ → DigestValue
digest_with hash size = record { hash = hash; size = size }

-- two digests have two texts
pub digest_one : (d e : DigestValue) → IsDigest d → IsDigest e → digest_text d ≡ digest_text e → d ≡ e
unfolding digest_with
digest_one d e is was same =
    let parts = once 47 (encode_lower d.hash) (encode_lower e.hash) (decimal d.size) (decimal e.size) (all_pass-without is_lower_hex (encode_lower d.hash) 47 (lower-encode d.hash is.hash.bytes) refl) (all_pass-without is_lower_hex (encode_lower e.hash) 47 (lower-encode e.hash was.hash.bytes) refl) same in
    let size_in : d.size ≤ greatest_size = is.size in
    let size_was : e.size ≤ greatest_size = was.size in
    let size : d.size ≡ e.size = decimal_injective d.size e.size (small_size d.size size_in) (small_size e.size size_was) parts.1 in
    let decoded = sym (hash_given d.hash is.hash) ∙ ap (λ (t : List ℕ). decode_sized t 32) parts.0 ∙ hash_given e.hash was.hash in
    let hash : d.hash ≡ e.hash = cc decoded in
    ap (λ (h : List ℕ). digest_with h d.size) hash ∙ ap (λ (n : ℕ). digest_with e.hash n) size
