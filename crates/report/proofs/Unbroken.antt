-- The parts of a verdict's line have no newline.
use Rattle.std.proofs.Common.{◌≡◌, ◌≢◌, ℕ, true, false, List, [], ◌∷◌, ◌++◌, append_assoc, sym, subst, ap, ◌∙◌, inl, inr, arith, refl}
use Rattle.std.specs.Prelude.{decimal, ◌==◌, ◌/◌, ◌%◌, ◌+◌, not, codes, nat_lt, if◌then◌else◌, Result, Ok, Err, IfOk, OnOk}
use Rattle.std.specs.Fmt.{signed_decimal}
use Rattle.std.specs.Char.{is_ascii_digit}
use Rattle.std.specs.List.{list_all}
use Rattle.std.proofs.lemmas.Fmt.{decimal_by_steps_wide}
use Rattle.std.proofs.lemmas.List.Elements.{Contains-append_cases}
use Rattle.std.proofs.lemmas.List.Sums.{AllPass-from_list_all}
use Rattle.blob_digest.proofs.Decimals.{decimal-IsDecimal}
use Rattle.blob_digest.proofs.DigestTexts.{all_pass-without, in_tail}
use Rattle.plan.specs.Escape.{escaped, escaped_byte, escaped_path, hex_digit, is_plain}
use Rattle.plan.specs.Line.{IsStepName, is_step_name_byte}
use Rattle.messages.specs.Path.{path_text}
use Rattle.blob_digest.specs.Digest.{DigestValue, IsDigest}
use Rattle.blob_digest.specs.Text.{digest_text}
use Rattle.blob_digest.proofs.DigestTexts.{digest_text-without}
use Rattle.std.specs.Int.Signed.{mag}
use Rattle.std.specs.Prelude.{ℤ, pos, negsuc, suc, ◌<◌, ◌^◌}
use Rattle.verifier.specs.declared.verdict.Place.{Place}
use Rattle.verifier.specs.declared.verdict.Cause.{Cause}
use Rattle.report.specs.Line.{HasNoNewline, IsOneLine, cause_text, named, no_text, place_text, stage_no_text, stages_yes_text, yes_text}

-- what holds holds where a result is good
pub where_ok : {P T E : Type 0} (result : Result T E) → P → OnOk result P
where_ok (Ok x) holds = holds
where_ok (Err e) holds = tt

-- a text that is put together from the right
pub written : {T E : Type 0} (result : Result T E) (bytes : T → List ℕ) (a b c d e : List ℕ) → IfOk result (λ text. bytes text ≡ a ++ (b ++ (c ++ (d ++ e)))) → IfOk result (λ text. bytes text ≡ a ++ b ++ c ++ d ++ e)
written result bytes a b c d e = subst (λ (line : List ℕ). IfOk result (λ text. bytes text ≡ line)) (simp append_assoc)

pub stages_written : {T E : Type 0} (result : Result T E) (bytes : T → List ℕ) (a b c d e f g : List ℕ) → IfOk result (λ text. bytes text ≡ a ++ (b ++ (c ++ (d ++ (e ++ (f ++ g))))))
    → IfOk result (λ text. bytes text ≡ a ++ b ++ (c ++ d) ++ (e ++ f) ++ g)
stages_written result bytes a b c d e f g = subst (λ (line : List ℕ). IfOk result (λ text. bytes text ≡ line)) (simp append_assoc)

pub stage_written : {T E : Type 0} (result : Result T E) (bytes : T → List ℕ) (a b c d e f : List ℕ) → IfOk result (λ text. bytes text ≡ a ++ (b ++ 32 ∷ (c ++ (d ++ (e ++ f)))))
    → IfOk result (λ text. bytes text ≡ a ++ named b c ++ d ++ e ++ f)
stage_written result bytes a b c d e f = subst (λ (line : List ℕ). IfOk result (λ text. bytes text ≡ line)) (simp append_assoc)

pub none_in_nil : HasNoNewline []
none_in_nil (k, lt, e) = omega arith

pub none_after : (b : ℕ) (text : List ℕ) → b ≢ 10 → HasNoNewline text → HasNoNewline (b ∷ text)
none_after b text other rest has = elim (in_tail b text 10 has) [
  | inl first ↦ other first
  | inr later ↦ rest later
]

pub none_joined : (front back : List ℕ) → HasNoNewline front → HasNoNewline back → HasNoNewline (front ++ back)
none_joined front back f b has = elim (Contains-append_cases front back 10 has) [
  | inl early ↦ f early
  | inr late ↦ b late
]

-- of a text that is known
pub none_seen : (text : List ℕ) → list_all (λ b. not (b == 10)) text ≡ true → HasNoNewline text
none_seen text all = all_pass-without (λ b. not (b == 10)) text 10 (AllPass-from_list_all (λ b. not (b == 10)) text all) refl

pub none_named : (word text : List ℕ) → HasNoNewline word → HasNoNewline text → HasNoNewline (named word text)
none_named word text w t = none_joined word (32 ∷ text) w (none_after 32 text (λ e. omega (arith, e)) t)

pub none_in_number : (n : ℕ) → n < 2 ^ 64 → HasNoNewline (decimal n)
none_in_number n small = all_pass-without is_ascii_digit (decimal n) 10 (decimal-IsDecimal n small).digits refl

-- of a number of 128 bits
pub none_in_wide : (n : ℕ) → n < 2 ^ 128 → HasNoNewline (decimal n)
none_in_wide n small = decimal_by_steps_wide (λ m ds. HasNoNewline ds)
    (λ m less. none_after (48 + m) [] (λ e. omega (arith, e)) none_in_nil)
    (λ m ds more none. none_joined ds ((48 + m % 10) ∷ []) none (none_after (48 + m % 10) [] (λ e. omega (arith, e)) none_in_nil))
    n (omega (arith, small))

pub none_in_name : (name : List ℕ) → IsStepName name → HasNoNewline name
none_in_name name valid = all_pass-without is_step_name_byte name 10 valid.bytes refl

pub none_in_digest : (d : DigestValue) → IsDigest d → HasNoNewline (digest_text d)
none_in_digest d valid = digest_text-without d 10 valid refl refl (λ e. omega (arith, e))

pub none_in_signed : (z : ℤ) → mag z < 2 ^ 63 → HasNoNewline (signed_decimal z)
none_in_signed (pos n) small = none_in_number n (omega (arith, small))
none_in_signed (negsuc n) small = none_after 45 (decimal (suc n)) (λ e. omega (arith, e)) (none_in_number (suc n) (omega (arith, small)))

no_digit : (n : ℕ) → hex_digit n ≢ 10
no_digit n = elim (nat_lt n 10) as (λ small. (if small then 48 + n else 55 + n) ≢ 10) [
  | true ↦ λ e. omega (arith, e)
  | false ↦ λ e. omega (arith, e)
]

-- a byte that stands for itself, or `%` and two digits
none_in_byte : (b : ℕ) → HasNoNewline (escaped_byte b)
none_in_byte b =
    let digits = none_after (hex_digit (b / 16)) (hex_digit (b % 16) ∷ []) (no_digit (b / 16)) (none_after (hex_digit (b % 16)) [] (no_digit (b % 16)) none_in_nil) in
    elim (is_plain b) as (λ plain. is_plain b ≡ plain → HasNoNewline (if plain then b ∷ [] else 37 ∷ hex_digit (b / 16) ∷ hex_digit (b % 16) ∷ [])) [
      | true ↦ λ plain. none_after b [] (λ e. cc (sym (ap is_plain e) ∙ plain)) none_in_nil
      | false ↦ λ plain. none_after 37 (hex_digit (b / 16) ∷ hex_digit (b % 16) ∷ []) (λ e. omega (arith, e)) digits
    ] refl

none_in_text : (text : List ℕ) → HasNoNewline (escaped text)
none_in_text [] = none_in_nil
none_in_text (b ∷ text) = none_joined (escaped_byte b) (escaped text) (none_in_byte b) (none_in_text text)

pub none_in_path : (path : List (List ℕ)) → HasNoNewline (escaped_path path)
none_in_path path = none_in_text (path_text path)

-- a line of two words and what they name
pub one_line : (word a other b : List ℕ) → HasNoNewline word → HasNoNewline a → HasNoNewline other → HasNoNewline b → IsOneLine (word ++ a ++ other ++ b ++ 10 ∷ [])
one_line word a other b in_word in_a in_other in_b = record {
  text = word ++ a ++ other ++ b;
  unbroken = none_joined (word ++ a ++ other) b (none_joined (word ++ a) other (none_joined word a in_word in_a) in_other) in_b;
  ended = refl;
}

-- the two lines
pub yes_line : (root : DigestValue) (steps : ℕ) → IsDigest root → steps < 2 ^ 64 → IsOneLine (yes_text root steps)
yes_line root steps valid small = one_line (codes "yes ") (digest_text root) (codes " steps ") (decimal steps) (none_seen (codes "yes ") refl) (none_in_digest root valid) (none_seen (codes " steps ") refl) (none_in_number steps small)

pub no_line : {A : Type 0} (place : Place A) (cause : Cause A) → HasNoNewline (place_text place) → HasNoNewline (cause_text cause)
    → IsOneLine (no_text place cause)
no_line place cause p c = one_line (codes "no ") (place_text place) (codes " cause ") (cause_text cause) (none_seen (codes "no ") refl) p (none_seen (codes " cause ") refl) c

pub stages_yes_line : (root : DigestValue) (count steps : ℕ) → IsDigest root → count < 2 ^ 64 → steps < 2 ^ 128 → IsOneLine (stages_yes_text root count steps)
stages_yes_line root count steps valid small wide = one_line (codes "yes ") (digest_text root) (codes " stages " ++ decimal count) (codes " steps " ++ decimal steps) (none_seen (codes "yes ") refl) (none_in_digest root valid)
    (none_joined (codes " stages ") (decimal count) (none_seen (codes " stages ") refl) (none_in_number count small)) (none_joined (codes " steps ") (decimal steps) (none_seen (codes " steps ") refl) (none_in_wide steps wide))

pub stage_no_line : {A : Type 0} (stage : ℕ) (place : Place A) (cause : Cause A) → stage < 2 ^ 64 → HasNoNewline (place_text place) → HasNoNewline (cause_text cause)
    → IsOneLine (stage_no_text stage place cause)
stage_no_line stage place cause small p c = one_line (codes "no stage ") (named (decimal stage) (place_text place)) (codes " cause ") (cause_text cause) (none_seen (codes "no stage ") refl)
    (none_named (decimal stage) (place_text place) (none_in_number stage small) p) (none_seen (codes " cause ") refl) c
