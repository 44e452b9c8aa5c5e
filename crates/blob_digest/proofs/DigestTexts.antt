-- The bytes that stand in a digest's text.
use Rattle.std.proofs.Common.{◌≡◌, ◌⊎◌, ℕ, zero, suc, Bool, false, List, ◌∷◌, sym, ap, ◌∙◌, inl, inr, arith}
use Rattle.std.specs.Prelude.{decimal}
use Rattle.std.specs.Char.{is_ascii_digit}
use Rattle.std.specs.List.{AllPass, Contains}
use Rattle.std.proofs.lemmas.List.Elements.{Contains-append_cases}
use Rattle.hex.specs.Hex.{encode_lower}
use Rattle.blob_digest.specs.DigestValue.{DigestValue, IsDigest}
use Rattle.blob_digest.specs.Text.{digest_text, is_lower_hex}
use Rattle.blob_digest.proofs.Decimals.{decimal-IsDecimal}
use Rattle.blob_digest.proofs.HexTexts.{lower-encode}

-- what passes a test stands not among what fails it
pub all_pass-without : (p : ℕ → Bool) (xs : List ℕ) (c : ℕ) → AllPass p xs → p c ≡ false → ¬ Contains xs c
all_pass-without p xs c h out (k, lt, e) = cc (sym (ap p e) ∙ h k c lt, out)

-- an element of a list is its first, or one behind it
pub in_tail : (h : ℕ) (xs : List ℕ) (c : ℕ) → Contains (h ∷ xs) c → (h ≡ c) ⊎ Contains xs c
in_tail h xs c (zero, lt, e) = inl e
in_tail h xs c (suc k, lt, e) = inr (k, omega arith, e)

-- neither a letter past `f`, nor white space, nor any other byte stands there but lower-case hex digits and the slash
pub digest_text-without : (d : DigestValue) (c : ℕ) → IsDigest d → is_lower_hex c ≡ false → is_ascii_digit c ≡ false → (47 ≡ c → ⊥) → ¬ Contains (digest_text d) c
digest_text-without d c h hex digit slash has =
    elim (Contains-append_cases (encode_lower d.hash) (47 ∷ decimal d.size) c has) [
      | inl front ↦ all_pass-without is_lower_hex (encode_lower d.hash) c (lower-encode d.hash h.hash.bytes) hex front
      | inr back ↦ elim (in_tail 47 (decimal d.size) c back) [
        | inl first ↦ slash first
        | inr rest ↦ let small = h.size in all_pass-without is_ascii_digit (decimal d.size) c (decimal-IsDecimal d.size (omega arith)).digits digit rest
      ]
    ]
