-- Texts ask one question at most.
use Rattle.std.proofs.Common.{◌≡◌, ◌∙◌, ℕ, suc, ◌<◌, ◌≤◌, ◌^◌, List, [], ◌∷◌, ◌++◌, ap, arith, refl, subst, sym}
use Rattle.std.proofs.lemmas.Fmt.{decimal_injective}
use Rattle.std.specs.List.{Contains}
use Rattle.std.specs.Prelude.{decimal}
use Rattle.hex.specs.Hex.{decode_sized, encode_lower}
use Rattle.blob_digest.proofs.DigestTexts.{all_pass-without}
use Rattle.blob_digest.proofs.HexTexts.{hash_given, lower-encode}
use Rattle.blob_digest.specs.Digest.{DigestValue, IsDigest}
use Rattle.blob_digest.specs.DigestValue.{greatest_size}
use Rattle.blob_digest.specs.Text.{digest_text, is_lower_hex}
use Rattle.plan.specs.Faults.{IsPlanFault}
use Rattle.plan.specs.Plan.{IsPlan, plan_text}
use Rattle.plan.specs.Record.{IsRecord, IsRecordFault, RecordValue, build_record_text, names_of}
use Rattle.plan.specs.Values.{PlanValue}
use Rattle.plan.specs.declared.error.PlanError.{PlanError}
use Rattle.text_verifier.specs.Texts.{HasPlan, HasTexts, IsDigestText, Question}

-- the laws of plans and records, as texts
pub record TextLaws : Type 0 where
  pub plan_one : (p q : PlanValue) → IsPlan p → IsPlan q → plan_text p ≡ plan_text q → p ≡ q
  pub no_fault : (plan : PlanValue) (e : PlanError) → IsPlan plan → IsPlanFault (plan_text plan) e → ⊥
  pub record_one : (r s : RecordValue) → IsRecord r → IsRecord s → r.names ≡ s.names → build_record_text r ≡ build_record_text s → r ≡ s
  pub no_record_fault : (r : RecordValue) (e : PlanError) → IsRecord r → IsRecordFault r.names (build_record_text r) e → ⊥

-- ---- digests

within : (h c : ℕ) (xs : List ℕ) → Contains xs c → Contains (h ∷ xs) c
within h c xs (k, lt, e) = (suc k, omega arith, e)

-- what stands before and behind the first such byte
pub once : (c : ℕ) (a b x y : List ℕ) → ¬ Contains a c → ¬ Contains b c → a ++ c ∷ x ≡ b ++ c ∷ y → (a ≡ b) × (x ≡ y)
once c [] [] x y p q e = (refl, cc e)
once c [] (k ∷ b) x y p q e = let same : c ≡ k = cc e in absurd (q (0, omega arith, sym same))
once c (h ∷ a) [] x y p q e = let same : h ≡ c = cc e in absurd (p (0, omega arith, same))
once c (h ∷ a) (k ∷ b) x y p q e =
    let first : h ≡ k = cc e in
    let rest : a ++ c ∷ x ≡ b ++ c ∷ y = cc e in
    let ih = once c a b x y (λ i. p (within h c a i)) (λ i. q (within k c b i)) rest in
    (rw (first, ih.0) refl, ih.1)

small_size : (n : ℕ) → n ≤ greatest_size → n < 2 ^ 64
small_size n h = omega arith

digest_with : List ℕ → ℕ → DigestValue
digest_with hash size = record { hash = hash; size = size }

-- two digests have two texts
pub digest_one : (d e : DigestValue) → IsDigest d → IsDigest e → digest_text d ≡ digest_text e → d ≡ e
unfolding digest_with
digest_one d e is was same =
    let parts = once 47 (encode_lower d.hash) (encode_lower e.hash) (decimal d.size) (decimal e.size) (all_pass-without is_lower_hex (encode_lower d.hash) 47 (lower-encode d.hash is.hash.bytes) refl) (all_pass-without is_lower_hex (encode_lower e.hash) 47 (lower-encode e.hash was.hash.bytes) refl) same in
    let size_in : d.size ≤ greatest_size = is.size in
    let size_was : e.size ≤ greatest_size = was.size in
    let size : d.size ≡ e.size = decimal_injective d.size e.size (small_size d.size size_in) (small_size e.size size_was) parts.1 in
    let decoded = sym (hash_given d.hash is.hash) ∙ ap (λ (t : List ℕ). decode_sized t 32) parts.0 ∙ hash_given e.hash was.hash in
    let hash : d.hash ≡ e.hash = cc decoded in
    ap (λ (h : List ℕ). digest_with h d.size) hash ∙ ap (λ (n : ℕ). digest_with e.hash n) size

pub spelled_once : (text : List ℕ) (d e : DigestValue) → IsDigestText text d → IsDigestText text e → d ≡ e
spelled_once text d e one other = digest_one d e one.valid other.valid (sym one.text_is ∙ other.text_is)

-- ---- questions

module _ (laws : TextLaws) where
  pub same_plan : (text : List ℕ) (p q : PlanValue) → HasPlan text p → HasPlan text q → p ≡ q
  same_plan text p q one other = laws.plan_one p q one.valid other.valid (sym one.text_is ∙ other.text_is)

  pub one_question : (sources claim plan noted : List ℕ) (p q : Question) → HasTexts sources claim plan noted p → HasTexts sources claim plan noted q → p ≡ q
  one_question sources claim plan noted p q one other =
      let from = spelled_once sources p.sources q.sources one.sources_spelled other.sources_spelled in
      let to = spelled_once claim p.claim q.claim one.claim_spelled other.claim_spelled in
      let steps = same_plan plan p.plan q.plan one.plan_is other.plan_is in
      let names : p.noted.names ≡ q.noted.names = subst (λ (k : PlanValue). p.noted.names ≡ names_of k) steps one.noted_is.fits ∙ sym other.noted_is.fits in
      let digests = laws.record_one p.noted q.noted one.noted_is.valid other.noted_is.valid names (sym one.noted_is.text_is ∙ other.noted_is.text_is) in
      λ i. record { sources = from i; claim = to i; plan = steps i; noted = digests i }
