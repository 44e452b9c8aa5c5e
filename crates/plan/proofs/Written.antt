-- A line as it is written is read in one way.
use Rattle.std.proofs.Common.{◌≡◌, ℕ, List, [], ◌∷◌, ◌++◌, refl, ap, sym, ◌∙◌, subst, inl, inr, arith, codes}
use Rattle.std.specs.List.{Contains}
use Rattle.std.proofs.lemmas.List.{append_cancel_left}
use Rattle.std.proofs.lemmas.List.Elements.{Contains-append_right}
use Rattle.blob_digest.specs.Digest.{DigestValue}
use Rattle.blob_digest.specs.Text.{digest_text}
use Rattle.messages.specs.Path.{IsPath}
use Rattle.plan.specs.Escape.{escaped_path}
use Rattle.plan.specs.Faults.{BeginsWithLine}
use Rattle.plan.specs.Line.{IsStepName, line_text}
use Rattle.plan.specs.Lines.{WrittenOrigin, from_source, from_step, WrittenLine, step_line, root_line, in_line, IsWrittenOrigin, IsWrittenLine, written_origin_words, written_words}
use Rattle.plan.proofs.Lines.{once, heads, name-without, line_front, free_of_newline, behind_front, behind_space, step_words-without, digest_one}
use Rattle.plan.proofs.Spelled.{escaped_path-without, escaped_path-one, escaped_path-dot}

-- ---- no newline stands in a line

pub origin-without : (origin : WrittenOrigin) → IsWrittenOrigin origin → ¬ Contains (written_origin_words origin) 10
origin-without (from_source []) is = free_of_newline (codes "src .") refl
origin-without (from_source (name ∷ path)) (inl none) = absurd (cc none)
origin-without (from_source (name ∷ path)) (inr is) = behind_front (codes "src ") (escaped_path (name ∷ path)) refl (escaped_path-without (name ∷ path) 10 is refl)
origin-without (from_step name path) is =
    behind_front (codes "out ") (name ++ 32 ∷ escaped_path path) refl (behind_space name (escaped_path path) (name-without name 10 is.0 refl) (escaped_path-without path 10 is.1 refl))

pub written-without : (line : WrittenLine) → IsWrittenLine line → ¬ Contains (written_words line) 10
written-without (step_line name frame) is = step_words-without name frame is.0 is.1
written-without root_line is = free_of_newline (codes "root") refl
written-without (in_line target origin) is =
    behind_front (codes "in ") (escaped_path target ++ 32 ∷ written_origin_words origin) refl
    (behind_space (escaped_path target) (written_origin_words origin) (escaped_path-without target 10 is.0 refl) (origin-without origin is.1))

-- ---- the parts of a line

-- what stands before the first space is the target, and what stands behind it the origin
pub in_parts : (rest target origin : List ℕ) (path : List (List ℕ)) (written : WrittenOrigin) → IsPath path → ¬ Contains target 32 → rest ≡ target ++ 32 ∷ origin
    → codes "in " ++ rest ≡ written_words (in_line path written) → (target ≡ escaped_path path) × (origin ≡ written_origin_words written)
in_parts rest target origin path written is none e was =
    once 32 target (escaped_path path) origin (written_origin_words written) none (escaped_path-without path 32 is refl)
    (sym e ∙ append_cancel_left (codes "in ") rest (escaped_path path ++ 32 ∷ written_origin_words written) was)

pub output_parts : (rest name path : List ℕ) (step : List ℕ) (at : List (List ℕ)) → IsStepName step → ¬ Contains name 32 → rest ≡ name ++ 32 ∷ path
    → codes "out " ++ rest ≡ written_origin_words (from_step step at) → (name ≡ step) × (path ≡ escaped_path at)
output_parts rest name path step at is none e was =
    once 32 name step path (escaped_path at) none (name-without step 32 is refl)
    (sym e ∙ append_cancel_left (codes "out ") rest (step ++ 32 ∷ escaped_path at) was)

pub source_is_no_output : (path rest : List ℕ) → codes "src " ++ path ≡ codes "out " ++ rest → ⊥
source_is_no_output path rest e = heads 111 115 _ _ (omega arith) (sym e)

-- ---- two origins, and two lines, are written in two ways

pub origin_one : (a b : WrittenOrigin) → IsWrittenOrigin a → IsWrittenOrigin b → written_origin_words a ≡ written_origin_words b → a ≡ b
origin_one (from_source []) (from_source []) is was e = refl
origin_one (from_source []) (from_source (m ∷ q)) is (inl none) e = absurd (cc none)
origin_one (from_source []) (from_source (m ∷ q)) is (inr was) e = absurd (escaped_path-dot (m ∷ q) was (append_cancel_left (codes "src ") (escaped_path (m ∷ q)) (46 ∷ []) (sym e)))
origin_one (from_source (n ∷ p)) b (inl none) was e = absurd (cc none)
origin_one (from_source (n ∷ p)) (from_source []) (inr is) was e = absurd (escaped_path-dot (n ∷ p) is (append_cancel_left (codes "src ") (escaped_path (n ∷ p)) (46 ∷ []) e))
origin_one (from_source (n ∷ p)) (from_source (m ∷ q)) (inr is) (inl none) e = absurd (cc none)
origin_one (from_source (n ∷ p)) (from_source (m ∷ q)) (inr is) (inr was) e =
    ap from_source (escaped_path-one (n ∷ p) (m ∷ q) is was (append_cancel_left (codes "src ") (escaped_path (n ∷ p)) (escaped_path (m ∷ q)) e))
origin_one (from_source []) (from_step step path) is was e = absurd (source_is_no_output (46 ∷ []) (step ++ 32 ∷ escaped_path path) e)
origin_one (from_source (n ∷ p)) (from_step step path) (inr is) was e = absurd (source_is_no_output (escaped_path (n ∷ p)) (step ++ 32 ∷ escaped_path path) e)
origin_one (from_step step path) (from_source []) is was e = absurd (source_is_no_output (46 ∷ []) (step ++ 32 ∷ escaped_path path) (sym e))
origin_one (from_step step path) (from_source (n ∷ p)) is was e = absurd (source_is_no_output (escaped_path (n ∷ p)) (step ++ 32 ∷ escaped_path path) (sym e))
origin_one (from_step a p) (from_step b q) is was e =
    let parts = output_parts (a ++ 32 ∷ escaped_path p) a (escaped_path p) b q was.0 (name-without a 32 is.0 refl) refl e in
    let path = escaped_path-one p q is.1 was.1 parts.1 in
    ap (λ (n : List ℕ). from_step n p) parts.0 ∙ ap (λ (t : List (List ℕ)). from_step b t) path

pub written_one : (a b : WrittenLine) → IsWrittenLine a → IsWrittenLine b → written_words a ≡ written_words b → a ≡ b
written_one (step_line n d) (step_line m f) is was e =
    let rest = append_cancel_left (codes "step ") (n ++ 32 ∷ digest_text d) (m ++ 32 ∷ digest_text f) e in
    let parts = once 32 n m (digest_text d) (digest_text f) (name-without n 32 is.0 refl) (name-without m 32 was.0 refl) rest in
    let digest = digest_one d f is.1 was.1 parts.1 in
    ap (λ (name : List ℕ). step_line name d) parts.0 ∙ ap (λ (frame : DigestValue). step_line m frame) digest
written_one (step_line n d) root_line is was e = absurd (heads 114 115 _ _ (omega arith) (sym e))
written_one (step_line n d) (in_line t o) is was e = absurd (heads 105 115 _ _ (omega arith) (sym e))
written_one root_line (step_line n d) is was e = absurd (heads 114 115 _ _ (omega arith) e)
written_one root_line root_line is was e = refl
written_one root_line (in_line t o) is was e = absurd (heads 105 114 _ _ (omega arith) (sym e))
written_one (in_line t o) (step_line n d) is was e = absurd (heads 105 115 _ _ (omega arith) e)
written_one (in_line t o) root_line is was e = absurd (heads 105 114 _ _ (omega arith) e)
written_one (in_line t o) (in_line u p) is was e =
    let parts = in_parts (escaped_path t ++ 32 ∷ written_origin_words o) (escaped_path t) (written_origin_words o) u p was.0 (escaped_path-without t 32 is.0 refl) refl e in
    let target = escaped_path-one t u is.0 was.0 parts.0 in
    let origin = origin_one o p is.1 was.1 parts.1 in
    ap (λ (path : List (List ℕ)). in_line path o) target ∙ ap (λ (w : WrittenOrigin). in_line u w) origin

-- ---- a text that begins with a line

-- what stands in front of the first newline is the line
pub first_words : (words behind text : List ℕ) (line : WrittenLine) → text ≡ words ++ 10 ∷ behind → ¬ Contains words 10 → (first : BeginsWithLine line text)
    → (words ≡ written_words line) × (behind ≡ first.1.0)
first_words words behind text line e free first =
    once 10 words (written_words line) behind first.1.0 free (written-without line first.0) (sym e ∙ first.1.1 ∙ line_front (written_words line) first.1.0)

-- a text without a newline begins with no line
pub no_line : (text : List ℕ) → ¬ Contains text 10 → (line : WrittenLine) → ¬ BeginsWithLine line text
no_line text free line first =
    let seam = first.1.1 ∙ line_front (written_words line) first.1.0 in
    free (subst (λ (l : List ℕ). Contains l 10) (sym seam) (Contains-append_right (written_words line) (10 ∷ first.1.0) 10 (0, omega arith, refl)))

pub first_one : (a b : WrittenLine) (x y : List ℕ) → IsWrittenLine a → IsWrittenLine b → line_text (written_words a) ++ x ≡ line_text (written_words b) ++ y → (a ≡ b) × (x ≡ y)
first_one a b x y is was e =
    let parts = first_words (written_words a) x (line_text (written_words a) ++ x) b (line_front (written_words a) x) (written-without a is) (was, (y, e)) in
    (written_one a b is was parts.0, parts.1)

pub no_line_left : (rest : List ℕ) (line : WrittenLine) → rest ≡ [] → ¬ BeginsWithLine line rest
no_line_left rest line e first = no_line rest (λ has. none (subst (λ (l : List ℕ). Contains l 10) e has)) line first
  where
    none : ¬ Contains {X = ℕ} [] 10
    none (k, lt, f) = omega (arith, lt)
