-- The lines that tell how two builds compare, put together.
use Rattle.std.proofs.Common.{◌≡◌, ℕ, List, ◌∷◌, ◌++◌, append_assoc, refl, sym, subst}
use Rattle.std.specs.Prelude.{codes, decimal, Result, IfOk, OnOk, ◌<◌, ◌^◌}
use Rattle.blob_digest.specs.Digest.{DigestValue, IsDigest}
use Rattle.blob_digest.specs.Text.{digest_text}
use Rattle.report.specs.Compared.{differ_line, same_text, step_words}
use Rattle.report.specs.Line.{HasNoNewline, IsOneLine}
use Rattle.report.proofs.Unbroken.{none_seen, none_named, none_joined, none_in_digest, none_in_number, one_line}

pub same_one_line : (root : DigestValue) (steps : ℕ) → IsDigest root → steps < 2 ^ 64 → IsOneLine (same_text root steps)
same_one_line root steps valid small = one_line (codes "same ") (digest_text root) (codes " steps ") (decimal steps) (none_seen (codes "same ") refl) (none_in_digest root valid) (none_seen (codes " steps ") refl) (none_in_number steps small)

pub differ_one_line : (what one other : List ℕ) → HasNoNewline what → HasNoNewline one → HasNoNewline other → IsOneLine (differ_line what one other)
differ_one_line what one other w o p = record {
  text = codes "differ " ++ (what ++ 32 ∷ (one ++ 32 ∷ other));
  unbroken = none_joined (codes "differ ") (what ++ 32 ∷ (one ++ 32 ∷ other)) (none_seen (codes "differ ") refl) (none_named what (one ++ 32 ∷ other) w (none_named one other o p));
  ended = simp append_assoc;
}

pub step_unbroken : (name words : List ℕ) → HasNoNewline name → HasNoNewline words → HasNoNewline (step_words name words)
step_unbroken name words n w = none_joined (codes "step ") (name ++ words) (none_seen (codes "step ") refl) (none_joined name words n w)

pub none_as : (a b : List ℕ) → a ≡ b → HasNoNewline b → HasNoNewline a
none_as a b is none = subst HasNoNewline (sym is) none

pub differ_as : (a b c x y z : List ℕ) → a ≡ x → b ≡ y → c ≡ z → differ_line a b c ≡ differ_line x y z
differ_as a b c x y z e f g = λ i. differ_line (e i) (f i) (g i)

pub value_as : {T E : Type 0} (r : Result T E) (bytes : T → List ℕ) (a b : List ℕ) → a ≡ b → IfOk r (λ t. bytes t ≡ a) → IfOk r (λ t. bytes t ≡ b)
value_as r bytes a b is = subst (λ (line : List ℕ). IfOk r (λ t. bytes t ≡ line)) is

pub one_as : {T E : Type 0} (r : Result T E) (a b : List ℕ) → a ≡ b → OnOk r (IsOneLine a) → OnOk r (IsOneLine b)
one_as r a b is = subst (λ (line : List ℕ). OnOk r (IsOneLine line)) is
