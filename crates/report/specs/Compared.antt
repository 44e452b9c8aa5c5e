-- The one line that tells how two builds compare (docs/FORMATS.md).
use Rattle.std.specs.Prelude.{ℕ, List, [], ◌∷◌, ◌++◌, codes, decimal}
use Rattle.blob_digest.specs.Digest.{DigestValue}
use Rattle.blob_digest.specs.Text.{digest_text}
use Rattle.plan.specs.Escape.{escaped_path}
use Rattle.report.specs.declared.compared.Compared.{Compared}
use Rattle.report.specs.declared.compared.Compared.TheVariants.{Actions, Plans, Roots, Same}
use Rattle.report.specs.declared.compared.Compared.TheVariants.{Sources, Step}

-- `same HASH/SIZE steps N`
abbrev pub same_text : DigestValue → ℕ → List ℕ
same_text root steps =
    codes "same " ++ digest_text root ++ codes " steps " ++ decimal steps ++ 10 ∷ []

-- `differ`, what does, and two words on it
abbrev pub differ_line : List ℕ → List ℕ → List ℕ → List ℕ
differ_line what one other =
    codes "differ " ++ (what ++ 32 ∷ (one ++ 32 ∷ (other ++ 10 ∷ [])))

-- `step`, the step's name, and what follows
abbrev pub step_words : List ℕ → List ℕ → List ℕ
step_words name words = codes "step " ++ (name ++ words)

abbrev pub digests_line : List ℕ → DigestValue → DigestValue → List ℕ
digests_line what one other = differ_line what (digest_text one) (digest_text other)

abbrev pub compared_line : {A : Type 0} → Compared A → List ℕ
compared_line (Same root steps) = same_text root steps
compared_line (Plans line) = differ_line (codes "plan") (codes "line") (decimal line)
compared_line (Sources one other) = digests_line (codes "sources") one other
compared_line (Step name action path) = differ_line (step_words name (codes " action"))
    (digest_text action) (escaped_path path)
compared_line (Actions name one other) = digests_line (step_words name (codes " actions")) one other
compared_line (Roots one other) = digests_line (codes "root") one other

abbrev pub IsSame : {A : Type 0} → Compared A → Type 0
IsSame (Same root steps) = Unit {0}
IsSame _ = ⊥
