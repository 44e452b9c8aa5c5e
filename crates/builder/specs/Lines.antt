-- The one line that tells what a build came to (docs/FORMATS.md).
use Rattle.std.specs.Prelude.{ℕ, List, [], ◌∷◌, ◌++◌, codes, decimal}
use Rattle.blob_digest.specs.Digest.{DigestValue}
use Rattle.blob_digest.specs.Text.{digest_text}
use Rattle.plan.specs.Values.{StepValue}
use Rattle.std.specs.Prelude.{slice_get, Option, Some, None}
use Rattle.builder.specs.declared.fault.Place.{Place}
use Rattle.builder.specs.declared.fault.Place.TheVariants.{Step, Root}

-- `built HASH/SIZE steps N`
abbrev pub built_text : DigestValue → ℕ → List ℕ
built_text root steps =
    codes "built " ++ (digest_text root ++ (codes " steps " ++ (decimal steps ++ 10 ∷ [])))

abbrev pub name_in : Option StepValue → List ℕ
name_in (Some s) = s.name
name_in None = []

-- `step` and the step's name, or `root`
abbrev pub place_text : List StepValue → Place → List ℕ
place_text steps (Step i) = codes "step " ++ name_in (slice_get steps i)
place_text steps Root = codes "root"

-- `failed`, the place and the refusal's number
abbrev pub failed_text : List StepValue → Place → ℕ → List ℕ
failed_text steps place number =
    codes "failed " ++ (place_text steps place ++ (codes " " ++ (decimal number ++ 10 ∷ [])))
