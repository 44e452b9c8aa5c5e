-- The one line that tells a verdict (docs/FORMATS.md).
use Rattle.std.specs.Prelude.{◌≡◌, ℕ, List, [], ◌∷◌, ◌++◌, codes, decimal}
use Rattle.std.specs.List.{Contains}
use Rattle.std.specs.Fmt.{signed_decimal}
use Rattle.blob_digest.specs.Digest.{DigestValue}
use Rattle.blob_digest.specs.Text.{digest_text}
use Rattle.plan.specs.Escape.{escaped_path}
use Rattle.report.specs.declared.stages.StagesVerdict.{StagesVerdict}
use Rattle.report.specs.declared.stages.StagesVerdict.TheVariants as stages
use Rattle.verifier.specs.declared.verdict.Verdict.{Verdict}
use Rattle.verifier.specs.declared.verdict.Verdict.TheVariants.{Yes, No}
use Rattle.verifier.specs.declared.verdict.Place.{Place}
use Rattle.verifier.specs.declared.verdict.Place.TheVariants.{Step, Root}
use Rattle.verifier.specs.declared.verdict.Cause.{Cause}
use Rattle.verifier.specs.declared.verdict.Cause.TheVariants as causes

-- a word and what it names, separated by a space
abbrev pub named : List ℕ → List ℕ → List ℕ
named word text = word ++ 32 ∷ text

-- the cause's word, and the digest, the path or the exit code that it names
abbrev pub cause_text : {A : Type 0} → Cause A → List ℕ
cause_text (causes.BlobMissing digest) = named (codes "blob-missing") (digest_text digest)
cause_text (causes.BlobWrong digest) = named (codes "blob-wrong") (digest_text digest)
cause_text (causes.BlobMalformed digest) = named (codes "blob-malformed") (digest_text digest)
cause_text causes.DoNotCache = codes "do-not-cache"
cause_text (causes.OriginMissing path) = named (codes "origin-missing") (escaped_path path)
cause_text causes.FrameDiffers = codes "frame-differs"
cause_text (causes.InputConflict path) = named (codes "input-conflict") (escaped_path path)
cause_text (causes.InputUnexplained path) = named (codes "input-unexplained") (escaped_path path)
cause_text (causes.InputAbsent path) = named (codes "input-absent") (escaped_path path)
cause_text (causes.InputDiffers path) = named (codes "input-differs") (escaped_path path)
cause_text causes.ResultMissing = codes "result-missing"
cause_text causes.ResultMalformed = codes "result-malformed"
cause_text (causes.ExitCode code) = named (codes "exit-code") (signed_decimal code)
cause_text (causes.OutputUnlisted path) = named (codes "output-unlisted") (escaped_path path)
cause_text (causes.RootDiffers root) = named (codes "root-differs") (digest_text root)

-- `step` and the step's name, or `root`
abbrev pub place_text : {A : Type 0} → Place A → List ℕ
place_text (Step name) = named (codes "step") name
place_text Root = codes "root"

-- `yes HASH/SIZE steps N`
abbrev pub yes_text : DigestValue → ℕ → List ℕ
yes_text root steps =
    codes "yes " ++ digest_text root ++ codes " steps " ++ decimal steps ++ 10 ∷ []

-- `no`, the place, `cause` and the cause
abbrev pub no_text : {A : Type 0} → Place A → Cause A → List ℕ
no_text place cause =
    codes "no " ++ place_text place ++ codes " cause " ++ cause_text cause ++ 10 ∷ []

abbrev pub report_line : {A : Type 0} → Verdict A → List ℕ
report_line (Yes root steps) = yes_text root steps
report_line (No place cause) = no_text place cause

-- `yes HASH/SIZE stages N steps M`
abbrev pub stages_yes_text : DigestValue → ℕ → ℕ → List ℕ
stages_yes_text root count steps = codes "yes " ++ digest_text root
    ++ (codes " stages " ++ decimal count) ++ (codes " steps " ++ decimal steps) ++ 10 ∷ []

-- `no stage K`, the place, `cause` and the cause
abbrev pub stage_no_text : {A : Type 0} → ℕ → Place A → Cause A → List ℕ
stage_no_text stage place cause = codes "no stage "
    ++ named (decimal stage) (place_text place) ++ codes " cause " ++ cause_text cause ++ 10 ∷ []

abbrev pub stages_line : {A : Type 0} → StagesVerdict A → List ℕ
stages_line (stages.Yes root count steps) = stages_yes_text root count steps
stages_line (stages.No stage place cause) = stage_no_text stage place cause

abbrev pub IsYesOfStages : {A : Type 0} → StagesVerdict A → Type 0
IsYesOfStages (stages.Yes root count steps) = Unit {0}
IsYesOfStages (stages.No stage place cause) = ⊥

-- no newline stands in the text
abbrev pub HasNoNewline : List ℕ → Type 0
HasNoNewline text = ¬ Contains text 10

-- a text without a newline, and then its newline
pub record IsOneLine (line : List ℕ) : Type 0 where
  pub text : List ℕ
  pub unbroken : HasNoNewline text
  pub ended : line ≡ text ++ 10 ∷ []
