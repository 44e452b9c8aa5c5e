-- What a build tells.
use Rattle.std.specs.Prelude.{◌≡◌, ◌⊎◌, ℕ, List, length, Result, Ok, Err, string_bytes}
use Rattle.blob_digest.specs.Digest.{DigestValue}
use Rattle.plan.specs.Record.{build_record_text}
use Rattle.plan.specs.Values.{PlanValue}
use Rattle.worker.specs.Outcomes.{Yields}
use Rattle.tree.specs.Folded.{items_of}
use Rattle.runs.specs.declared.error.RunsError.TheVariants as runs
use Rattle.builder.specs.declared.error.BuildPlanError.{BuildPlanError}
use Rattle.builder.specs.declared.error.BuildPlanError.TheVariants.{Root}
use Rattle.builder.specs.declared.fault.Fault.TheVariants.{Refused}
use Rattle.builder.specs.declared.fault.Place.{Place}
use Rattle.builder.specs.declared.telling.Told.{Told}
use Rattle.builder.specs.declared.telling.Told.TheVariants.{Built, Failed}
use Rattle.builder.specs.Built.{Builds, BuiltValue, Seen}
use Rattle.builder.specs.Faults.{HasNoNumber, fault_of}
use Rattle.builder.specs.Lines.{built_text, failed_text}
use Rattle.builder.specs.Why.{why_text}

-- the line of a build that came to its root, its record's text, and the Directories that were made
pub record TellsBuilt (plan : PlanValue) (b : BuiltValue) (line noted : List ℕ)
    (directories : List (List ℕ)) : Type 0 where
  pub line_is : line ≡ built_text b.root (length plan.steps)
  pub noted_is : noted ≡ build_record_text b.noted
  pub directories_are : directories ≡ b.directories

-- the line of the refusal that ended a build, and why, in words
pub record TellsFailed {A : Type 0} (plan : PlanValue) (error : BuildPlanError A)
    (line why : List ℕ) : Type 0 where
  pub place : Place
  pub number : ℕ
  pub numbered : fault_of error ≡ Refused place number
  pub line_is : line ≡ failed_text plan.steps place number
  pub why_is : why ≡ why_text plan.steps place error

-- what came of a plan has a line: its root, or a refusal with a number
abbrev pub CanBeTold : {A : Type 0} → Result BuiltValue (BuildPlanError A) → Type 0
CanBeTold (Ok b) = Unit {0}
CanBeTold (Err error) = HasNoNumber (fault_of error) → ⊥

-- No line is told: the plan ended with this error, which has no number; or what came of it has a
-- line, and memory ran out as it was told.
pub record HasNoLine {A : Type 0} (came : Result BuiltValue (BuildPlanError A))
    (error : BuildPlanError A) : Type 0 where
  pub unnumbered : HasNoNumber (fault_of error)
  pub is : (came ≡ Err error) ⊎ (CanBeTold came × (error ≡ Root runs.Memory))

-- what is told of what came of a plan: the root, or a refusal with a number
abbrev pub Tells : {A : Type 0} → PlanValue → Result (Told A) (BuildPlanError A)
    → Result BuiltValue (BuildPlanError A) → Type 0
Tells plan (Ok (Built line noted directories)) (Ok b) =
    TellsBuilt plan b (string_bytes line) noted.items (items_of directories.items)
Tells plan (Ok (Failed line why)) (Err error) =
    TellsFailed plan error (string_bytes line) (string_bytes why)
Tells plan (Err error) came = HasNoLine came error
Tells plan told came = ⊥

-- a build of the plan, and what is told of what came of it
pub record IsBuildTold {A : Type 0} (yields : Yields) (most : ℕ) (plan : PlanValue)
    (sources : DigestValue) (old new : Seen) (told : Result (Told A) (BuildPlanError A))
    : Type 0 where
  pub came : Result BuiltValue (BuildPlanError A)
  pub builds : Builds A yields most plan sources old new came
  pub tells : Tells plan told came
