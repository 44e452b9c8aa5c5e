-- Lines of a plan, as texts.
use Rattle.std.specs.Prelude.{◌≡◌, ◌⊎◌, ℕ, suc, zero, List, [], ◌∷◌, ◌++◌, codes, Some, None}
use Rattle.blob_digest.specs.Digest.{DigestValue, IsDigest}
use Rattle.messages.specs.Path.{IsPath}
use Rattle.plan.specs.declared.line.Origin.{Origin}
use Rattle.plan.specs.declared.line.Origin.TheVariants.{Source, Output}
use Rattle.plan.specs.Escape.{escaped_path}
use Rattle.plan.specs.Line.{IsStepName, step_words}
use Rattle.plan.specs.Values.{OriginValue, source, output, LineValue, StepValue}

-- ---- lines as they are written

-- An origin as it is written: that of an output has the name of its step.
pub data WrittenOrigin : Type 0 where
  from_source : List (List ℕ) → WrittenOrigin
  from_step : List ℕ → List (List ℕ) → WrittenOrigin

-- A line after the header as it is written.
pub data WrittenLine : Type 0 where
  step_line : List ℕ → DigestValue → WrittenLine
  root_line : WrittenLine
  in_line : List (List ℕ) → WrittenOrigin → WrittenLine

-- the parts of an origin are valid
abbrev pub IsWrittenOrigin : WrittenOrigin → Type 0
IsWrittenOrigin (from_source path) = (path ≡ []) ⊎ IsPath path
IsWrittenOrigin (from_step name path) = IsStepName name × IsPath path

abbrev pub IsWrittenLine : WrittenLine → Type 0
IsWrittenLine (step_line name frame) = IsStepName name × IsDigest frame
IsWrittenLine root_line = Unit {0}
IsWrittenLine (in_line target origin) = IsPath target × IsWrittenOrigin origin

-- `src .` for the whole source tree, `src PATH` for a path of it, `out STEP PATH` for a path of a
-- step's outputs
abbrev pub written_origin_words : WrittenOrigin → List ℕ
written_origin_words (from_source []) = codes "src ."
written_origin_words (from_source (name ∷ path)) = codes "src " ++ escaped_path (name ∷ path)
written_origin_words (from_step name path) = codes "out " ++ (name ++ 32 ∷ escaped_path path)

-- `step NAME HASH/SIZE`, `root`, or `in TARGET` and an origin
abbrev pub written_words : WrittenLine → List ℕ
written_words (step_line name frame) = step_words name frame
written_words root_line = codes "root"
written_words (in_line target origin) =
    codes "in " ++ (escaped_path target ++ 32 ∷ written_origin_words origin)

-- ---- lines as values

-- the name of the step of this number, counted from 0
abbrev pub step_name : List StepValue → ℕ → List ℕ
step_name [] number = []
step_name (s ∷ steps) zero = s.name
step_name (s ∷ steps) (suc number) = step_name steps number

-- how an origin is written where these are the steps
abbrev pub written_origin : List StepValue → OriginValue → WrittenOrigin
written_origin steps (source path) = from_source path
written_origin steps (output number path) = from_step (step_name steps number) path

abbrev pub origin_words : List StepValue → OriginValue → List ℕ
origin_words steps origin = written_origin_words (written_origin steps origin)

-- a line: `in TARGET` and its origin
abbrev pub in_words : List StepValue → LineValue → List ℕ
in_words steps line = written_words (in_line line.target (written_origin steps line.origin))

-- ---- what the code keeps

abbrev pub origin_value : {A : Type 0} → Origin A → OriginValue
origin_value (Source None) = source []
origin_value (Source (Some path)) = source path
origin_value (Output number path) = output number path
