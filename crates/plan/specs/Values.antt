-- Plans as values: how the directories of a build are put together.
use Rattle.std.specs.Prelude.{◌≡◌, ◌⊎◌, ◌<◌, ℕ, List, []}
use Rattle.blob_digest.specs.Digest.{DigestValue}
use Rattle.messages.specs.Path.{IsPath}
use Rattle.plan.specs.declared.version.Version.{Version}

-- Where the content of a line comes from: a path of the source tree, where no names are the whole
-- tree; or a path of what an earlier step made, by the number of the step, counted from 0.
pub data OriginValue : Type 0 where
  source : List (List ℕ) → OriginValue
  output : ℕ → List (List ℕ) → OriginValue

-- A line: at this path of a directory stands what stands at the origin.
pub record LineValue : Type 0 where
  pub target : List (List ℕ)
  pub origin : OriginValue

-- A step: its name, the digest of its action without an input, and the lines of its input.
pub record StepValue : Type 0 where
  pub name : List ℕ
  pub frame : DigestValue
  pub lines : List LineValue

-- A plan: its version, its steps in order, and the lines of its result.
pub record PlanValue : Type 0 where
  pub version : Version
  pub steps : List StepValue
  pub root_lines : List LineValue

-- ---- rules

-- the origin of a line before which this many steps stand
abbrev pub IsOrigin : ℕ → OriginValue → Type 0
IsOrigin before (source path) = (path ≡ []) ⊎ IsPath path
IsOrigin before (output step path) = (step < before) × IsPath path

-- a line before which this many steps stand
pub record IsLine (before : ℕ) (line : LineValue) : Type 0 where
  pub target : IsPath line.target
  pub origin : IsOrigin before line.origin
