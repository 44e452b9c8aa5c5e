-- The first fault of a text that is no plan.
use Rattle.std.specs.Prelude.{◌≡◌, ◌≢◌, ◌⊎◌, ℕ, ◌+◌, ◌<◌, List, [], ◌∷◌, ◌++◌, length, map}
use Rattle.std.specs.List.{Contains, flat_map}
use Rattle.messages.specs.Path.{Overlap}
use Rattle.plan.specs.declared.error.PlanError.{PlanError}
use Rattle.plan.specs.declared.error.Fault.{Fault}
use Rattle.plan.specs.declared.error.Fault.TheVariants as faults
use Rattle.plan.specs.declared.version.Version.{Version}
use Rattle.plan.specs.declared.version.Version.TheVariants.{One}
use Rattle.plan.specs.Line.{line_text, Begins}
use Rattle.plan.specs.Lines.{WrittenOrigin, from_source, from_step, WrittenLine, step_line}
use Rattle.plan.specs.Lines.{root_line, in_line, IsWrittenLine, written_words}
use Rattle.plan.specs.Plan.{KeepApart, AllKeepApart, IsStep, AreSteps, IsPlan, plan_header}
use Rattle.plan.specs.Plan.{step_text, plan_text}
use Rattle.plan.specs.Values.{LineValue, StepValue}

-- the text begins with the header of no version
abbrev pub HasNoHeader : List ℕ → Type 0
HasNoHeader text = (version : Version) → ¬ Begins (plan_header version) text

-- ---- beginnings

-- What may stand before a line: the header; or it, whole steps, and a step with its lines so
-- far; or it, all steps, and the lines of the root so far.
pub data Beginning : Type 0 where
  at_start : Beginning
  in_step : List StepValue → StepValue → Beginning
  in_root : List StepValue → List LineValue → Beginning

-- nothing in a beginning of a plan is at fault in the version
abbrev pub IsBeginning : Version → Beginning → Type 0
IsBeginning version at_start = Unit {0}
IsBeginning version (in_step earlier step) =
    (length earlier < 4096) × AreSteps [] earlier × IsStep earlier step
    × AllKeepApart version earlier × KeepApart version step.lines
IsBeginning version (in_root steps lines) =
    IsPlan (record { version = version; steps = steps; root_lines = lines })

abbrev pub beginning_text : Version → Beginning → List ℕ
beginning_text version at_start = plan_header version
beginning_text version (in_step earlier step) =
    plan_header version ++ (flat_map (step_text earlier) earlier ++ step_text earlier step)
beginning_text version (in_root steps lines) =
    plan_text (record { version = version; steps = steps; root_lines = lines })

-- how many lines steps are
abbrev pub line_count : List StepValue → ℕ
line_count [] = 0
line_count (step ∷ steps) = 1 + length step.lines + line_count steps

-- the number of the line after a beginning; the header is line 1
abbrev pub next_number : Beginning → ℕ
next_number at_start = 2
next_number (in_step earlier step) = 3 + line_count earlier + length step.lines
next_number (in_root steps lines) = 3 + line_count steps + length lines

-- ---- the next line

-- the text begins with this line
abbrev pub BeginsWithLine : WrittenLine → List ℕ → Type 0
BeginsWithLine line text = IsWrittenLine line × Begins (line_text (written_words line)) text

-- where a line may stand: an `in` line in a step or the root, a `step` or `root` line before the
-- root
abbrev pub MayStand : Beginning → WrittenLine → Type 0
MayStand at_start (step_line name frame) = Unit {0}
MayStand at_start root_line = Unit {0}
MayStand at_start (in_line target origin) = ⊥
MayStand (in_step earlier step) line = Unit {0}
MayStand (in_root steps lines) (step_line name frame) = ⊥
MayStand (in_root steps lines) root_line = ⊥
MayStand (in_root steps lines) (in_line target origin) = Unit {0}

-- one of the steps has this name
abbrev pub HasStep : List StepValue → List ℕ → Type 0
HasStep [] name = ⊥
HasStep (step ∷ steps) name = (step.name ≡ name) ⊎ HasStep steps name

-- an origin names a step, and none of these
abbrev pub IsLater : List StepValue → WrittenOrigin → Type 0
IsLater steps (from_source path) = ⊥
IsLater steps (from_step name path) = ¬ HasStep steps name

-- The faults of a step of this name after these steps: one of them has its name, or else they are
-- as many as may be.
abbrev pub IsStepFault : List StepValue → List ℕ → Fault → Type 0
IsStepFault steps name faults.SameStep = HasStep steps name
IsStepFault steps name faults.TooMany = (¬ HasStep steps name) × (length steps ≡ 4096)
IsStepFault steps name _ = ⊥

-- a path overlaps one of the targets
abbrev pub OverlapsAny : List (List ℕ) → List (List (List ℕ)) → Type 0
OverlapsAny path targets = (other : List (List ℕ)) × Contains targets other × Overlap path other

-- The faults of a line after these lines of a directory, before which these steps stand: it reads a
-- later step; or else the lines are as many as may be; or else, in version 1, its target overlaps
-- that of one of them.
abbrev pub IsInFault : Version → List StepValue → List LineValue → List (List ℕ) → WrittenOrigin
    → Fault → Type 0
IsInFault version earlier lines target origin faults.LaterStep = IsLater earlier origin
IsInFault version earlier lines target origin faults.TooMany =
    (¬ IsLater earlier origin) × (length lines ≡ 65536)
IsInFault version earlier lines target origin faults.Overlap =
    (version ≡ One) × (¬ IsLater earlier origin) × (length lines < 65536)
    × OverlapsAny target (map (λ other. other.target) lines)
IsInFault version earlier lines target origin _ = ⊥

-- the faults of a line that may stand after the beginning
abbrev pub IsLineFault : Version → Beginning → WrittenLine → Fault → Type 0
IsLineFault version at_start line fault = ⊥
IsLineFault version (in_step earlier step) (step_line name frame) fault =
    IsStepFault (earlier ++ step ∷ []) name fault
IsLineFault version (in_step earlier step) root_line fault = ⊥
IsLineFault version (in_step earlier step) (in_line target origin) fault =
    IsInFault version earlier step.lines target origin fault
IsLineFault version (in_root steps lines) (step_line name frame) fault = ⊥
IsLineFault version (in_root steps lines) root_line fault = ⊥
IsLineFault version (in_root steps lines) (in_line target origin) fault =
    IsInFault version steps lines target origin fault

-- a plan may end here
abbrev pub MayEnd : Beginning → Type 0
MayEnd at_start = ⊥
MayEnd (in_step earlier step) = ⊥
MayEnd (in_root steps lines) = Unit {0}

-- The text begins with no line that may stand here, and where a plan may end here it isn't empty.
abbrev pub NoLineStands : Beginning → List ℕ → Type 0
NoLineStands start rest =
    (MayEnd start → rest ≢ [])
    × ((line : WrittenLine) → MayStand start line → ¬ BeginsWithLine line rest)

-- what is wrong with the text after a beginning
abbrev pub IsNextFault : Version → Beginning → List ℕ → Fault → Type 0
IsNextFault version start rest fault =
    ((fault ≡ faults.BadLine) × NoLineStands start rest)
    ⊎ ((line : WrittenLine) × BeginsWithLine line rest × IsLineFault version start line fault)

-- The text begins with a beginning of a plan, and the next line is at fault.
pub record IsFaultBehind (text : List ℕ) (e : PlanError) : Type 0 where
  pub version : Version
  pub start : Beginning
  pub rest : List ℕ
  pub valid : IsBeginning version start
  pub cut : text ≡ beginning_text version start ++ rest
  pub number : e.line ≡ next_number start
  pub fault : IsNextFault version start rest e.fault

-- why a text is no plan: its first line is no version's header, or else the first line at fault
abbrev pub IsPlanFault : List ℕ → PlanError → Type 0
IsPlanFault text e =
    ((e ≡ record { line = 1; fault = faults.BadHeader }) × HasNoHeader text)
    ⊎ IsFaultBehind text e
