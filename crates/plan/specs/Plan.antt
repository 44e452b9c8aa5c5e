-- Plans: their rules, and their texts.
use Rattle.std.specs.Prelude.{◌≡◌, ◌≢◌, ℕ, ◌≤◌, List, [], ◌∷◌, ◌++◌, length, codes}
use Rattle.std.specs.List.{AllByRecursion, flat_map}
use Rattle.blob_digest.specs.Digest.{IsDigest}
use Rattle.messages.specs.Path.{Overlap}
use Rattle.plan.specs.declared.version.Version.{Version}
use Rattle.plan.specs.declared.version.Version.TheVariants.{One, Two}
use Rattle.plan.specs.Line.{line_text, IsStepName, step_words}
use Rattle.plan.specs.Lines.{in_words}
use Rattle.plan.specs.Values.{LineValue, StepValue, PlanValue, IsLine}

-- ---- rules

-- no two of the lines have targets that overlap
abbrev pub NoTargetsOverlap : List LineValue → Type 0
NoTargetsOverlap [] = Unit {0}
NoTargetsOverlap (line ∷ lines) =
    AllByRecursion (λ other. ¬ Overlap line.target other.target) lines × NoTargetsOverlap lines

-- no targets of the lines of a directory overlap, unless the version lets them meet
abbrev pub KeepApart : Version → List LineValue → Type 0
KeepApart version lines = version ≡ One → NoTargetsOverlap lines

-- the lines of each step do
abbrev pub AllKeepApart : Version → List StepValue → Type 0
AllKeepApart version steps = AllByRecursion (λ step. KeepApart version step.lines) steps

-- the lines of one directory, before which this many steps stand
pub record AreLines (before : ℕ) (lines : List LineValue) : Type 0 where
  pub few : length lines ≤ 65536
  pub each : AllByRecursion (IsLine before) lines

-- a step after these steps
pub record IsStep (earlier : List StepValue) (step : StepValue) : Type 0 where
  pub name : IsStepName step.name
  pub new : AllByRecursion (λ other. other.name ≢ step.name) earlier
  pub frame : IsDigest step.frame
  pub lines : AreLines (length earlier) step.lines

abbrev pub AreSteps : List StepValue → List StepValue → Type 0
AreSteps earlier [] = Unit {0}
AreSteps earlier (step ∷ steps) = IsStep earlier step × AreSteps (earlier ++ step ∷ []) steps

-- A plan: origins are outputs of earlier steps, and in version 1 no target of a directory overlaps
-- another.
pub record IsPlan (plan : PlanValue) : Type 0 where
  pub few : length plan.steps ≤ 4096
  pub steps : AreSteps [] plan.steps
  pub root_lines : AreLines (length plan.steps) plan.root_lines
  pub apart : AllKeepApart plan.version plan.steps
  pub root_apart : KeepApart plan.version plan.root_lines

-- ---- texts

abbrev pub plan_header : Version → List ℕ
plan_header One = line_text (codes "buildplan 1")
plan_header Two = line_text (codes "buildplan 2")

-- the lines of a directory
abbrev pub lines_text : List StepValue → List LineValue → List ℕ
lines_text steps lines = flat_map (λ line. line_text (in_words steps line)) lines

-- a step and its lines
abbrev pub step_text : List StepValue → StepValue → List ℕ
step_text steps step = line_text (step_words step.name step.frame) ++ lines_text steps step.lines

-- the header of the version, the steps, and the lines of the root after `root`
abbrev pub plan_text : PlanValue → List ℕ
plan_text plan =
    plan_header plan.version
    ++ (flat_map (step_text plan.steps) plan.steps
    ++ (line_text (codes "root") ++ lines_text plan.steps plan.root_lines))
