-- What `compare` says of two builds that evidence recorded.
use Rattle.std.specs.Prelude.{◌≡◌, ◌≢◌, ◌⊎◌, ℕ, ◌+◌, ◌==◌, List, [], ◌∷◌, ◌++◌, Option, None, Some}
use Rattle.std.specs.Prelude.{IfSome, codes, length, slice_get}
use Rattle.std.specs.Io.KnownBytes.{Appends}
use Rattle.std.specs.List.{count_by}
use Rattle.std.specs.declared.alloc.Global.{Global}
use Rattle.blob_digest.specs.Digest.{DigestValue}
use Rattle.blob_source.specs.Source.{Telling}
use Rattle.clap.specs.Words.{Row}
use Rattle.command_lines.specs.CommandLine.{option_text}
use Rattle.plan.specs.Plan.{plan_text}
use Rattle.plan.specs.Values.{StepValue}
use Rattle.report.specs.Compared.{IsSame, compared_line}
use Rattle.report.specs.Line.{report_line}
use Rattle.report.specs.declared.compared.Compared.{Compared}
use Rattle.report.specs.declared.compared.Compared.TheVariants as compared
use Rattle.text_verifier.specs.Recalled.{IsRecalled}
use Rattle.text_verifier.specs.Texts.{Question}
use Rattle.text_verifier.specs.declared.recalling.Recalled.{Recalled}
use Rattle.verifier.specs.Compared.{HaveSucceeded, IsComparison, RecordedStepValue}
use Rattle.verifier.specs.Verdict.{IsYes}
use Rattle.verifier.specs.declared.comparing.Comparison.TheVariants.{Alike, OtherAction, Unlike}
use Rattle.commands.specs.Evidence.{FailsEvidence, FailsStated, InEvidence, StatesDigests}
use Rattle.commands.specs.Places.{IsOfFolder, LacksInFolder}
use Rattle.commands.specs.Printed.{AsksQuestion, IsOfPlace, LacksAtPlace}
use Rattle.commands.specs.Refusal.{FailsToJudge, IsPrintFault}
use Rattle.commands.specs.Stages.{FailsListed, IsListed, ListsStages}
use Rattle.commands.specs.Told.{AppendsBeginning}
use Rattle.commands.specs.Words.{AllValid, Check, FailsFirst, IsUsageError, is_expected}
use Rattle.commands.specs.World.{Sight}
use Rattle.commands.specs.declared.ended.Ended.{Ended}
use Rattle.commands.specs.declared.ended.Ended.TheVariants.{Done, No}
use Rattle.commands.specs.declared.error.CommandError.{CommandError}
use Rattle.commands.specs.declared.error.CommandError.TheVariants.{Memory}
use Rattle.commands.specs.declared.recalling.Recollection.{Recollection}

-- ---- what is recalled

-- a store in the folder told what was recalled on the question, and lacks what the answer says
pub record IsRecalledIn (sees : Sight) (folder : List ℕ) (q : Question) (r : Recalled Global)
    : Type 0 where
  pub told : Telling
  pub source : ∥ IsOfFolder sees folder told ∥₁
  pub recalled : IsRecalled told q r
  pub lacks : IfSome r.answer.lack (λ lack. ∥ LacksInFolder sees folder lack ∥₁)

-- the options ask the question, and a source over the place that they name told what was recalled
pub record RecallsAsked (sees : Sight) (options : List Row) (r : Recollection) : Type 0 where
  pub asks : AsksQuestion sees options r.case
  pub told : Telling
  pub source : ∥ IsOfPlace sees options told ∥₁
  pub recalled : IsRecalled told r.case r.recalled
  pub lacks : IfSome r.recalled.answer.lack (λ lack. ∥ LacksAtPlace sees options lack ∥₁)

-- the evidence has one plan, and this was recalled of what it asks
pub record RecallsInside (sees : Sight) (evidence : List ℕ) (r : Recollection) : Type 0 where
  pub one : IsListed sees evidence None
  pub states : StatesDigests sees sees [] evidence (λ o. RecallsAsked sees o r)

abbrev pub RecallsEvidence : Sight → List ℕ → Recollection → Type 0
RecallsEvidence sees evidence r = InEvidence sees evidence (λ s. RecallsInside s evidence r)

-- ---- why nothing is

abbrev pub no_stages : List ℕ → List ℕ
no_stages evidence = evidence ++ codes ": a build in stages cannot be compared"

-- The first fault: of the list of stages, where one is there; of the digests; and of what is asked.
pub data FailsRecall (sees : Sight) (evidence : List ℕ) (e : CommandError) : Type 0 where
  in_memory : e ≡ Memory → FailsRecall sees evidence e
  in_list : FailsListed sees evidence e → FailsRecall sees evidence e
  in_stages : (stages : List ℕ) → ListsStages sees evidence stages
      → IsUsageError (no_stages evidence) e → FailsRecall sees evidence e
  in_digests : IsListed sees evidence None → FailsStated sees sees [] evidence e
      → FailsRecall sees evidence e
  in_question : IsListed sees evidence None
      → StatesDigests sees sees [] evidence (λ o. FailsToJudge sees o e)
      → FailsRecall sees evidence e

-- what stands at the path is no evidence, or has that fault
abbrev pub FailsRecallOf : Sight → List ℕ → CommandError → Type 0
FailsRecallOf sees evidence e =
    FailsEvidence sees evidence e ⊎ InEvidence sees evidence (λ s. FailsRecall s evidence e)

-- ---- how two builds compare

-- the number of the first line in which texts differ, of which one may end there
pub record IsFirstOtherLine (one other : List ℕ) (line : ℕ) : Type 0 where
  pub front : List ℕ
  pub rest : List ℕ
  pub other_rest : List ℕ
  pub cut : one ≡ front ++ rest
  pub other_cut : other ≡ front ++ other_rest
  pub differ : slice_get rest 0 ≢ slice_get other_rest 0
  pub line_is : line ≡ 1 + count_by (λ b. b == 10) front

abbrev pub IsYesOf : Recollection → Type 0
IsYesOf r = IsYes r.recalled.answer.verdict

-- each step of the plan was recalled, and succeeded
pub record HasSteps (r : Recollection) : Type 0 where
  pub each : length r.recalled.steps.items ≡ length r.case.plan.steps
  pub succeeded : HaveSucceeded r.recalled.steps.items

-- one plan, from one source tree
pub record AreOfOneQuestion (one other : Recollection) : Type 0 where
  pub plan : one.case.plan ≡ other.case.plan
  pub sources : one.case.sources ≡ other.case.sources

-- a step has this number and this name, and this action was recorded of it
pub record IsStepOf (r : Recollection) (i : ℕ) (name : List ℕ) (action : DigestValue)
    : Type 0 where
  pub step : StepValue
  pub step_at : slice_get r.case.plan.steps i ≡ Some step
  pub name_is : name ≡ step.name
  pub recorded : RecordedStepValue
  pub recorded_at : slice_get r.recalled.steps.items i ≡ Some recorded
  pub action_is : action ≡ recorded.action

-- What is said of two builds: the first that differs of their plans' texts, their sources, their
-- steps, and their roots.
abbrev pub IsCompared : Recollection → Recollection → Compared Global → Type 0
IsCompared one other (compared.Plans line) =
    IsFirstOtherLine (plan_text one.case.plan) (plan_text other.case.plan) line
IsCompared one other (compared.Sources d e) = (one.case.plan ≡ other.case.plan)
    × (d ≡ one.case.sources) × (e ≡ other.case.sources) × (d ≢ e)
IsCompared one other (compared.Step name action path) = AreOfOneQuestion one other
    × (i : ℕ) × IsStepOf one i name action
    × IsComparison {A = Global} one.recalled.steps.items other.recalled.steps.items (Unlike i path)
IsCompared one other (compared.Actions name d e) = AreOfOneQuestion one other
    × (i : ℕ) × IsStepOf one i name d × ((again : List ℕ) × IsStepOf other i again e)
    × IsComparison {A = Global} one.recalled.steps.items other.recalled.steps.items (OtherAction i)
IsCompared one other (compared.Roots d e) = AreOfOneQuestion one other
    × IsComparison {A = Global} one.recalled.steps.items other.recalled.steps.items Alike
    × (d ≡ one.case.claim) × (e ≡ other.case.claim) × (d ≢ e)
IsCompared one other (compared.Same root steps) = AreOfOneQuestion one other
    × IsComparison {A = Global} one.recalled.steps.items other.recalled.steps.items Alike
    × (root ≡ one.case.claim) × (root ≡ other.case.claim)
    × (steps ≡ length one.recalled.steps.items)

-- ---- the command

-- a word says whose verdict a line tells
abbrev pub verdict_line : List ℕ → Recollection → List ℕ
verdict_line whose r = whose ++ 32 ∷ report_line r.recalled.answer.verdict

-- The line of the first verdict that isn't yes, or else of how the builds compare. It comes to done
-- where they are the same.
pub data IsToldOf (one other : Recollection) (line : List ℕ) (ended : Ended) : Type 0 where
  first_no : ¬ IsYesOf one → line ≡ verdict_line (codes "first") one → ended ≡ No None
      → IsToldOf one other line ended
  second_no : IsYesOf one → ¬ IsYesOf other → line ≡ verdict_line (codes "second") other
      → ended ≡ No None → IsToldOf one other line ended
  same : IsYesOf one → IsYesOf other → (c : Compared Global) → IsCompared one other c
      → IsSame c → line ≡ compared_line c → ended ≡ Done → IsToldOf one other line ended
  differ : IsYesOf one → IsYesOf other → (c : Compared Global) → IsCompared one other c
      → ¬ IsSame c → line ≡ compared_line c → ended ≡ No None → IsToldOf one other line ended

-- an option names evidence
abbrev pub is_evidence : List Row → List ℕ → Check
is_evidence options option =
    is_expected options option (codes "a folder or an archive") (λ text. text ≢ [])

abbrev pub compare_words : List Row → List Check
compare_words options =
    is_evidence options (codes "evidence") ∷ is_evidence options (codes "other") ∷ []

-- the words are valid, and this is told of what was recalled of both
pub record TellsBoth (sees : Sight) (options : List Row) (line : List ℕ) (ended : Ended)
    : Type 0 where
  pub valid : AllValid (compare_words options)
  pub one : Recollection
  pub other : Recollection
  pub first : RecallsEvidence sees (option_text options (codes "evidence")) one
  pub second : RecallsEvidence sees (option_text options (codes "other")) other
  pub told : IsToldOf one other line ended

-- what is told of both was printed
abbrev pub ComparesAsked : Sight → List Row → Option (List ℕ) → Option (List ℕ) → Ended → Type 0
ComparesAsked sees options old new ended =
    (line : List ℕ) × TellsBoth sees options line ended × Appends old new line

-- nothing was printed, or a beginning of such a line
abbrev pub BeginsComparison : Sight → List Row → Option (List ℕ) → Option (List ℕ) → Type 0
BeginsComparison sees options old new = (new ≡ old) ⊎ ((line : List ℕ) × (ended : Ended)
    × TellsBoth sees options line ended × AppendsBeginning old new line)

-- the first fault: of the words, of the first evidence, of the second, or of printing
pub data FailsCompare (sees : Sight) (options : List Row) (e : CommandError) : Type 0 where
  in_memory : e ≡ Memory → FailsCompare sees options e
  in_words : FailsFirst (compare_words options) e → FailsCompare sees options e
  in_first : AllValid (compare_words options)
      → FailsRecallOf sees (option_text options (codes "evidence")) e
      → FailsCompare sees options e
  in_second : AllValid (compare_words options) → (one : Recollection)
      → RecallsEvidence sees (option_text options (codes "evidence")) one
      → FailsRecallOf sees (option_text options (codes "other")) e
      → FailsCompare sees options e
  in_output : (line : List ℕ) → (ended : Ended) → TellsBoth sees options line ended
      → IsPrintFault e → FailsCompare sees options e
