-- Records of builds: the digest of each step's action.
use Rattle.std.specs.Prelude.{◌≡◌, ◌≢◌, ◌⊎◌, List, [], ◌∷◌, ℕ, ◌+◌, ◌++◌, length, map, codes}
use Rattle.std.specs.List.{AllByRecursion}
use Rattle.blob_digest.specs.Digest.{DigestValue, IsDigest}
use Rattle.plan.specs.declared.error.PlanError.{PlanError}
use Rattle.plan.specs.declared.error.Fault.{Fault}
use Rattle.plan.specs.declared.error.Fault.TheVariants.{BadHeader, BadLine, RecordDiffers}
use Rattle.plan.specs.Faults.{BeginsWithLine}
use Rattle.plan.specs.Line.{line_text, Begins, IsStepName, step_words}
use Rattle.plan.specs.Lines.{step_line}
use Rattle.plan.specs.Values.{PlanValue}

-- A record: the names of the steps of a plan in order, and as many digests.
pub record RecordValue : Type 0 where
  pub names : List (List ℕ)
  pub digests : List DigestValue

pub record IsRecord (record_of : RecordValue) : Type 0 where
  pub named : AllByRecursion IsStepName record_of.names
  pub valid : AllByRecursion IsDigest record_of.digests
  pub same_length : length record_of.digests ≡ length record_of.names

-- the names of the steps of a plan, in order
abbrev pub names_of : PlanValue → List (List ℕ)
names_of plan = map (λ step. step.name) plan.steps

-- the record is of the plan
abbrev pub Fits : RecordValue → PlanValue → Type 0
Fits record_of plan = record_of.names ≡ names_of plan

-- ---- texts

abbrev pub record_header : List ℕ
record_header = line_text (codes "buildrecord 1")

-- a line for each name and its digest
abbrev pub entries_text : List (List ℕ) → List DigestValue → List ℕ
entries_text [] digests = []
entries_text (name ∷ names) [] = []
entries_text (name ∷ names) (digest ∷ digests) =
    line_text (step_words name digest) ++ entries_text names digests

abbrev pub build_record_text : RecordValue → List ℕ
build_record_text record_of = record_header ++ entries_text record_of.names record_of.digests

-- ---- faults

-- What is wrong with the text where these names are left: it begins with no line of a record; or
-- with one of another step; or it ends too early.
abbrev pub IsNextEntryFault : List (List ℕ) → List ℕ → Fault → Type 0
IsNextEntryFault left rest BadLine =
    (rest ≢ [])
    × ((name : List ℕ) (digest : DigestValue) → ¬ BeginsWithLine (step_line name digest) rest)
IsNextEntryFault left rest RecordDiffers =
    ((rest ≡ []) × (left ≢ []))
    ⊎ ((name : List ℕ) × (digest : DigestValue) × BeginsWithLine (step_line name digest) rest
    × ((more : List (List ℕ)) → left ≢ name ∷ more))
IsNextEntryFault left rest _ = ⊥

-- The text has a line of a record for each of the first names, and the next line is at fault.
pub record IsEntryFault (names : List (List ℕ)) (text : List ℕ) (e : PlanError) : Type 0 where
  pub done : List (List ℕ)
  pub left : List (List ℕ)
  pub digests : List DigestValue
  pub rest : List ℕ
  pub split : names ≡ done ++ left
  pub valid : IsRecord (record { names = done; digests = digests })
  pub cut : text ≡ build_record_text (record { names = done; digests = digests }) ++ rest
  pub number : e.line ≡ length done + 2
  pub fault : IsNextEntryFault left rest e.fault

-- why a text is no record of a plan with these names: the first line at fault
abbrev pub IsRecordFault : List (List ℕ) → List ℕ → PlanError → Type 0
IsRecordFault names text e =
    ((e ≡ record { line = 1; fault = BadHeader }) × ¬ Begins record_header text)
    ⊎ IsEntryFault names text e
