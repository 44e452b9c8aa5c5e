-- Parts of the reading of a plan, and what the code keeps of its steps.
use Rattle.std.specs.Prelude.{◌≡◌, ◌≢◌, ◌⊎◌, ℕ, ◌+◌, ◌≤◌, List, [], ◌∷◌, ◌++◌, length, map}
use Rattle.std.specs.Prelude.{codes}
use Rattle.std.specs.List.{flat_map}
use Rattle.std.specs.declared.vec.Vec.{Vec}
use Rattle.blob_digest.specs.Digest.{DigestValue}
use Rattle.plan.specs.declared.error.PlanError.{PlanError}
use Rattle.plan.specs.declared.error.Fault.{Fault}
use Rattle.plan.specs.declared.error.Fault.TheVariants as faults
use Rattle.plan.specs.declared.version.Version.{Version}
use Rattle.plan.specs.Faults.{line_count, BeginsWithLine, IsLater, IsInFault, MayStand, at_start}
use Rattle.plan.specs.Line.{Begins}
use Rattle.plan.specs.Lines.{WrittenOrigin, WrittenLine, step_line, in_line}
use Rattle.plan.specs.Lines.{IsWrittenOrigin, IsWrittenLine}
use Rattle.plan.specs.Lines.{written_origin_words, written_words}
use Rattle.plan.specs.Plan.{KeepApart, AllKeepApart, AreLines, AreSteps, lines_text, step_text}
use Rattle.plan.specs.Values.{LineValue, StepValue}

-- texts that are kept as vectors
abbrev pub items_of : {A : Type 0} → List (Vec ℕ A) → List (List ℕ)
items_of texts = map (λ v. v.items) texts

-- why words are no origin of a line after these steps
abbrev pub IsOriginFault : List StepValue → List ℕ → Fault → Type 0
IsOriginFault steps words faults.BadLine =
    (origin : WrittenOrigin) → IsWrittenOrigin origin → words ≢ written_origin_words origin
IsOriginFault steps words faults.LaterStep =
    (origin : WrittenOrigin) × IsWrittenOrigin origin × (words ≡ written_origin_words origin)
    × IsLater steps origin
IsOriginFault steps words _ = ⊥

-- why words are no line of a directory after these steps
abbrev pub IsWordsFault : List StepValue → List ℕ → Fault → Type 0
IsWordsFault steps words faults.BadLine =
    (target : List (List ℕ)) (origin : WrittenOrigin) → IsWrittenLine (in_line target origin)
    → words ≢ written_words (in_line target origin)
IsWordsFault steps words faults.LaterStep =
    (target : List (List ℕ)) × (origin : WrittenOrigin) × IsWrittenLine (in_line target origin)
    × (words ≡ written_words (in_line target origin))
    × IsLater steps origin
IsWordsFault steps words _ = ⊥

-- why a text begins with no line of a directory after these steps
abbrev pub IsFirstFault : List StepValue → List ℕ → Fault → Type 0
IsFirstFault steps text faults.BadLine =
    (target : List (List ℕ)) (origin : WrittenOrigin)
    → ¬ BeginsWithLine (in_line target origin) text
IsFirstFault steps text faults.LaterStep =
    (target : List (List ℕ)) × (origin : WrittenOrigin)
    × BeginsWithLine (in_line target origin) text × IsLater steps origin
IsFirstFault steps text _ = ⊥

-- what is wrong with an `in` line after these lines
abbrev pub IsNextInFault : Version → List StepValue → List LineValue → List ℕ → Fault → Type 0
IsNextInFault version steps good rest fault =
    ((fault ≡ faults.BadLine) × Begins (codes "in ") rest
    × ((target : List (List ℕ)) (origin : WrittenOrigin)
    → ¬ BeginsWithLine (in_line target origin) rest))
    ⊎ ((target : List (List ℕ)) × (origin : WrittenOrigin)
    × BeginsWithLine (in_line target origin) rest
    × IsInFault version steps good target origin fault)

-- The text begins with lines of a directory after these steps, of which the first has this number,
-- and the next `in` line is at fault.
pub record IsLinesFault (version : Version) (steps : List StepValue) (first : ℕ) (text : List ℕ)
    (e : PlanError) : Type 0 where
  pub good : List LineValue
  pub rest : List ℕ
  pub valid : AreLines (length steps) good
  pub apart : KeepApart version good
  pub cut : text ≡ lines_text steps good ++ rest
  pub number : e.line ≡ first + length good
  pub fault : IsNextInFault version steps good rest e.fault

-- the text, after the header, begins with a line that may stand there
abbrev pub HasLineTwo : List ℕ → Type 0
HasLineTwo text = (line : WrittenLine) × MayStand at_start line × BeginsWithLine line text

-- the text begins with an entry of the first name
abbrev pub BeginsWithEntry : List (List ℕ) → List ℕ → Type 0
BeginsWithEntry [] text = ⊥
BeginsWithEntry (name ∷ names) text =
    (digest : DigestValue) × BeginsWithLine (step_line name digest) text

-- The text, after the header, begins with these steps, and with no further one. The next line has
-- this number.
pub record IsFront (version : Version) (text : List ℕ) (steps : List StepValue) (rest : List ℕ)
    (number : ℕ) : Type 0 where
  pub few : length steps ≤ 4096
  pub valid : AreSteps [] steps
  pub apart : AllKeepApart version steps
  pub cut : text ≡ flat_map (step_text steps) steps ++ rest
  pub counted : number ≡ line_count steps + 2
  pub none : (name : List ℕ) (frame : DigestValue) → ¬ BeginsWithLine (step_line name frame) rest
  pub no_in : (steps ≢ []) → ¬ Begins (codes "in ") rest
