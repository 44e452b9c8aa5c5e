-- How the calls of an engine are tied to runs.
use Rattle.std.specs.Prelude.{◌≡◌, ◌↔◌, ◌⊎◌, ℕ, ◌+◌, ◌==◌, if◌then◌else◌, Bool, List, [], ◌∷◌}
use Rattle.std.specs.Prelude.{Option, Some, None, IsSome, IsTrue, IsSomeAnd, slice_get, Contains}
use Rattle.std.specs.List.{AllByRecursion}
use Rattle.plan.specs.Record.{RecordValue}
use Rattle.plan.specs.Values.{LineValue, StepValue}
use Rattle.blob_digest.specs.Digest.{DigestValue, NoClash}
use Rattle.actions.specs.Outcome.{OutcomeValue}
use Rattle.tree.specs.Tree.{Name, Tree, Leaf}
use Rattle.tree.specs.Form.{form, root}
use Rattle.tree.specs.Lookup.{IsValue}
use Rattle.blob_source.specs.Source.{Blobs}
use Rattle.verifier.specs.Build.{Meaning, ActionMeaning, action_digest, Outcome, Event, start}
use Rattle.verifier.specs.Build.{finish, State, opening, outcome_of, happens, action_of, origin_at}
use Rattle.verifier.specs.Build.{merge_of, MeaningFits, Obeys, HasFinishedAll}
use Rattle.verifier.specs.Headline.{HasFinished}
use Rattle.verifier.specs.Together.{origin_path}
use Rattle.runs.specs.declared.error.RunsError.{RunsError}
use Rattle.runs.specs.declared.error.RunsError.TheVariants as errors
use Rattle.runs.specs.Engine.{EngineValue}
use Rattle.runs.specs.Mirrors.{Mirrors, IsBlobOfMeaning, IsMirrored, IsFormOf, nothing_told}
use Rattle.runs.specs.Mirrors.{EngineRun}

-- An engine mirrors the opening state, for every tree with the digest of its sources and every
-- meaning that fits its plan, if no two different blobs that the source has and that are the
-- meaning's share a digest.
pub record IsOpening (B : Blobs) (e : EngineValue) : Type 0 where
  pub mirrors : (t : Tree Leaf) (meaning : Meaning) → root (form t) ≡ e.sources
      → MeaningFits e.plan meaning → NoClash (λ b. IsValue B b ⊎ IsBlobOfMeaning meaning b)
      → Mirrors e t meaning opening

-- the event can happen after the run, and then the engine mirrors the state that it leads to
abbrev pub CanFollow : EngineValue → EngineRun → Event → EngineValue → Type 0
CanFollow old run event new =
    (next : State) × (happens old.plan run.meaning run.tree run.now event ≡ Some next)
    × Mirrors new run.tree run.meaning next

-- a call is an event, which can follow whatever run the engine mirrors
pub record IsEvent (B : Blobs) (old : EngineValue) (event : Event)
    (new : EngineValue) : Type 0 where
  pub of_run : (run : EngineRun) → IsMirrored B old run
      → CanFollow old run event new

-- ---- questions about the state

-- what is answered about a step is whether it has finished in each state that is mirrored
pub record TellsFinished (e : EngineValue) (i : ℕ) (answer : Bool) : Type 0 where
  pub of_state : (t : Tree Leaf) (meaning : Meaning) (s : State) → Mirrors e t meaning s
      → IsTrue answer ↔ ((o : Outcome) × (outcome_of i s ≡ Some o))

-- whether a step may start: each step that its lines read has finished
pub record TellsReady (e : EngineValue) (i : ℕ) (answer : Bool) : Type 0 where
  pub of_state : (t : Tree Leaf) (meaning : Meaning) (s : State) → Mirrors e t meaning s
      → (step : StepValue) → slice_get e.plan.steps i ≡ Some step
      → IsTrue answer ↔ AllByRecursion (λ (l : LineValue). HasFinished s l.origin) step.lines

-- how many of the jobs of a state are of a step
abbrev pub jobs_running : ℕ → List (ℕ × (ℕ × ActionMeaning)) → ℕ
jobs_running i [] = 0
jobs_running i (job ∷ jobs) = (if job.1.0 == i then 1 else 0) + jobs_running i jobs

-- how many jobs of a step run
pub record TellsRunning (e : EngineValue) (i : ℕ) (answer : ℕ) : Type 0 where
  pub of_run : (run : EngineRun) → IsMirrored nothing_told e run
      → answer ≡ jobs_running i run.now.jobs

-- a record is there exactly where each step has finished, and it has the digests of the actions of
-- the steps
pub record IsRecordOf (e : EngineValue) (answer : Option RecordValue) : Type 0 where
  pub complete : (t : Tree Leaf) (meaning : Meaning) (s : State) → Mirrors e t meaning s
      → IsSome answer ↔ HasFinishedAll e.plan s
  pub digests : (t : Tree Leaf) (meaning : Meaning) (s : State) → Mirrors e t meaning s
      → (noted : RecordValue) → answer ≡ Some noted → (i : ℕ) (d : DigestValue)
      → slice_get noted.digests i ≡ Some d
      → (a : ActionMeaning) × (action_of e.plan meaning t s i ≡ Some a) × (d ≡ action_digest a)

-- ---- finishing

-- Whatever run the engine mirrors, and whatever the table has for the job's action, if the outcome
-- is its form: the finish can follow the run.
pub record IsFinish (old : EngineValue) (w : ℕ) (v : OutcomeValue)
    (new : EngineValue) : Type 0 where
  pub of_run : (run : EngineRun) → IsMirrored nothing_told old run
      → (o : Outcome) → Obeys run.table run.now (finish w o) → IsFormOf v o
      → CanFollow old run (finish w o) new

-- no outcome that the table has for the job's action has this form
pub record IsForeign (old : EngineValue) (w : ℕ) (v : OutcomeValue) : Type 0 where
  pub of_run : (run : EngineRun) → IsMirrored nothing_told old run
      → (o : Outcome) → Obeys run.table run.now (finish w o) → IsFormOf v o → ⊥

-- ---- starting, and the root

-- Whatever run the engine mirrors, the start of the step as this job can follow it, with the action
-- of this digest.
pub record IsStart (B : Blobs) (old : EngineValue) (i id : ℕ) (digest : DigestValue)
    (new : EngineValue) : Type 0 where
  pub of_run : (run : EngineRun) → IsMirrored B old run
      → (a : ActionMeaning) × (action_of old.plan run.meaning run.tree run.now i ≡ Some a)
      × (digest ≡ action_digest a) × CanFollow old run (start i id) new

-- whatever run the engine mirrors, the root's lines merge after it into a tree with this digest
pub record IsRootOf (B : Blobs) (e : EngineValue) (d : DigestValue) : Type 0 where
  pub of_run : (run : EngineRun) → IsMirrored B e run
      → IsSomeAnd (merge_of run.tree run.now e.plan.root_lines) (λ g. root (form g) ≡ d)

-- whatever run the engine mirrors, one of the lines has no origin after it, and this is the
-- origin's path
pub record IsWithoutOrigin (B : Blobs) (e : EngineValue) (lines : List LineValue)
    (named : List Name) : Type 0 where
  pub line : LineValue
  pub inside : Contains lines line
  pub path : named ≡ origin_path line.origin
  pub of_run : (run : EngineRun) → IsMirrored B e run
      → origin_at run.tree run.now line.origin ≡ None

-- a refusal that nothing stands at an origin is so in each run that the engine mirrors
abbrev pub TellsMissing : {A : Type 0} → Blobs → EngineValue → List LineValue → RunsError A → Type 0
TellsMissing B e lines (errors.Origin path) = IsWithoutOrigin B e lines path
TellsMissing B e lines why = Unit {0}

-- whatever run the engine mirrors, lines don't merge after it
pub record IsWithoutMerge (B : Blobs) (e : EngineValue) (lines : List LineValue) : Type 0 where
  pub of_run : (run : EngineRun) → IsMirrored B e run
      → merge_of run.tree run.now lines ≡ None

-- a refusal of a conflict is so in each run that the engine mirrors
abbrev pub TellsConflict : {A : Type 0} → Blobs → EngineValue → List LineValue → RunsError A
    → Type 0
TellsConflict B e lines (errors.Conflict path) = IsWithoutMerge B e lines
TellsConflict B e lines why = Unit {0}
