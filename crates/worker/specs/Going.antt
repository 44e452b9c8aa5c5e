-- A build that goes on, its children and its turns: words of private functions.
use Rattle.std.specs.Prelude.{zero, suc, ◌≡◌, ◌≢◌, ◌⊎◌, ◌+◌, ◌*◌, ◌<◌, ◌≤◌, ℕ, List, [], ◌∷◌, ◌++◌}
use Rattle.std.specs.Prelude.{◌-◌, Bool, true, false, length, map, set, slice_get, Option, Some}
use Rattle.std.specs.Prelude.{None, IsSome, Contains}
use Rattle.blob_digest.specs.Digest.{DigestValue, digest_of}
use Rattle.action_messages.specs.Action.{action_bytes}
use Rattle.action_messages.specs.Command.{CommandValue}
use Rattle.actions.specs.Outcome.{OutcomeValue}
use Rattle.blob_source.specs.Source.{Blobs, Telling}
use Rattle.blob_source.specs.Sink.{HasRight}
use Rattle.runs.specs.Engine.{FinishedValue, JobValue, EngineValue, at_number, finished_in, job_in}
use Rattle.runs.specs.Calls.{IsFinished, jobs_of}
use Rattle.runs.specs.LooksAt.{StartNeeds}
use Rattle.std.specs.BTreeSet.{BTreeSet}
use Rattle.tree.specs.Memo.{Asked, Covers, count_unknown, known_by}
use Rattle.runs.specs.declared.starting.Job.{Job}
use Rattle.worker.specs.declared.child.Child.{Child}
use Rattle.worker.specs.declared.turns.Turn.{Turn}
use Rattle.worker.specs.declared.turns.Turn.TheVariants as turns
use Rattle.worker.specs.Layout.{IsLayoutOf}
use Rattle.worker.specs.Values.{LayoutValue, ProducedValue, EndValue, made, Starts, StartsOne}
use Rattle.worker.specs.Values.{StartsNone}
use Rattle.tree.specs.Folded.{items_of}
use Rattle.worker.specs.Storing.{IsKeptBut, HasFewTrees, HasResultOf, IsHeldWhole, not_put}
use Rattle.worker.specs.declared.remembering.Remembered.{Remembered}
use Rattle.worker.specs.Outcomes.{Yields, YieldsFor, HasAllRight, HasOwnAction, HasTrees}
use Rattle.worker.specs.Outcomes.{CanBeTaken, tree_blobs}
use Rattle.worker.specs.Steps.{IsActionOf, IsOfProduced, IsOfFinished, blobs_of_job}
use Rattle.worker.specs.Calls.{running, Call, WasStarted, IsBuiltWith, IsResultFor}
use Rattle.worker.specs.Calls.{IsLeastStartable, HasNoneStartable, AreTurns}
use Rattle.worker.specs.Watching.{FinishInOrder, taken_count, turns_in, jobs_after}
use Rattle.verifier.specs.Recorded.{IsHeld}

-- the job is the child's
pub record IsJobOf {J : Type 0} (c : Child J) (j : JobValue) : Type 0 where
  pub step : j.step ≡ c.step
  pub action : j.action ≡ c.action

-- Each job is that of one child, as a relation says. The first child's is taken away, and the
-- others' are those of the rest.
abbrev pub AreJobsOf : {J : Type 0} → (Child J → JobValue → Type 0) → List (Option JobValue)
    → List (Child J) → Type 0
AreJobsOf Is js [] = running js ≡ 0
AreJobsOf Is js (c ∷ cs) =
    (j : JobValue) × (at_number js c.id ≡ Some j) × Is c j × AreJobsOf Is (set js c.id None) cs

-- All that may come of a job's child, the runner yields for the layout that is told under the root
-- of the job's input and for the command of the job's step. The job's action is in the store.
pub record IsOwed (yields : Yields) (may : EndValue → Type 0) (B : Blobs) (e : EngineValue)
    (j : JobValue) : Type 0 where
  pub layout : LayoutValue
  pub laid : IsLayoutOf B j.input layout
  pub command : CommandValue
  pub of_step : slice_get e.commands j.step ≡ Some command
  pub may_come : (end : EndValue) → may end → YieldsFor yields layout command end
  pub own : HasOwnAction e j
  pub action : HasRight B j.action

-- the job is the child's, and what may come of the child is owed to it
pub record IsOwnJob {J : Type 0} (yields : Yields) (may : J → EndValue → Type 0) (B : Blobs)
    (e : EngineValue) (c : Child J) (j : JobValue) : Type 0 where
  pub of_child : IsJobOf c j
  pub owed : IsOwed yields (may c.job) B e j

-- the numbers and the steps of the children's jobs
abbrev pub jobs_with : {J : Type 0} → List (Child J) → List (ℕ × ℕ)
jobs_with cs = map (λ (c : Child _). (c.id, c.step)) cs

-- Calls led to the engine, from one of which no job ran, and put results. The children have its
-- jobs, in the order of their starts, and they finish in that order; and they are few.
pub record IsGoing (A : Type 0) {J : Type 0} (yields : Yields) (may : J → EndValue → Type 0)
    (from to : Starts) (before t : Telling) (most : ℕ) (old new : EngineValue)
    (children : List (Child J)) : Type 0 where
  pub idle : running old.jobs ≡ 0
  pub led : IsBuiltWith A yields from to before t most old new
  pub jobs : AreJobsOf (IsOwnJob yields may t.blobs new) new.jobs children
  pub order : jobs_after [] led.built.led.calls ≡ jobs_with children
  pub in_order : FinishInOrder [] led.built.led.calls
  pub few : length children ≤ most

-- a job as an engine has it
abbrev pub kept_job : {A : Type 0} → Job A → JobValue
kept_job job = record { step = job.step; action = job.digest; input = job.action.input }

-- the engine has the job, its command and its frame, and the job's digest is that of its action
pub record IsJobIn {A : Type 0} (e : EngineValue) (job : Job A) : Type 0 where
  pub there : job_in job.id e ≡ Some (kept_job job)
  pub command : slice_get e.commands job.step ≡ Some job.command
  pub frame : slice_get e.frames job.step ≡ Some job.action.frame
  pub digest : job.digest ≡ digest_of (action_bytes job.action)

-- the store has no result to take for the action and the command
abbrev pub HasNoneToTake : Telling → DigestValue → CommandValue → Type 0
HasNoneToTake t d c = (v : OutcomeValue) → IsHeld t d v → CanBeTaken c v → ⊥

-- A child runs for a job, for which the store had no result to take.
pub record HasChildFor {J : Type 0} (yields : Yields) (may : J → EndValue → Type 0)
    (from to : Starts) (s t : Telling) (e : EngineValue) (j : JobValue) (c : Child J)
    : Type 0 where
  pub own : IsOwnJob yields may t.blobs e c j
  pub started : StartsOne from to
      (record { layout = own.owed.layout; command = own.owed.command })
  pub none : HasNoneToTake s j.action own.owed.command

-- A job goes on: a child runs for it, or it finished at once as the store had recorded.
abbrev pub IsLaunched : {J : Type 0} → Yields → (J → EndValue → Type 0) → Starts → Starts
    → Telling → Telling → ℕ → JobValue → EngineValue → EngineValue → List (Child J)
    → List (Child J) → Type 0
IsLaunched yields may from to s t id j old new before after =
    ((c : Child _) × (c.id ≡ id) × HasChildFor yields may from to s t old j c × (new ≡ old)
    × (after ≡ before ++ c ∷ []))
    ⊎ ((v : OutcomeValue) × IsFinished id v old new × IsHeldWhole t j.action v × (after ≡ before)
    × StartsNone from to)

-- A step was started: a child runs for it, or its job finished at once.
pub record IsBegun (A : Type 0) {J : Type 0} (yields : Yields) (may : J → EndValue → Type 0)
    (from to : Starts) (s t : Telling) (i : ℕ) (old new : EngineValue)
    (before after : List (Child J)) : Type 0 where
  pub id : ℕ
  pub mid : EngineValue
  pub started : WasStarted A t.blobs i id old mid
  pub job : JobValue
  pub is : job_in id mid ≡ Some job
  pub goes : IsLaunched yields may from to s t id job mid new before after

-- a blob that was put as a job went on: for the job, or of what it finished with
abbrev pub IsForGone : {A : Type 0} → Job A → EngineValue → EngineValue → List ℕ → Type 0
IsForGone job old new b = Contains (blobs_of_job job) b
    ⊎ ((v : OutcomeValue) × IsFinished job.id v old new × Contains (tree_blobs v.outputs) b)

-- a blob that whole turns put: none of what is recorded but what a step finished with
abbrev pub IsOfTurns : (A : Type 0) → Yields → Blobs → EngineValue → List ℕ → Type 0
IsOfTurns A yields B e b =
    ((i : ℕ) × (d : DigestValue) × (o : IsActionOf A B e i d) × Contains (blobs_of_job o.job) b)
    ⊎ (IsOfProduced yields B e b ⊎ IsOfFinished e b)

-- ---- how often the store is called

-- how often the store is called for what is laid out of an input: for its top, each folder and each
-- file
abbrev pub IsForLayout : Blobs → DigestValue → ℕ → Type 0
IsForLayout B input n = (l : LayoutValue) × IsLayoutOf B input l
    × (n ≡ 1 + length l.folders + length l.files)

-- how often the store is called for the Trees of what a job finished with, and their Directories
abbrev pub IsForTrees : ℕ → EngineValue → EngineValue → ℕ → Type 0
IsForTrees id old new n =
    (v : OutcomeValue) × IsFinished id v old new × (n ≡ length (tree_blobs v.outputs))

-- As a job goes on the store is called at most once for its action, for each Directory of its input
-- that wasn't put, for the action's result and for each Tree of that; and for what is laid out for
-- its child, or for the Trees that are taken.
pub record CallsForJob {A : Type 0} (job : Job A) (put : BTreeSet DigestValue) (t : Telling)
    (old new : EngineValue) (from to : ℕ) : Type 0 where
  pub rest : ℕ
  pub for_rest : IsForLayout t.blobs job.action.input rest ⊎ IsForTrees job.id old new rest
  pub once : (most : ℕ) → HasFewTrees t job.digest most
      → to ≤ from + 2 + not_put put (items_of job.input.directories.items) + most + rest

-- As a step is started the store is asked at most once for each Directory of the sources that its
-- lines need and that isn't known, and what it was asked for is known then; and it is called as the
-- job goes on.
pub record CallsForStart {A : Type 0} {J : Type 0} {yields : Yields} {may : J → EndValue → Type 0}
    {from to : Starts} {s t : Telling} {i : ℕ} {old new : EngineValue}
    {before after : List (Child J)} (was now : Remembered A)
    (b : IsBegun A yields may from to s t i old new before after) : Type 0 where
  pub calls : ℕ
  pub asked : (list : List Asked) → Covers (StartNeeds b.started.told old i) list
      → calls + count_unknown (known_by now.memo) list
      ≤ s.calls + count_unknown (known_by was.memo) list
  pub goes : CallsForJob b.started.job was.put t b.mid new calls t.calls

-- A child's job finished with what the child came to, whose blobs and Trees are in the store, where
-- a result may have been put.
pub record EndedWell {J : Type 0} (may : J → EndValue → Type 0) (s t : Telling) (c : Child J)
    (old new : EngineValue) : Type 0 where
  pub produced : ProducedValue
  pub came : may c.job (made produced)
  pub finished : IsFinished c.id produced.outcome old new
  pub blobs : HasAllRight t.blobs produced.blobs
  pub trees : HasTrees t.blobs produced.outcome
  pub kept : IsKeptBut c.action (IsResultFor produced.outcome) s t

-- The first child was waited for, and its job ended so.
pub record HasEndedFirst {J : Type 0} (ends : Child J → EngineValue → EngineValue → Type 0)
    (old new : EngineValue) (before after : List (Child J)) : Type 0 where
  pub child : Child J
  pub is : before ≡ child ∷ after
  pub end : ends child old new

-- under the digest of the first child's action stands the result of its step
abbrev pub HasResultOfFirst : {J : Type 0} → Telling → EngineValue → List (Child J) → Type 0
HasResultOfFirst t e [] = ⊥
HasResultOfFirst t e (c ∷ cs) = HasResultOf t e c.step c.action

-- a result was put for the first child's action
abbrev pub PutsFirst : {J : Type 0} → Telling → Telling → List (Child J) → Type 0
PutsFirst s t [] = ⊥
PutsFirst s t (c ∷ cs) = t.puts ≡ s.puts ++ c.action ∷ []

-- ---- the turns

-- The turn that comes next: the least step that may be started, while fewer children than the most
-- run. The first child is waited for only where no step may be started, or as many run.
abbrev pub IsTurn : {J : Type 0} → ℕ → EngineValue → List (Child J) → Turn → Type 0
IsTurn most e children (turns.Start i) =
    (length children < most) × (i < length e.plan.steps) × IsLeastStartable e i
IsTurn most e children turns.Finish =
    (0 < length children) × (length children < most → HasNoneStartable e)

-- the step of a turn: the one that is started, or that of the child that is waited for
abbrev pub step_of : {J : Type 0} → Turn → List (Child J) → ℕ
step_of (turns.Start i) children = i
step_of turns.Finish [] = 0
step_of turns.Finish (c ∷ cs) = c.step

abbrev pub is_start : Turn → Bool
is_start (turns.Start i) = true
is_start turns.Finish = false

-- whether a step has neither finished nor a job, as a number
abbrev pub weight : Option FinishedValue → ℕ → ℕ
weight (Some f) count = 0
weight None zero = 1
weight None (suc count) = 0

-- how many of the first steps have neither finished nor a job
abbrev pub waiting_among : ℕ → EngineValue → ℕ
waiting_among zero e = 0
waiting_among (suc n) e = weight (finished_in n e) (jobs_of n e.jobs) + waiting_among n e

-- how many turns there can still be
abbrev pub turns_left : {J : Type 0} → EngineValue → List (Child J) → ℕ
turns_left e children = 2 * waiting_among (length e.plan.steps) e + length children

-- ---- what a turn changes

abbrev pub one_if : Option FinishedValue → ℕ
one_if None = 0
one_if (Some f) = 1

-- how many steps a turn takes from the store: a step that is started, if it finishes at once
abbrev pub taken_in : Bool → ℕ → EngineValue → EngineValue → ℕ
taken_in true i old new = one_if (finished_in i new) - one_if (finished_in i old)
taken_in false i old new = 0

-- calls of one turn
abbrev pub AreOneTurn : List Call → Type 0
AreOneTurn cs = AreTurns cs × (turns_in cs ≡ 1)

-- A build went on from these calls by more, and by these this many steps were taken from the store.
pub record GoesOnBy (A : Type 0) {J : Type 0} (yields : Yields) (may : J → EndValue → Type 0)
    (from to : Starts) (before t : Telling) (most : ℕ) (old new : EngineValue)
    (children : List (Child J)) (calls : List Call) (n : ℕ) : Type 0 where
  pub going : IsGoing A yields may from to before t most old new children
  pub more : List Call
  pub are : going.led.built.led.calls ≡ calls ++ more
  pub taken : taken_count more ≡ n

-- at most this step finishes: the others are as they were
pub record FinishesOnly (i : ℕ) (old new : EngineValue) : Type 0 where
  pub plan : new.plan ≡ old.plan
  pub count : length new.finished ≡ length old.finished
  pub others : (k : ℕ) → k ≢ i → finished_in k new ≡ finished_in k old
  pub still : IsSome (finished_in i old) → IsSome (finished_in i new)
