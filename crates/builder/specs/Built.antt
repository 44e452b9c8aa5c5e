-- What a build came to.
use Rattle.std.specs.Prelude.{◌≡◌, ◌+◌, ◌*◌, ◌<◌, ◌≤◌, ◌++◌, ℕ, List, [], length, Option, Some}
use Rattle.std.specs.Prelude.{Result, Ok, Err}
use Rattle.std.specs.Result.{IsErrAnd}
use Rattle.std.specs.List.{AllByRecursion}
use Rattle.blob_digest.specs.Digest.{DigestValue, NoClash}
use Rattle.blob_source.specs.Sink.{KeepsRight}
use Rattle.blob_source.specs.Source.{Asks, AsksSome, Blobs, Telling}
use Rattle.plan.specs.Record.{RecordValue}
use Rattle.plan.specs.Values.{PlanValue}
use Rattle.runs.specs.Calls.{HaveAllFinished, IsOpened, IsOpenFault, IsRootFault, opening_calls}
use Rattle.runs.specs.Calls.{recorded_build}
use Rattle.runs.specs.Engine.{EngineValue}
use Rattle.runs.specs.Looking.{together_in}
use Rattle.runs.specs.LooksAt.{RootNeeds}
use Rattle.runs.specs.Mirrors.{IsMirrored, EngineRun}
use Rattle.runs.specs.Served.{IsServedYes}
use Rattle.runs.specs.declared.error.OpenError.{OpenError}
use Rattle.runs.specs.declared.error.RunsError.{RunsError}
use Rattle.tree.specs.Folded.{first_visits}
use Rattle.tree.specs.Form.{NodeValue, root}
use Rattle.tree.specs.Memo.{Asked, Covers}
use Rattle.tree.specs.Tree.{Tree}
use Rattle.verifier.specs.Verdict.{IsVerdict}
use Rattle.verifier.specs.declared.verdict.Verdict.TheVariants.{Yes}
use Rattle.worker.specs.Calls.{Call, AreTurns, IsBuiltWith, came_of}
use Rattle.worker.specs.Counted.{Counts}
use Rattle.worker.specs.Outcomes.{Yields}
use Rattle.worker.specs.Steps.{IsActionOf, IsOfBuild}
use Rattle.worker.specs.Stopped.{IsRefusedBuild}
use Rattle.worker.specs.Stored.{IsToldOrTree, IsStored, KeepsAllBut}
use Rattle.worker.specs.Values.{Starts, StartsNone}
use Rattle.worker.specs.Watching.{FinishInOrder, IsProgress, IsWatched, turns_in}
use Rattle.worker.specs.declared.watching.Progress.{Progress}
use Rattle.builder.specs.Faults.{IsRunnerFailure, IsStoreFailure, fault_of}
use Rattle.builder.specs.declared.error.BuildPlanError.{BuildPlanError}
use Rattle.builder.specs.declared.error.BuildPlanError.TheVariants.{Opening, Step, Root}

-- the root, the Directories made for its tree, and the digests of the actions that finished
pub record BuiltValue : Type 0 where
  pub root : DigestValue
  pub directories : List (List ℕ)
  pub noted : RecordValue

-- The root and the Directories are those of the tree that the root's lines put together, each
-- distinct Directory that is made for it once, in the order of their first visits.
pub record AreRootOf (B : Blobs) (e : EngineValue) (b : BuiltValue) : Type 0 where
  pub tree : Tree NodeValue
  pub together : (together_in B e e.plan.root_lines).passes tree
  pub same : b.root ≡ root tree
  pub directories : b.directories ≡ first_visits tree

-- The root and the record are those of an engine in which each step has finished. The record is
-- answered yes with this root, wherever blobs and results serve the build.
pub record IsEnd (A : Type 0) (last : EngineValue) (told : Telling) (b : BuiltValue)
    : Type 0 where
  pub complete : HaveAllFinished last
  pub root : AreRootOf told.blobs last b
  pub noted : recorded_build last ≡ Some b.noted
  pub served : IsServedYes A told.blobs last b.root

-- By what the store told, the verdict on the record is yes: whatever the sources are, whatever the
-- steps mean and whatever actions come to, in a run that the engine mirrors. No two different ones
-- of the blobs that are told and of the Trees of the steps share a digest.
pub record IsAnsweredYes (A : Type 0) (told : Telling) (last : EngineValue)
    (b : BuiltValue) : Type 0 where
  pub of_run : (run : EngineRun) → IsMirrored told.blobs last run
      → NoClash (IsToldOrTree told.blobs last)
      → IsVerdict {A = A} told last.sources last.plan b.noted.digests b.root
      (Yes b.root (length last.plan.steps))

-- The store is asked at most once for each Directory that the root's lines need.
abbrev pub AsksRootOnce : EngineValue → Telling → Telling → Type 0
AsksRootOnce last old new = (list : List Asked) → Covers (RootNeeds new.blobs last) list
    → new.calls ≤ old.calls + length list

-- All that contracts see of a build's store, runner and watcher: what the store tells; which
-- children the runner may have started, how many weren't waited for, and how often it failed; and
-- what the watcher was told.
pub record Seen : Type 1 where
  pub store : Telling
  pub started : Starts
  pub alive : ℕ
  pub failed : ℕ
  pub heard : Option (List Progress)

abbrev pub seen : Telling → Starts → ℕ → ℕ → Option (List Progress) → Seen
seen store started alive failed heard = record {
  store = store;
  started = started;
  alive = alive;
  failed = failed;
  heard = heard;
}

module _ (A : Type 0) (yields : Yields) (most : ℕ) (plan : PlanValue) (sources : DigestValue)
    (old new : Seen) where
  -- A build of the plan: an engine was opened by what the store told as it was asked, for a frame
  -- and a command of each step; calls led from it to another, and then the store was only asked,
  -- for what the root's lines need. The children that were started, the results that were put and
  -- the numbers that the watcher was told, after each whole turn, are those of the calls.
  pub record Ran (first last : EngineValue) : Type 0 where
    pub opening : Telling
    pub asked : Asks (2 * length plan.steps) old.store opening
    pub opened : IsOpened opening.blobs plan sources first
    -- what the store told after the calls
    pub ending : Telling
    pub led : IsBuiltWith A yields old.started new.started opening ending most first last
    -- whole turns were taken; children's jobs finished in the order of their starts, and a result
    -- was put for each that finished in a whole turn
    pub whole : List Call
    pub turns : AreTurns whole
    pub in_order : FinishInOrder [] led.built.led.calls
    pub put : (more : List DigestValue) × (ending.puts ≡ (opening.puts ++ came_of whole) ++ more)
    pub of_plan : last.plan ≡ plan
    pub of_sources : last.sources ≡ sources
    -- what stands under the digest of no blob that the build has to put stays
    pub blobs : KeepsAllBut (IsOfBuild A yields ending last) opening.blobs ending.blobs
    -- each result was put under the action of a step of the plan
    pub own : AllByRecursion (λ d. (i : ℕ) × IsActionOf A ending.blobs last i d) led.built.puts.put
    pub watched : IsWatched (IsProgress A yields ending most first led.built.led.calls)
        (turns_in whole) old.heard new.heard
    pub later : AsksSome ending new.store
    pub once : AsksRootOnce last ending new.store

  -- A build came to its root: in turns each step has finished, and the store has what it came to.
  -- The root and the record are answered yes by what the store told.
  pub record ReachesRoot (first last : EngineValue) (ran : Ran first last) (b : BuiltValue)
      : Type 0 where
    pub all : ran.led.built.led.calls ≡ ran.whole
    pub end : IsEnd A last new.store b
    pub stored : IsStored new.store last
    pub answered : IsAnsweredYes A new.store last b
    pub unfailed : new.failed ≡ old.failed

  -- a build came to no root: in turns each step has finished, and the root is refused
  pub record RefusesRoot (first last : EngineValue) (ran : Ran first last) (error : RunsError A)
      : Type 0 where
    pub all : ran.led.built.led.calls ≡ ran.whole
    pub complete : HaveAllFinished last
    pub stands : IsRootFault new.store.blobs last error
    pub unfailed : new.failed ≡ old.failed

  -- The plan is refused, at its first step without a meaning: the store was only asked.
  pub record RefusesPlan (error : OpenError A) : Type 0 where
    pub asked : Asks (opening_calls (length plan.steps) error) old.store new.store
    pub stands : IsOpenFault new.store.blobs plan.steps error
    pub none : StartsNone old.started new.started
    pub unfailed : new.failed ≡ old.failed
    pub unheard : new.heard ≡ old.heard

  -- what a build came to: its root, or the refusal of a step, met by its own calls, or of the root
  abbrev pub EndsWith : (first last : EngineValue) → Ran first last
      → Result BuiltValue (BuildPlanError A) → Type 0
  EndsWith first last ran (Ok b) = ReachesRoot first last ran b
  EndsWith first last ran (Err (Opening error)) = ⊥
  EndsWith first last ran (Err (Step error)) = IsRefusedBuild A yields ran.opening new.store most
      ran.whole ran.led.built.led.calls first last error.step error.refusal
  EndsWith first last ran (Err (Root error)) = RefusesRoot first last ran error

  -- what came of the plan: it was refused, or one build of it ran and came to this
  abbrev pub Builds : Result BuiltValue (BuildPlanError A) → Type 0
  Builds (Err (Opening error)) = RefusesPlan error
  Builds came = (first : EngineValue) × (last : EngineValue) × (ran : Ran first last)
      × EndsWith first last ran came

-- What holds whatever a build answers. Each child that was started was waited for, and what the
-- store had under its own digest stays told. The store failed exactly where that is told, and the
-- runner at least there, and there alone where one job runs at once.
pub record EndsInOrder {T A : Type 0} (most : ℕ) (old new : Seen)
    (result : Result T (BuildPlanError A)) : Type 0 where
  pub alive : new.alive ≡ old.alive
  pub right : KeepsRight old.store.blobs new.store.blobs
  pub fetched : Counts old.store.failures new.store.failures
      (IsErrAnd result (λ e. IsStoreFailure (fault_of e)))
  pub device : IsErrAnd result (λ e. IsRunnerFailure (fault_of e)) → old.failed < new.failed
  pub alone : most ≡ 1
      → Counts old.failed new.failed (IsErrAnd result (λ e. IsRunnerFailure (fault_of e)))

-- a build came to this answer, as a relation says, and ends in order
pub record ComesInOrder {T A : Type 0}
    (Comes : Seen → Seen → Result T (BuildPlanError A) → Type 0) (most : ℕ) (old new : Seen)
    (result : Result T (BuildPlanError A)) : Type 0 where
  pub came : Comes old new result
  pub order : EndsInOrder most old new result
