-- That a build ran, and what is told of it; and where each step has finished there is a record.
use Rattle.std.proofs.Common.{◌≡◌, ◌≤◌, ◌+◌, ℕ, ◌*◌, arith, List, [], ◌∷◌, ◌++◌, length, Option, Some, None, Result, refl, ap, inr, ◌∙◌}
use Rattle.std.specs.Prelude.{IsSome, option_map}
use Rattle.std.specs.List.{AllByRecursion}
use Rattle.std.specs.Result.{IsErrAnd}
use Rattle.std.proofs.lemmas.Result.{err_from_is_err_and}
use Rattle.blob_digest.specs.Digest.{DigestValue}
use Rattle.blob_source.specs.Source.{Asks, AsksSome, Telling}
use Rattle.plan.specs.Record.{RecordValue, names_of}
use Rattle.plan.specs.Values.{PlanValue}
use Rattle.runs.specs.Calls.{HaveAllFinished, IsOpened, kept_digests, recorded_build}
use Rattle.runs.specs.Engine.{FinishedValue, EngineValue}
use Rattle.tree.specs.Memo.{Asked, Covers, Known, KnowsNothing, Learns}
use Rattle.tree.proofs.Learning.{nothing_known}
use Rattle.worker.specs.Calls.{Call, AreTurns, running, IsBuiltWith, came_of}
use Rattle.worker.specs.Outcomes.{Yields}
use Rattle.worker.specs.Watching.{FinishInOrder, IsProgress, IsWatched, turns_in}
use Rattle.worker.specs.Steps.{IsOfBuild}
use Rattle.worker.specs.Stored.{KeepsAllBut}
use Rattle.worker.proofs.Acts.{led_same, puts_act}
use Rattle.builder.specs.Built.{AsksRootOnce, Builds, BuiltValue, Ran, Seen}
use Rattle.builder.specs.Telling.{CanBeTold, IsBuildTold}
use Rattle.builder.specs.declared.error.BuildPlanError.{BuildPlanError}
use Rattle.builder.specs.declared.error.BuildPlanError.TheVariants as errors
use Rattle.runs.specs.declared.error.RunsError.TheVariants as runs
use Rattle.builder.specs.declared.telling.Told.{Told}
use Rattle.builder.proofs.Serving.{none_finished}

abbrev pub ran_by : (A : Type 0) (y : Yields) (most : ℕ) (plan : PlanValue) (sources : DigestValue) (old new : Seen) (opening ending : Telling) (first last : EngineValue) → Asks (2 * length plan.steps) old.store opening → IsOpened opening.blobs plan sources first
    → (led : IsBuiltWith A y old.started new.started opening ending most first last) → FinishInOrder [] led.built.led.calls → (whole : List Call) → AreTurns whole → (more : List DigestValue) × (ending.puts ≡ (opening.puts ++ came_of whole) ++ more) → KeepsAllBut (IsOfBuild A y ending last) opening.blobs ending.blobs → IsWatched (IsProgress A y ending most first led.built.led.calls) (turns_in whole) old.heard new.heard → AsksSome ending new.store → AsksRootOnce last ending new.store → Ran A y most plan sources old new first last
ran_by A y most plan sources old new opening ending first last asked opened led in_order whole turns put blobs watched later once =
    let same = led_same A y ending most led.built.led in
    record {
      opening = opening;
      asked = asked;
      opened = opened;
      ending = ending;
      led = led;
      whole = whole;
      turns = turns;
      in_order = in_order;
      put = put;
      blobs = blobs;
      of_plan = same.plan ∙ opened.plan;
      of_sources = same.sources ∙ opened.sources;
      own = puts_act A y ending most opening first last led.built (none_finished first opened.none_finished) (ap running opened.none_runs);
      watched = watched;
      later = later;
      once = once;
    }

-- memory ran out as it was told
pub memory_told : {A : Type 0} (y : Yields) (most : ℕ) (plan : PlanValue) (sources : DigestValue) (old new : Seen) (came : Result BuiltValue (BuildPlanError A)) → Builds A y most plan sources old new came → CanBeTold came
    → (r : Result (Told A) (BuildPlanError A)) → IsErrAnd r (λ x. x ≡ errors.Root runs.Memory) → IsBuildTold y most plan sources old new r
memory_told y most plan sources old new came builds has r exit =
    let p = err_from_is_err_and r exit in
    rw (p.1, p.2) (record { came = came; builds = builds; tells = record { unnumbered = tt; is = inr (has, refl) } })

kept_all : (fs : List (Option FinishedValue)) → AllByRecursion IsSome fs → (ds : List DigestValue) × (kept_digests fs ≡ Some ds)
kept_all [] all = ([], refl)
kept_all (None ∷ fs) all = absurd (let none = all.0 in cc)
kept_all (Some f ∷ fs) all = let rest = kept_all fs all.1 in (f.action ∷ rest.0, ap (option_map (λ ds. f.action ∷ ds)) rest.1)

pub none_recorded : (e : EngineValue) → HaveAllFinished e → None ≡ recorded_build e → ⊥
none_recorded e all none =
    let kept = kept_all e.finished all in
    let there = none ∙ ap (option_map {U = RecordValue} (λ ds. record { names = names_of e.plan; digests = ds })) kept.1 in
    cc

-- what is asked for the root, by a memo that knew nothing
pub root_once : {Looks : Asked → Type 0} {refused : Type 0} {known after : Known} {old new : Telling} → KnowsNothing known → Learns Looks refused known after old new
    → (list : List Asked) → Covers Looks list → new.calls ≤ old.calls + length list
root_once nothing learns list covers = let all = nothing_known nothing list in let few = learns.once list covers in omega (arith, all, few)
