-- What calls counted, one after another.
use Rattle.std.proofs.Common.{◌≡◌, ◌+◌, ◌≤◌, ℕ, ap, refl, ◌∙◌, sym, subst, arith}
use Rattle.std.specs.Prelude.{Result, Ok, Err, IfErr, IsErrOf}
use Rattle.std.specs.Result.{IsErrAnd}
use Rattle.std.proofs.lemmas.Result.{err_from_is_err_and}
use Rattle.blob_source.specs.Called.{Calls}
use Rattle.blob_source.specs.Source.{Telling}
use Rattle.blob_source.specs.declared.source.FetchError.{FetchError}
use Rattle.blob_source.specs.declared.source.FetchError.TheVariants as fetching
use Rattle.actions.specs.Outcome.{OutcomeValue}
use Rattle.tree.specs.declared.error.TreeError.TheVariants as tree
use Rattle.runs.specs.Calls.{IsFinishFault}
use Rattle.runs.specs.Engine.{EngineValue}
use Rattle.runs.specs.declared.error.RunsError.{RunsError}
use Rattle.runs.specs.declared.error.RunsError.TheVariants as runs
use Rattle.worker.specs.declared.error.StepRefusal.{StepRefusal}
use Rattle.worker.specs.declared.error.StepRefusal.TheVariants as refusals
use Rattle.worker.specs.declared.laid.LayoutError.{LayoutError}
use Rattle.worker.specs.declared.laid.LayoutError.TheVariants as laying
use Rattle.worker.specs.declared.runner.RunError.{RunError}
use Rattle.worker.specs.declared.runner.RunError.TheVariants as children
use Rattle.worker.specs.Stopped.{IsStoreFault}
use Rattle.worker.specs.Counted.{Counts, IsFetch, IsFailure, IsDevice}
use Rattle.worker.specs.Refusals.{of_fetch}

module _ {a b : ℕ} where
  pub counts_as : {F G : Type 0} → (G → F) → (F → G) → Counts a b F → Counts a b G
  counts_as from to h = record { failed = λ g. h.failed (from g); unfailed = λ other. h.unfailed (λ f. other (to f)) }

  -- the exit of a `?`
  pub counts_exit : {U E : Type 0} {x : E} (P : E → Type 0) (r : Result U E) → IsErrAnd r (λ y. y ≡ x) → Counts a b (P x) → Counts a b (IsErrAnd r P)
  counts_exit {U} {E} {x} P r exit h =
      let p = err_from_is_err_and r exit in
      subst (λ q. Counts a b (IsErrAnd q P)) (sym p.1) (subst (λ y. Counts a b (P y)) (sym p.2) h)

  -- neither failed
  pub counts_no : {F G : Type 0} → (F → ⊥) → (G → ⊥) → Counts a b F → Counts a b G
  counts_no none none' h = counts_as (λ g. absurd (none' g)) (λ f. absurd (none f)) h

  pub counts_put : {T : Type 0} (A : Type 0) (e : FetchError) → Counts a b (IsErrOf {T = T} (Err e) fetching.Failed) → Counts a b (IsFetch (of_fetch {A = A} e))
  counts_put A fetching.Failed h = record { failed = λ f. h.failed refl; unfailed = λ none. absurd (none tt) }
  counts_put A fetching.Memory h = record { failed = λ f. absurd f; unfailed = λ none. h.unfailed (λ e. cc) }

pub counts_none : {n : ℕ} {F : Type 0} → (F → ⊥) → Counts n n F
counts_none none = record { failed = λ f. absurd (none f); unfailed = λ other. refl }

pub counts_calls : {does : Telling → Telling → Type 0} {t u : Telling} {F : Type 0} → Calls does t u F → Counts t.failures u.failures F
counts_calls h = record { failed = h.failed; unfailed = h.unfailed }

module _ {a b : ℕ} where
  -- nothing was counted
  pub counts_same : {F : Type 0} → (F → ⊥) → b ≡ a → Counts a b F
  counts_same none same = record { failed = λ f. absurd (none f); unfailed = λ other. same }

  pub counts_from : {c : ℕ} {F : Type 0} → b ≡ a → Counts b c F → Counts a c F
  counts_from same k = record {
    failed = λ f. k.failed f ∙ ap (λ n. n + 1) same;
    unfailed = λ other. k.unfailed other ∙ same;
  }

  pub counts_layout : {A T : Type 0} (e : LayoutError A) → Counts a b (IsErrOf {T = T} (Err e) (laying.Source tree.Fetch)) → Counts a b (IsFetch (refusals.Layout e))
  counts_layout (laying.Source tree.Fetch) h = record { failed = λ f. h.failed refl; unfailed = λ none. absurd (none tt) }
  counts_layout (laying.Source (tree.Absent p)) h = counts_no (λ e. cc) (λ f. f) h
  counts_layout (laying.Source (tree.BlobMissing d)) h = counts_no (λ e. cc) (λ f. f) h
  counts_layout (laying.Source (tree.BlobWrong d)) h = counts_no (λ e. cc) (λ f. f) h
  counts_layout (laying.Source (tree.BlobMalformed d)) h = counts_no (λ e. cc) (λ f. f) h
  counts_layout (laying.Source (tree.TooDeep p)) h = counts_no (λ e. cc) (λ f. f) h
  counts_layout (laying.Source (tree.Conflict p)) h = counts_no (λ e. cc) (λ f. f) h
  counts_layout (laying.Source tree.Memory) h = counts_no (λ e. cc) (λ f. f) h
  counts_layout (laying.LinkInput p) h = counts_no (λ e. cc) (λ f. f) h
  counts_layout (laying.Memory) h = counts_no (λ e. cc) (λ f. f) h

  pub counts_engine : {A T : Type 0} (e : RunsError A) → Counts a b (IsErrOf {T = T} (Err e) (runs.Source tree.Fetch)) → Counts a b (IsFetch (refusals.Engine e))
  counts_engine (runs.Source tree.Fetch) h = record { failed = λ f. h.failed refl; unfailed = λ none. absurd (none tt) }
  counts_engine (runs.Source (tree.Absent p)) h = counts_no (λ e. cc) (λ f. f) h
  counts_engine (runs.Source (tree.BlobMissing d)) h = counts_no (λ e. cc) (λ f. f) h
  counts_engine (runs.Source (tree.BlobWrong d)) h = counts_no (λ e. cc) (λ f. f) h
  counts_engine (runs.Source (tree.BlobMalformed d)) h = counts_no (λ e. cc) (λ f. f) h
  counts_engine (runs.Source (tree.TooDeep p)) h = counts_no (λ e. cc) (λ f. f) h
  counts_engine (runs.Source (tree.Conflict p)) h = counts_no (λ e. cc) (λ f. f) h
  counts_engine (runs.Source tree.Memory) h = counts_no (λ e. cc) (λ f. f) h
  counts_engine (runs.NotReady) h = counts_no (λ e. cc) (λ f. f) h
  counts_engine (runs.NoSuchJob) h = counts_no (λ e. cc) (λ f. f) h
  counts_engine (runs.ExitCode n) h = counts_no (λ e. cc) (λ f. f) h
  counts_engine (runs.Disagrees) h = counts_no (λ e. cc) (λ f. f) h
  counts_engine (runs.Unlisted p) h = counts_no (λ e. cc) (λ f. f) h
  counts_engine (runs.Origin p) h = counts_no (λ e. cc) (λ f. f) h
  counts_engine (runs.Full) h = counts_no (λ e. cc) (λ f. f) h
  counts_engine (runs.Conflict p) h = counts_no (λ e. cc) (λ f. f) h
  counts_engine (runs.Memory) h = counts_no (λ e. cc) (λ f. f) h

  -- whatever a child came to, no failure is forgotten
  pub counts_risen : {A T : Type 0} (r : Result T (RunError A)) → Counts a b (IsErrAnd r IsFailure) → a ≤ b
  counts_risen (Ok x) h = let same = h.unfailed (λ f. f) in omega (arith, same)
  counts_risen (Err (children.Device p cause)) h = let rises = h.failed tt in omega (arith, rises)
  counts_risen (Err children.NotAbsolute) h = let same = h.unfailed (λ f. f) in omega (arith, same)
  counts_risen (Err (children.BadOutput p)) h = let same = h.unfailed (λ f. f) in omega (arith, same)
  counts_risen (Err children.Memory) h = let same = h.unfailed (λ f. f) in omega (arith, same)

-- an engine that doesn't take an outcome asks no store
pub finish_no_fetch : {A : Type 0} (e : EngineValue) (w : ℕ) (v : OutcomeValue) (why : RunsError A) → IsFinishFault e w v why → IsFetch (refusals.Engine why) → ⊥
finish_no_fetch e w v (runs.Source why) (j, at, c, of_step, fault) f = fault.1
finish_no_fetch e w v runs.NotReady h f = f
finish_no_fetch e w v runs.NoSuchJob h f = f
finish_no_fetch e w v (runs.ExitCode n) h f = f
finish_no_fetch e w v runs.Disagrees h f = f
finish_no_fetch e w v (runs.Unlisted p) h f = f
finish_no_fetch e w v (runs.Origin p) h f = f
finish_no_fetch e w v runs.Full h f = f
finish_no_fetch e w v (runs.Conflict p) h f = f
finish_no_fetch e w v runs.Memory h f = f

pub store_no_device : {A : Type 0} (r : StepRefusal A) → IsStoreFault r → IsDevice r → ⊥
store_no_device (refusals.Run why) h f = h
store_no_device (refusals.Engine why) h f = f
store_no_device (refusals.Layout why) h f = f
store_no_device refusals.Fetch h f = f
store_no_device refusals.Memory h f = f

pub put_no_device : {A T : Type 0} (r : Result T (StepRefusal A)) → IfErr r IsStoreFault → IsErrAnd r IsDevice → ⊥
put_no_device (Ok x) h f = f
put_no_device (Err r) h f = store_no_device r h f
