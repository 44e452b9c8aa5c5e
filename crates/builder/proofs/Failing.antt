-- Which faults tell that the store failed, or the runner.
use Rattle.std.proofs.Common.{◌≡◌, ℕ, refl, subst, sym}
use Rattle.std.specs.Prelude.{Result, Ok, Err, IsErrOf}
use Rattle.std.specs.Result.{IsErrAnd}
use Rattle.std.proofs.lemmas.Result.{err_from_is_err_and}
use Rattle.runs.specs.declared.error.OpenError.{OpenError}
use Rattle.runs.specs.declared.error.OpenError.TheVariants as opening
use Rattle.runs.specs.declared.error.RunsError.TheVariants as runs
use Rattle.tree.specs.declared.error.TreeError.TheVariants as tree
use Rattle.worker.specs.Counted.{Counts, IsFetch, IsDevice}
use Rattle.worker.specs.declared.error.StepRefusal.{StepRefusal}
use Rattle.worker.specs.declared.error.StepRefusal.TheVariants as refusals
use Rattle.worker.specs.declared.laid.LayoutError.TheVariants as layouts
use Rattle.worker.specs.declared.runner.RunError.TheVariants as children
use Rattle.worker.proofs.Failures.{counts_as, counts_no}
use Rattle.builder.specs.Faults.{of_opening, of_refusal, fault_of, IsStoreFailure, IsRunnerFailure}
use Rattle.builder.specs.Built.{EndsInOrder, Seen}
use Rattle.builder.specs.declared.error.BuildPlanError.{BuildPlanError}
use Rattle.builder.specs.declared.error.BuildPlanError.TheVariants as errors
use Rattle.builder.specs.declared.fault.Fault.{Fault}
use Rattle.builder.specs.declared.fault.Fault.TheVariants.{Memory, Refused}
use Rattle.builder.specs.declared.fault.Place.{Place}

module _ {A : Type 0} (place : Place) where
  -- a fault tells of a failure of the store, or of the runner, where the refusal does
  tells : (r : StepRefusal A) → (IsStoreFailure (of_refusal place r) ≡ IsFetch r) × (IsRunnerFailure (of_refusal place r) ≡ IsDevice r)
  tells (refusals.Engine (runs.Source tree.Fetch)) = (refl, refl)
  tells (refusals.Engine (runs.Source (tree.Absent p))) = (refl, refl)
  tells (refusals.Engine (runs.Source (tree.BlobMissing d))) = (refl, refl)
  tells (refusals.Engine (runs.Source (tree.BlobWrong d))) = (refl, refl)
  tells (refusals.Engine (runs.Source (tree.BlobMalformed d))) = (refl, refl)
  tells (refusals.Engine (runs.Source (tree.TooDeep p))) = (refl, refl)
  tells (refusals.Engine (runs.Source (tree.Conflict p))) = (refl, refl)
  tells (refusals.Engine (runs.Source tree.Memory)) = (refl, refl)
  tells (refusals.Engine runs.NotReady) = (refl, refl)
  tells (refusals.Engine runs.NoSuchJob) = (refl, refl)
  tells (refusals.Engine (runs.ExitCode n)) = (refl, refl)
  tells (refusals.Engine runs.Disagrees) = (refl, refl)
  tells (refusals.Engine (runs.Unlisted q)) = (refl, refl)
  tells (refusals.Engine (runs.Origin q)) = (refl, refl)
  tells (refusals.Engine runs.Full) = (refl, refl)
  tells (refusals.Engine (runs.Conflict p)) = (refl, refl)
  tells (refusals.Engine runs.Memory) = (refl, refl)
  tells (refusals.Layout (layouts.Source tree.Fetch)) = (refl, refl)
  tells (refusals.Layout (layouts.Source (tree.Absent p))) = (refl, refl)
  tells (refusals.Layout (layouts.Source (tree.BlobMissing d))) = (refl, refl)
  tells (refusals.Layout (layouts.Source (tree.BlobWrong d))) = (refl, refl)
  tells (refusals.Layout (layouts.Source (tree.BlobMalformed d))) = (refl, refl)
  tells (refusals.Layout (layouts.Source (tree.TooDeep p))) = (refl, refl)
  tells (refusals.Layout (layouts.Source (tree.Conflict p))) = (refl, refl)
  tells (refusals.Layout (layouts.Source tree.Memory)) = (refl, refl)
  tells (refusals.Layout (layouts.LinkInput q)) = (refl, refl)
  tells (refusals.Layout layouts.Memory) = (refl, refl)
  tells (refusals.Run children.NotAbsolute) = (refl, refl)
  tells (refusals.Run (children.Device p cause)) = (refl, refl)
  tells (refusals.Run (children.BadOutput q)) = (refl, refl)
  tells (refusals.Run children.Memory) = (refl, refl)
  tells refusals.Fetch = (refl, refl)
  tells refusals.Memory = (refl, refl)

  pub counts_refusal : {a b : ℕ} (r : StepRefusal A) → Counts a b (IsFetch r) → Counts a b (IsStoreFailure (of_refusal place r))
  counts_refusal {a} {b} r h = subst (Counts a b) (sym (tells r).0) h

  pub device_refusal : (r : StepRefusal A) → IsRunnerFailure (of_refusal place r) → IsDevice r
  device_refusal r h = subst (λ F. F) (tells r).1 h

module _ {A : Type 0} {a b : ℕ} where
  pub counts_device : (place : Place) (r : StepRefusal A) → Counts a b (IsDevice r) → Counts a b (IsRunnerFailure (of_refusal place r))
  counts_device place r h = subst (λ F. Counts a b F) (sym (tells place r).1) h

  pub counts_opening : {T : Type 0} (e : OpenError A) → Counts a b ((i : ℕ) × IsErrOf {T = T} (Err e) (opening.Source i tree.Fetch)) → Counts a b (IsStoreFailure (of_opening e))
  counts_opening (opening.Source i tree.Fetch) h = counts_as (λ f. (i, refl)) (λ e. tt) h
  counts_opening (opening.Source i (tree.Absent p)) h = counts_no (λ e. let is = e.1 in cc) (λ f. f) h
  counts_opening (opening.Source i (tree.BlobMissing d)) h = counts_no (λ e. let is = e.1 in cc) (λ f. f) h
  counts_opening (opening.Source i (tree.BlobWrong d)) h = counts_no (λ e. let is = e.1 in cc) (λ f. f) h
  counts_opening (opening.Source i (tree.BlobMalformed d)) h = counts_no (λ e. let is = e.1 in cc) (λ f. f) h
  counts_opening (opening.Source i (tree.TooDeep p)) h = counts_no (λ e. let is = e.1 in cc) (λ f. f) h
  counts_opening (opening.Source i (tree.Conflict p)) h = counts_no (λ e. let is = e.1 in cc) (λ f. f) h
  counts_opening (opening.Source i tree.Memory) h = counts_no (λ e. let is = e.1 in cc) (λ f. f) h
  counts_opening (opening.DoNotCache i) h = counts_no (λ e. let is = e.1 in cc) (λ f. f) h
  counts_opening opening.Memory h = counts_no (λ e. let is = e.1 in cc) (λ f. f) h

-- no runner is asked where an engine is opened
pub opening_no_device : {A : Type 0} (e : OpenError A) → IsRunnerFailure (of_opening e) → ⊥
opening_no_device (opening.Source i tree.Fetch) f = f
opening_no_device (opening.Source i (tree.Absent p)) f = f
opening_no_device (opening.Source i (tree.BlobMissing d)) f = f
opening_no_device (opening.Source i (tree.BlobWrong d)) f = f
opening_no_device (opening.Source i (tree.BlobMalformed d)) f = f
opening_no_device (opening.Source i (tree.TooDeep p)) f = f
opening_no_device (opening.Source i (tree.Conflict p)) f = f
opening_no_device (opening.Source i tree.Memory) f = f
opening_no_device (opening.DoNotCache i) f = f
opening_no_device opening.Memory f = f

-- the exit of a `?`
pub exit_device : {U E X : Type 0} (Is : E → Type 0) (x : E) (r : Result U E) → IsErrAnd r (λ y. y ≡ x) → (Is x → X) → IsErrAnd r Is → X
exit_device Is x r exit by f =
    let p = err_from_is_err_and r exit in
    by (subst Is p.2 (subst (λ q. IsErrAnd q Is) p.1 f))

-- ---- that a build ends in order, of another answer

-- it tells of no failure, of the store or of the runner
module _ {A T : Type 0} where
  abbrev pub IsQuiet : Result T (BuildPlanError A) → Type 1
  IsQuiet r = (F : Fault → Type 0) → (F Memory → ⊥) → ((place : Place) (number : ℕ) → F (Refused place number) → ⊥) → IsErrAnd r (λ e. F (fault_of e)) → ⊥

  pub quiet_ok : (r : Result T (BuildPlanError A)) (v : T) → r ≡ Ok v → IsQuiet r
  quiet_ok r v is F memory refused f = subst (λ q. IsErrAnd q (λ e. F (fault_of e))) is f

  pub quiet_memory : (r : Result T (BuildPlanError A)) → IsErrAnd r (λ x. x ≡ errors.Root runs.Memory) → IsQuiet r
  quiet_memory r exit F memory refused f = exit_device (λ e. F (fault_of e)) (errors.Root runs.Memory) r exit memory f

  pub quiet_refused : (r : Result T (BuildPlanError A)) (e : BuildPlanError A) (place : Place) (number : ℕ) → r ≡ Err e → fault_of e ≡ Refused place number → IsQuiet r
  quiet_refused r e place number is fault F memory refused f = refused place number (subst F fault (subst (λ q. IsErrAnd q (λ e. F (fault_of e))) is f))

module _ {A T U : Type 0} {most : ℕ} {old new : Seen} where
  pub order_quiet : {r : Result T (BuildPlanError A)} (s : Result U (BuildPlanError A)) → EndsInOrder most old new r → IsQuiet r → IsQuiet s → EndsInOrder most old new s
  order_quiet {r} s h was is =
      let store = was IsStoreFailure (λ f. f) (λ place number f. f) in
      let store' = is IsStoreFailure (λ f. f) (λ place number f. f) in
      let runner = was IsRunnerFailure (λ f. f) (λ place number f. f) in
      let runner' = is IsRunnerFailure (λ f. f) (λ place number f. f) in
      record {
        alive = h.alive;
        right = h.right;
        fetched = counts_no store store' h.fetched;
        device = λ f. absurd (runner' f);
        alone = λ one. counts_no runner runner' (h.alone one);
      }
