-- Of which refusals a count tells, and what is told of a process that failed.
use Rattle.std.specs.Prelude.{◌≡◌, ◌+◌, ℕ, string_bytes}
use Rattle.runs.specs.declared.error.RunsError.TheVariants as runs
use Rattle.tree.specs.declared.error.TreeError.TheVariants as tree
use Rattle.worker.specs.declared.error.StepRefusal.{StepRefusal}
use Rattle.worker.specs.declared.error.StepRefusal.TheVariants as refusals
use Rattle.worker.specs.declared.laid.LayoutError.TheVariants as laying
use Rattle.worker.specs.declared.runner.RunError.{RunError}
use Rattle.worker.specs.declared.runner.RunError.TheVariants as children
use Rattle.worker.specs.Values.{EndValue, failed}

-- a count rose, by one, exactly where the answer says that something failed
pub record Counts (before after : ℕ) (fails : Type 0) : Type 0 where
  pub failed : fails → after ≡ before + 1
  pub unfailed : (fails → ⊥) → after ≡ before

-- the store failed
abbrev pub IsFetch : {A : Type 0} → StepRefusal A → Type 0
IsFetch refusals.Fetch = Unit {0}
IsFetch (refusals.Engine (runs.Source tree.Fetch)) = Unit {0}
IsFetch (refusals.Layout (laying.Source tree.Fetch)) = Unit {0}
IsFetch r = ⊥

-- the runner failed
abbrev pub IsFailure : {A : Type 0} → RunError A → Type 0
IsFailure (children.Device program cause) = Unit {0}
IsFailure e = ⊥

abbrev pub IsDevice : {A : Type 0} → StepRefusal A → Type 0
IsDevice (refusals.Run e) = IsFailure e
IsDevice r = ⊥

-- a failure, if the error tells of one, is one that may be: its program and its cause
abbrev pub TellsRunFailure : {A : Type 0} → (EndValue → Type 0) → RunError A → Type 0
TellsRunFailure May (children.Device program cause) = May (failed (string_bytes program) cause)
TellsRunFailure May e = Unit {0}
