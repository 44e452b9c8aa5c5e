-- The number of each refusal of a build, and what has none: a failure of the store or of the
-- runner, and lack of memory.
use Rattle.runs.specs.declared.error.OpenError.{OpenError}
use Rattle.runs.specs.declared.error.OpenError.TheVariants as opening
use Rattle.runs.specs.declared.error.RunsError.{RunsError}
use Rattle.runs.specs.declared.error.RunsError.TheVariants as runs
use Rattle.tree.specs.declared.error.TreeError.{TreeError}
use Rattle.tree.specs.declared.error.TreeError.TheVariants as tree
use Rattle.worker.specs.declared.error.StepRefusal.{StepRefusal}
use Rattle.worker.specs.declared.error.StepRefusal.TheVariants as refusals
use Rattle.worker.specs.declared.laid.LayoutError.{LayoutError}
use Rattle.worker.specs.declared.laid.LayoutError.TheVariants as layouts
use Rattle.worker.specs.declared.runner.RunError.{RunError}
use Rattle.worker.specs.declared.runner.RunError.TheVariants as children
use Rattle.builder.specs.declared.error.BuildPlanError.{BuildPlanError}
use Rattle.builder.specs.declared.error.BuildPlanError.TheVariants as errors
use Rattle.builder.specs.declared.fault.Fault.{Fault}
use Rattle.builder.specs.declared.fault.Fault.TheVariants.{Refused, Fetch, Device, Memory}
use Rattle.builder.specs.declared.fault.Place.{Place}
use Rattle.builder.specs.declared.fault.Place.TheVariants.{Step, Root}

-- whatever is wrong with a message that is fetched has one number
abbrev pub of_source : {A : Type 0} → Place → TreeError A → Fault
of_source place tree.Fetch = Fetch place
of_source place tree.Memory = Memory
of_source place _ = Refused place 107

abbrev pub of_opening : {A : Type 0} → OpenError A → Fault
of_opening (opening.Source i e) = of_source (Step i) e
of_opening (opening.DoNotCache i) = Refused (Step i) 108
of_opening opening.Memory = Memory

abbrev pub of_runs : {A : Type 0} → Place → RunsError A → Fault
of_runs place runs.NotReady = Refused place 101
of_runs place runs.NoSuchJob = Refused place 102
of_runs place (runs.ExitCode code) = Refused place 103
of_runs place runs.Disagrees = Refused place 104
of_runs place (runs.Unlisted path) = Refused place 105
of_runs place (runs.Origin path) = Refused place 106
of_runs place (runs.Source e) = of_source place e
of_runs place runs.Full = Refused place 109
of_runs place (runs.Conflict path) = Refused place 110
of_runs place runs.Memory = Memory

-- of what is laid out
abbrev pub of_told : {A : Type 0} → Place → TreeError A → Fault
of_told place (tree.Absent path) = Refused place 41
of_told place (tree.BlobMissing digest) = Refused place 42
of_told place (tree.BlobWrong digest) = Refused place 43
of_told place (tree.BlobMalformed digest) = Refused place 44
of_told place (tree.TooDeep path) = Refused place 46
of_told place (tree.Conflict path) = Refused place 47
of_told place tree.Fetch = Fetch place
of_told place tree.Memory = Memory

abbrev pub of_layout : {A : Type 0} → Place → LayoutError A → Fault
of_layout place (layouts.Source e) = of_told place e
of_layout place (layouts.LinkInput path) = Refused place 111
of_layout place layouts.Memory = Memory

-- of a child
abbrev pub of_run : {A : Type 0} → Place → RunError A → Fault
of_run place children.NotAbsolute = Refused place 112
of_run place (children.Device program cause) = Device place
of_run place (children.BadOutput path) = Refused place 114
of_run place children.Memory = Memory

abbrev pub of_refusal : {A : Type 0} → Place → StepRefusal A → Fault
of_refusal place (refusals.Engine e) = of_runs place e
of_refusal place (refusals.Layout e) = of_layout place e
of_refusal place (refusals.Run e) = of_run place e
of_refusal place refusals.Fetch = Fetch place
of_refusal place refusals.Memory = Memory

-- of a build
abbrev pub fault_of : {A : Type 0} → BuildPlanError A → Fault
fault_of (errors.Opening error) = of_opening error
fault_of (errors.Step error) = of_refusal (Step error.step) error.refusal
fault_of (errors.Root error) = of_runs Root error

-- a fault is no refusal with a number: the store or the runner failed, or memory ran out
abbrev pub HasNoNumber : Fault → Type 0
HasNoNumber (Refused place number) = ⊥
HasNoNumber _ = Unit {0}

-- the store failed
abbrev pub IsStoreFailure : Fault → Type 0
IsStoreFailure (Fetch place) = Unit {0}
IsStoreFailure _ = ⊥

-- the runner failed
abbrev pub IsRunnerFailure : Fault → Type 0
IsRunnerFailure (Device place) = Unit {0}
IsRunnerFailure _ = ⊥
