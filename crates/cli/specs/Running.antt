-- What the words come to, by what a command answers, and a build by its error: words of private
-- functions.
use Rattle.std.specs.Prelude.{◌≡◌, ℕ, List, Option}
use Rattle.std.specs.declared.alloc.Global.{Global}
use Rattle.builder.specs.declared.error.BuildPlanError.{BuildPlanError}
use Rattle.builder.specs.declared.error.BuildPlanError.TheVariants.{Step}
use Rattle.clap.specs.Words.{Text}
use Rattle.cli.specs.Built.{Below}
use Rattle.cli.specs.Ended.{IsDone, IsNo}
use Rattle.commands.specs.Told.{TellsNoteOf}
use Rattle.commands.specs.World.{Sight}
use Rattle.commands.specs.declared.ended.Ended.{Ended}
use Rattle.commands.specs.declared.ended.Ended.TheVariants.{Done, No}
use Rattle.worker.specs.declared.error.StepRefusal.TheVariants.{Run}
use Rattle.worker.specs.declared.runner.RunError.TheVariants.{Device}
use Rattle.cli.specs.declared.building.Stopped.{Stopped}

-- what was printed, by what it came to
abbrev pub Ends : Sight → Below → List Text → Option (List ℕ) → Option (List ℕ) → Ended → Type 0
Ends sees below words old new Done = IsDone sees below words old new
Ends sees below words old new (No note) = IsNo sees below words note old new

-- the status of what it came to, and what standard error was told of it
abbrev pub TellsEnd : Ended → ℕ → Option (List ℕ) → Option (List ℕ) → Type 0
TellsEnd Done status old new = (status ≡ 0) × (new ≡ old)
TellsEnd (No note) status old new = (status ≡ 1) × TellsNoteOf note old new

-- a build ended with this error: that process came to nothing
abbrev pub EndsFor : BuildPlanError Global → Stopped → Type 0
EndsFor error stopped = error ≡ Step (record {
  step = stopped.step;
  refusal = Run (Device stopped.program stopped.cause);
})
