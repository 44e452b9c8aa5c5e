-- Why `build` ends without its line: the first fault, in the order jobs, one path for plan and
-- record, server, digest, plan, connection, folder, record and work. Of a file, that it can't be
-- read comes before what is wrong in its text.
use Rattle.std.specs.Prelude.{◌≡◌, ◌⊎◌, ◌<◌, ℕ, List, [], length, Result, Ok, Err, codes}
use Rattle.std.specs.Prelude.{string_bytes}
use Rattle.std.specs.IoError.{error_kind}
use Rattle.std.specs.declared.alloc.Global.{Global}
use Rattle.std.specs.declared.io.ErrorKind.TheVariants.{DirectoryNotEmpty}
use Rattle.std.specs.declared.string.String.{String}
use Rattle.blob_digest.specs.Digest.{DigestValue}
use Rattle.builder.specs.Faults.{IsStoreFailure, fault_of}
use Rattle.builder.specs.Lines.{place_text}
use Rattle.builder.specs.declared.error.BuildPlanError.{BuildPlanError}
use Rattle.builder.specs.declared.error.BuildPlanError.TheVariants as errors
use Rattle.builder.specs.declared.fault.Place.TheVariants.{Step}
use Rattle.builder.specs.declared.telling.Told.{Told}
use Rattle.clap.specs.Words.{Row}
use Rattle.command_lines.specs.CommandLine.{option_text}
use Rattle.commands.specs.Faults.{IsDigestFault, IsFaultAtPath, OrMemory, error_of_file}
use Rattle.commands.specs.Places.{FailsOver, FailsToConnect, puts_too}
use Rattle.commands.specs.Printed.{IsConnectedTo}
use Rattle.commands.specs.Refusal.{FailsPlan, IsPrintFault}
use Rattle.commands.specs.Words.{AllValid, FailsFirst}
use Rattle.commands.specs.World.{Sight}
use Rattle.commands.specs.declared.ended.Ended.TheVariants.{Done}
use Rattle.commands.specs.declared.error.CommandError.{CommandError}
use Rattle.commands.specs.declared.error.CommandError.TheVariants.{Memory, Process}
use Rattle.commands.specs.declared.process_fault.ProcessCause.{ProcessCause}
use Rattle.commands.specs.declared.process_fault.ProcessCause.TheVariants.{Signal, Unread}
use Rattle.commands.specs.declared.process_fault.ProcessCause.TheVariants.{Unstarted, Unwaited}
use Rattle.plan.specs.Values.{PlanValue}
use Rattle.remote.specs.Line.{ConnectionValue}
use Rattle.remote.specs.declared.files.FileError.{FileError}
use Rattle.text_verifier.specs.Refused.{IsSpelled}
use Rattle.worker.specs.declared.error.StepRefusal.TheVariants.{Run}
use Rattle.worker.specs.declared.failure.FailureCause.{FailureCause}
use Rattle.worker.specs.declared.failure.FailureCause.TheVariants as causes
use Rattle.worker.specs.declared.runner.RunError.TheVariants.{Device}
use Rattle.cli.specs.Built.{AsksBuild, Below, IsNoted, IsToldBy, Processes, StartsBuild, TellsAsked}
use Rattle.cli.specs.Built.{build_words, ended_of, jobs_asked}

-- the folder at this path has something in it
pub record HasEntries (sees : Sight) (path : List ℕ) (e : CommandError) : Type 0 where
  pub names : List (List ℕ)
  pub some : 0 < length names
  pub listed : sees.lists path names
  pub told : IsFaultAtPath path (λ fault. error_kind fault ≡ DirectoryNotEmpty) e

-- what stands at this path can't be read, or can't be written
abbrev pub FailsAtPath : Sight → List ℕ → CommandError → Type 0
FailsAtPath sees path e = (f : FileError Global) × sees.fails path f × (e ≡ error_of_file f)

-- no file could be written at this path, or memory ran out
abbrev pub FailsToWrite : Sight → List ℕ → CommandError → Type 0
FailsToWrite sees path = OrMemory (IsFaultAtPath path (sees.unwritten path))

-- no folder at the path can be listed, or it isn't empty, or memory ran out
abbrev pub FailsFolder : Sight → List ℕ → CommandError → Type 0
FailsFolder sees path = OrMemory (λ e. HasEntries sees path e
    ⊎ ((f : FileError Global) × sees.unlisted path f × (e ≡ error_of_file f)))

-- the cause for which a process came to nothing, as an error tells it
abbrev pub process_cause : FailureCause → ProcessCause
process_cause (causes.Unstarted fault) = Unstarted fault
process_cause (causes.Unwaited fault) = Unwaited fault
process_cause (causes.Unread fault) = Unread fault
process_cause (causes.Signal number) = Signal number

-- the error tells of a process of this program, at this step of the plan, and of the cause
abbrev pub TellsProcess : PlanValue → ℕ → List ℕ → FailureCause → CommandError → Type 0
TellsProcess plan step program cause (Process fault) =
    (string_bytes fault.place ≡ place_text plan.steps (Step step))
    × (string_bytes fault.program ≡ program) × (fault.cause ≡ process_cause cause)
TellsProcess plan step program cause _ = ⊥

-- By what the server told over the connection, and by these processes, a build of the plan ended at
-- a step, of which a process of this program came to nothing for this cause. The error tells all
-- three.
pub record StopsAtProcess (start : ConnectionValue) (processes : Processes) (most : ℕ)
    (plan : PlanValue) (sources : DigestValue) (e : CommandError) : Type 0 where
  pub step : ℕ
  pub program : String Global
  pub cause : FailureCause
  pub ended : IsToldBy start processes most plan sources
      (Err (errors.Step (record { step = step; refusal = Run (Device program cause) })))
  pub told : TellsProcess plan step (string_bytes program) cause e

-- a call of a build failed, or it came to its root, whose Directories were to be put
abbrev pub EndsAtServer : Result (Told Global) (BuildPlanError Global) → Type 0
EndsAtServer (Ok told) = ended_of told ≡ Done
EndsAtServer (Err error) = IsStoreFailure (fault_of error)

-- By what the server told over the connection, and by these processes, a build of the plan ended
-- so, and the error tells of a request that the server at the address refused.
pub record StopsAtRequest (start : ConnectionValue) (address : List ℕ) (processes : Processes)
    (most : ℕ) (plan : PlanValue) (sources : DigestValue) (e : CommandError) : Type 0 where
  pub came : Result (Told Global) (BuildPlanError Global)
  pub is : EndsAtServer came
  pub ended : IsToldBy start processes most plan sources came
  pub told : ∥ FailsOver puts_too start address e ∥₁

-- memory ran out, or a process was at fault, or the server at the address, over the connection that
-- stood so at first
abbrev pub FailsTelling : ConnectionValue → List ℕ → Processes → ℕ → PlanValue → DigestValue
    → CommandError → Type 0
FailsTelling start address processes most plan sources =
    OrMemory (λ e. StopsAtProcess start processes most plan sources e
    ⊎ StopsAtRequest start address processes most plan sources e)

-- what is asked for can be built, and a connection to the server was opened
pub record ReachesServer (sees : Sight) (options : List Row) : Type 0 where
  pub plan : PlanValue
  pub sources : DigestValue
  pub asks : AsksBuild sees options plan sources
  pub start : ConnectionValue
  pub opened : IsConnectedTo sees options start

-- The first fault: what comes before it has none. That memory is wanting may come anywhere, and is
-- told as that.
pub data FailsBuild (sees : Sight) (below : Below) (options : List Row) (e : CommandError)
    : Type 0 where
  in_memory : e ≡ Memory → FailsBuild sees below options e
  in_words : FailsFirst (build_words options) e → FailsBuild sees below options e
  in_digest : AllValid (build_words options)
      → IsDigestFault (codes "sources") (option_text options (codes "sources")) e
      → FailsBuild sees below options e
  in_plan : AllValid (build_words options) → IsSpelled (option_text options (codes "sources"))
      → FailsPlan sees options e → FailsBuild sees below options e
  in_connection : (plan : PlanValue) (sources : DigestValue) → AsksBuild sees options plan sources
      → FailsToConnect sees (option_text options (codes "server")) e
      → FailsBuild sees below options e
  in_folder : ReachesServer sees options → FailsFolder sees (option_text options (codes "work")) e
      → FailsBuild sees below options e
  in_place : ReachesServer sees options → sees.lists (option_text options (codes "work")) []
      → FailsAtPath sees (option_text options (codes "record")) e → FailsBuild sees below options e
  in_request : (plan : PlanValue) (sources : DigestValue) → StartsBuild sees options plan sources
      → (start : ConnectionValue) → IsConnectedTo sees options start
      → StopsAtRequest start (option_text options (codes "server"))
      (below (option_text options (codes "work"))) (jobs_asked options) plan sources e
      → FailsBuild sees below options e
  in_process : (plan : PlanValue) (sources : DigestValue) → StartsBuild sees options plan sources
      → (start : ConnectionValue) → IsConnectedTo sees options start
      → StopsAtProcess start (below (option_text options (codes "work"))) (jobs_asked options)
      plan sources e → FailsBuild sees below options e
  in_record : (told : Told Global) → TellsAsked sees below options told → ended_of told ≡ Done
      → FailsToWrite sees (option_text options (codes "record")) e → FailsBuild sees below options e
  in_output : (told : Told Global) → TellsAsked sees below options told → IsNoted sees options told
      → IsPrintFault e → FailsBuild sees below options e
