-- What `build` prints.
use Rattle.std.specs.Prelude.{◌≡◌, ◌≢◌, ◌⊎◌, ◌<◌, ℕ, List, [], ◌∷◌, Option, Some}
use Rattle.std.specs.Prelude.{None, Result, Ok, bytes_eq, codes, if◌then◌else◌, string_bytes}
use Rattle.std.specs.Result.{IsErrAnd}
use Rattle.std.specs.Io.KnownBytes.{Appends}
use Rattle.std.specs.declared.alloc.Global.{Global}
use Rattle.blob_digest.specs.Digest.{DigestValue}
use Rattle.blob_source.specs.Memory.{TellsNothing}
use Rattle.blob_source.specs.Source.{Telling}
use Rattle.builder.specs.Built.{Seen, seen}
use Rattle.builder.specs.Faults.{IsStoreFailure, fault_of}
use Rattle.builder.specs.Telling.{IsBuildTold}
use Rattle.builder.specs.declared.error.BuildPlanError.{BuildPlanError}
use Rattle.cli.specs.declared.building.BuildRequest.{BuildRequest}
use Rattle.builder.specs.declared.telling.Told.{Told}
use Rattle.builder.specs.declared.telling.Told.TheVariants.{Built, Failed}
use Rattle.clap.specs.Words.{Row}
use Rattle.command_lines.specs.CommandLine.{option_text}
use Rattle.commands.specs.Options.{IsServerOf, decimal_number, number_or}
use Rattle.commands.specs.Places.{IsToldOver, puts_too}
use Rattle.commands.specs.Printed.{IsConnectedTo}
use Rattle.commands.specs.Refusal.{HasPlanRead}
use Rattle.commands.specs.Told.{AppendsBeginning}
use Rattle.commands.specs.Words.{AllValid, Check, IsUpTo, else_told, is_expected, server_words}
use Rattle.commands.specs.Words.{where_said}
use Rattle.commands.specs.World.{Sight}
use Rattle.commands.specs.declared.ended.Ended.{Ended}
use Rattle.commands.specs.declared.ended.Ended.TheVariants.{Done, No}
use Rattle.commands.specs.declared.ended.Note.TheVariants.{Refused}
use Rattle.plan.specs.Values.{PlanValue}
use Rattle.processes.specs.declared.disk.ChildErrors.{ChildErrors}
use Rattle.processes.specs.declared.disk.ChildErrors.TheVariants.{Discarded, Shown}
use Rattle.remote.specs.Line.{ConnectionValue}
use Rattle.text_verifier.specs.Texts.{IsDigestText}
use Rattle.worker.specs.Counted.{Counts}
use Rattle.worker.specs.Outcomes.{HasAllRight, Yields}
use Rattle.worker.specs.Values.{Starts}
use Rattle.tree.specs.Folded.{items_of}

-- What is known of the processes that run below a folder: what may come of one; and which were
-- started there, one after another, and each waited for. Only the end of their runner tells that.
pub record Processes : Type 1 where
  pub yields : Yields
  pub ran : Starts

abbrev pub Below : Type 1
Below = List ℕ → Processes

-- What a store tells as no process was started yet, and as these ran. Nothing is said of failures
-- of their runner, nor of a watcher.
abbrev pub at_first : Telling → Seen
at_first told = seen told (λ started. started ≡ []) 0 0 None

abbrev pub at_last : Processes → Telling → Seen
at_last processes told = seen told processes.ran 0 0 None

-- By what the server told over the connection that stood so at first, where nothing was told
-- before, and by all the processes that ran, this is told of a build of the plan, at most so many
-- jobs running after each call: of the root, which is answered yes, or of the refusal that stands.
-- A call of the server failed, one, exactly where it tells that.
pub record IsToldBy (start : ConnectionValue) (processes : Processes) (most : ℕ) (plan : PlanValue)
    (sources : DigestValue) (told : Result (Told Global) (BuildPlanError Global)) : Type 0 where
  pub before : Telling
  pub nothing : TellsNothing before
  pub after : Telling
  pub over : ∥ IsToldOver puts_too start after ∥₁
  pub is : IsBuildTold processes.yields most plan sources (at_first before)
      (at_last processes after) told
  pub failed : Counts before.failures after.failures
      (IsErrAnd told (λ e. IsStoreFailure (fault_of e)))

-- Each Directory that was made for the root of a build that came to its root was later told over
-- the connection, and no result was put since.
abbrev pub HoldsRoot : ConnectionValue → Telling → Told Global → Type 0
HoldsRoot start after (Built line noted directories) = (told : Telling)
    × (∥ IsToldOver puts_too start told ∥₁) × (told.puts ≡ after.puts)
    × HasAllRight told.blobs (items_of directories.items)
HoldsRoot start after (Failed line why) = Unit {0}

-- what was told is of a build over the connection, and the Directories of its root are there
pub record IsToldOf (start : ConnectionValue) (processes : Processes) (most : ℕ) (plan : PlanValue)
    (sources : DigestValue) (told : Told Global) : Type 0 where
  pub by : IsToldBy start processes most plan sources (Ok told)
  pub holds : HoldsRoot start by.after told

-- done where it came to its root; else no, with why as its note
abbrev pub ended_of : Told Global → Ended
ended_of (Built line noted directories) = Done
ended_of (Failed line why) = No (Some (Refused why))

abbrev pub told_line : Told Global → List ℕ
told_line (Built line noted directories) = string_bytes line
told_line (Failed line why) = string_bytes line

-- the record of a build that came to its root was written to the file that the options name
abbrev pub IsNoted : Sight → List Row → Told Global → Type 0
IsNoted sees options (Built line noted directories) =
    sees.wrote (option_text options (codes "record")) noted.items
IsNoted sees options (Failed line why) = Unit {0}

-- ---- what the options ask for

-- how many steps may run at once: one where nothing is said of it
abbrev pub jobs_asked : List Row → ℕ
jobs_asked options = number_or 1 options (codes "jobs")

abbrev pub may_have_jobs : List Row → Check
may_have_jobs options = where_said options (codes "jobs") (is_expected options (codes "jobs")
    (codes "a number from 1 to 64") (λ text. IsUpTo 64 text × (0 < decimal_number text)))

-- The errors of steps are shown where the options want that.
abbrev pub errors_asked : List Row → ChildErrors
errors_asked options =
    if bytes_eq (option_text options (codes "verbose")) (codes "true") then Shown else Discarded

-- the record isn't written over the plan: the options name two paths
abbrev pub keeps_plan : List Row → Check
keeps_plan options = else_told
    (option_text options (codes "record") ≢ option_text options (codes "plan"))
    (codes "--record cannot name the file of --plan")

abbrev pub build_words : List Row → List Check
build_words options = may_have_jobs options ∷ keeps_plan options ∷ server_words options

-- the words are valid, and ask for the plan whose text was read, over the sources whose digest they
-- spell
pub record AsksBuild (sees : Sight) (options : List Row) (plan : PlanValue) (sources : DigestValue)
    : Type 0 where
  pub words : AllValid (build_words options)
  pub spelled : IsDigestText (option_text options (codes "sources")) sources
  pub plan_is : HasPlanRead sees options plan

-- what was read of the options is what they ask for
pub record IsReadOf (sees : Sight) (options : List Row) (asked : BuildRequest) : Type 0 where
  pub asks : AsksBuild sees options asked.plan asked.sources
  pub jobs : asked.jobs ≡ jobs_asked options
  pub server : IsServerOf options asked.server
  pub work : string_bytes asked.work ≡ option_text options (codes "work")

-- The folder of the jobs was read, and had nothing in it; and the record's file could be written.
pub record StartsBuild (sees : Sight) (options : List Row) (plan : PlanValue)
    (sources : DigestValue) : Type 0 where
  pub asks : AsksBuild sees options plan sources
  pub empty : sees.lists (option_text options (codes "work")) []
  pub record_fits : sees.takes (option_text options (codes "record"))

-- What was told is of a build of that, with as many jobs at once as the options say, by what their
-- server told over one connection, and by the processes that ran below their folder.
pub record TellsAsked (sees : Sight) (below : Below) (options : List Row) (told : Told Global)
    : Type 0 where
  pub plan : PlanValue
  pub sources : DigestValue
  pub starts : StartsBuild sees options plan sources
  pub start : ConnectionValue
  pub opened : IsConnectedTo sees options start
  pub tells : IsToldOf start (below (option_text options (codes "work"))) (jobs_asked options) plan
      sources told

-- The line of a build was printed, and where the build came to its root its record was written.
pub record PrintsBuild (sees : Sight) (below : Below) (options : List Row)
    (old new : Option (List ℕ)) (ended : Ended) : Type 0 where
  pub told : Told Global
  pub tells : TellsAsked sees below options told
  pub noted : IsNoted sees options told
  pub is : ended ≡ ended_of told
  pub printed : Appends old new (told_line told)

-- Nothing was printed, or a beginning of the line of what was told, whose record was written.
abbrev pub BeginsBuild : Sight → Below → List Row → Option (List ℕ) → Option (List ℕ) → Type 0
BeginsBuild sees below options old new = (new ≡ old)
    ⊎ ((told : Told Global) × TellsAsked sees below options told × IsNoted sees options told
    × AppendsBeginning old new (told_line told))
