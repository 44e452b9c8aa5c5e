-- What a build tells is that of some build of the plan, and why it tells nothing.
use Rattle.std.proofs.Common.{◌≡◌, ◌<◌, Bool, false, true, ap, if◌then◌else◌, List, [], Result, Err, Option, Some, None, ℕ, arith, inl, inr, refl, subst, string_bytes, sym}
use Rattle.std.specs.Bool.{Decides}
use Rattle.std.specs.Prelude.{IsSome, bytes_eq, codes, unwrap_or}
use Rattle.std.proofs.lemmas.Slice.Eq.{bytes_eq-Decides}
use Rattle.std.specs.Option.{option_map_or}
use Rattle.clap.specs.Words.{Row, first_of}
use Rattle.command_lines.specs.CommandLine.{IsSet, option_text}
use Rattle.commands.specs.Faults.{OrMemory}
use Rattle.commands.specs.Options.{decimal_number}
use Rattle.commands.specs.Places.{FailsOver, FailsToConnect, IsConnected, IsToldOver, puts_too}
use Rattle.commands.proofs.Placed.{opened_to}
use Rattle.commands.specs.Printed.{IsConnectedTo}
use Rattle.commands.specs.Words.{AllValid, IsUpTo}
use Rattle.commands.specs.World.{Sight}
use Rattle.commands.specs.declared.error.CommandError.{CommandError}
use Rattle.std.specs.declared.alloc.Global.{Global}
use Rattle.blob_digest.specs.Digest.{DigestValue}
use Rattle.blob_source.specs.Memory.{TellsNothing}
use Rattle.builder.specs.Built.{Seen}
use Rattle.builder.specs.Faults.{IsStoreFailure, fault_of}
use Rattle.builder.specs.Telling.{IsBuildTold}
use Rattle.builder.specs.declared.error.BuildPlanError.{BuildPlanError}
use Rattle.builder.specs.declared.error.BuildPlanError.TheVariants.{Step}
use Rattle.builder.specs.declared.telling.Told.{Told}
use Rattle.plan.specs.Values.{PlanValue}
use Rattle.processes.specs.declared.disk.ChildErrors.TheVariants.{Discarded, Shown}
use Rattle.remote.specs.Line.{ConnectionValue}
use Rattle.std.specs.Result.{IsErrAnd}
use Rattle.worker.specs.Counted.{Counts}
use Rattle.worker.specs.Outcomes.{Yields}
use Rattle.worker.specs.declared.error.StepRefusal.TheVariants.{Run}
use Rattle.worker.specs.declared.runner.RunError.TheVariants.{Device}
use Rattle.cli.proofs.Within.{IsRunBelow, told_below}
use Rattle.cli.specs.Built.{Below, IsReadOf, IsToldBy, IsToldOf, Processes, StartsBuild, TellsAsked, at_first, at_last, build_words, errors_asked, jobs_asked}
use Rattle.cli.specs.declared.building.BuildRequest.{BuildRequest}
use Rattle.cli.specs.Refused.{EndsAtServer, FailsBuild, FailsTelling, ReachesServer, StopsAtProcess, StopsAtRequest, TellsProcess}
use Rattle.cli.specs.Running.{EndsFor}
use Rattle.cli.specs.declared.building.Stopped.{Stopped}
use Rattle.cli.specs.Refused.FailsBuild.{in_connection, in_memory, in_process, in_request}

-- What was told of a build by a source that told nothing before, and now over the connection.
module _ (start : ConnectionValue) (plan : PlanValue) (sources : DigestValue) (most : ℕ) (old new : Seen) (nothing : TellsNothing old.store) (over : ∥ IsToldOver puts_too start new.store ∥₁)
    (z : Yields) (processes : Processes) (below : IsRunBelow z old new processes) (r : Result (Told Global) (BuildPlanError Global)) (h : IsBuildTold z most plan sources old new r)
    (failed : Counts old.store.failures new.store.failures (IsErrAnd r (λ e. IsStoreFailure (fault_of e)))) where
  abbrev pub told_as : (it : Result (Told Global) (BuildPlanError Global)) → r ≡ it → IsToldBy start processes most plan sources it
  told_as it is = record {
    before = old.store;
    nothing = nothing;
    after = new.store;
    over = over;
    is = subst (IsBuildTold processes.yields most plan sources (at_first old.store) (at_last processes new.store)) is (told_below z most plan sources old new processes below r h);
    failed = subst (λ x. Counts old.store.failures new.store.failures (IsErrAnd x (λ e. IsStoreFailure (fault_of e)))) is failed;
  }

  -- a build ended for a process, and the error tells of it
  pub stops_of : (ended : BuildPlanError Global) (stopped : Stopped) (e : CommandError)
      → r ≡ Err ended → EndsFor ended stopped → TellsProcess plan stopped.step (string_bytes stopped.program) stopped.cause e → StopsAtProcess start processes most plan sources e
  stops_of ended stopped e err so told =
      let came : Result (Told Global) (BuildPlanError Global) = Err (Step (record { step = stopped.step; refusal = Run (Device stopped.program stopped.cause) })) in
      record { step = stopped.step; program = stopped.program; cause = stopped.cause; ended = told_as came (subst (λ x. r ≡ Err x) so err); told = told }

  -- or since a request of it failed
  pub server_stops : (address : List ℕ) (ended : Result (Told Global) (BuildPlanError Global)) (e : CommandError) → r ≡ ended → EndsAtServer ended
      → OrMemory (λ x. ∥ FailsOver puts_too start address x ∥₁) e → FailsTelling start address processes most plan sources e
  server_stops address ended e is at (inl memory) = inl memory
  server_stops address ended e is at (inr told) = inr (inr (record { came = ended; is = at; ended = told_as ended is; told = told }))

-- the folder and the number of jobs are those of the options
pub by_options : (P : List ℕ → ℕ → Type 0) (work path : List ℕ) (most jobs : ℕ) → work ≡ path → most ≡ jobs → P work most → P path jobs
by_options P work path most jobs at is h = subst (λ w. P w jobs) at (subst (P work) is h)

-- at least one job
some_at_once : (said : Option (List ℕ)) → (IsSome said → IsUpTo 64 (unwrap_or said []) × (0 < decimal_number (unwrap_or said []))) → 0 < option_map_or decimal_number said 1
some_at_once None valid = omega arith
some_at_once (Some text) valid = (valid refl).1

pub some_jobs : (options : List Row) → AllValid (build_words options) → 0 < jobs_asked options
some_jobs options words = some_at_once (first_of (codes "jobs") options) words.0

-- the text of a flag, where it is given
text_of_flag : (said : Option (List ℕ)) → Decides (bytes_eq (unwrap_or said []) (codes "true")) (said ≡ Some (codes "true"))
text_of_flag None = (λ t. let no : ◌≡◌ {A = Bool} false true = t in cc, λ e. let no : ◌≡◌ {A = Option (List ℕ)} None (Some (codes "true")) = e in cc)
text_of_flag (Some text) = (
  λ t. ap Some ((bytes_eq-Decides text (codes "true")).0 t),
  λ e. let same : text ≡ codes "true" = cc in (bytes_eq-Decides text (codes "true")).1 same,
)

-- the errors of steps are shown where the flag is given, and else not
pub shown_by_flag : (options : List Row) → IsSet options (codes "verbose") → Shown ≡ errors_asked options
shown_by_flag options given =
    sym (ap (λ (b : Bool). if b then Shown else Discarded) ((text_of_flag (first_of (codes "verbose") options)).1 given))

pub not_shown : (options : List Row) → (IsSet options (codes "verbose") → ⊥) → Discarded ≡ errors_asked options
not_shown options none =
    sym (ap (λ (b : Bool). if b then Shown else Discarded) (none_set (bytes_eq (option_text options (codes "verbose")) (codes "true")) (text_of_flag (first_of (codes "verbose") options)) none))
  where
    none_set : {P : Type 0} (b : Bool) → Decides b P → (P → ⊥) → b ≡ false
    none_set true decides none = absurd (none (decides.0 refl))
    none_set false decides none = refl

module _ (sees : Sight) (below : Below) (options : List Row) where
  module _ (asked : BuildRequest) (read : IsReadOf sees options asked) where
    -- the server couldn't be reached
    pub connect_fails : (e : CommandError) → OrMemory (FailsToConnect sees (string_bytes asked.server.address)) e → FailsBuild sees below options e
    connect_fails e (inl memory) = in_memory memory
    connect_fails e (inr fails) = in_connection asked.plan asked.sources read.asks (subst (λ a. FailsToConnect sees a e) read.server.address fails)

    module _ (start : ConnectionValue) (opened : IsConnected sees asked.server start) where
      pub reaches : ReachesServer sees options
      reaches = record { plan = asked.plan; sources = asked.sources; asks = read.asks; start = start; opened = opened_to sees options asked.server start read.server opened }

      module _ (empty : sees.lists (option_text options (codes "work")) []) (fits : sees.takes (option_text options (codes "record"))) where
        starts : StartsBuild sees options asked.plan asked.sources
        starts = record { asks = read.asks; empty = empty; record_fits = fits }

        to : IsConnectedTo sees options start
        to = opened_to sees options asked.server start read.server opened

        by : (P : List ℕ → ℕ → Type 0) → P (string_bytes asked.work) asked.jobs → P (option_text options (codes "work")) (jobs_asked options)
        by P = by_options P (string_bytes asked.work) (option_text options (codes "work")) asked.jobs (jobs_asked options) read.work read.jobs

        -- what was told is of a build of what was asked for
        pub tells_of : (told : Told Global) → IsToldOf start (below (string_bytes asked.work)) asked.jobs asked.plan asked.sources told
            → TellsAsked sees below options told
        tells_of told is = record {
          plan = asked.plan;
          sources = asked.sources;
          starts = starts;
          start = start;
          opened = to;
          tells = by (λ w n. IsToldOf start (below w) n asked.plan asked.sources told) is;
        }

        -- or while the build was told there was a fault
        pub telling_fails : (e : CommandError)
            → FailsTelling start (string_bytes asked.server.address) (below (string_bytes asked.work)) asked.jobs asked.plan asked.sources e → FailsBuild sees below options e
        telling_fails e (inl memory) = in_memory memory
        telling_fails e (inr (inl process)) = in_process asked.plan asked.sources starts start to (by (λ w n. StopsAtProcess start (below w) n asked.plan asked.sources e) process)
        telling_fails e (inr (inr request)) = in_request asked.plan asked.sources starts start to
            (subst (λ a. StopsAtRequest start a (below (option_text options (codes "work"))) (jobs_asked options) asked.plan asked.sources e) read.server.address
            (by (λ w n. StopsAtRequest start (string_bytes asked.server.address) (below w) n asked.plan asked.sources e) request))
