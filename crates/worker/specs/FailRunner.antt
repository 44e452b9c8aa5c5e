-- A runner of whose calls one fails, while another runner gets the rest.
use Rattle.std.specs.Prelude.{◌≡◌, ◌≢◌, ◌⊎◌, ℕ, pos, ◌-◌, ◌<◌, List, Result, string_bytes}
use Rattle.std.specs.Result.{IsErrAnd}
use Rattle.blob_source.specs.Source.{greatest_count}
use Rattle.worker.specs.Counted.{Counts, IsFailure}
use Rattle.worker.specs.Outcomes.{Yields}
use Rattle.worker.specs.Values.{EndValue, failed, program_of}
use Rattle.worker.specs.declared.fail_runner.FailJob.{FailJob}
use Rattle.worker.specs.declared.fail_runner.FailRunner.{FailRunner}
use Rattle.worker.specs.declared.failure.FailureCause.{FailureCause}
use Rattle.worker.specs.declared.failure.FailureCause.TheVariants.{Signal}
use Rattle.worker.specs.declared.runner.RunError.{RunError}
use Rattle.worker.specs.declared.runner.RunError.TheVariants.{Device, Memory}

-- the runner that gets the other calls
abbrev pub inner_of : {N : Type 0} → FailRunner N → N
inner_of r = r.inner

-- the call from here on that fails, 1 being the next; 0 where none will
abbrev pub until_failure_of : {N : Type 0} → FailRunner N → ℕ
until_failure_of r = r.until_failure

-- how often the runner failed, be it by itself or since the inner one did
abbrev pub failures_of : {N : Type 0} → FailRunner N → ℕ
failures_of r = r.failures

-- the program of a child's command
abbrev pub program_in : {J A : Type 0} → FailJob J A → List ℕ
program_in j = string_bytes j.program

-- nothing was started, and the call of this number fails
pub record IsFreshRunner {N : Type 0} (inner : N) (number : ℕ) (r : FailRunner N) : Type 0 where
  pub inner_is : inner_of r ≡ inner
  pub number_is : until_failure_of r ≡ number
  pub failures : failures_of r ≡ 0

-- ---- its own failure

-- signal 9 ended the process
abbrev pub own_cause : FailureCause
own_cause = Signal (pos 9)

-- an error that tells of it, of this program; or of lack of memory
abbrev pub IsOwn : {A : Type 0} → List ℕ → RunError A → Type 0
IsOwn program (Device p cause) = (string_bytes p ≡ program) × (cause ≡ own_cause)
IsOwn program Memory = Unit {0}
IsOwn program e = ⊥

-- what comes of the other runner's child, or that failure
abbrev pub BesidesOwn : (EndValue → Type 0) → List ℕ → EndValue → Type 0
BesidesOwn May program e = May e ⊎ (e ≡ failed program own_cause)

abbrev pub yields_of : {N : Type 0} → (N → Yields) → FailRunner N → Yields
yields_of yields r l c = BesidesOwn (yields (inner_of r) l c) (program_of c)

abbrev pub may_give_of : {J A : Type 0} → (J → EndValue → Type 0) → FailJob J A → EndValue → Type 0
may_give_of may j = BesidesOwn (may j.job) (program_in j)

-- One call, by which that number goes down. The call that fails tells of that failure. Every other
-- one tells of a failure where the other runner counted one, while the own count isn't full.
pub record FailsRun {N T A : Type 0} (failures : N → ℕ) (program : List ℕ) (old new : FailRunner N)
    (result : Result T (RunError A)) : Type 0 where
  pub counted : until_failure_of new ≡ until_failure_of old - 1
  pub fails : until_failure_of old ≡ 1 → IsErrAnd result (IsOwn program)
  pub hands_on : until_failure_of old ≢ 1 → failures_of old < greatest_count
      → Counts (failures (inner_of old)) (failures (inner_of new)) (IsErrAnd result IsFailure)
