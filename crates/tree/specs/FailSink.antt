-- A sink of whose calls one fails, while another sink gets the rest.
use Rattle.std.specs.Prelude.{◌≡◌, ◌≢◌, ℕ, ◌+◌, ◌-◌, ◌<◌, ◌≤◌, min, Result, IsErr, IsErrOf}
use Rattle.blob_source.specs.Called.{Calls}
use Rattle.blob_source.specs.Source.{Telling, greatest_count}
use Rattle.blob_source.specs.declared.source.FetchError.{FetchError}
use Rattle.blob_source.specs.declared.source.FetchError.TheVariants.{Failed}
use Rattle.tree.specs.declared.fail_sink.FailSink.{FailSink}

-- the sink that gets the other calls
abbrev pub inner_of : {S : Type 0} → FailSink S → S
inner_of f = f.inner

-- the call from here on that fails, 1 being the next; 0 where none will
abbrev pub until_failure_of : {S : Type 0} → FailSink S → ℕ
until_failure_of f = f.until_failure

-- how often the sink failed, be it by itself or since the inner one did
abbrev pub failures_of : {S : Type 0} → FailSink S → ℕ
failures_of f = f.failures

-- What the sink tells: what the inner one does, but for its own counts of calls and of failures.
abbrev pub telling_of : {S : Type 0} → (S → Telling) → FailSink S → Telling
telling_of tells f = record (tells f.inner) { calls = f.calls; failures = f.failures }

-- the sink wasn't called yet, and the call of this number fails
pub record IsFreshSink {S : Type 0} (inner : S) (number : ℕ) (f : FailSink S) : Type 0 where
  pub inner_is : inner_of f ≡ inner
  pub number_is : until_failure_of f ≡ number
  pub failures : failures_of f ≡ 0
  pub calls : (tells : S → Telling) → (telling_of tells f).calls ≡ 0

-- The call failed, and the other sink wasn't called.
pub record FailsAlone {S T : Type 0} (old new : FailSink S) (result : Result T FetchError)
    : Type 0 where
  pub inner : inner_of new ≡ inner_of old
  pub err : IsErr result
  pub failed : failures_of old < greatest_count → IsErrOf result Failed

-- One call, by which that number goes down. The call that fails doesn't reach the other sink; every
-- other one is a call of that, which did this to it, and whose failure is told as one while the
-- count of failures isn't full.
pub record FailsOnce {S T : Type 0} (tells : S → Telling) (does : Telling → Telling → Type 0)
    (old new : FailSink S) (result : Result T FetchError) : Type 0 where
  pub counted : until_failure_of new ≡ until_failure_of old - 1
  pub fails : until_failure_of old ≡ 1 → FailsAlone old new result
  pub hands_on : until_failure_of old ≢ 1 → failures_of old < greatest_count
      → Calls does (tells (inner_of old)) (tells (inner_of new)) (IsErrOf result Failed)

-- ---- steps of a call

-- One failure was counted where one is told, which it is while the count isn't full.
pub record CountsFailure {T : Type 0} (old new : ℕ) (result : Result T FetchError) : Type 0 where
  pub failed : IsErrOf result Failed → new ≡ old + 1
  pub unfailed : (IsErrOf result Failed → ⊥) → new ≡ old
  pub risen : old ≤ new
  pub bounded : new ≤ greatest_count

-- nothing was called, and only failures may have been counted
pub record IsSameSink {S : Type 0} (old new : FailSink S) : Type 0 where
  pub inner : new.inner ≡ old.inner
  pub number : new.until_failure ≡ old.until_failure
  pub calls : new.calls ≡ old.calls

-- the call was counted, and that is all
pub record BeginsCall {S : Type 0} (old new : FailSink S) : Type 0 where
  pub inner : new.inner ≡ old.inner
  pub number : new.until_failure ≡ old.until_failure - 1
  pub calls : new.calls ≡ min (old.calls + 1) greatest_count
  pub risen : old.calls ≤ new.calls
  pub failures : new.failures ≡ old.failures
