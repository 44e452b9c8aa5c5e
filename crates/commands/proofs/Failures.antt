-- What is told of a request that failed.
use Rattle.std.proofs.Common.{[], ◌≡◌, ◌∙◌, List, ℕ, Option, Some, None, Result, Ok, Err, IfErr, inl, inr, refl, sym}
use Rattle.std.specs.Prelude.{IsErrOf}
use Rattle.std.proofs.Math.Logic.{∥∥₁_map}
use Rattle.blob_digest.specs.Digest.{DigestValue, digest_of}
use Rattle.blob_source.specs.declared.source.FetchError.{FetchError}
use Rattle.blob_source.specs.declared.source.FetchError.TheVariants as refusals
use Rattle.remote.specs.Line.{ConnectionValue, RefusesRequest}
use Rattle.remote.specs.declared.fault.Fault.{Fault}
use Rattle.commands.specs.Faults.{IsServerFault, OrMemory, TellsFailure, kept_failure}
use Rattle.commands.specs.Places.{Access, Carries, Comes, FailsOver, KeepsRefused, MaySend, RefusesAt, gets_alone, request_of}
use Rattle.commands.specs.Places.Comes.{fresh}
use Rattle.commands.specs.PutRefused.{RefusesPut}
use Rattle.commands.specs.declared.error.CommandError.{CommandError}
use Rattle.commands.specs.declared.error.CommandError.TheVariants.{Memory}
use Rattle.commands.specs.declared.failure.Failure.{Failure}
use Rattle.commands.specs.declared.failure.Method.{Method}
use Rattle.commands.specs.declared.failure.Method.TheVariants.{GetBlob, PutBlob}
use Rattle.commands.proofs.Tellings.{answered, refused_otherwise, some_not_none}

-- a request that failed has a fault
has_fault : (old new : ConnectionValue) (method : Method) (hash body : List ℕ)
    → RefusesRequest old new (request_of method hash body) refusals.Failed → new.fault ≡ None → ⊥
has_fault old new method hash body refused none = some_not_none (sym (refused.failed refl).kept ∙ none)

-- ---- what is kept

-- it stays where no call failed
pub keeps_on : (access : Access) (start old new : ConnectionValue) (before : Option Failure) → new.failures ≡ old.failures
    → KeepsRefused access start old before → KeepsRefused access start new before
keeps_on access start old new None same kept = same ∙ kept
keeps_on access start old new (Some f) same kept = kept

pub keeps_after : {T : Type 0} (access : Access) (start old new : ConnectionValue) (before : Option Failure) (method : Method) (d : DigestValue) (body : List ℕ)
    (result : Result T FetchError) (fault : Option Fault) → IfErr result (RefusesRequest old new (request_of method d.hash body))
    → ((IsErrOf result refusals.Failed → ⊥) → new.failures ≡ old.failures) → new.fault ≡ fault → Carries method d body → MaySend access (request_of method d.hash body) → Comes access start old → KeepsRefused access start old before
    → KeepsRefused access start new (kept_failure before method d result fault)
keeps_after access start old new before method d body (Ok x) fault refused unfailed is carries sent came kept = keeps_on access start old new before (unfailed (answered x)) kept
keeps_after access start old new before method d body (Err refusals.Memory) None refused unfailed is carries sent came kept = keeps_on access start old new before (unfailed refused_otherwise) kept
keeps_after access start old new before method d body (Err refusals.Memory) (Some fault) refused unfailed is carries sent came kept = keeps_on access start old new before (unfailed refused_otherwise) kept
keeps_after access start old new before method d body (Err refusals.Failed) None refused unfailed is carries sent came kept = absurd (has_fault old new method d.hash body refused is)
keeps_after access start old new before method d body (Err refusals.Failed) (Some fault) refused unfailed is carries sent came kept =
    (body, carries, record { old = old; new = new; before = came; sent = sent; is = refused; kept = is })

-- ---- what is told

-- that request was refused
pub failure_told : (access : Access) (start now : ConnectionValue) (address : List ℕ) (failure : Option Failure) (refusal : FetchError) (e : CommandError)
    → ∥ KeepsRefused access start now failure ∥₁ → TellsFailure address failure refusal e → OrMemory (λ x. ∥ FailsOver access start address x ∥₁) e
failure_told access start now address (Some f) refusals.Failed e kept told = inr (∥∥₁_map kept (λ k. record {
  method = f.method;
  digest = f.digest;
  body = k.0;
  carries = k.1;
  is = record { fault = f.fault; why = k.2; told = told };
}))
failure_told access start now address (Some f) refusals.Memory e kept told = inl told
failure_told access start now address None refusal e kept told = inl told

memory_told : (address : List ℕ) (failure : Option Failure) (e : CommandError) → TellsFailure address failure refusals.Memory e → e ≡ Memory
memory_told address (Some f) e told = told
memory_told address None e told = told

-- the request itself, by its fault
module _ (T : Type 0) (Q : CommandError → Type 0) (old new : ConnectionValue) (address : List ℕ) (method : Method) (d : DigestValue) (body : List ℕ) (e : CommandError)
    (by : (f : Fault) → RefusesRequest old new (request_of method d.hash body) refusals.Failed → new.fault ≡ Some f
    → IsServerFault address (record { method = method; digest = d; fault = f }) e → Q e) where
  refused_by : (before : Option Failure) (fault : Option Fault) (refusal : FetchError) → RefusesRequest old new (request_of method d.hash body) refusal → new.fault ≡ fault
      → TellsFailure address (kept_failure {T = T} before method d (Err refusal) fault) refusal e → OrMemory Q e
  refused_by before (Some fault) refusals.Failed refused is told = inr (by fault refused is told)
  refused_by before None refusals.Failed refused is told = absurd (has_fault old new method d.hash body refused is)
  refused_by before (Some fault) refusals.Memory refused is told = inl (memory_told address before e told)
  refused_by before None refusals.Memory refused is told = inl (memory_told address before e told)

-- a blob that is asked for first
pub get_refused : (T : Type 0) (start new : ConnectionValue) (address : List ℕ) (d : DigestValue) (before : Option Failure) (fault : Option Fault) (refusal : FetchError)
    (e : CommandError) → RefusesRequest start new (request_of GetBlob d.hash []) refusal → new.fault ≡ fault
    → TellsFailure address (kept_failure {T = T} before GetBlob d (Err refusal) fault) refusal e → OrMemory (RefusesAt gets_alone start address GetBlob d []) e
get_refused T start new address d before fault refusal e = refused_by T (RefusesAt gets_alone start address GetBlob d []) start new address GetBlob d [] e
    (λ f refused is told. record { fault = f; why = record { old = start; new = new; before = fresh; sent = refl; is = refused; kept = is }; told = told }) before fault refusal

-- a blob that is put
pub blob_refused : (old new : ConnectionValue) (address bytes : List ℕ) (before : Option Failure) (fault : Option Fault) (refusal : FetchError)
    (e : CommandError) → RefusesRequest old new (request_of PutBlob (digest_of bytes).hash bytes) refusal → new.fault ≡ fault
    → TellsFailure address (kept_failure {T = DigestValue} before PutBlob (digest_of bytes) (Err refusal) fault) refusal e → OrMemory (RefusesPut old address bytes) e
blob_refused old new address bytes before fault refusal e =
    refused_by DigestValue (RefusesPut old address bytes) old new address PutBlob (digest_of bytes) bytes e
    (λ f refused is told. record { new = new; fault = f; is = refused; kept = is; told = told }) before fault refusal
