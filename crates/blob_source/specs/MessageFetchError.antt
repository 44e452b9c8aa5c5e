-- What an error of a message that is fetched says.
use Rattle.blob_source.specs.declared.source.FetchError.{FetchError}
use Rattle.blob_source.specs.declared.source.FetchError.TheVariants as calls
use Rattle.blob_source.specs.declared.fetching.MessageFetchError.{MessageFetchError}
use Rattle.blob_source.specs.declared.fetching.MessageFetchError.TheVariants.{Missing, Wrong}
use Rattle.blob_source.specs.declared.fetching.MessageFetchError.TheVariants.{Malformed, Failed}
use Rattle.blob_source.specs.declared.fetching.MessageFetchError.TheVariants.{Memory}
use Rattle.blob_source.specs.Told.{Fault, missing, wrong, malformed}

-- the error of the call, as one of the message
abbrev pub of_call : FetchError → MessageFetchError
of_call calls.Failed = Failed
of_call calls.Memory = Memory

-- Why no message was answered: a fault, unless the source failed or memory ran out.
abbrev pub ExplainsFetch : (Fault → Type 0) → MessageFetchError → Type 0
ExplainsFetch Fails (Missing e) = Fails (missing e)
ExplainsFetch Fails (Wrong e) = Fails (wrong e)
ExplainsFetch Fails (Malformed e) = Fails (malformed e)
ExplainsFetch Fails Failed = Unit {0}
ExplainsFetch Fails Memory = Unit {0}
