-- The results that a source holds.
use Rattle.std.specs.Prelude.{◌≡◌, ℕ, List, [], Some, None}
use Rattle.blob_digest.specs.DigestValue.{DigestValue}
use Rattle.action_messages.specs.ActionResult.{ActionResultValue}
use Rattle.action_messages.specs.Reads.{Reads}
use Rattle.action_messages.specs.Stream.{StreamValue}
use Rattle.blob_source.specs.Source.{Blobs}

-- the bytes under a digest are read as the result
abbrev pub HoldsResult : Blobs → DigestValue → ActionResultValue → Type 0
HoldsResult results d r = (bytes : List ℕ) × (results d ≡ Some bytes) × Reads r bytes

-- nothing that a process wrote
abbrev pub no_stream : StreamValue
no_stream = record { raw = []; digest = None }
