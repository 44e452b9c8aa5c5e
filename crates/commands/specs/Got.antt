-- What was written for a blob that was asked of a server.
use Rattle.std.specs.Prelude.{◌≡◌, ◌≢◌, ◌⊎◌, ℕ, List, Option, None, Some, string_bytes}
use Rattle.std.specs.Io.KnownBytes.{Appends}
use Rattle.blob_digest.specs.Digest.{DigestValue, digest_of, empty_digest}
use Rattle.http_core.specs.declared.event.Area.TheVariants.{Cas}
use Rattle.remote.specs.Line.{ConnectionValue, Gets}
use Rattle.commands.specs.Told.{AppendsBeginning}
use Rattle.commands.specs.declared.ended.Ended.{Ended}
use Rattle.commands.specs.declared.ended.Ended.TheVariants.{Done, No}
use Rattle.commands.specs.declared.ended.Note.{Note}
use Rattle.commands.specs.declared.ended.Note.TheVariants.{NoBlob}

-- the first request over the connection that stood so was for the blob, and this answered it
abbrev pub GetsFirst : ConnectionValue → DigestValue → Option (List ℕ) → Type 0
GetsFirst start digest answer = (now : ConnectionValue) × Gets start now Cas digest.hash answer

-- Bytes with the digest answered that. For the empty ones nothing is asked.
pub record IsBlobOver (start : ConnectionValue) (digest : DigestValue) (bytes : List ℕ)
    : Type 0 where
  pub right : digest_of bytes ≡ digest
  pub came : (digest ≡ empty_digest) ⊎ GetsFirst start digest (Some bytes)

pub record WritesRight (start : ConnectionValue) (digest : DigestValue)
    (old new : Option (List ℕ)) : Type 0 where
  pub bytes : List ℕ
  pub blob : IsBlobOver start digest bytes
  pub printed : Appends old new bytes

-- the note says that the server at the address has no blob of the digest
abbrev pub NotesNoBlob : List ℕ → DigestValue → Option Note → Type 0
NotesNoBlob address digest (Some (NoBlob server d)) =
    (string_bytes server ≡ address) × (d ≡ digest)
NotesNoBlob address digest _ = ⊥

-- The answer was that there is no such blob, nothing was written, and the note says why. The empty
-- blob is never missing.
pub record WritesNothing (start : ConnectionValue) (address : List ℕ) (digest : DigestValue)
    (note : Option Note) (old new : Option (List ℕ)) : Type 0 where
  pub some : digest ≢ empty_digest
  pub none : GetsFirst start digest None
  pub unprinted : new ≡ old
  pub noted : NotesNoBlob address digest note

-- nothing was written, or a beginning of such bytes
abbrev pub BeginsBlob : ConnectionValue → DigestValue → Option (List ℕ) → Option (List ℕ) → Type 0
BeginsBlob start digest old new = (new ≡ old)
    ⊎ ((bytes : List ℕ) × IsBlobOver start digest bytes × AppendsBeginning old new bytes)

-- the blob with the digest, or nothing where the server at the address has none
abbrev pub Writes : ConnectionValue → List ℕ → DigestValue → Option (List ℕ) → Option (List ℕ)
    → Ended → Type 0
Writes start address digest old new Done = WritesRight start digest old new
Writes start address digest old new (No note) =
    WritesNothing start address digest note old new
