-- What the errors of a command tell.
use Rattle.std.specs.Prelude.{◌≡◌, ◌↔◌, ◌⊎◌, ℕ, List, Option, Some, None, Result, Ok, Err}
use Rattle.std.specs.Prelude.{string_bytes}
use Rattle.blob_digest.specs.Digest.{DigestValue, IsDigest}
use Rattle.blob_digest.specs.Text.{digest_text, BeginsWithHash}
use Rattle.blob_digest.specs.declared.error.DigestError.TheVariants.{BadHex}
use Rattle.blob_source.specs.declared.source.FetchError.{FetchError}
use Rattle.blob_source.specs.declared.source.FetchError.TheVariants as refusals
use Rattle.remote.specs.declared.fault.Fault.{Fault}
use Rattle.remote.specs.declared.files.FileError.{FileError}
use Rattle.remote.specs.declared.files.FileError.TheVariants as files
use Rattle.std.specs.declared.alloc.Global.{Global}
use Rattle.std.specs.declared.io.Error.{Error}
use Rattle.commands.specs.declared.error.CommandError.{CommandError}
use Rattle.commands.specs.declared.error.CommandError.TheVariants.{Blob, Digest, Entry, File}
use Rattle.commands.specs.declared.error.CommandError.TheVariants.{InvalidValue}
use Rattle.commands.specs.declared.error.CommandError.TheVariants.{Memory, NotAFile, Server}
use Rattle.commands.specs.declared.error.CommandError.TheVariants.{TooLarge}
use Rattle.commands.specs.declared.failure.Failure.{Failure}
use Rattle.commands.specs.declared.failure.Method.{Method}

abbrev pub SpellsNone : List ℕ → Type 0
SpellsNone text = (d : DigestValue) → IsDigest d → ¬ (text ≡ digest_text d)

-- the text of an option spells no digest, also where memory is wanting to tell that
abbrev pub IsDigestFault : List ℕ → List ℕ → CommandError → Type 0
IsDigestFault option text (Digest o t fault) = (o.now ≡ option) × (string_bytes t ≡ text)
    × SpellsNone text × ((fault ≡ BadHex) ↔ ¬ BeginsWithHash text)
IsDigestFault option text Memory = SpellsNone text
IsDigestFault option text _ = ⊥

-- the error of a file that can't be read
abbrev pub error_of_file : FileError Global → CommandError
error_of_file (files.Io path fault) = File path fault
error_of_file (files.NotAFile path) = NotAFile path
error_of_file (files.TooLarge path) = TooLarge path
error_of_file files.Memory = Memory

-- the error tells this fault of what stands at the path
abbrev pub IsFaultAtPath : List ℕ → (Error → Type 0) → CommandError → Type 0
IsFaultAtPath path is (File p fault) = (string_bytes p ≡ path) × is fault
IsFaultAtPath path is _ = ⊥

-- the text of the option isn't what is expected
abbrev pub IsInvalidValue : List ℕ → List ℕ → List ℕ → CommandError → Type 0
IsInvalidValue option expected text (InvalidValue o x t) =
    (o.now ≡ option) × (x.now ≡ expected) × (string_bytes t ≡ text)
IsInvalidValue option expected text _ = ⊥

-- the error tells which server refused what, of which digest and for which fault
abbrev pub IsServerFault : List ℕ → Failure → CommandError → Type 0
IsServerFault address failure (Server server told) =
    (string_bytes server ≡ address) × (told ≡ failure)
IsServerFault address failure _ = ⊥

-- the error of a call that was refused: the request that failed last, where this one failed
abbrev pub TellsFailure : List ℕ → Option Failure → FetchError → CommandError → Type 0
TellsFailure address (Some failure) refusals.Failed e = IsServerFault address failure e
TellsFailure address (Some failure) refusals.Memory e = e ≡ Memory
TellsFailure address None refusal e = e ≡ Memory

-- The request that failed last, after a call: that call's, where it failed for a fault of the
-- connection, and else the one before it.
abbrev pub kept_failure : {T : Type 0} → Option Failure → Method → DigestValue
    → Result T FetchError → Option Fault → Option Failure
kept_failure before method d (Ok x) fault = before
kept_failure before method d (Err refusal) None = before
kept_failure before method d (Err refusals.Failed) (Some fault) =
    Some (record { method = method; digest = d; fault = fault })
kept_failure before method d (Err refusals.Memory) (Some fault) = before

-- the error tells this of what the server sent for the digest
abbrev pub IsBadBlob : List ℕ → DigestValue → List ℕ → CommandError → Type 0
IsBadBlob address d words (Blob server digest fault) =
    (string_bytes server ≡ address) × (digest ≡ d) × (fault.now ≡ words)
IsBadBlob address d words _ = ⊥

-- the error tells this of what stands at the place
abbrev pub TellsOfEntry : List ℕ → List ℕ → CommandError → Type 0
TellsOfEntry place words (Entry p fault) = (string_bytes p ≡ place) × (fault.now ≡ words)
TellsOfEntry place words _ = ⊥

-- the error tells this fault, or that memory ran out
abbrev pub OrMemory : (CommandError → Type 0) → CommandError → Type 0
OrMemory fails e = (e ≡ Memory) ⊎ fails e
