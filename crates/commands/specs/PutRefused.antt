-- Why `put` ends without its line: the first fault, in the order words, connection, what stands at
-- the path or below it together with the server's refusals, and output.
use Rattle.std.specs.Prelude.{◌≡◌, ℕ, false, List, Some, codes}
use Rattle.blob_digest.specs.Digest.{DigestValue, digest_of}
use Rattle.blob_source.specs.declared.source.FetchError.TheVariants.{Failed}
use Rattle.clap.specs.Words.{Row}
use Rattle.command_lines.specs.CommandLine.{option_text}
use Rattle.http_core.specs.declared.event.Area.TheVariants.{Cas}
use Rattle.remote.specs.Line.{ConnectionValue, RefusesRequest, put}
use Rattle.remote.specs.declared.fault.Fault.{Fault}
use Rattle.commands.specs.Faults.{IsServerFault}
use Rattle.commands.specs.Places.{FailsToConnect}
use Rattle.commands.specs.Printed.{StartsPut}
use Rattle.commands.specs.Put.{PutsPath, PutsRead}
use Rattle.commands.specs.Read.{bytes_in}
use Rattle.commands.specs.ReadRefused.{FailsTaking}
use Rattle.commands.specs.Refusal.{IsPrintFault}
use Rattle.commands.specs.Words.{AllValid, FailsFirst, server_words}
use Rattle.commands.specs.World.{Sight}
use Rattle.commands.specs.declared.error.CommandError.{CommandError}
use Rattle.commands.specs.declared.error.CommandError.TheVariants.{Memory}
use Rattle.commands.specs.declared.failure.Method.TheVariants.{PutBlob}

-- the next request over the connection was a PUT of this blob, which the server at the address
-- refused
pub record RefusesPut (old : ConnectionValue) (address bytes : List ℕ) (e : CommandError)
    : Type 0 where
  pub new : ConnectionValue
  pub fault : Fault
  pub is : RefusesRequest old new (put Cas (digest_of bytes).hash bytes) Failed
  pub kept : new.fault ≡ Some fault
  pub told : IsServerFault address
      (record { method = PutBlob; digest = digest_of bytes; fault = fault }) e

-- What stands at a place, or below it, isn't put over the connection to the server at the address,
-- where paths go so many names further down: it can't be read, or the server refused a blob of it.
abbrev pub FailsBelow : Sight → List ℕ → CommandError → ℕ → List ℕ → ConnectionValue → Type 0
FailsBelow sees address e left place old =
    FailsTaking PutsRead (λ now blob. RefusesPut now address (bytes_in blob)) sees false left place
    old e

-- The first fault: what comes before it has none. That memory is wanting may come anywhere, and is
-- told as that.
pub data FailsPut (sees : Sight) (options : List Row) (e : CommandError) : Type 0 where
  in_memory : e ≡ Memory → FailsPut sees options e
  in_words : FailsFirst (server_words options) e → FailsPut sees options e
  in_connection : AllValid (server_words options)
      → FailsToConnect sees (option_text options (codes "server")) e → FailsPut sees options e
  in_path : (start : ConnectionValue) → StartsPut sees options start
      → FailsBelow sees (option_text options (codes "server")) e 64
      (option_text options (codes "path")) start → FailsPut sees options e
  in_output : (start : ConnectionValue) (digest : DigestValue) → StartsPut sees options start
      → PutsPath sees start (option_text options (codes "path")) digest → IsPrintFault e
      → FailsPut sees options e
