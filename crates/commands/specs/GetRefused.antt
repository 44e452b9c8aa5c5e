-- Why `get` ends without its answer: the first fault, in the order server, digest, connection and
-- work.
use Rattle.std.specs.Prelude.{◌≡◌, ◌≢◌, ◌⊎◌, ℕ, List, [], Option, None, Some, codes}
use Rattle.std.specs.declared.alloc.Global.{Global}
use Rattle.blob_digest.specs.Digest.{DigestValue, digest_of, empty_digest}
use Rattle.blob_source.specs.Memory.{TellsNothing}
use Rattle.blob_source.specs.Source.{Telling}
use Rattle.checkout.specs.Refused.{FailsCheckout}
use Rattle.checkout.specs.Written.{AsksUpTo}
use Rattle.checkout.specs.declared.error.CheckoutError.{CheckoutError}
use Rattle.checkout.specs.declared.error.CheckoutError.TheVariants as trees
use Rattle.clap.specs.Words.{Row, first_of}
use Rattle.command_lines.specs.CommandLine.{option_text}
use Rattle.commands.specs.Faults.{IsBadBlob, IsDigestFault, TellsOfEntry}
use Rattle.commands.specs.Got.{GetsFirst, IsBlobOver}
use Rattle.commands.specs.Places.{FailsOver, FailsToConnect, IsToldOver, LacksOver, RefusesAt}
use Rattle.commands.specs.Places.{gets_alone}
use Rattle.commands.specs.Printed.{StartsGet}
use Rattle.commands.specs.Refusal.{IsPrintFault}
use Rattle.commands.specs.Words.{AllValid, FailsFirst, server_words}
use Rattle.commands.specs.World.{Sight}
use Rattle.commands.specs.declared.error.CommandError.{CommandError}
use Rattle.commands.specs.declared.error.CommandError.TheVariants.{File, Memory}
use Rattle.commands.specs.declared.failure.Method.TheVariants.{GetBlob}
use Rattle.http_core.specs.declared.event.Area.TheVariants.{Cas}
use Rattle.messages.specs.Path.{path_text}
use Rattle.remote.specs.Line.{ConnectionValue}
use Rattle.text_verifier.specs.Refused.{IsSpelled}

-- ---- a blob

-- bytes with another digest answered the request
pub record ComesWrong (start : ConnectionValue) (digest : DigestValue) : Type 0 where
  pub bytes : List ℕ
  pub came : GetsFirst start digest (Some bytes)
  pub other : digest_of bytes ≢ digest

-- Why a blob wasn't written, over a connection to the server at this address. The empty one isn't
-- asked for, so that nothing but the output refuses it.
pub data FailsGetBlob (start : ConnectionValue) (address : List ℕ) (digest : DigestValue)
    (e : CommandError) : Type 0 where
  in_reply : digest ≢ empty_digest → RefusesAt gets_alone start address GetBlob digest [] e
      → FailsGetBlob start address digest e
  in_bytes : digest ≢ empty_digest → ComesWrong start digest
      → IsBadBlob address digest (codes "the server sent other bytes") e
      → FailsGetBlob start address digest e
  in_output : (bytes : List ℕ) → IsBlobOver start digest bytes → IsPrintFault e
      → FailsGetBlob start address digest e

-- ---- a tree

-- The error tells why a tree wasn't written. Where a blob of it is missing, that is so told, and
-- the output takes no line of that.
abbrev pub TellsCheckout : ConnectionValue → List ℕ → CheckoutError Global → CommandError → Type 0
TellsCheckout start address (trees.Missing d) e = ∥ FailsOver gets_alone start address e ∥₁
    ⊎ (∥ LacksOver gets_alone start Cas d.hash ∥₁ × IsPrintFault e)
TellsCheckout start address (trees.Wrong d) e =
    IsBadBlob address d (codes "the server sent other bytes") e
TellsCheckout start address (trees.Malformed d) e =
    IsBadBlob address d (codes "not a Directory; leave out --into to get a file's bytes") e
TellsCheckout start address (trees.TooDeep path) e =
    TellsOfEntry (path_text path) (codes "a path of more than 64 names") e
TellsCheckout start address trees.Fetch e = ∥ FailsOver gets_alone start address e ∥₁
TellsCheckout start address (trees.Place path fault) e = e ≡ File path fault
TellsCheckout start address trees.Memory e = e ≡ Memory

-- Why the tree that was told over the connection, which was asked nothing before, wasn't written
-- into the folder. Nothing was asked for behind what is at fault.
pub record FailsGetTree (sees : Sight) (start : ConnectionValue) (address : List ℕ)
    (digest : DigestValue) (folder : List ℕ) (e : CommandError) : Type 0 where
  pub before : Telling
  pub nothing : TellsNothing before
  pub told : Telling
  pub over : ∥ IsToldOver gets_alone start told ∥₁
  pub error : CheckoutError Global
  pub fails : FailsCheckout sees.holds sees.unwritten sees.tries (AsksUpTo digest before told)
      told.blobs digest folder error
  pub tells : TellsCheckout start address error e

-- ---- the command

abbrev pub FailsGot : Sight → Option (List ℕ) → ConnectionValue → List ℕ → DigestValue
    → CommandError → Type 0
FailsGot sees None start address digest e = FailsGetBlob start address digest e
FailsGot sees (Some folder) start address digest e = FailsGetTree sees start address digest folder e

-- The first fault: what comes before it has none. That memory is wanting may come anywhere, and is
-- told as that.
pub data FailsGet (sees : Sight) (options : List Row) (e : CommandError) : Type 0 where
  in_memory : e ≡ Memory → FailsGet sees options e
  in_words : FailsFirst (server_words options) e → FailsGet sees options e
  in_digest : AllValid (server_words options)
      → IsDigestFault (codes "digest") (option_text options (codes "digest")) e
      → FailsGet sees options e
  in_server : AllValid (server_words options) → IsSpelled (option_text options (codes "digest"))
      → FailsToConnect sees (option_text options (codes "server")) e → FailsGet sees options e
  in_work : (digest : DigestValue) (start : ConnectionValue)
      → StartsGet sees options digest start
      → FailsGot sees (first_of (codes "into") options) start
      (option_text options (codes "server")) digest e → FailsGet sees options e
