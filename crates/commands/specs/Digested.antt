-- What `digest` prints, and why it ends without its line.
use Rattle.std.specs.Prelude.{◌≡◌, ◌⊎◌, ℕ, Bool, not, bytes_eq, List, [], ◌∷◌, ◌++◌, Option, codes}
use Rattle.std.specs.Io.KnownBytes.{Appends}
use Rattle.blob_digest.specs.Digest.{DigestValue}
use Rattle.blob_digest.specs.Text.{digest_text}
use Rattle.clap.specs.Words.{Row}
use Rattle.command_lines.specs.CommandLine.{option_text}
use Rattle.commands.specs.Read.{IsDigestAt, ReadBlob}
use Rattle.commands.specs.ReadRefused.{FailsReading}
use Rattle.commands.specs.Refusal.{IsPrintFault}
use Rattle.commands.specs.Told.{AppendsBeginning}
use Rattle.commands.specs.World.{Sight}
use Rattle.commands.specs.declared.error.CommandError.{CommandError}
use Rattle.commands.specs.declared.error.CommandError.TheVariants.{Memory}

-- executable bits are read, unless the flag for that is given
abbrev pub reads_bits : List Row → Bool
reads_bits options = not (bytes_eq (option_text options (codes "no-bits")) (codes "true"))

-- the digest is that of what was read at the path that the options name
pub record IsDigestAsked (sees : Sight) (options : List Row) (digest : DigestValue) : Type 0 where
  pub blobs : List ReadBlob
  pub read : IsDigestAt sees (reads_bits options) (option_text options (codes "path")) digest blobs

-- the line of that digest was printed
pub record PrintsDigestRead (sees : Sight) (options : List Row) (old new : Option (List ℕ))
    : Type 0 where
  pub digest : DigestValue
  pub asked : IsDigestAsked sees options digest
  pub printed : Appends old new (digest_text digest ++ 10 ∷ [])

-- nothing was printed, or a beginning of such a line
abbrev pub BeginsDigestRead : Sight → List Row → Option (List ℕ) → Option (List ℕ) → Type 0
BeginsDigestRead sees options old new = (new ≡ old) ⊎ ((digest : DigestValue)
    × IsDigestAsked sees options digest × AppendsBeginning old new (digest_text digest ++ 10 ∷ []))

-- The first fault: of what stands at the path or below it, or of the output. That memory is wanting
-- may come anywhere, and is told as that.
pub data FailsDigest (sees : Sight) (options : List Row) (e : CommandError) : Type 0 where
  in_memory : e ≡ Memory → FailsDigest sees options e
  in_path : FailsReading sees (reads_bits options) 64 (option_text options (codes "path")) e
      → FailsDigest sees options e
  in_output : (digest : DigestValue) → IsDigestAsked sees options digest → IsPrintFault e
      → FailsDigest sees options e
