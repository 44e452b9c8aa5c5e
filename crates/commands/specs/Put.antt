-- What `put` puts: what was read at a path and below it, and the PUTs that a server took of that.
use Rattle.std.specs.Prelude.{ℕ, false, List}
use Rattle.blob_digest.specs.Digest.{DigestValue, digest_of}
use Rattle.http_core.specs.declared.event.Area.TheVariants.{Cas}
use Rattle.remote.specs.Line.{ConnectionValue, Puts}
use Rattle.commands.specs.Read.{IsDigestAt, ReadBlob, TakesAll, bytes_in}
use Rattle.commands.specs.World.{Sight}

-- the one request between these states of the connection was a PUT of this blob, which was taken
abbrev pub PutsNext : ConnectionValue → ConnectionValue → List ℕ → Type 0
PutsNext old new bytes = Puts old new Cas (digest_of bytes).hash bytes

abbrev pub PutsRead : ConnectionValue → ConnectionValue → ReadBlob → Type 0
PutsRead old new blob = PutsNext old new (bytes_in blob)

-- The digest is that of the file or the folder that was read at the path, without executable bits,
-- and its blobs were put by the first requests over the connection, which was opened so.
pub record PutsPath (sees : Sight) (start : ConnectionValue) (path : List ℕ) (digest : DigestValue)
    : Type 0 where
  pub blobs : List ReadBlob
  pub read : IsDigestAt sees false path digest blobs
  pub now : ConnectionValue
  pub put : TakesAll PutsRead start now blobs
