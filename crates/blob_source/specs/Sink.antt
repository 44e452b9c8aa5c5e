-- What a call that puts something into a source changes.
use Rattle.std.specs.Prelude.{◌≡◌, ◌≢◌, ◌⊎◌, ℕ, List, Some}
use Rattle.blob_digest.specs.Digest.{DigestValue, digest_of}
use Rattle.blob_source.specs.Source.{Blobs, Telling, CountsCall}

-- nothing but the value at one digest changes, and that only to these bytes
pub record PutsAt (d : DigestValue) (bytes : List ℕ) (old new : Blobs) : Type 0 where
  pub there : (new d ≡ old d) ⊎ (new d ≡ Some bytes)
  pub others : (e : DigestValue) → e ≢ d → new e ≡ old e

-- bytes told under their own digest stay told
abbrev pub KeepsRight : Blobs → Blobs → Type 0
KeepsRight old new =
    (d : DigestValue) (b : List ℕ) → old d ≡ Some b → digest_of b ≡ d → new d ≡ Some b

-- One call, which put a blob or failed to. Right bytes stay in both cases.
pub record PutsBlob (bytes : List ℕ) (old new : Telling) : Type 0 where
  pub blobs : PutsAt (digest_of bytes) bytes old.blobs new.blobs
  pub right : KeepsRight old.blobs new.blobs
  pub results : new.results ≡ old.results
  pub puts : new.puts ≡ old.puts
  pub counts : CountsCall old new

-- one call, which put a result under a digest or failed to, and left the blobs alone
pub record PutsResult (d : DigestValue) (bytes : List ℕ) (old new : Telling) : Type 0 where
  pub results : PutsAt d bytes old.results new.results
  pub blobs : new.blobs ≡ old.blobs
  pub counts : CountsCall old new

-- bytes with the digest stand under it
abbrev pub HasRight : Blobs → DigestValue → Type 0
HasRight B d = (b : List ℕ) × (B d ≡ Some b) × (digest_of b ≡ d)

-- What stands under the digest of a blob that was put: right bytes that stood there stay, and else
-- it is the blob.
abbrev pub IsPut : List ℕ → Blobs → Blobs → Type 0
IsPut bytes old new =
    let d = digest_of bytes in
    (HasRight old d × (new d ≡ old d)) ⊎ ((HasRight old d → ⊥) × (new d ≡ Some bytes))
