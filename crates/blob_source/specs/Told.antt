-- What a blob source tells under a digest, as a message: the message, or why there is none.
use Rattle.std.specs.Prelude.{◌≡◌, ◌≢◌, ℕ, List}
use Rattle.blob_digest.specs.Digest.{DigestValue}
use Rattle.messages.specs.DirectoryRules.{DirectoryValue, IsDirectory}
use Rattle.messages.specs.Directory.{directory_bytes}
use Rattle.blob_source.specs.Source.{Blobs, IsBlobUnder, IsMissing, IsWrong}

-- The message told under a digest keeps its rules, and its encoding is the blob there.
pub record IsTold {M : Type 0}
    (keeps : M → Type 0) (spells : M → List ℕ) (B : Blobs) (d : DigestValue) (m : M) : Type 0 where
  pub valid : keeps m
  pub blob : IsBlobUnder B d (spells m)

-- the blob there is the encoding of no message of the kind
pub record IsMalformed {M : Type 0}
    (keeps : M → Type 0) (spells : M → List ℕ) (B : Blobs) (d : DigestValue) : Type 0 where
  pub bytes : List ℕ
  pub blob : IsBlobUnder B d bytes
  pub no_message : (m : M) → keeps m → bytes ≢ spells m

-- why no message of a kind is told under a digest
pub data Fault : Type 0 where
  missing : DigestValue → Fault
  wrong : DigestValue → Fault
  malformed : DigestValue → Fault

abbrev pub IsFault : {M : Type 0}
    → (M → Type 0) → (M → List ℕ) → Blobs → DigestValue → Fault → Type 0
IsFault keeps spells B d (missing e) = (e ≡ d) × IsMissing B d
IsFault keeps spells B d (wrong e) = (e ≡ d) × IsWrong B d
IsFault keeps spells B d (malformed e) = (e ≡ d) × IsMalformed keeps spells B d

-- the Directory told under a digest, and why there is none
abbrev pub TellsDirectory : Blobs → DigestValue → DirectoryValue → Type 0
TellsDirectory B = IsTold IsDirectory directory_bytes B

abbrev pub FailsDirectory : Blobs → DigestValue → Fault → Type 0
FailsDirectory B = IsFault IsDirectory directory_bytes B
