-- What an error of a call on trees says.
use Rattle.std.specs.Prelude.{◌≡◌, List, Result, Ok, Err}
use Rattle.blob_digest.specs.Digest.{DigestValue}
use Rattle.blob_source.specs.declared.source.FetchError.{FetchError}
use Rattle.blob_source.specs.declared.source.FetchError.TheVariants as fetching
use Rattle.blob_source.specs.declared.fetching.MessageFetchError.{MessageFetchError}
use Rattle.blob_source.specs.declared.fetching.MessageFetchError.TheVariants as reading
use Rattle.tree.specs.declared.error.TreeError.{TreeError}
use Rattle.tree.specs.declared.error.AddError.{AddError}
use Rattle.tree.specs.declared.error.AddError.TheVariants as adding
use Rattle.tree.specs.declared.error.TreeError.TheVariants.{Absent, BlobMissing, BlobWrong}
use Rattle.tree.specs.declared.error.TreeError.TheVariants.{BlobMalformed, TooDeep, Conflict}
use Rattle.tree.specs.declared.error.TreeError.TheVariants.{Fetch, Memory}
use Rattle.tree.specs.Tree.{Name}
use Rattle.blob_source.specs.Source.{Blobs, IsMissing, IsWrong}
use Rattle.blob_source.specs.Told.{Fault, missing, wrong, malformed}
use Rattle.tree.specs.Lookup.{Looks, fault, nothing}

abbrev pub of_fetch : {A : Type 0} → FetchError → TreeError A
of_fetch fetching.Failed = Fetch
of_fetch fetching.Memory = Memory

-- the error of a message that is fetched, as one of a call on trees
abbrev pub of_message : {A : Type 0} → MessageFetchError → TreeError A
of_message (reading.Missing e) = BlobMissing e
of_message (reading.Wrong e) = BlobWrong e
of_message (reading.Malformed e) = BlobMalformed e
of_message reading.Failed = Fetch
of_message reading.Memory = Memory

-- Why no message was answered: a fault, unless the source failed or memory ran out.
abbrev pub Explains : {A : Type 0} → (Fault → Type 0) → TreeError A → Type 0
Explains Fails (Absent path) = ⊥
Explains Fails (BlobMissing e) = Fails (missing e)
Explains Fails (BlobWrong e) = Fails (wrong e)
Explains Fails (BlobMalformed e) = Fails (malformed e)
Explains Fails (TooDeep path) = ⊥
Explains Fails (Conflict path) = ⊥
Explains Fails Fetch = Unit {0}
Explains Fails Memory = Unit {0}

-- why no blob is told under a digest: nothing is, or other bytes are
abbrev pub FailsBlob : Blobs → DigestValue → Fault → Type 0
FailsBlob B d (missing e) = (e ≡ d) × IsMissing B d
FailsBlob B d (wrong e) = (e ≡ d) × IsWrong B d
FailsBlob B d (malformed e) = ⊥

-- Why a look-up answered no node: nothing stands at the path, or a fault stands on the way, unless
-- the source failed or memory ran out.
abbrev pub ExplainsLookup : {A : Type 0} → Blobs → DigestValue → List Name → TreeError A → Type 0
ExplainsLookup B d p (Absent path) = (path ≡ p) × Looks B d p nothing
ExplainsLookup B d p (BlobMissing e) = Looks B d p (fault (missing e))
ExplainsLookup B d p (BlobWrong e) = Looks B d p (fault (wrong e))
ExplainsLookup B d p (BlobMalformed e) = Looks B d p (fault (malformed e))
ExplainsLookup B d p (TooDeep path) = ⊥
ExplainsLookup B d p (Conflict path) = ⊥
ExplainsLookup B d p Fetch = Unit {0}
ExplainsLookup B d p Memory = Unit {0}

-- an error other than that nothing stands at the path
abbrev pub CutsShort : {A : Type 0} → TreeError A → Type 0
CutsShort (Absent path) = ⊥
CutsShort _ = Unit {0}

-- a look-up was cut short: it was refused, and not since nothing stands at the path
abbrev pub IsCutShort : {A T : Type 0} → Result T (TreeError A) → Type 0
IsCutShort (Ok x) = ⊥
IsCutShort (Err e) = CutsShort e

-- Why nothing was added at a path: it is taken, unless memory ran out.
abbrev pub IsOverlapAt : {A : Type 0} → AddError A → List Name → Type 0 → Type 0
IsOverlapAt (adding.Overlap path) p Taken = (path ≡ p) × Taken
IsOverlapAt adding.Memory p Taken = Unit {0}
