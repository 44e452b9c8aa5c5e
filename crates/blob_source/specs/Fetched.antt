-- What a fetch that hashes found.
use Rattle.blob_digest.specs.Digest.{DigestValue}
use Rattle.blob_source.specs.declared.fetching.Fetched.{Fetched}
use Rattle.blob_source.specs.declared.fetching.Fetched.TheVariants.{Missing, Wrong, Right}
use Rattle.blob_source.specs.Source.{Blobs, IsBlobUnder, IsMissing, IsWrong}

abbrev pub Fetches : {A : Type 0} → Blobs → DigestValue → Fetched A → Type 0
Fetches B d Missing = IsMissing B d
Fetches B d Wrong = IsWrong B d
Fetches B d (Right bytes) = IsBlobUnder B d bytes.items
