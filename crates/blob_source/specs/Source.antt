-- What a blob source tells. A source is no more than that: it may hold wrong bytes under a digest.
use Rattle.std.specs.Prelude.{◌≡◌, ◌≢◌, ◌⊎◌, ℕ, ◌+◌, ◌≤◌, min, List, [], Option, Some, None}
use Rattle.std.specs.declared.vec.Vec.{Vec}
use Rattle.blob_digest.specs.Digest.{DigestValue, digest_of, empty_digest}

-- the bytes under each digest, where there are some
abbrev pub Blobs : Type 0
Blobs = DigestValue → Option (List ℕ)

-- the greatest count of calls and of failures, 2 ^ 64 - 1
abbrev pub greatest_count : ℕ
greatest_count = 18446744073709551615

-- All that contracts see of a source: blobs by their digests, results by the digests of their
-- actions, how often it failed and was called, and which results were put into it.
pub record Telling : Type 0 where
  pub blobs : Blobs
  pub results : Blobs
  pub failures : ℕ
  pub calls : ℕ
  -- the digests under which results were put, the latest last
  pub puts : List DigestValue

-- ---- calls

-- what was told stays
abbrev pub Grows : Blobs → Blobs → Type 0
Grows old new = (e : DigestValue) (b : List ℕ) → old e ≡ Some b → new e ≡ Some b

-- nothing but the value at one digest changes, and that only from nothing
pub record GrowsAt (d : DigestValue) (old new : Blobs) : Type 0 where
  pub kept : Grows old new
  pub others : (e : DigestValue) → e ≢ d → new e ≡ old e

-- a call is counted, and failures are never forgotten
pub record CountsCall (old new : Telling) : Type 0 where
  pub calls : new.calls ≡ min (old.calls + 1) greatest_count
  pub risen : old.calls ≤ new.calls
  pub failures : old.failures ≤ new.failures
  pub bounded : new.failures ≤ greatest_count

-- one call, which asked for the blob under a digest
pub record AsksBlob (d : DigestValue) (old new : Telling) : Type 0 where
  pub blobs : GrowsAt d old.blobs new.blobs
  pub results : new.results ≡ old.results
  pub puts : new.puts ≡ old.puts
  pub counts : CountsCall old new

-- one call, which asked for the result under a digest
pub record AsksResult (d : DigestValue) (old new : Telling) : Type 0 where
  pub results : GrowsAt d old.results new.results
  pub blobs : new.blobs ≡ old.blobs
  pub puts : new.puts ≡ old.puts
  pub counts : CountsCall old new

-- some calls, one after another: what was told stays, nothing is put, and no count falls
pub record AsksSome (old new : Telling) : Type 0 where
  pub blobs : Grows old.blobs new.blobs
  pub results : Grows old.results new.results
  pub puts : new.puts ≡ old.puts
  pub failures : old.failures ≤ new.failures
  pub risen : old.calls ≤ new.calls

-- some calls, one after another, and at most so many
pub record Asks (most : ℕ) (old new : Telling) : Type 0 where
  pub some : AsksSome old new
  pub most_calls : new.calls ≤ old.calls + most

-- the bytes of an answer
abbrev pub bytes_of : {A : Type 0} → Option (Vec ℕ A) → Option (List ℕ)
bytes_of None = None
bytes_of (Some v) = Some v.items

-- ---- what a blob source tells under a digest

-- The bytes under a digest. The empty blob is always there, and no source is asked for it.
abbrev pub IsUnder : Blobs → DigestValue → Option (List ℕ) → Type 0
IsUnder B d found = ((d ≡ empty_digest) × (found ≡ Some [])) ⊎ ((d ≢ empty_digest) × (found ≡ B d))

-- the blob under a digest: bytes that have it
pub record IsBlobUnder (B : Blobs) (d : DigestValue) (bytes : List ℕ) : Type 0 where
  pub held : IsUnder B d (Some bytes)
  pub right : digest_of bytes ≡ d

-- nothing stands under a digest
abbrev pub IsMissing : Blobs → DigestValue → Type 0
IsMissing B d = IsUnder B d None

-- bytes with another hash or another length stand under a digest
pub record IsWrong (B : Blobs) (d : DigestValue) : Type 0 where
  pub bytes : List ℕ
  pub held : IsUnder B d (Some bytes)
  pub other : digest_of bytes ≢ d
