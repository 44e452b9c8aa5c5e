-- What a source in memory tells.
use Rattle.std.specs.Prelude.{◌≡◌, ◌≢◌, ℕ, List, [], Some, None}
use Rattle.std.specs.declared.vec.Vec.{Vec}
use Rattle.std.specs.BTreeMap.{BTreeMap, get}
use Rattle.blob_digest.specs.Digest.{DigestValue, digest_cmp}
use Rattle.blob_source.specs.declared.memory.MemorySource.{MemorySource}
use Rattle.blob_source.specs.Source.{Blobs, Telling, bytes_of}

abbrev pub told_by : {A : Type 0} → BTreeMap DigestValue (Vec ℕ A) → Blobs
told_by m d = bytes_of (get digest_cmp m d)

-- What a source in memory tells. It never fails: its count of failures stays at 0, and a failure
-- would raise it.
abbrev pub telling_of : {A : Type 0} → MemorySource A → Telling
telling_of s = record {
  blobs = told_by s.blobs;
  results = told_by s.results;
  failures = 0;
  calls = s.calls;
  puts = s.puts.items;
}

-- nothing is told, and nothing was asked
pub record TellsNothing (t : Telling) : Type 0 where
  pub blobs : (e : DigestValue) → t.blobs e ≡ None
  pub results : (e : DigestValue) → t.results e ≡ None
  pub failures : t.failures ≡ 0
  pub calls : t.calls ≡ 0
  pub puts : t.puts ≡ []

-- the bytes stand under the digest, and all else is as it was
pub record HoldsBlob (old new : Telling) (d : DigestValue) (bytes : List ℕ) : Type 0 where
  pub held : new.blobs d ≡ Some bytes
  pub others : (e : DigestValue) → e ≢ d → new.blobs e ≡ old.blobs e
  pub results : new.results ≡ old.results
  pub failures : new.failures ≡ old.failures
  pub calls : new.calls ≡ old.calls
  pub puts : new.puts ≡ old.puts

pub record ResultIsHeld (old new : Telling) (d : DigestValue) (bytes : List ℕ) : Type 0 where
  pub held : new.results d ≡ Some bytes
  pub others : (e : DigestValue) → e ≢ d → new.results e ≡ old.results e
  pub blobs : new.blobs ≡ old.blobs
  pub failures : new.failures ≡ old.failures
  pub calls : new.calls ≡ old.calls
  pub puts : new.puts ≡ old.puts

-- nothing is told otherwise
pub record IsUnchanged (old new : Telling) : Type 0 where
  pub blobs : (e : DigestValue) → new.blobs e ≡ old.blobs e
  pub results : (e : DigestValue) → new.results e ≡ old.results e
  pub failures : new.failures ≡ old.failures
  pub calls : new.calls ≡ old.calls
  pub puts : new.puts ≡ old.puts
