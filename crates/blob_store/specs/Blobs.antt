-- Blobs by what is held under hashes.
use Rattle.std.specs.Prelude.{◌≡◌, ℕ, ◌==◌, Bool, false, not, ◌&&◌, ◌||◌, nat_lt, List, [], map}
use Rattle.std.specs.Prelude.{length, bytes_eq, Option, Some, None, is_some, ⊤, if◌then◌else◌}
use Rattle.std.specs.List.{filter, list_all, AllByRecursion}
use Rattle.std.specs.Map.{lookup}
use Rattle.sha2.specs.Sha256.{sha256}
use Rattle.blob_digest.specs.DigestValue.{DigestValue}
use Rattle.eviction.specs.Kept.{Held}
use Rattle.eviction.specs.Pinning.{pins_of}

-- the digest of no bytes
abbrev pub is_empty : DigestValue → Bool
is_empty d = (d.size == 0) && bytes_eq d.hash (sha256 [])

-- the hashes of the digests, without that of no bytes
abbrev pub hashes_of : List DigestValue → List (List ℕ)
hashes_of ds = map (λ d. d.hash) (filter (λ d. not (is_empty d)) ds)

-- the bytes, if there are any and they are so many
abbrev pub of_size : ℕ → Option (List ℕ) → Option (List ℕ)
of_size n None = None
of_size n (Some b) = if length b == n then Some b else None

-- found answers the bytes that are stored under a hash
module _ (found : List ℕ → Option (List ℕ)) where
  -- the bytes under a hash: those that are stored. The empty blob is always held
  abbrev pub held_under : List ℕ → Option (List ℕ)
  held_under h = if bytes_eq (sha256 []) h then Some [] else found h

  -- the blob that a digest names: what is held under its hash, if it is as long as the digest says
  abbrev pub blob_of : DigestValue → Option (List ℕ)
  blob_of d = of_size d.size (held_under d.hash)

  -- the blob that a digest names is held
  abbrev pub is_held : DigestValue → Bool
  is_held d = is_some (blob_of d)

  -- the blobs that the digests name are held
  abbrev pub all_held : List DigestValue → Bool
  all_held ds = list_all is_held ds

-- blobs without their counts of pins
abbrev pub plain : List (List ℕ × Held) → List (List ℕ × List ℕ)
plain es = map (λ e. (e.0, e.1.bytes)) es

-- the bytes that stand under a hash
abbrev pub found_in : List (List ℕ × Held) → List ℕ → Option (List ℕ)
found_in es h = lookup (bytes_eq h) (plain es)

-- each blob stands under its hash, and none under that of no bytes
abbrev pub AreBlobs : List (List ℕ × Held) → Type 0
AreBlobs es =
    AllByRecursion (λ e. (e.0 ≡ sha256 e.1.bytes) × (bytes_eq (sha256 []) e.0 ≡ false)) es

-- the bytes, if there are any, have the hash
abbrev pub HasHash : Option (List ℕ) → List ℕ → Type 0
HasHash None h = ⊤
HasHash (Some b) h = sha256 b ≡ h

-- the blob that a digest names is pinned, or has no bytes
unfoldable pub can_unpin : List (List ℕ × Held) → DigestValue → Bool
can_unpin es d = is_empty d || nat_lt 0 (pins_of bytes_eq es d.hash)
