-- What names a blob: the SHA-256 hash of its bytes (FIPS 180-4), and their length (REAPI, message
-- Digest).
use Rattle.std.specs.Prelude.{◌≡◌, ℕ, min, List, [], length}
use Rattle.std.specs.declared.cmp.Ordering.{Ordering}
use Rattle.std.specs.Ordering.{nat_cmp, ordering_then}
use Rattle.std.specs.Cmp.Lexicographic.{slice_cmp}
use Rattle.sha2.specs.Sha256.{sha256}
pub use Rattle.blob_digest.specs.DigestValue.{DigestValue, greatest_size, IsHash, IsDigest}

-- The digest of a blob. One that is longer than the greatest size has that size.
unfoldable pub digest_of : List ℕ → DigestValue
digest_of blob = record { hash = sha256 blob; size = min (length blob) greatest_size }

-- the digest of no bytes
abbrev pub empty_digest : DigestValue
empty_digest = digest_of []

-- the order of digests: by hash, and then by size
abbrev pub digest_cmp : DigestValue → DigestValue → Ordering
digest_cmp d e = ordering_then (slice_cmp nat_cmp d.hash e.hash) (nat_cmp d.size e.size)

-- No two different blobs of the set have one digest. That SHA-256 has no clash at all is nowhere
-- assumed.
abbrev pub NoClash : (List ℕ → Type 0) → Type 0
NoClash S = (x y : List ℕ) → S x → S y → digest_of x ≡ digest_of y → x ≡ y
