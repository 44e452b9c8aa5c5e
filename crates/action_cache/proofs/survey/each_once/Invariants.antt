use Rattle.std.proofs.Common.{◌≡◌, ℕ, List, take, bytes_eq}
use Rattle.std.specs.Ordering.{nat_cmp}
use Rattle.std.specs.Cmp.Lexicographic.{slice_cmp}
use Rattle.std.specs.BTreeSet.{contains}
use Rattle.blob_digest.specs.Digest.{empty_digest}
use Rattle.eviction.specs.Pinning.{is_among}
use Rattle.blob_store.specs.Blobs.{hashes_of}
use Rattle.action_cache.specs.Survey.{AreOnce}
use Rattle.action_cache.proofs.survey.each_once.Given as goal

abbrev pub invariant-loop-digest : goal.invariant-loop-digest
invariant-loop-digest g l =
    AreOnce (take l.digest-index l.digests) l.once.items × ((h : List ℕ) → contains (slice_cmp nat_cmp) l.seen h ≡ is_among bytes_eq (hashes_of l.once.items) h) × (l.empty ≡ empty_digest)
