use Rattle.std.proofs.Common.{◌≡◌, take}
use Rattle.blob_store.specs.Blobs.{hashes_of}
use Rattle.blob_store.proofs.store.hashes_of.Given as goal

abbrev pub invariant-loop-digest : goal.invariant-loop-digest
invariant-loop-digest g l = l.hashes.items ≡ hashes_of (take l.digest-index l.digests)
