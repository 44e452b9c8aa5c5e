use Rattle.std.proofs.Common.{◌≡◌, ◌||◌, drop}
use Rattle.std.specs.BTreeSet.{contains}
use Rattle.blob_digest.specs.DigestValue.{DigestValue}
use Rattle.blob_digest.specs.Digest.{digest_cmp}
use Rattle.messages.specs.Tree.{is_among}
use Rattle.messages.proofs.tree.digest_set.Given as goal

abbrev pub invariant-loop-digest : goal.invariant-loop-digest
invariant-loop-digest g l = (d : DigestValue) → (contains digest_cmp l.set d || is_among (drop l.digest-index l.digests) d) ≡ is_among l.digests d
