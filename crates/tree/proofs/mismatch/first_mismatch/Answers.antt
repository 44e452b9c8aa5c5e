-- The digests stand beside the known Directories.
use Rattle.std.proofs.Common.{map, ap, ◌∙◌}
use Rattle.blob_digest.specs.Digest.{digest_of}
use Rattle.tree.proofs.OwnDirectories.{digests_beside}
use Rattle.tree.proofs.mismatch.first_mismatch.Goals as goal

pub mismatch_below-requires-clause-digests : goal.mismatch_below-requires-clause-digests
mismatch_below-requires-clause-digests g c = c.deref.ensures.value ∙ c.in_ok-digests.ensures {u = tt} ∙ digests_beside c.args.known.now
