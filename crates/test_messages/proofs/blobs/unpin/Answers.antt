use Rattle.blob_store.proofs.OneDigest.{one_hash}
use Rattle.test_messages.proofs.blobs.unpin.Goals as goal

pub unpin-requires : goal.unpin-requires
unpin-requires g c = one_hash c.args.digest
