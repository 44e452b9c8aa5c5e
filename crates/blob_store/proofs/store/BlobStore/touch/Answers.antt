use Rattle.blob_store.proofs.BlobLemmas.{touched_blobs}
use Rattle.blob_store.proofs.store.BlobStore.touch.Goals as goal

pub invariant_of-self : goal.invariant_of-self
invariant_of-self g c = rw c.touch.ensures.moves (touched_blobs c.args.hash.now c.self.inside.blobs.entries c.self.invariant.0, c.self.invariant.1, c.self.invariant.2)
