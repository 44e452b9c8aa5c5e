use Rattle.std.proofs.Common.{sym, subst}
use Rattle.blob_store.specs.Blobs.{HasHash}
use Rattle.blob_store.proofs.BlobLemmas.{held_has_hash}
use Rattle.blob_store.proofs.store.BlobStore.peek.Goals as goal

pub returns-clause-hash : goal.returns-clause-hash
returns-clause-hash g c = subst (λ o. HasHash o c.args.hash.now) (sym c.held_under.ensures) (held_has_hash c.self.inside.blobs.entries c.args.hash.now c.self.invariant.0)
