use Rattle.std.proofs.Common.{refl, ap, ◌∙◌, []}
use Rattle.blob_digest.specs.Digest.{DigestValue}
use Rattle.blob_store.proofs.BlobLemmas.{hash_of}
use Rattle.blob_store.proofs.store.BlobStore.new.Goals as goal

pub invariant_of-result : goal.invariant_of-result
invariant_of-result g c = rw c.in_ok-blobs.ensures (tt, refl, c.hash-no_bytes.ensures.value ∙ ap (λ (d : DigestValue). d.hash) c.empty.ensures ∙ hash_of [])
