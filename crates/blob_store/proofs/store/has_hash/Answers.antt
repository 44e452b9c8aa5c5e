use Rattle.std.proofs.Common.{ap, ◌∙◌, bytes_eq}
use Rattle.blob_digest.specs.Digest.{DigestValue}
use Rattle.blob_store.proofs.BlobLemmas.{hash_of}
use Rattle.blob_store.proofs.store.has_hash.Goals as goal

pub returns : goal.returns
returns g c = c.eq.ensures ∙ ap (λ h. bytes_eq h c.args.hash.now) (c.hash.ensures.value ∙ ap (λ (d : DigestValue). d.hash) c.digest.ensures ∙ hash_of c.args.sealed.now)
