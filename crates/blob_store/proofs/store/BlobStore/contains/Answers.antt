use Rattle.std.proofs.Common.{ap, sym, ◌∙◌, length}
use Rattle.std.specs.Prelude.{◌==◌}
use Rattle.blob_store.specs.Blobs.{found_in, held_under}
use Rattle.blob_store.proofs.BlobLemmas.{held_some, held_none}
use Rattle.blob_store.proofs.store.BlobStore.contains.Goals as goal

pub returns-in-Some : goal.returns-in-Some
returns-in-Some g c =
    let es = c.args.self.now.entries in
    let found = ap (held_under (found_in es)) (sym c.hash.ensures.value) ∙ sym c.in-Some.ensures.value in
    ap (λ n. length c.in-Some.bytes.now == n) c.size.ensures.value ∙ held_some (found_in es) c.args.digest.now c.in-Some.bytes.now found

pub returns-in-None : goal.returns-in-None
returns-in-None g c =
    let es = c.args.self.now.entries in
    let found = ap (held_under (found_in es)) (sym c.hash.ensures.value) ∙ sym c.in-None.ensures.value in
    held_none (found_in es) c.args.digest.now found
