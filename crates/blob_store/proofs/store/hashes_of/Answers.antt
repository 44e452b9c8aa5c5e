use Rattle.std.proofs.Common.{◌≡◌, false, sym, ◌∙◌, Result, Ok, Err, OnErr}
use Rattle.blob_store.specs.Blobs.{is_empty}
use Rattle.blob_store.proofs.BlobLemmas.{some_hash}
use Rattle.blob_store.proofs.store.hashes_of.Goals as goal

on_err : {X E P : Type 0} (r : Result X E) → P → OnErr r P
on_err (Ok x) p = tt
on_err (Err e) p = p

pub returns-in_err-push-clause-memory : goal.returns-in_err-push-clause-memory
returns-in_err-push-clause-memory g c =
    let d = c.digest-item.result in
    let some : is_empty d ≡ false = sym c.is_empty.ensures ∙ c.if-not-is_empty.true in
    on_err c.from_residual.result (some_hash c.args.digests.now c.loop-digest.digest-index d c.loop-digest-test.true c.digest-item.is some)
