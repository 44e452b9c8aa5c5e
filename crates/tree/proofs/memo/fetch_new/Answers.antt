-- The bytes are the blob's, and so is the message.
use Rattle.std.proofs.Common.{sym, subst}
use Rattle.std.proofs.lemmas.Result.{err_from_is_err_and}
use Rattle.blob_source.specs.Source.{IsBlobUnder}
use Rattle.blob_source.specs.Fetched.{Fetches}
use Rattle.tree.proofs.memo.fetch_new.Goals as goal

pub returns-in_err-message-in-Right-clause-faulty : goal.returns-in_err-message-in-Right-clause-faulty
returns-in_err-message-in-Right-clause-faulty g c =
    let p = err_from_is_err_and c.from_residual-in_err-message-in-Right.result c.from_residual-in_err-message-in-Right.ensures.1 in
    let B = (g.S.BlobSource.tells c.fetch_blob.new.source).blobs in
    let held = subst (Fetches B c.args.digest.now) c.in-Right.is c.in_ok-fetch_blob.ensures.told in
    rw (p.1, p.2) (c.in_err-message-in-Right.ensures.faulty B (subst (IsBlobUnder B c.args.digest.now) (sym c.deref.ensures.value) held))

pub returns-in_ok-message-in-Right-clause-told : goal.returns-in_ok-message-in-Right-clause-told
returns-in_ok-message-in-Right-clause-told g c =
    let B = (g.S.BlobSource.tells c.fetch_blob.new.source).blobs in
    let held = subst (Fetches B c.args.digest.now) c.in-Right.is c.in_ok-fetch_blob.ensures.told in
    c.in_ok-message-in-Right.ensures.told B (subst (IsBlobUnder B c.args.digest.now) (sym c.deref.ensures.value) held)
