-- The message is kept, or fetched and then kept.
use Rattle.std.proofs.Common.{sym, subst, refl, inl}
use Rattle.std.specs.Prelude.{IfSome, IsNone}
use Rattle.std.proofs.lemmas.Result.{err_from_is_err_and}
use Rattle.blob_source.specs.Source.{IsBlobUnder}
use Rattle.blob_source.specs.Told.{IsTold}
use Rattle.tree.proofs.Learning.{refused_exit}
use Rattle.tree.proofs.Memos.{learns_blob, learns_no_blob}
use Rattle.tree.proofs.memo.Memo.message.Goals as goal

pub returns-in_err-message-clause-faulty : goal.returns-in_err-message-clause-faulty
returns-in_err-message-clause-faulty g c =
    let p = err_from_is_err_and c.from_residual.result c.from_residual.ensures.1 in
    rw (p.1, p.2) (c.in_err-message.ensures.faulty (g.S.BlobSource.tells c.args.source.now) c.requires)

pub returns-in-Some-clause-told : goal.returns-in-Some-clause-told
returns-in-Some-clause-told g c =
    let t = g.S.BlobSource.tells c.args.source.now in
    subst (λ o. IfSome o (IsTold g.M.Message.keeps g.M.Encode.spells t.blobs c.args.digest.now)) c.in-Some.is (c.in_ok-message.ensures.told t c.requires)

pub returns-in_err-message-2-clause-learned : goal.returns-in_err-message-2-clause-learned
returns-in_err-message-2-clause-learned g c =
    let none = c.in_ok-message.ensures.none (subst IsNone (sym c.in_default.is) refl) in
    learns_no_blob c.requires c.fetch_new.ensures.called.asked (λ a. refl) c.fetch_new.ensures.only c.fetch_new.ensures.unasked (inl none) (refused_exit _ _ c.from_residual-in_err-message-2.ensures.1)

pub returns-in_err-keep-clause-learned : goal.returns-in_err-keep-clause-learned
returns-in_err-keep-clause-learned g c =
    let none = c.in_ok-message.ensures.none (subst IsNone (sym c.in_default.is) refl) in
    learns_no_blob c.requires c.fetch_new.ensures.called.asked c.in_err-keep.ensures.err c.fetch_new.ensures.only c.fetch_new.ensures.unasked (inl none) (refused_exit _ _ c.from_residual-in_err-keep.ensures.1)

pub returns-clause-learned : goal.returns-clause-learned
returns-clause-learned g c =
    let none = c.in_ok-message.ensures.none (subst IsNone (sym c.in_default.is) refl) in
    let fetched = c.in_ok-message-2.ensures in
    let B = (g.S.BlobSource.tells c.fetch_new.new.source).blobs in
    learns_blob c.requires c.fetch_new.ensures.called.asked c.fetch_new.ensures.only c.fetch_new.ensures.unasked (inl none) (subst (IsBlobUnder B c.args.digest.now) (sym fetched.bytes) fetched.told.blob) c.in_ok-keep.ensures.ok
