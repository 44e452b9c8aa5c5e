-- The Directory is kept, or fetched.
use Rattle.std.proofs.Common.{subst}
use Rattle.std.specs.Prelude.{IfSome}
use Rattle.std.proofs.lemmas.Result.{err_from_is_err_and}
use Rattle.blob_source.specs.Told.{TellsDirectory}
use Rattle.tree.proofs.memo.Memo.directory.Goals as goal

pub returns-in_err-directory-clause-faulty : goal.returns-in_err-directory-clause-faulty
returns-in_err-directory-clause-faulty g c =
    let p = err_from_is_err_and c.from_residual.result c.from_residual.ensures.1 in
    rw (p.1, p.2) (c.in_err-directory.ensures.faulty (g.S.BlobSource.tells c.args.source.now) c.requires)

pub returns-in-Some-clause-told : goal.returns-in-Some-clause-told
returns-in-Some-clause-told g c =
    let t = g.S.BlobSource.tells c.args.source.now in
    subst (λ o. IfSome o (TellsDirectory t.blobs c.args.digest.now)) c.in-Some.is (c.in_ok-directory.ensures.told t c.requires)
