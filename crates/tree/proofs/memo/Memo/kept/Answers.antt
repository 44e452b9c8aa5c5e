-- What is kept is what was told.
use Rattle.std.proofs.Common.{ap, sym}
use Rattle.std.specs.Prelude.{option_map}
use Rattle.std.proofs.lemmas.Result.{err_from_is_err_and}
use Rattle.tree.specs.Memo.{kept_bytes}
use Rattle.tree.proofs.memo.Memo.kept.Goals as goal

pub returns-in_err-read-in-Some-clause-faulty : goal.returns-in_err-read-in-Some-clause-faulty
returns-in_err-read-in-Some-clause-faulty g c t known =
    let p = err_from_is_err_and c.from_residual.result c.from_residual.ensures.1 in
    rw (p.1, p.2) (c.in_err-read-in-Some.ensures.faulty t.blobs (known.blobs c.args.digest.now (kept_bytes c.in-Some.kept.now) (ap (option_map kept_bytes) (sym c.in-Some.ensures.value))))

pub returns-in_ok-read-in-Some-clause-told : goal.returns-in_ok-read-in-Some-clause-told
returns-in_ok-read-in-Some-clause-told g c t known =
    c.in_ok-read-in-Some.ensures.told t.blobs (known.blobs c.args.digest.now (kept_bytes c.in-Some.kept.now) (ap (option_map kept_bytes) (sym c.in-Some.ensures.value)))
