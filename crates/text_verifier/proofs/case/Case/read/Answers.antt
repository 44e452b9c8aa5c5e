use Rattle.std.proofs.Common.{ap}
use Rattle.std.proofs.lemmas.Result.{err_from_is_err_and}
use Rattle.text_verifier.specs.Texts.{question_of}
use Rattle.text_verifier.proofs.case.Case.read.Goals as goal

pub returns-in_err-noted-clause-only : goal.returns-in_err-noted-clause-only
returns-in_err-noted-clause-only g c record_of is =
    let p = err_from_is_err_and c.from_residual.result c.from_residual.ensures.1 in
    rw (p.1, p.2) (c.in_err-noted.ensures.only record_of is)

pub returns-clause-only : goal.returns-clause-only
returns-clause-only g c record_of is =
    ap (λ r. question_of c.args.digests.sources c.args.digests.claim c.args.plan r) (c.in_ok-noted.ensures.only record_of is)

pub returns-clause-early : goal.returns-clause-early
returns-clause-early g c e fault few = absurd (let refused = c.in_ok-noted.ensures.early e fault few in cc)

pub returns-in_err-noted-clause-early : goal.returns-in_err-noted-clause-early
returns-in_err-noted-clause-early g c e fault few =
    let p = err_from_is_err_and c.from_residual.result c.from_residual.ensures.1 in
    let early = c.in_err-noted.ensures.early e fault few in
    rw (p.1, p.2) cc
