use Rattle.std.proofs.Common.{arith, Err}
use Rattle.std.proofs.lemmas.Result.{err_from_is_err_and}
use Rattle.action_messages.proofs.Decoding.{found_is, refused_is, only_is, refused_first}
use Rattle.action_messages.proofs.action_result.ActionResult.decode.Goals as goal

pub returns-in_err-read-clause-only : goal.returns-in_err-read-clause-only
returns-in_err-read-clause-only g c =
    let p = err_from_is_err_and c.from_residual.result c.from_residual.ensures.1 in
    λ m reads. rw (p.1, p.2) (only_is c.args.bytes.now (Err c.in_err-read.field-0.0) (λ i. omega (arith, c.type_inv.bytes i)) tt (refused_first c.args.bytes.now c.in_err-read.field-0.0 c.in_err-read.ensures.refused) m reads)

pub returns-clause-found : goal.returns-clause-found
returns-clause-found g c = found_is c.args.bytes.now c.in_ok-read.read c.ordered.result (λ i. omega (arith, c.type_inv.bytes i)) c.in_ok-read.ensures.read c.ordered.ensures.found

pub returns-clause-refused : goal.returns-clause-refused
returns-clause-refused g c = refused_is c.args.bytes.now c.in_ok-read.read c.ordered.result (λ i. omega (arith, c.type_inv.bytes i)) c.in_ok-read.ensures.read c.ordered.ensures.refused

pub returns-clause-only : goal.returns-clause-only
returns-clause-only g c = only_is c.args.bytes.now c.ordered.result (λ i. omega (arith, c.type_inv.bytes i)) (returns-clause-found g c) (returns-clause-refused g c)
