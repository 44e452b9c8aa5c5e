use Rattle.std.proofs.lemmas.Result.{err_from_is_err_and}
use Rattle.wire.specs.Record.{records_of}
use Rattle.action_messages.proofs.NestedOrder.{so_far_none, so_far_next, refused_here}
use Rattle.action_messages.proofs.tolerant.check_nested.Goals as goal

pub loop-field-init : goal.loop-field-init
loop-field-init g c = so_far_none (records_of c.args.fields.now)

pub returns-in_err-check_begun-clause-refused : goal.returns-in_err-check_begun-clause-refused
returns-in_err-check_begun-clause-refused g c =
    let p = err_from_is_err_and c.from_residual.result c.from_residual.ensures.1 in
    rw (p.1, p.2) (refused_here c.in_err-check_begun.field-0.0 c.args.fields.now c.loop-field.field-index _ c.loop-field.stdout_came c.loop-field.stderr_came c.loop-field-test.true c.loop-field.invariant c.in_err-check_begun.ensures)

pub loop-field-preserved : goal.loop-field-preserved
loop-field-preserved g c = so_far_next c.args.fields.now c.loop-field.field-index _ c.loop-field.stdout_came c.loop-field.stderr_came c.loop-field-test.true c.loop-field.invariant c.in_ok-check_begun.ensures
