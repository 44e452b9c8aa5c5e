use Rattle.std.proofs.Common.{subst, sym}
use Rattle.std.specs.Prelude.{codes}
use Rattle.command_lines.specs.CommandLine.{option_text}
use Rattle.plan.specs.Record.{IsRecordFault, names_of}
use Rattle.text_verifier.specs.Refused.{IsRecordRefusal}
use Rattle.commands.specs.Refusal.{FailsRecord}
use Rattle.commands.proofs.Exits.{exit_by}
use Rattle.commands.proofs.Unread.{text_fails, unread_fails}
use Rattle.commands.proofs.verifying.read_case.Goals as goal

pub returns-in_err-bytes-clause-fault : goal.returns-in_err-bytes-clause-fault
returns-in_err-bytes-clause-fault g c =
    let sees = g.W.World.sees c.args.world.now in
    let options = g.M.Options.rows c.args.options.now in
    exit_by (FailsRecord sees options c.args.plan) _ c.from_residual.ensures.1
    (unread_fails sees c.text_for-path.result.now (option_text options (codes "record")) (IsRecordFault (names_of c.args.plan)) c.text_for-path.ensures _ c.in_err-bytes.ensures.fault)

pub returns-in-Err-Record-clause-fault : goal.returns-in-Err-Record-clause-fault
returns-in-Err-Record-clause-fault g c =
    let sees = g.W.World.sees c.args.world.now in
    let path = c.text_for-path.result.now in
    let text = c.as_slice-text.result.now in
    let names = names_of c.args.plan in
    text_fails sees path (option_text (g.M.Options.rows c.args.options.now) (codes "record")) (IsRecordFault names) c.text_for-path.ensures text c.in-Err-Record.fault _
    (subst (sees.reads path) (sym c.as_slice-text.ensures.value) c.in_ok-bytes.ensures.read)
    (subst (IsRecordRefusal names text) c.in-Err-Record.field-0-is c.in-Err-Record.ensures.fault) c.text_error.ensures
