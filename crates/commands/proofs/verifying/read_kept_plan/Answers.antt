use Rattle.std.proofs.Common.{subst, sym}
use Rattle.std.specs.Prelude.{codes}
use Rattle.command_lines.specs.CommandLine.{option_text}
use Rattle.plan.specs.Faults.{IsPlanFault}
use Rattle.text_verifier.specs.Refused.{IsPlanRefusal}
use Rattle.commands.specs.Refusal.{FailsPlan}
use Rattle.commands.proofs.Exits.{exit_by}
use Rattle.commands.proofs.Unread.{text_fails, unread_fails}
use Rattle.commands.proofs.verifying.read_kept_plan.Goals as goal

pub returns-in_err-bytes-clause-fault : goal.returns-in_err-bytes-clause-fault
returns-in_err-bytes-clause-fault g c =
    let sees = g.W.World.sees c.args.world.now in
    let options = g.M.Options.rows c.args.options.now in
    exit_by (FailsPlan sees options) _ c.from_residual.ensures.1
    (unread_fails sees c.text_for-path.result.now (option_text options (codes "plan")) IsPlanFault c.text_for-path.ensures _ c.in_err-bytes.ensures.fault)

pub returns-in-Err-Plan-clause-fault : goal.returns-in-Err-Plan-clause-fault
returns-in-Err-Plan-clause-fault g c =
    let sees = g.W.World.sees c.args.world.now in
    let path = c.text_for-path.result.now in
    let text = c.as_slice-text.result.now in
    text_fails sees path (option_text (g.M.Options.rows c.args.options.now) (codes "plan")) IsPlanFault c.text_for-path.ensures text c.in-Err-Plan.fault _
    (subst (sees.reads path) (sym c.as_slice-text.ensures.value) c.in_ok-bytes.ensures.read)
    (subst (IsPlanRefusal text) c.in-Err-Plan.field-0-is c.in-Err-Plan.ensures.fault) c.text_error.ensures
