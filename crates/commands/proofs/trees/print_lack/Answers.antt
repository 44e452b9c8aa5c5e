use Rattle.std.proofs.Common.{inl, string_bytes, subst, sym}
use Rattle.commands.specs.Faults.{OrMemory}
use Rattle.commands.specs.GetRefused.{TellsCheckout}
use Rattle.commands.proofs.Exits.{exit_by, or_else}
use Rattle.commands.proofs.trees.print_lack.Goals as goal

pub returns-in_err-confirm-in-Missing-clause-fault : goal.returns-in_err-confirm-in-Missing-clause-fault
returns-in_err-confirm-in-Missing-clause-fault g c =
    let start = g.K.Opened.start in
    let address = string_bytes c.args.server.now.address in
    exit_by (OrMemory (TellsCheckout start address c.args.error)) _ c.from_residual.ensures.1
    (or_else c.in_err-confirm-in-Missing.ensures.fault (λ over. subst (λ x. TellsCheckout start address x c.in_err-confirm-in-Missing.field-0.0) (sym c.in-Missing.is) (inl over)))
