use Rattle.std.proofs.Common.{inl, refl, string_bytes}
use Rattle.commands.specs.Faults.{OrMemory}
use Rattle.commands.specs.Places.{FailsOver}
use Rattle.commands.proofs.Exits.{exit_by}
use Rattle.commands.proofs.client.Client.confirm.Goals as goal

-- memory ran out
pub returns-in_err-error-clause-fault : goal.returns-in_err-error-clause-fault
returns-in_err-error-clause-fault g c =
    exit_by (OrMemory (λ e. ∥ FailsOver g.U.Permit.access g.K.Opened.start (string_bytes c.args.server.now.address) e ∥₁)) _ c.from_residual.ensures.1 (inl refl)
