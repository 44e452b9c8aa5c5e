use Rattle.std.proofs.Common.{inl, inr}
use Rattle.commands.specs.Refusal.{FailsDigests}
use Rattle.commands.proofs.Exits.{exit_by}
use Rattle.commands.proofs.verifying.typed_digests.Goals as goal

pub returns-in_err-sources-clause-fault : goal.returns-in_err-sources-clause-fault
returns-in_err-sources-clause-fault g c =
    exit_by (FailsDigests (g.M.Options.rows c.args.options.now)) _ c.from_residual.ensures.1 (inl c.in_err-sources.ensures.fault)

pub returns-in_err-claim-clause-fault : goal.returns-in_err-claim-clause-fault
returns-in_err-claim-clause-fault g c =
    exit_by (FailsDigests (g.M.Options.rows c.args.options.now)) _ c.from_residual-in_err-claim.ensures.1
    (inr ((c.in_ok-sources.sources, c.in_ok-sources.ensures.found), c.in_err-claim.ensures.fault))
