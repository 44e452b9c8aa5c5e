use Rattle.commands.specs.Stages.{FailsListed}
use Rattle.commands.specs.Verified.{FailsInside}
use Rattle.commands.specs.Verified.FailsInside.{in_list, in_memory}
use Rattle.commands.proofs.Exits.{exit_by}
use Rattle.commands.proofs.Refused.{or_memory}
use Rattle.commands.proofs.evidence.verify_stated.Goals as goal

pub returns-in_err-stages-clause-refused : goal.returns-in_err-stages-clause-refused
returns-in_err-stages-clause-refused g c =
    let outside = g.V.World.sees c.args.outside.now in
    let sees = g.W.World.sees c.args.world.now in
    let rows = g.M.Options.rows c.args.said.now in
    exit_by (FailsInside outside sees rows c.args.evidence.now) _ c.from_residual.ensures.1
    (or_memory (FailsListed sees c.args.evidence.now) (FailsInside outside sees rows c.args.evidence.now) _ in_memory in_list c.in_err-stages.ensures.refused)
