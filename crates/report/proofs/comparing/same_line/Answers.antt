use Rattle.std.proofs.Common.{arith}
use Rattle.report.proofs.ComparedLines.{same_one_line}
use Rattle.report.proofs.Unbroken.{where_ok}
use Rattle.report.proofs.comparing.same_line.Goals as goal

pub returns-clause-one : goal.returns-clause-one
returns-clause-one g c =
    let small = c.ranges.steps.fits in
    where_ok c.format.result (same_one_line c.args.root.now c.args.steps c.hash.ensures.valid (omega (arith, small)))
