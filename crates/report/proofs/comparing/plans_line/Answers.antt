use Rattle.std.proofs.Common.{◌∙◌, arith}
use Rattle.std.specs.Prelude.{decimal}
use Rattle.report.proofs.ComparedLines.{none_as}
use Rattle.report.proofs.Unbroken.{none_in_number}
use Rattle.report.proofs.comparing.plans_line.Goals as goal

pub differ_line-requires-clause-other : goal.differ_line-requires-clause-other
differ_line-requires-clause-other g c =
    let small = c.ranges.line.fits in
    none_as c.as_str.result.now (decimal c.args.line) (c.as_str.ensures.value ∙ (c.in_ok-number.ensures {u = tt}).ok) (none_in_number c.args.line (omega (arith, small)))
