use Rattle.report.proofs.ComparedLines.{differ_one_line}
use Rattle.report.proofs.Unbroken.{where_ok}
use Rattle.report.proofs.comparing.differ_line.Goals as goal

pub returns-clause-one : goal.returns-clause-one
returns-clause-one g c = where_ok c.format.result (differ_one_line c.args.what.now c.args.one.now c.args.other.now c.requires.what c.requires.one c.requires.other)
