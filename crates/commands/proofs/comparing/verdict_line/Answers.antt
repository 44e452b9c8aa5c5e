use Rattle.commands.specs.Compared.{verdict_line}
use Rattle.commands.proofs.OfTwo.{named_line, where_one}
use Rattle.commands.proofs.comparing.verdict_line.Goals as goal

pub returns-clause-one : goal.returns-clause-one
returns-clause-one c = where_one c.format.result (verdict_line c.args.whose.now c.args.build.now) (named_line c.args.whose.now _ c.requires c.in_ok-verdict.ensures.one)
