use Rattle.report.proofs.ComparedLines.{step_unbroken}
use Rattle.report.proofs.Unbroken.{where_ok, none_in_name}
use Rattle.report.proofs.comparing.step_words.Goals as goal

pub returns-clause-unbroken : goal.returns-clause-unbroken
returns-clause-unbroken g c = where_ok c.format.result (step_unbroken c.args.name.now c.args.words.now (none_in_name c.args.name.now c.as_str-name.ensures.valid) c.requires)
