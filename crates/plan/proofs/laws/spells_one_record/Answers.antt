use Rattle.plan.proofs.Records.{record_one}
use Rattle.plan.proofs.laws.spells_one_record.Goals as goal

pub returns : goal.returns
returns c = record_one
