use Rattle.plan.proofs.Chains.{plan_one}
use Rattle.plan.proofs.laws.spells_one_plan.Goals as goal

pub returns : goal.returns
returns c = plan_one
