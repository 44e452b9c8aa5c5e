use Rattle.plan.proofs.Chains.{fault_one, no_fault}
use Rattle.plan.proofs.laws.faults_are_single_valued.Goals as goal

pub returns-clause-once : goal.returns-clause-once
returns-clause-once c = fault_one

pub returns-clause-none : goal.returns-clause-none
returns-clause-none c = no_fault
