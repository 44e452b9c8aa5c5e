use Rattle.plan.proofs.Records.{record_fault_one, no_record_fault}
use Rattle.plan.proofs.laws.record_faults_are_single_valued.Goals as goal

pub returns-clause-once : goal.returns-clause-once
returns-clause-once c = record_fault_one

pub returns-clause-none : goal.returns-clause-none
returns-clause-none c = no_record_fault
