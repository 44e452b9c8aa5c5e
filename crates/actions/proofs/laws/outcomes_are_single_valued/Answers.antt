use Rattle.actions.proofs.Once.{outputs_once, recorded_once, first_fault_once, recorded_or_fault, looked_once, within_once}
use Rattle.actions.proofs.laws.outcomes_are_single_valued.Goals as goal

pub returns-clause-outputs : goal.returns-clause-outputs
returns-clause-outputs c = outputs_once

pub returns-clause-recorded : goal.returns-clause-recorded
returns-clause-recorded c = recorded_once

pub returns-clause-faults : goal.returns-clause-faults
returns-clause-faults c = first_fault_once

pub returns-clause-excluded : goal.returns-clause-excluded
returns-clause-excluded c = recorded_or_fault

pub returns-clause-looked : goal.returns-clause-looked
returns-clause-looked c = looked_once

pub returns-clause-within : goal.returns-clause-within
returns-clause-within c = within_once
