use Rattle.runs.proofs.TwoStepsServed.{engine_valid, is_mirrored, is_served}
use Rattle.runs.proofs.laws.a_build_is_served.Goals as goal

pub returns-clause-engine : goal.returns-clause-engine
returns-clause-engine c = engine_valid

pub returns-clause-mirrored : goal.returns-clause-mirrored
returns-clause-mirrored c = is_mirrored

pub returns-clause-served : goal.returns-clause-served
returns-clause-served c = is_served
