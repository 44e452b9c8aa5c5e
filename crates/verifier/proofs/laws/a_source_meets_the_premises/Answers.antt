use Rattle.verifier.proofs.SourceStep.{reading_valid, as_recorded, runs, is_complete}
use Rattle.verifier.proofs.laws.a_source_meets_the_premises.Goals as goal

pub returns-clause-plan : goal.returns-clause-plan
returns-clause-plan c = reading_valid

pub returns-clause-accepted : goal.returns-clause-accepted
returns-clause-accepted c = as_recorded

pub returns-clause-run : goal.returns-clause-run
returns-clause-run c = runs

pub returns-clause-complete : goal.returns-clause-complete
returns-clause-complete c = is_complete
