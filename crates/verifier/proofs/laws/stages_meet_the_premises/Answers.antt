use Rattle.verifier.proofs.TwoStages.{are_yes, in_turn}
use Rattle.verifier.proofs.laws.stages_meet_the_premises.Goals as goal

pub returns-clause-yes : goal.returns-clause-yes
returns-clause-yes g c = are_yes g.row.A.Denot

pub returns-clause-runs : goal.returns-clause-runs
returns-clause-runs g c = in_turn
