use Rattle.verifier.proofs.NoAtStep.{no_at_step, no_at_root}
use Rattle.verifier.proofs.laws.no_is_unlike_recorded.Goals as goal

pub returns-clause-step : goal.returns-clause-step
returns-clause-step g c = λ tells sources plan recorded claim name cause h. no_at_step g.row.A.Denot tells sources plan recorded claim name cause h

pub returns-clause-root : goal.returns-clause-root
returns-clause-root g c = λ tells sources plan recorded claim cause h. no_at_root g.row.A.Denot tells sources plan recorded claim cause h
