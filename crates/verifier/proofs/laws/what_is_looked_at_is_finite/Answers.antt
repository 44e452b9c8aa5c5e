use Rattle.verifier.proofs.FiniteLooks.{plan_listed}
use Rattle.verifier.proofs.laws.what_is_looked_at_is_finite.Goals as goal

pub returns : goal.returns
returns g c = λ tells sources plan recorded none. plan_listed g.row.A.Denot tells sources plan recorded none
