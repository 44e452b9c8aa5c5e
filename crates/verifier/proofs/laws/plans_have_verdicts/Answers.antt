use Rattle.verifier.proofs.VerdictTotal.{verdict_total}
use Rattle.verifier.proofs.laws.plans_have_verdicts.Goals as goal

pub returns : goal.returns
returns g c = λ tells sources plan recorded claim is valid each none. verdict_total g.row.A.Denot tells sources is plan recorded claim valid each none
