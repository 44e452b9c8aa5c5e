use Rattle.verifier.proofs.VerdictOnce.{verdict_once}
use Rattle.verifier.proofs.laws.verdicts_are_single_valued.Goals as goal

pub returns : goal.returns
returns g c = λ tells sources plan recorded claim v w h k. verdict_once g.row.A.Denot tells sources plan recorded claim v w h k
