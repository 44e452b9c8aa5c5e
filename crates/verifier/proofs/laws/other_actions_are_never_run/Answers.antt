use Rattle.verifier.proofs.Unbuilt.{no_run_has_action}
use Rattle.verifier.proofs.laws.other_actions_are_never_run.Goals as goal

pub returns : goal.returns
returns g c = λ tells sources plan recorded claim name cause valid h other. no_run_has_action g.row.A.Denot tells sources plan recorded claim valid cause other name h
