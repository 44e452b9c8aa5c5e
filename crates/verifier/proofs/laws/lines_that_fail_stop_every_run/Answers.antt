use Rattle.verifier.proofs.Unbuilt.{no_run_starts, no_run_has_root}
use Rattle.verifier.proofs.laws.lines_that_fail_stop_every_run.Goals as goal

pub returns-clause-step : goal.returns-clause-step
returns-clause-step g c = λ tells sources plan recorded claim name cause valid h lines. no_run_starts g.row.A.Denot tells sources plan recorded claim valid cause lines name h

pub returns-clause-root : goal.returns-clause-root
returns-clause-root g c = λ tells sources plan recorded claim cause valid h lines. no_run_has_root g.row.A.Denot tells sources plan recorded claim valid cause lines h
