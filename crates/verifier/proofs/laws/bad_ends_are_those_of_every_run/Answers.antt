use Rattle.verifier.proofs.BadEnds.{runs_fail, runs_make}
use Rattle.verifier.proofs.laws.bad_ends_are_those_of_every_run.Goals as goal

pub returns-clause-code : goal.returns-clause-code
returns-clause-code g c = λ tells sources plan recorded claim name code valid h. runs_fail g.row.A.Denot tells sources plan recorded claim valid name code h

pub returns-clause-unlisted : goal.returns-clause-unlisted
returns-clause-unlisted g c = λ tells sources plan recorded claim name path valid h. runs_make g.row.A.Denot tells sources plan recorded claim valid name path h
