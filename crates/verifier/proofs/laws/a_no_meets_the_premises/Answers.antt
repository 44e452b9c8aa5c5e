use Rattle.verifier.proofs.TwoNoes.{clashing_valid, clashes, clashing_runs, rootless_valid, no_root, rootless_runs, other_valid, other_frame, other_runs}
use Rattle.verifier.proofs.TwoEnds.{fails, failed_runs, unlisted, unlisted_runs}
use Rattle.verifier.proofs.TwoStages.{nothing_told, other_claimed}
use Rattle.verifier.proofs.TwoStepsRun.{is_complete}
use Rattle.verifier.proofs.laws.a_no_meets_the_premises.Goals as goal

pub returns-clause-step : goal.returns-clause-step
returns-clause-step g c = nothing_told g.row.A.Denot

pub returns-clause-root : goal.returns-clause-root
returns-clause-root g c = other_claimed g.row.A.Denot

pub returns-clause-conflict : goal.returns-clause-conflict
returns-clause-conflict g c = (clashing_valid, clashes g.row.A.Denot)

pub returns-clause-before : goal.returns-clause-before
returns-clause-before g c = clashing_runs

pub returns-clause-missing : goal.returns-clause-missing
returns-clause-missing g c = (rootless_valid, no_root g.row.A.Denot)

pub returns-clause-complete : goal.returns-clause-complete
returns-clause-complete g c = (rootless_runs, is_complete)

pub returns-clause-other : goal.returns-clause-other
returns-clause-other g c = (other_valid, other_frame g.row.A.Denot)

pub returns-clause-running : goal.returns-clause-running
returns-clause-running g c = other_runs

pub returns-clause-failed : goal.returns-clause-failed
returns-clause-failed g c = fails g.row.A.Denot

pub returns-clause-fails : goal.returns-clause-fails
returns-clause-fails g c = failed_runs

pub returns-clause-unlisted : goal.returns-clause-unlisted
returns-clause-unlisted g c = unlisted g.row.A.Denot

pub returns-clause-makes : goal.returns-clause-makes
returns-clause-makes g c = unlisted_runs
