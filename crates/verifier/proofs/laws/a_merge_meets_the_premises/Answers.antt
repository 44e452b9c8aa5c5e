use Rattle.std.proofs.Common.{refl, inr}
use Rattle.std.specs.Prelude.{[], codes}
use Rattle.verifier.proofs.TwoSteps.{meeting_valid}
use Rattle.verifier.proofs.TwoStepsRecorded.{meeting_recorded}
use Rattle.verifier.proofs.TwoStepsRun.{is_complete}
use Rattle.verifier.proofs.TwoStages.{meeting_runs}
use Rattle.verifier.proofs.laws.a_merge_meets_the_premises.Goals as goal

pub returns-clause-plan : goal.returns-clause-plan
returns-clause-plan c = meeting_valid

pub returns-clause-meets : goal.returns-clause-meets
returns-clause-meets c = λ apart. apart.0.0 (inr (inr (codes "b", [], refl)))

pub returns-clause-accepted : goal.returns-clause-accepted
returns-clause-accepted c = meeting_recorded

pub returns-clause-run : goal.returns-clause-run
returns-clause-run c = meeting_runs

pub returns-clause-complete : goal.returns-clause-complete
returns-clause-complete c = is_complete
