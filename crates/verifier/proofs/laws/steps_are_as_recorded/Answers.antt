use Rattle.verifier.proofs.StepLaws.{once_step, recorded_from, from_recorded}
use Rattle.verifier.proofs.laws.steps_are_as_recorded.Goals as goal

pub returns-clause-passes : goal.returns-clause-passes
returns-clause-passes g c = λ tells sources before step d o.
    ((λ h. recorded_from g.row.A.Denot tells sources before step d o h), (λ h. from_recorded g.row.A.Denot tells sources before step d o h))

pub returns-clause-fails : goal.returns-clause-fails
returns-clause-fails g c = λ tells sources before step d cause valid h o recorded.
    (once_step {A = g.row.A.Denot} tells sources before step d valid).either o cause (from_recorded g.row.A.Denot tells sources before step d o recorded) h
