use Rattle.verifier.proofs.Passing.{yes_recorded, recorded_yes, differs_recorded, recorded_verdict, recorded_stays}
use Rattle.verifier.proofs.laws.yes_is_as_recorded.Goals as goal

pub returns-clause-yes : goal.returns-clause-yes
returns-clause-yes g c = λ tells sources plan recorded claim v h.
    ((λ yes. yes_recorded g.row.A.Denot tells sources plan recorded claim v h yes), (λ k. recorded_yes g.row.A.Denot tells sources plan recorded claim v h k))

pub returns-clause-differs : goal.returns-clause-differs
returns-clause-differs g c = λ tells sources plan recorded claim other h. differs_recorded g.row.A.Denot tells sources plan recorded claim other h

pub returns-clause-accepted : goal.returns-clause-accepted
returns-clause-accepted g c = λ tells sources plan recorded claim h. recorded_verdict g.row.A.Denot tells sources plan recorded claim h

pub returns-clause-stays : goal.returns-clause-stays
returns-clause-stays g c = λ old new sources plan recorded claim blobs results h. recorded_stays g.row.A.Denot old new sources plan recorded claim blobs results h
