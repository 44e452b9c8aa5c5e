use Rattle.verifier.proofs.Holds.{recorded_ends, recorded_unstuck, recorded_as_chosen}
use Rattle.verifier.proofs.laws.recorded_plans_end_in_the_claim.Goals as goal

pub returns-clause-ends : goal.returns-clause-ends
returns-clause-ends c = λ blobs results sources plan recorded claim valid h. recorded_ends blobs results sources plan recorded claim valid h

pub returns-clause-unstuck : goal.returns-clause-unstuck
returns-clause-unstuck c = λ blobs results sources plan recorded claim valid h. recorded_unstuck blobs results sources plan recorded claim valid h

pub returns-clause-chosen : goal.returns-clause-chosen
returns-clause-chosen c = λ blobs results sources plan recorded claim valid h. recorded_as_chosen blobs results sources plan recorded claim valid h
