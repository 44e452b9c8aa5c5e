use Rattle.tree.proofs.MergeExample.{meeting_told, they_meet, unlike_told, they_conflict}
use Rattle.tree.proofs.merge_laws.merges_meet_the_premises.Goals as goal

pub returns-clause-meet : goal.returns-clause-meet
returns-clause-meet c = meeting_told

pub returns-clause-met : goal.returns-clause-met
returns-clause-met c = they_meet

pub returns-clause-unlike : goal.returns-clause-unlike
returns-clause-unlike c = unlike_told

pub returns-clause-refused : goal.returns-clause-refused
returns-clause-refused c = they_conflict
