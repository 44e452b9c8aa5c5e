use Rattle.tree.proofs.Learning.{known_nothing}
use Rattle.test_messages.proofs.trees.difference.Goals as goal

pub first_difference-requires-clause-known : goal.first_difference-requires-clause-known
first_difference-requires-clause-known g c = known_nothing c.new-memo.ensures
