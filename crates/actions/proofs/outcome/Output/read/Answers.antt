-- A fresh memo knows nothing.
use Rattle.tree.proofs.Learning.{known_nothing}
use Rattle.actions.proofs.outcome.Output.read.Goals as goal

pub read_with-requires : goal.read_with-requires
read_with-requires g c = known_nothing c.new.ensures
