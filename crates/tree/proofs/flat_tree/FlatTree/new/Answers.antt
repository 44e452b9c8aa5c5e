use Rattle.tree.proofs.FlatTrees.{flat_nothing}
use Rattle.tree.proofs.flat_tree.FlatTree.new.Goals as goal

pub invariant_of-result : goal.invariant_of-result
invariant_of-result g c = flat_nothing _ c.new.ensures.empty
