use Rattle.tree.proofs.FlatTrees.{one_tree, list_maps, folded_again}
use Rattle.tree.proofs.laws.flat_trees_are_trees.Goals as goal

pub returns : goal.returns
returns g c = record { one = one_tree; maps = list_maps; folds = folded_again }
