use Rattle.tree.proofs.MergeTold.{merges_tell}
use Rattle.tree.proofs.merge_laws.merges_tell_of_trees.Goals as goal

pub returns : goal.returns
returns c = record { tells = merges_tell }
