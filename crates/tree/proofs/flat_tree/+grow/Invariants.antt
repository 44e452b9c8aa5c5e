use Rattle.std.proofs.Common.{◌-◌, length}
use Rattle.tree.proofs.flat_tree.+grow.Given as goal

abbrev pub decreases-grow : goal.decreases-grow
decreases-grow g l = length l.names.now - l.depth
