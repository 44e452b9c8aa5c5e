use Rattle.std.proofs.Common.{take}
use Rattle.tree.proofs.MergeTrees.{NotAmong}
use Rattle.actions.proofs.looking_up.first_child.Given as goal

abbrev pub invariant-loop-index : goal.invariant-loop-index
invariant-loop-index g l = NotAmong l.digest (take l.index l.other-items)
