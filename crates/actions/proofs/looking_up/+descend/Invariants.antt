use Rattle.std.proofs.Common.{length}
use Rattle.actions.proofs.looking_up.+descend.Given as goal

abbrev pub decreases-descend : goal.decreases-descend
decreases-descend g l = length l.text.now
