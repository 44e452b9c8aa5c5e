use Rattle.tree.proofs.mismatch.+mismatch_below.Given as goal

abbrev pub decreases-mismatch_below : goal.decreases-mismatch_below
decreases-mismatch_below g l = l.deeper
