use Rattle.tree.proofs.comparing.+difference_below.Given as goal

abbrev pub decreases-difference_below : goal.decreases-difference_below
decreases-difference_below g l = l.deeper
