use Rattle.verifier.proofs.Differences.{OnFirst}
use Rattle.verifier.proofs.forms.first_difference.Given as goal

abbrev pub invariant-loop-index : goal.invariant-loop-index
invariant-loop-index g l = OnFirst l.ones l.others l.index
