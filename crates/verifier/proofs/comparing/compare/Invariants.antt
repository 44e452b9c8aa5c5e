use Rattle.verifier.specs.Compared.{AreStepsAlikeBelow}
use Rattle.verifier.proofs.comparing.compare.Given as goal

abbrev pub invariant-loop-index : goal.invariant-loop-index
invariant-loop-index g l = AreStepsAlikeBelow l.ones l.others l.index
