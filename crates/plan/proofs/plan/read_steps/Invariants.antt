use Rattle.std.proofs.Common.{length}
use Rattle.plan.proofs.Beginnings.{KeepsFront}
use Rattle.plan.proofs.plan.read_steps.Given as goal

abbrev pub invariant-loop-line : goal.invariant-loop-line
invariant-loop-line g l = KeepsFront l.version l.text l.steps l.rest l.number

abbrev pub decreases-loop-line : goal.decreases-loop-line
decreases-loop-line g l = length l.rest
