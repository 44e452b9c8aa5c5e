use Rattle.std.proofs.Common.{◌≡◌, take}
use Rattle.plan.proofs.StepNames.{step_names}
use Rattle.plan.proofs.record.Record.fits.Given as goal

abbrev pub invariant-loop-number : goal.invariant-loop-number
invariant-loop-number g l = take l.number l.self.names ≡ take l.number (step_names l.plan.steps)
