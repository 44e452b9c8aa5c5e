use Rattle.std.proofs.Common.{◌≡◌, take}
use Rattle.plan.proofs.StepNames.{step_names}
use Rattle.plan.proofs.record.copy_names.Given as goal

abbrev pub invariant-loop-step : goal.invariant-loop-step
invariant-loop-step g l = l.names.items ≡ step_names (take l.step-index l.steps)
