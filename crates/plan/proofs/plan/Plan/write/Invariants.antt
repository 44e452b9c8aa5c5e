use Rattle.std.proofs.Common.{◌≡◌, ◌++◌, take}
use Rattle.std.specs.List.{flat_map}
use Rattle.plan.specs.Plan.{plan_header, step_text}
use Rattle.plan.proofs.plan.Plan.write.Given as goal

abbrev pub invariant-loop-step : goal.invariant-loop-step
invariant-loop-step g l = l.text.items ≡ plan_header l.self.version ++ flat_map (step_text l.self.steps) (take l.step-index l.self.steps)
