use Rattle.std.proofs.Common.{◌≡◌, ap}
use Rattle.plan.specs.Lines.{step_name}
use Rattle.plan.specs.Values.{StepValue}
use Rattle.plan.proofs.StepNames.{step_name_at}
use Rattle.plan.proofs.line.write_origin.Goals as goal

pub returns-in-Output : goal.returns-in-Output
returns-in-Output g c =
    let within = rw c.in-Output.is at c.requires in
    let named : step_name c.args.steps.now c.in-Output.number ≡ c.index-steps-number.result.name = step_name_at c.args.steps.now c.in-Output.number c.index-steps-number.result within.0 c.index-steps-number.is in
    let same : c.step.inside.name ≡ c.index-steps-number.result.name = ap (λ (s : StepValue). s.name) c.step.view_is in
    let whole = rw same at c.write_output.ensures in
    rw (c.in-Output.is, named) whole
