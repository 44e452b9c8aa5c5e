use Rattle.std.proofs.Common.{◌≡◌, ◌<◌, length, get_or, List, [], ap, subst, sym, ◌∙◌, arith}
use Rattle.std.specs.List.{AllByRecursion}
use Rattle.plan.specs.Values.{StepValue, IsLine}
use Rattle.plan.proofs.StepTexts.{lines_within}
use Rattle.plan.proofs.plan.Plan.write.Goals as goal

pub write_step-requires : goal.write_step-requires
write_step-requires g c =
    let items : c.deref-step-items.result.now ≡ c.self.inside.steps.items = c.deref-step-items.ensures.value in
    let all : c.deref.result.now ≡ c.self.inside.steps.items = c.deref.ensures.value in
    let within : c.loop-step.step-index < length c.self.inside.steps.items = subst (λ (steps : List StepValue). c.loop-step.step-index < length steps) items c.loop-step-test.true in
    let at : c.step-item.result ≡ get_or c.self.inside.steps.items c.loop-step.step-index c.step-item.result = c.step-item.is ∙ ap (λ (steps : List StepValue). get_or steps c.loop-step.step-index c.step-item.result) items in
    let lines = lines_within [] c.self.inside.steps.items (length c.self.inside.steps.items) c.loop-step.step-index c.step-item.result c.self.invariant.steps (omega arith) within at in
    subst (λ (steps : List StepValue). AllByRecursion (IsLine (length steps)) c.step-item.result.lines) (sym all) lines
