use Rattle.std.proofs.Common.{◌≡◌, ◌∙◌, List, ap, sym, subst}
use Rattle.plan.specs.Faults.{HasStep}
use Rattle.plan.specs.Parts.{items_of}
use Rattle.plan.specs.Values.{StepValue}
use Rattle.plan.proofs.StepNames.{one_more, step_names}
use Rattle.plan.proofs.steps.Steps.with.Goals as goal

pub invariant_of-self : goal.invariant_of-self
invariant_of-self g c =
    let same : c.in_ok-name.name.items ≡ c.args.step.name = c.in_ok-name.ensures.items ∙ c.as_bytes.ensures.value ∙ ap (λ (s : StepValue). s.name) c.step.view_is in
    let new = subst (λ (steps : List StepValue). HasStep steps c.args.step.name → ⊥) (sym c.self.view_is) c.requires in
    ap items_of (c.in_ok-insert_full.ensures {u = tt}).keys
    ∙ one_more c.in_ok-name.name c.self.inside.names.keys c.self.inside.steps.items c.args.step c.self.invariant same new
    ∙ ap step_names (sym (c.in_ok-push.ensures {u = tt}).items)
