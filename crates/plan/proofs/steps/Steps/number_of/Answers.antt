use Rattle.plan.proofs.StepNames.{found_step}
use Rattle.plan.proofs.steps.Steps.number_of.Goals as goal

pub returns : goal.returns
returns g c = rw (c.get_index_of.ensures.index, ← c.self.view_is) (found_step c.args.name.now c.self.inside.names.keys c.self.inside.steps.items c.self.invariant)
