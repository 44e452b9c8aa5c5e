use Rattle.worker.proofs.Acts.{steps_act}
use Rattle.worker.proofs.laws.actions_are_of_steps.Goals as goal

pub returns : goal.returns
returns g c = λ t most first last led none idle i f at. steps_act g.row.A.Denot (g.N.Runner.yields c.args.runner.now) t most first last led none idle i f at
