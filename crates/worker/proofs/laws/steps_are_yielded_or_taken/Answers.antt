use Rattle.worker.proofs.Steps.{steps_told}
use Rattle.worker.proofs.laws.steps_are_yielded_or_taken.Goals as goal

pub returns : goal.returns
returns g c = λ before t most first last built none i f at. steps_told g.row.A.Denot (g.N.Runner.yields c.args.runner.now) before t most first last built none i f at
