use Rattle.std.proofs.Common.{refl}
use Rattle.worker.proofs.TwoStepsBuilt.{is_built, none_finished}
use Rattle.worker.proofs.laws.a_build_takes_two_steps.Goals as goal

pub returns-clause-built : goal.returns-clause-built
returns-clause-built g c = is_built c.args.alloc.now (g.N.Runner.yields c.args.runner.now)

pub returns-clause-fresh : goal.returns-clause-fresh
returns-clause-fresh g c = none_finished

pub returns-clause-complete : goal.returns-clause-complete
returns-clause-complete g c = (refl, (refl, tt))
