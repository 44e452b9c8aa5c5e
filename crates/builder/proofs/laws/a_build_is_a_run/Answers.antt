use Rattle.builder.proofs.AsRun.{as_run}
use Rattle.builder.proofs.laws.a_build_is_a_run.Goals as goal

pub returns : goal.returns
returns g c = λ plan sources opening told most first last valid engine opened still led t meaning X about.
    as_run g.row.A.Denot (g.N.Runner.yields c.args.runner.now) plan sources opening told most first last valid engine opened still led t meaning X about
