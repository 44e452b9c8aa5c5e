use Rattle.std.proofs.Common.{rules, refl}
use Rattle.remote.proofs.line.Line.starve.Goals as goal

pub returns : goal.returns
returns g c = record {
  is = refl;
  flow = refl;
  broken = refl;
  uncounted = record { count = refl; fault = refl };
  bounded = search rules;
  server = record { host = refl; prefix = refl };
}
