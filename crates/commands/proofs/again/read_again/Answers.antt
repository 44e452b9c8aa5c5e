use Rattle.std.proofs.KnownBytes.{Keeps-refl, Keeps-trans}
use Rattle.commands.proofs.again.read_again.Goals as goal

pub loop-init : goal.loop-init
loop-init g c = Keeps-refl (g.T.Read.remaining c.args.reader.now)

pub loop-preserved : goal.loop-preserved
loop-preserved g c =
    Keeps-trans (g.T.Read.remaining c.args.reader.now) (g.T.Read.remaining c.loop.reader) (g.T.Read.remaining c.read.new.self) c.loop.invariant c.in-Err.ensures.bytes

pub returns-in_default-clause-bytes : goal.returns-in_default-clause-bytes
returns-in_default-clause-bytes g c =
    Keeps-trans (g.T.Read.remaining c.args.reader.now) (g.T.Read.remaining c.loop.reader) (g.T.Read.remaining c.read.new.self) c.loop.invariant c.in-Err.ensures.bytes
