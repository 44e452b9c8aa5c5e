use Rattle.std.proofs.KnownBytes.{Keeps-refl, Keeps-trans}
use Rattle.commands.proofs.again.write_again.Goals as goal

pub loop-init : goal.loop-init
loop-init g c = Keeps-refl (g.T.Write.contents c.args.writer.now)

pub loop-preserved : goal.loop-preserved
loop-preserved g c =
    Keeps-trans (g.T.Write.contents c.args.writer.now) (g.T.Write.contents c.loop.writer) (g.T.Write.contents c.write.new.self) c.loop.invariant c.in-Err.ensures.bytes

pub returns-in_default-clause-bytes : goal.returns-in_default-clause-bytes
returns-in_default-clause-bytes g c =
    Keeps-trans (g.T.Write.contents c.args.writer.now) (g.T.Write.contents c.loop.writer) (g.T.Write.contents c.write.new.self) c.loop.invariant c.in-Err.ensures.bytes
