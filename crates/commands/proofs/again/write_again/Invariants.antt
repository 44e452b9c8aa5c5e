use Rattle.std.specs.Io.KnownBytes.{Keeps}
use Rattle.commands.proofs.again.write_again.Given as goal

-- nothing was written so far
abbrev pub invariant-loop : goal.invariant-loop
invariant-loop g l = Keeps (g.T.Write.contents l.initial.writer) (g.T.Write.contents l.writer)
