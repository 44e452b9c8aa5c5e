use Rattle.std.specs.Io.KnownBytes.{Keeps}
use Rattle.commands.proofs.again.read_again.Given as goal

-- nothing was read so far
abbrev pub invariant-loop : goal.invariant-loop
invariant-loop g l = Keeps (g.T.Read.remaining l.initial.reader) (g.T.Read.remaining l.reader)
