use Rattle.std.proofs.Common.{length}
use Rattle.commands.specs.Told.{AppendsUpTo}
use Rattle.commands.proofs.telling.write_bytes.Given as goal

abbrev pub invariant-loop-rest : goal.invariant-loop-rest
invariant-loop-rest g l = AppendsUpTo (g.O.Write.contents l.initial.out) (g.O.Write.contents l.out) l.bytes l.rest

abbrev pub decreases-loop-rest : goal.decreases-loop-rest
decreases-loop-rest g l = length l.rest
