use Rattle.commands.proofs.OfTwo.{OnLine}
use Rattle.commands.proofs.comparing.first_other_line.Given as goal

abbrev pub invariant-loop-index : goal.invariant-loop-index
invariant-loop-index l = OnLine l.one l.other l.index l.line
