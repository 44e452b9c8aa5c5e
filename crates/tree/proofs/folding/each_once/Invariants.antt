use Rattle.std.proofs.Common.{◌≡◌, ◌++◌}
use Rattle.tree.proofs.folding.each_once.Given as goal

abbrev pub invariant-loop-encoding : goal.invariant-loop-encoding
invariant-loop-encoding g l = l.directories.items ++ l.encoding-iterator ≡ l.initial.encoding-iterator
