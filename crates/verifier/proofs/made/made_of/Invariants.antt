use Rattle.std.proofs.Common.{◌≡◌, ◌++◌, take}
use Rattle.tree.specs.Folded.{items_of}
use Rattle.verifier.specs.Made.{outcomes_directories}
use Rattle.verifier.proofs.made.made_of.Given as goal

abbrev pub invariant-loop-outcome : goal.invariant-loop-outcome
invariant-loop-outcome g l = items_of l.directories.items ≡ items_of l.root.directories.items ++ outcomes_directories (take l.outcome-index l.outcomes)
