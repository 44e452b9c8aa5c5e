use Rattle.std.proofs.Common.{◌≡◌, ◌++◌, take}
use Rattle.actions.specs.Outcome.{outputs_in}
use Rattle.tree.specs.Folded.{items_of}
use Rattle.verifier.specs.Made.{outputs_directories}
use Rattle.verifier.proofs.made.push_outputs.Given as goal

abbrev pub invariant-loop-entry : goal.invariant-loop-entry
invariant-loop-entry g l = items_of l.encodings.items ≡ items_of l.fn.encodings.items ++ outputs_directories (outputs_in (take l.entry-index l.outputs))
