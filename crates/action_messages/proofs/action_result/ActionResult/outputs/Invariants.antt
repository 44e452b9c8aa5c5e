use Rattle.std.proofs.Common.{◌+◌, length}
use Rattle.action_messages.specs.Outputs.{recorded_values}
use Rattle.action_messages.proofs.Merging.{Walks}
use Rattle.action_messages.proofs.action_result.ActionResult.outputs.Given as goal

abbrev pub invariant-loop-output : goal.invariant-loop-output
invariant-loop-output g l = Walks l.self (recorded_values l.outputs.items) l.files l.directories l.symlinks

abbrev pub decreases-loop-output : goal.decreases-loop-output
decreases-loop-output g l = length l.files + length l.directories + length l.symlinks
