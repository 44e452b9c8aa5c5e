use Rattle.std.proofs.Common.{◌≡◌, ◌++◌, drop}
use Rattle.actions.specs.Outcome.{outputs_in}
use Rattle.action_messages.specs.Outputs.{directories_among}
use Rattle.runs.specs.Results.{recorded_outputs}
use Rattle.runs.proofs.results.directories_of.Given as goal

abbrev pub invariant-loop-output : goal.invariant-loop-output
invariant-loop-output g l = l.directories.items ++ directories_among (recorded_outputs (outputs_in (drop l.output-index l.outputs))) ≡ directories_among (recorded_outputs (outputs_in l.outputs))
