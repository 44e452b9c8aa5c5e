use Rattle.std.proofs.Common.{◌≡◌, ◌++◌, drop}
use Rattle.actions.specs.Outcome.{outputs_in}
use Rattle.action_messages.specs.Outputs.{links_among}
use Rattle.runs.specs.Results.{recorded_outputs}
use Rattle.runs.proofs.results.symlinks_of.Given as goal

abbrev pub invariant-loop-output : goal.invariant-loop-output
invariant-loop-output g l = l.symlinks.items ++ links_among (recorded_outputs (outputs_in (drop l.output-index l.outputs))) ≡ links_among (recorded_outputs (outputs_in l.outputs))
