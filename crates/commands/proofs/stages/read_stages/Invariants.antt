use Rattle.std.proofs.Common.{◌≡◌, ◌++◌, length}
use Rattle.std.specs.List.{All}
use Rattle.commands.specs.Stages.{IsStage, stages_text}
use Rattle.commands.proofs.stages.read_stages.Given as goal

abbrev pub invariant-loop-stage : goal.invariant-loop-stage
invariant-loop-stage l = (l.text ≡ stages_text l.stages.items ++ l.rest) × All IsStage l.stages.items

abbrev pub decreases-loop-stage : goal.decreases-loop-stage
decreases-loop-stage l = length l.rest
