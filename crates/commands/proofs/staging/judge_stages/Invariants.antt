use Rattle.std.proofs.Common.{◌+◌, ◌*◌, ◌^◌, ◌≤◌, length}
use Rattle.commands.specs.Stages.{LeadsTo, stages_asked}
use Rattle.commands.proofs.staging.judge_stages.Given as goal

abbrev pub invariant-loop-stage : goal.invariant-loop-stage
invariant-loop-stage g l =
    LeadsTo (g.W.World.sees l.world) (stages_asked (g.M.Options.rows l.said) l.evidence l.stages l.digests.sources l.digests.claim) l.rest l.sources l.steps
    × (l.steps + length l.rest * 2 ^ 64 ≤ length l.stages * 2 ^ 64)

abbrev pub decreases-loop-stage : goal.decreases-loop-stage
decreases-loop-stage g l = length l.rest
