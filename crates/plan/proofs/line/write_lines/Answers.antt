use Rattle.std.proofs.Common.{length, arith}
use Rattle.std.proofs.lemmas.Grind.{common_steps}
use Rattle.plan.specs.Values.{IsLine}
use Rattle.plan.proofs.OneLine.{all_at_index}
use Rattle.plan.proofs.line.write_lines.Goals as goal

pub write_line-requires : goal.write_line-requires
write_line-requires g c = all_at_index (IsLine (length c.args.steps.now)) c.args.lines.now c.loop-line.line-index c.line-item.result c.requires c.loop-line-test.true c.line-item.is

pub loop-line-preserved : goal.loop-line-preserved
loop-line-preserved g c = grind (arith, common_steps)
