use Rattle.std.proofs.Common.{◌≡◌, ◌++◌, take}
use Rattle.plan.specs.Plan.{lines_text}
use Rattle.plan.proofs.line.write_lines.Given as goal

abbrev pub invariant-loop-line : goal.invariant-loop-line
invariant-loop-line g l = l.text.items ≡ l.fn.text.items ++ lines_text l.steps (take l.line-index l.lines)
