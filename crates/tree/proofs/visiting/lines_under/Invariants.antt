use Rattle.std.proofs.Common.{◌≡◌, ◌++◌, drop}
use Rattle.tree.specs.Visiting.{led, lines_seen}
use Rattle.tree.proofs.visiting.lines_under.Given as goal

abbrev pub invariant-loop-line : goal.invariant-loop-line
invariant-loop-line g l = lines_seen l.under.items ++ led l.name (lines_seen (drop l.line-index l.lines)) ≡ led l.name (lines_seen l.lines)
