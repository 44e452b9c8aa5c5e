use Rattle.std.proofs.Common.{◌≡◌, ◌++◌, length}
use Rattle.plan.specs.Plan.{AreLines, KeepApart, lines_text}
use Rattle.plan.proofs.Directories.{AreTargetsIn}
use Rattle.plan.proofs.plan.read_lines.Given as goal

abbrev pub invariant-loop-alloc : goal.invariant-loop-alloc
invariant-loop-alloc g l = record {
  text : l.text ≡ lines_text l.steps l.lines.items ++ l.rest;
  valid : AreLines (length l.steps) l.lines.items;
  apart : KeepApart l.version l.lines.items;
  targets : AreTargetsIn l.version l.targets l.lines.items;
}

abbrev pub decreases-loop-alloc : goal.decreases-loop-alloc
decreases-loop-alloc g l = length l.rest
