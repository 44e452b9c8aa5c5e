use Rattle.tree.specs.Merging.{AreHeld, merge_lines}
use Rattle.test_messages.proofs.merges.merged.Given as goal

abbrev pub invariant-loop-text : goal.invariant-loop-text
invariant-loop-text g l = AreHeld (merge_lines l.lines.items)
