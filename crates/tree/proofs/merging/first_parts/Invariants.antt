use Rattle.std.proofs.Common.{◌≡◌, take}
use Rattle.tree.specs.Merging.{merge_lines}
use Rattle.tree.specs.MergeParts.{AreValidLines, part_values, within_of}
use Rattle.tree.proofs.merging.first_parts.Given as goal

abbrev pub invariant-loop-index : goal.invariant-loop-index
invariant-loop-index g l = record {
  parts : part_values (within_of l.lines) l.parts.items ≡ merge_lines (take l.index l.lines);
  valid : AreValidLines (merge_lines (take l.index l.lines));
}
