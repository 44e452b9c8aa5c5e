use Rattle.std.proofs.Common.{◌≡◌, ℕ}
use Rattle.tree.specs.Merging.{WithinValue, grouped}
use Rattle.tree.specs.MergeParts.{part_values, group_values}
use Rattle.tree.proofs.MergeGroups.{grown}
use Rattle.tree.proofs.merging.group.Given as goal

abbrev pub invariant-loop-part : goal.invariant-loop-part
invariant-loop-part g l = (W : ℕ → WithinValue) → grown (group_values W l.groups.entries) (part_values W l.part-iterator.rest.items) ≡ grouped (part_values W l.fn.parts.items)
