use Rattle.std.proofs.Common.{◌≡◌, ℕ, [], ◌++◌}
use Rattle.tree.specs.Merging.{WithinValue, counted}
use Rattle.tree.specs.MergeParts.{part_values, AreGivenBy}
use Rattle.tree.proofs.merging.count_once.Given as goal

abbrev pub invariant-loop-part : goal.invariant-loop-part
invariant-loop-part g l = (W : ℕ → WithinValue) → (part_values W l.kept.items ++ counted (part_values W l.kept.items) (part_values W l.part-iterator.rest.items) ≡ counted [] (part_values W l.fn.parts.items)) × AreGivenBy (part_values W l.kept.items) l.given
