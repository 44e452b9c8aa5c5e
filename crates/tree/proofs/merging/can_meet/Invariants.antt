use Rattle.std.proofs.Common.{ℕ, take}
use Rattle.std.specs.List.{AllByRecursion}
use Rattle.tree.specs.Merging.{WithinValue, CanMeetAt}
use Rattle.tree.specs.MergeParts.{part_values}
use Rattle.tree.proofs.merging.can_meet.Given as goal

abbrev pub invariant-loop-part : goal.invariant-loop-part
invariant-loop-part g l = (W : ℕ → WithinValue) → AllByRecursion (λ q. CanMeetAt q.0 q.1) (part_values W (take l.part-index l.parts))
