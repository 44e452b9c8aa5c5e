use Rattle.std.proofs.Common.{◌≡◌, ℕ, ◌<◌, take}
use Rattle.tree.specs.Tree.{a_directory}
use Rattle.tree.specs.FlatTree.{standing_in}
use Rattle.tree.proofs.flat_tree.FlatTree.first_missing.Given as goal

abbrev pub invariant-loop-depth : goal.invariant-loop-depth
invariant-loop-depth g l = (k : ℕ) → 0 < k → k < l.depth → standing_in l.self (take k l.names) ≡ a_directory
