use Rattle.std.proofs.Common.{◌≡◌, ◌++◌}
use Rattle.tree.specs.FlatTree.{flat_value}
use Rattle.tree.proofs.unfolding.by_path.Given as goal

abbrev pub invariant-loop-names : goal.invariant-loop-names
invariant-loop-names g l = flat_value l.map.entries ++ flat_value l.names-iterator.rest.items ≡ flat_value l.fn.entries.items
