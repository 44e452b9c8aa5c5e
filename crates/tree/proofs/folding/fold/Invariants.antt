use Rattle.std.proofs.Common.{◌≡◌, map}
use Rattle.std.specs.Map.Iter.{deref_pair}
use Rattle.tree.specs.FlatTree.{flat_value}
use Rattle.tree.specs.Visiting.{line_entries}
use Rattle.tree.proofs.folding.fold.Given as goal

abbrev pub invariant-loop-names : goal.invariant-loop-names
invariant-loop-names g l = line_entries l.lines.items ≡ flat_value (map deref_pair l.yielded)
