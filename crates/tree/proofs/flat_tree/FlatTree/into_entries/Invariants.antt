use Rattle.std.proofs.Common.{◌≡◌, ◌++◌}
use Rattle.std.specs.List.{AllByRecursion}
use Rattle.messages.specs.Path.{IsPath}
use Rattle.tree.specs.FlatTree.{flat_value, path_values}
use Rattle.tree.proofs.flat_tree.FlatTree.into_entries.Given as goal

abbrev pub invariant-loop-names : goal.invariant-loop-names
invariant-loop-names g l = record {
  next : (goal.iterator-loop-names g).can_next l.names-iterator;
  finite : (goal.iterator-loop-names g).is_finite l.names-iterator;
  paths : AllByRecursion (λ e. IsPath e.0) (flat_value l.names-iterator);
  entries : path_values l.entries.items ++ flat_value l.names-iterator ≡ l.fn.self;
}
