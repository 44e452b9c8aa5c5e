use Rattle.std.proofs.Common.{◌≡◌, ◌++◌, []}
use Rattle.tree.specs.Folded.{items_of, unseen}
use Rattle.tree.proofs.folding.distinct.Given as goal

abbrev pub invariant-loop-encoding : goal.invariant-loop-encoding
invariant-loop-encoding g l = items_of l.set.keys ++ unseen (items_of l.set.keys) (items_of l.encoding-iterator.rest.items) ≡ unseen [] (items_of l.fn.encodings.items)
