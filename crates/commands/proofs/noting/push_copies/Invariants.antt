use Rattle.std.proofs.Common.{◌≡◌, ◌++◌, take}
use Rattle.tree.specs.Folded.{items_of}
use Rattle.commands.proofs.noting.push_copies.Given as goal

abbrev pub invariant-loop-encoding : goal.invariant-loop-encoding
invariant-loop-encoding l = items_of l.known.items ≡ items_of l.fn.known.items ++ items_of (take l.encoding-index l.encodings)
