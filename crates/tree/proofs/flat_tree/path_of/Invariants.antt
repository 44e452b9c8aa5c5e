use Rattle.std.proofs.Common.{◌≡◌, take}
use Rattle.tree.specs.Lookup.{names_in}
use Rattle.tree.proofs.flat_tree.path_of.Given as goal

abbrev pub invariant-loop-name : goal.invariant-loop-name
invariant-loop-name g l = names_in l.path ≡ take l.name-index l.names
