use Rattle.std.proofs.Common.{take}
use Rattle.std.specs.Prelude.{map, string_bytes}
use Rattle.tree.specs.Lookup.{names_in}
use Rattle.tree.specs.Folded.{items_of}
use Rattle.processes.proofs.Walks.{IsSoFar}
use Rattle.processes.proofs.walking.+walk.Given as goal

abbrev pub invariant-loop-name : goal.invariant-loop-name
invariant-loop-name g l = IsSoFar g.W.Workshop.works l.left.ended.now l.place (names_in l.above) (map string_bytes (take l.name-index l.name-items)) l.fn.tree l.tree (items_of l.fn.blobs.items) (items_of l.blobs.items)

abbrev pub decreases-walk : goal.decreases-walk
decreases-walk g l = l.most
