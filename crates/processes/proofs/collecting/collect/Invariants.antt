use Rattle.std.proofs.Common.{take}
use Rattle.tree.specs.Folded.{items_of}
use Rattle.processes.proofs.Gathered.{IsSoFar}
use Rattle.processes.proofs.collecting.collect.Given as goal

abbrev pub invariant-loop-path : goal.invariant-loop-path
invariant-loop-path g l = IsSoFar g.W.Workshop.works l.left.ended.now l.folder l.paths (take l.path-index l.paths) l.exit_code l.outcome (items_of l.blobs.items)
