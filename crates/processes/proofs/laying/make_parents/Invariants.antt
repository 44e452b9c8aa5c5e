use Rattle.std.proofs.Common.{take}
use Rattle.processes.specs.Workshop.{Becomes, with_folders}
use Rattle.processes.specs.Laying.{folders_above}
use Rattle.processes.proofs.laying.make_parents.Given as goal

abbrev pub invariant-loop-path : goal.invariant-loop-path
invariant-loop-path g l = Becomes g.W.Workshop.works l.fn.room l.room (with_folders (folders_above l.start (take l.path-index l.outputs)))
