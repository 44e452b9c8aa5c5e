use Rattle.std.proofs.Common.{take}
use Rattle.worker.specs.Values.{contents_of}
use Rattle.processes.specs.Workshop.{Becomes, with_files}
use Rattle.processes.specs.Laying.{files_placed}
use Rattle.processes.proofs.laying.write_files.Given as goal

abbrev pub invariant-loop-file : goal.invariant-loop-file
invariant-loop-file g l = Becomes g.W.Workshop.works l.fn.room l.room (with_files (files_placed l.folder (contents_of (take l.file-index l.files))))
