use Rattle.std.proofs.Common.{◌≡◌, ◌++◌, map, take}
use Rattle.archive.specs.Writing.{entry_value}
use Rattle.keeping.specs.Told.{told_value}
use Rattle.keeping.proofs.told.push_entries.Given as goal

abbrev pub invariant-loop-file : goal.invariant-loop-file
invariant-loop-file g l = map entry_value l.entries.items ≡ map entry_value l.fn.entries.items ++ map told_value (take l.file-index l.files)
