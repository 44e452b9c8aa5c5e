use Rattle.std.proofs.Common.{◌≡◌, map, take}
use Rattle.std.specs.List.{AllByRecursion}
use Rattle.messages.specs.Directory.{directory_bytes}
use Rattle.messages.specs.DirectoryRules.{IsDirectory}
use Rattle.tree.specs.Folded.{items_of}
use Rattle.processes.proofs.walking.read_directories.Given as goal

abbrev pub invariant-loop-encoding : goal.invariant-loop-encoding
invariant-loop-encoding g l = (map directory_bytes l.directories.items ≡ items_of (take l.encoding-index l.encodings)) × AllByRecursion IsDirectory l.directories.items
