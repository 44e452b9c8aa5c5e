use Rattle.std.proofs.Common.{◌≡◌, ◌++◌, drop, map}
use Rattle.messages.specs.Directory.{directory_bytes}
use Rattle.messages.specs.Tree.{digests_of}
use Rattle.messages.proofs.tree.hash_directories.Given as goal

abbrev pub invariant-loop-directory : goal.invariant-loop-directory
invariant-loop-directory g l = l.digests.items ++ digests_of (map directory_bytes (drop l.directory-index l.directories)) ≡ digests_of (map directory_bytes l.directories)
