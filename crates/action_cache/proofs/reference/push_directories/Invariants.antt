use Rattle.std.proofs.Common.{◌≡◌, ◌++◌, map, drop}
use Rattle.action_cache.specs.Reading.{to_tree}
use Rattle.action_cache.proofs.reference.push_directories.Given as goal

abbrev pub invariant-loop-directory : goal.invariant-loop-directory
invariant-loop-directory g l = l.out.items ++ map to_tree (drop l.directory-index l.directories) ≡ l.fn.out.items ++ map to_tree l.directories
