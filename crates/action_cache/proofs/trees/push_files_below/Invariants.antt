use Rattle.std.proofs.Common.{◌≡◌, ◌++◌, drop}
use Rattle.action_cache.specs.Reading.{files_below}
use Rattle.action_cache.proofs.trees.push_files_below.Given as goal

abbrev pub invariant-loop-directory : goal.invariant-loop-directory
invariant-loop-directory g l = l.out.items ++ files_below (drop l.directory-index l.directories) ≡ l.fn.out.items ++ files_below l.directories
