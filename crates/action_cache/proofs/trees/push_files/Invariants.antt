use Rattle.std.proofs.Common.{◌≡◌, ◌++◌, drop}
use Rattle.action_cache.specs.Reading.{digests_of_files}
use Rattle.action_cache.proofs.trees.push_files.Given as goal

abbrev pub invariant-loop-file : goal.invariant-loop-file
invariant-loop-file g l = l.out.items ++ digests_of_files (drop l.file-index l.files) ≡ l.fn.out.items ++ digests_of_files l.files
