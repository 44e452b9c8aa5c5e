use Rattle.std.proofs.Common.{◌≡◌, ◌++◌, map, drop}
use Rattle.action_cache.specs.Reading.{to_file}
use Rattle.action_cache.proofs.reference.push_files.Given as goal

abbrev pub invariant-loop-file : goal.invariant-loop-file
invariant-loop-file g l = l.out.items ++ map to_file (drop l.file-index l.files) ≡ l.fn.out.items ++ map to_file l.files
