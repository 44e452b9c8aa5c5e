use Rattle.std.proofs.Common.{◌≡◌, ◌++◌, map}
use Rattle.std.specs.List.{filter_map}
use Rattle.keeping.specs.Told.{told_file, told_value}
use Rattle.keeping.proofs.answers.Answers.files.Given as goal

abbrev pub invariant-loop-digest : goal.invariant-loop-digest
invariant-loop-digest g l = map told_value l.files.items ++ filter_map (told_file l.part) l.digest-iterator ≡ filter_map (told_file l.part) l.self.answers.entries
