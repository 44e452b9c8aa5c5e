use Rattle.std.proofs.Common.{◌≡◌, ℕ, [], ◌++◌, take}
use Rattle.tree.specs.Merging.{WithinValue, child_lines}
use Rattle.tree.specs.MergeParts.{part_values}
use Rattle.messages.specs.DirectoryRules.{directory_with}
use Rattle.tree.proofs.merging.push_children.Given as goal

abbrev pub invariant-loop-file : goal.invariant-loop-file
invariant-loop-file g l = (W : ℕ → WithinValue) → part_values W l.parts.items ≡ part_values W l.fn.parts.items ++ child_lines (W l.line) (directory_with (take l.file-index l.directory.files) [] [])

abbrev pub invariant-loop-directory : goal.invariant-loop-directory
invariant-loop-directory g l = (W : ℕ → WithinValue) → part_values W l.parts.items ≡ part_values W l.fn.parts.items ++ child_lines (W l.line) (directory_with l.fn.directory.files (take l.directory-index l.fn.directory.directories) [])

abbrev pub invariant-loop-symlink : goal.invariant-loop-symlink
invariant-loop-symlink g l = (W : ℕ → WithinValue) → part_values W l.parts.items ≡ part_values W l.fn.parts.items ++ child_lines (W l.line) (directory_with l.fn.directory.files l.fn.directory.directories (take l.symlink-index l.fn.directory.symlinks))
