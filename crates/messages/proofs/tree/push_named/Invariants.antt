use Rattle.std.proofs.Common.{◌≡◌, ◌++◌, drop}
use Rattle.std.specs.List.{AllByRecursion}
use Rattle.messages.specs.DirectoryRules.{IsDirectory}
use Rattle.messages.specs.Tree.{named_by}
use Rattle.messages.proofs.tree.push_named.Given as goal

abbrev pub invariant-loop-directory : goal.invariant-loop-directory
invariant-loop-directory g l = record {
  named : l.out.items ++ named_by (drop l.directory-index l.directories) ≡ l.fn.out.items ++ named_by l.directories;
  kept : AllByRecursion IsDirectory (drop l.directory-index l.directories) → AllByRecursion IsDirectory l.directories;
}
