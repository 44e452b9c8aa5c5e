use Rattle.std.proofs.Common.{◌≡◌, [], take}
use Rattle.messages.specs.DirectoryRules.{directory_with}
use Rattle.tree.specs.Unfolding.{made}
use Rattle.tree.proofs.unfolding.insert_directories.Given as goal

abbrev pub invariant-loop-directory : goal.invariant-loop-directory
invariant-loop-directory g l =
    made l.children.entries ≡ directory_with [] (take l.directory-index l.directories) (made l.fn.children.entries).symlinks
