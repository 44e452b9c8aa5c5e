use Rattle.std.proofs.Common.{◌≡◌, [], take}
use Rattle.messages.specs.DirectoryRules.{directory_with}
use Rattle.tree.specs.Unfolding.{made}
use Rattle.tree.proofs.unfolding.insert_symlinks.Given as goal

abbrev pub invariant-loop-symlink : goal.invariant-loop-symlink
invariant-loop-symlink g l =
    made l.children.entries ≡ directory_with [] [] (take l.symlink-index l.symlinks)
