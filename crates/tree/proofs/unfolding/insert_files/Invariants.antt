use Rattle.std.proofs.Common.{◌≡◌, take}
use Rattle.messages.specs.DirectoryRules.{directory_with}
use Rattle.tree.specs.Unfolding.{made}
use Rattle.tree.proofs.unfolding.insert_files.Given as goal

abbrev pub invariant-loop-file : goal.invariant-loop-file
invariant-loop-file g l =
    made l.children.entries ≡ directory_with (take l.file-index l.files) (made l.fn.children.entries).directories (made l.fn.children.entries).symlinks
