use Rattle.std.proofs.Common.{◌≡◌, ◌++◌, take}
use Rattle.tree.specs.Folded.{items_of}
use Rattle.verifier.specs.Made.{encodings_of}
use Rattle.verifier.proofs.made.push_encodings.Given as goal

abbrev pub invariant-loop-directory : goal.invariant-loop-directory
invariant-loop-directory g l = items_of l.encodings.items ≡ items_of l.fn.encodings.items ++ encodings_of (take l.directory-index l.directories)
