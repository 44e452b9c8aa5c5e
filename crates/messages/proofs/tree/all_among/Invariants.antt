use Rattle.std.proofs.Common.{◌≡◌, drop}
use Rattle.messages.specs.Tree.{all_among}
use Rattle.messages.proofs.tree.all_among.Given as goal

abbrev pub invariant-loop-digest : goal.invariant-loop-digest
invariant-loop-digest g l = all_among (drop l.digest-index l.digests) l.fn.others ≡ all_among l.digests l.fn.others
