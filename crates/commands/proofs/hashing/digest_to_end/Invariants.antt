use Rattle.std.proofs.Common.{◌-◌}
use Rattle.blob_digest.specs.Hashing.{taken_len}
use Rattle.commands.proofs.Pieces.{IsHashedSoFar}
use Rattle.commands.proofs.hashing.digest_to_end.Given as goal

-- what was read is hashed
abbrev pub invariant-pieces : goal.invariant-pieces
invariant-pieces g l = IsHashedSoFar (g.F.Read.remaining l.fn.file) (g.F.Read.remaining l.file) l.hasher

abbrev pub decreases-pieces : goal.decreases-pieces
decreases-pieces g l = 1152921504606846976 - taken_len l.hasher
