use Rattle.std.proofs.Common.{◌≡◌, map, take}
use Rattle.blob_digest.specs.Digest.{digest_of}
use Rattle.tree.proofs.comparing.digests_of.Given as goal

abbrev pub invariant-loop-encoding : goal.invariant-loop-encoding
invariant-loop-encoding g l = l.digests.items ≡ map (λ e. digest_of e.items) (take l.encoding-index l.encodings)
