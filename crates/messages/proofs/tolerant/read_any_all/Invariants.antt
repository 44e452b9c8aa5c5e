use Rattle.std.proofs.Common.{◌≡◌, drop}
use Rattle.canonical.specs.View.{slices}
use Rattle.canonical.specs.Told.{each}
use Rattle.messages.specs.Tolerant.{alone}
use Rattle.wire.proofs.Steps.{with_front}
use Rattle.messages.proofs.tolerant.read_any_all.Given as goal

abbrev pub invariant-loop-bytes : goal.invariant-loop-bytes
invariant-loop-bytes g l = with_front l.messages.items (each (alone g.M.Tolerant.says) (slices (drop l.bytes-index l.elements))) ≡ each (alone g.M.Tolerant.says) (slices l.elements)
