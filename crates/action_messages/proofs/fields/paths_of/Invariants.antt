use Rattle.std.proofs.Common.{◌≡◌, drop}
use Rattle.canonical.specs.View.{slices}
use Rattle.canonical.specs.Told.{each}
use Rattle.messages.specs.Path.{path_of}
use Rattle.wire.proofs.Steps.{with_front}
use Rattle.action_messages.proofs.fields.paths_of.Given as goal

abbrev pub invariant-loop-bytes : goal.invariant-loop-bytes
invariant-loop-bytes g l = with_front l.paths.items (each path_of (slices (drop l.bytes-index l.elements))) ≡ each path_of (slices l.elements)
