use Rattle.std.proofs.Common.{◌≡◌, drop, map}
use Rattle.std.specs.String.{string_bytes}
use Rattle.canonical.specs.View.{slices}
use Rattle.canonical.specs.Told.{each}
use Rattle.wire.proofs.Steps.{with_front}
use Rattle.action_messages.specs.Fields.{string_of}
use Rattle.action_messages.proofs.fields.strings_of.Given as goal

abbrev pub invariant-loop-bytes : goal.invariant-loop-bytes
invariant-loop-bytes g l = with_front (map string_bytes l.strings.items) (each string_of (slices (drop l.bytes-index l.elements))) ≡ each string_of (slices l.elements)
