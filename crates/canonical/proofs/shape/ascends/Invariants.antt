use Rattle.std.proofs.Common.{◌≡◌, drop}
use Rattle.canonical.specs.Shape.{is_ascending_past, is_shape}
use Rattle.canonical.proofs.shape.ascends.Given as goal

abbrev pub invariant-loop-entry : goal.invariant-loop-entry
invariant-loop-entry l = is_ascending_past l.before (drop l.entry-index l.entries) ≡ is_shape l.entries
