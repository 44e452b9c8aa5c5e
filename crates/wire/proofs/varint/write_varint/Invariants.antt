use Rattle.wire.specs.Varint.{varint}
use Rattle.wire.proofs.Varints.{WritesSome}
use Rattle.wire.proofs.varint.write_varint.Given as goal

abbrev pub invariant-loop-rest : goal.invariant-loop-rest
invariant-loop-rest g l = WritesSome l.groups l.len (varint l.value) l.rest

abbrev pub decreases-loop-rest : goal.decreases-loop-rest
decreases-loop-rest g l = l.rest
