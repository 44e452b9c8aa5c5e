use Rattle.std.proofs.Common.{arith, refl}
use Rattle.std.specs.Prelude.{replicate}
use Rattle.wire.proofs.Shortest.{varint_shortest}
use Rattle.wire.proofs.Varints.{starts, writes_on, writes_last, written}
use Rattle.wire.specs.Varint.{varint}
use Rattle.wire.proofs.varint.write_varint.Goals as goal

pub loop-rest-init : goal.loop-rest-init
loop-rest-init g c = starts (replicate 10 0) c.args.value refl (omega (arith, c.ranges.value))

pub loop-rest-preserved : goal.loop-rest-preserved
loop-rest-preserved g c = writes_on c.loop-rest.groups c.loop-rest.len (varint c.args.value) c.loop-rest.rest c.loop-rest-test.true c.loop-rest.invariant

pub returns-clause-appended : goal.returns-clause-appended
returns-clause-appended g c = written c.extend_from_slice.result _ _ _ (varint c.args.value) c.extend_from_slice.ensures.items (writes_last c.loop-rest.groups c.loop-rest.len (varint c.args.value) c.loop-rest.rest c.loop-rest-test.false c.loop-rest.invariant)

pub returns-clause-shortest : goal.returns-clause-shortest
returns-clause-shortest g c = varint_shortest c.args.value (omega (arith, c.ranges.value))
