use Rattle.std.proofs.Common.{◌≡◌, ◌∙◌, length, sym, subst, arith}
use Rattle.commands.proofs.OfTwo.{begins_there, bytes_differ, ends_there, other_line}
use Rattle.commands.proofs.comparing.first_other_line.Goals as goal

pub returns-in_default : goal.returns-in_default
returns-in_default c =
    other_line c.args.one.now c.args.other.now c.loop-index.index c.loop-index.line c.loop-index.invariant
    (ends_there c.args.one.now c.args.other.now c.loop-index.index c.loop-index-test.true c.in_default.ensures.lookup.3)

pub returns-then-twin-byte : goal.returns-then-twin-byte
returns-then-twin-byte c =
    let found = c.in-Some.ensures.lookup in let differ = c.if-twin-byte.true in
    other_line c.args.one.now c.args.other.now c.loop-index.index c.loop-index.line c.loop-index.invariant
    (bytes_differ c.args.one.now c.args.other.now c.loop-index.index c.loop-index-test.true c.in-Some.ensures.lookup.3.0 (λ same. differ (c.in-Some.ensures.lookup.3.1 0 ∙ same)))

pub returns-then-one-other : goal.returns-then-one-other
returns-then-one-other c =
    let past = c.loop-index-test.false in let end = c.loop-index.auto.index-end in let lt = c.if-one-other.true in
    other_line c.args.one.now c.args.other.now c.loop-index.index c.loop-index.line c.loop-index.invariant
    (begins_there c.args.one.now c.args.other.now c.loop-index.index past (omega (arith, end, lt)))
