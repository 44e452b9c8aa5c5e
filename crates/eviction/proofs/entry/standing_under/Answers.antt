use Rattle.std.proofs.Common.{◌≡◌, arith, sym, Some, None, length}
use Rattle.eviction.proofs.Looks.{cost_within, stands, distinct_held}
use Rattle.eviction.proofs.entry.standing_under.Goals as goal

pub overflow_add-result : goal.overflow_add-result
overflow_add-result g c = let within = cost_within (g.K.PartialEq.eq c.args.key.now) c.args.overhead c.args.cache.now.entries c.in-Some.entry.now (sym c.in-Some.ensures) in omega arith

pub returns-in-Some-clause-stands : goal.returns-in-Some-clause-stands
returns-in-Some-clause-stands g c =
    let len : c.len.result ≡ length c.in-Some.entry.now.bytes = omega arith in
    rw len (stands g.K.PartialEq.eq g.met.K.Eq.laws c.args.key.now c.args.overhead c.args.cache.now.entries (Some c.in-Some.entry.now) c.len-count.ensures.valid.0 c.in-Some.ensures)

pub returns-in-None-clause-stands : goal.returns-in-None-clause-stands
returns-in-None-clause-stands g c = stands g.K.PartialEq.eq g.met.K.Eq.laws c.args.key.now c.args.overhead c.args.cache.now.entries None c.len-count.ensures.valid.0 c.in-None.ensures

pub returns-in-Some-clause-distinct : goal.returns-in-Some-clause-distinct
returns-in-Some-clause-distinct g c = distinct_held g.K.PartialEq.eq c.args.cache.now.entries c.len-count.ensures.valid.0

pub returns-in-None-clause-distinct : goal.returns-in-None-clause-distinct
returns-in-None-clause-distinct g c = distinct_held g.K.PartialEq.eq c.args.cache.now.entries c.len-count.ensures.valid.0
