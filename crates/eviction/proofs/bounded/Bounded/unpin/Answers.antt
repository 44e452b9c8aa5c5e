use Rattle.std.proofs.Common.{◌-◌, arith, sym, ◌∙◌}
use Rattle.eviction.specs.Pinning.{one_less}
use Rattle.eviction.specs.View.{held_all}
use Rattle.eviction.proofs.Repins.{tallied_repinned, all_pinned_is}
use Rattle.eviction.proofs.bounded.Bounded.unpin.Goals as goal

pub returns-then-not-pins_all-clause-not_pinned : goal.returns-then-not-pins_all-clause-not_pinned
returns-then-not-pins_all-clause-not_pinned g c = rw (← c.self.view_is) (sym (all_pinned_is g.K.PartialEq.eq c.self.inside.cache.entries c.args.keys.now) ∙ sym c.pins_all.ensures ∙ c.if-not-pins_all.true)

pub invariant_of-self : goal.invariant_of-self
invariant_of-self g c =
    let i = c.self.inside in
    let costs = c.unpin_each-taken.ensures.costs in
    let pinned = c.self.invariant.pinned_is in
    tallied_repinned (one_less g.K.PartialEq.eq c.args.keys.now) (held_all i.cache.entries) (held_all c.unpin_each-taken.new.cache.entries) i.limit i.overhead i.held i.pinned (c.self.inside.pinned - c.unpin_each-taken.result) c.unpin_each-taken.ensures.entries (omega arith) c.self.invariant

pub returns-clause-pinned : goal.returns-clause-pinned
returns-clause-pinned g c = rw (← c.self.view_is) (sym (all_pinned_is g.K.PartialEq.eq c.self.inside.cache.entries c.args.keys.now) ∙ sym c.pins_all.ensures ∙ c.if-not-pins_all.false)
