use Rattle.std.proofs.Common.{◌+◌, arith, sym, ap, ◌∙◌}
use Rattle.eviction.specs.Kept.{total_cost}
use Rattle.eviction.specs.Pinning.{one_more}
use Rattle.eviction.specs.View.{held_all}
use Rattle.eviction.proofs.Costs.{pinned_le}
use Rattle.eviction.proofs.Repins.{total-repinned, tallied_repinned, all_stored_is}
use Rattle.eviction.proofs.bounded.Bounded.pin_all.Goals as goal

pub returns-then-not-holds_all-clause-not_held : goal.returns-then-not-holds_all-clause-not_held
returns-then-not-holds_all-clause-not_held g c = rw (← c.self.view_is) (sym (all_stored_is g.K.PartialEq.eq c.self.inside.cache.entries c.args.keys.now) ∙ sym c.holds_all.ensures ∙ c.if-not-holds_all.true)

pub overflow_add-self : goal.overflow_add-self
overflow_add-self g c =
    let i = c.self.inside in
    let total = ap (total_cost i.overhead) c.pin_each-added.ensures.entries ∙ total-repinned i.overhead (one_more g.K.PartialEq.eq c.args.keys.now) (held_all i.cache.entries) in
    let most = pinned_le i.overhead (held_all c.pin_each-added.new.cache.entries) in
    let within = c.self.invariant.within in
    let held = c.self.invariant.held_is in
    let bound = c.self.invariant.limit_is in
    omega arith

pub invariant_of-self : goal.invariant_of-self
invariant_of-self g c =
    let i = c.self.inside in
    let costs = c.pin_each-added.ensures.costs in
    let pinned = c.self.invariant.pinned_is in
    tallied_repinned (one_more g.K.PartialEq.eq c.args.keys.now) (held_all i.cache.entries) (held_all c.pin_each-added.new.cache.entries) i.limit i.overhead i.held i.pinned (c.self.inside.pinned + c.pin_each-added.result) c.pin_each-added.ensures.entries (omega arith) c.self.invariant

pub returns-clause-held : goal.returns-clause-held
returns-clause-held g c = rw (← c.self.view_is) (sym (all_stored_is g.K.PartialEq.eq c.self.inside.cache.entries c.args.keys.now) ∙ sym c.holds_all.ensures ∙ c.if-not-holds_all.false)
