use Rattle.std.proofs.Common.{arith, sym, ap, ◌∙◌, Some, None}
use Rattle.eviction.specs.View.{held_all}
use Rattle.eviction.proofs.Looks.{cost_within, cost_taken, removed_held}
use Rattle.eviction.proofs.evicting.take_one.Goals as goal

pub overflow_add-result : goal.overflow_add-result
overflow_add-result g c = let within = cost_within (g.K.PartialEq.eq c.args.key.now) c.args.overhead c.args.cache.now.entries c.in-Some.entry (sym c.in-Some.ensures.value) in omega arith

pub returns-in-Some-clause-entries : goal.returns-in-Some-clause-entries
returns-in-Some-clause-entries g c =
    ap (λ s. held_all s.entries) c.pop.ensures.entries ∙ removed_held g.K.PartialEq.eq g.met.K.Eq.laws c.args.key.now c.args.cache.now.entries c.len-count.ensures.valid.0

pub returns-in-None-clause-entries : goal.returns-in-None-clause-entries
returns-in-None-clause-entries g c =
    ap (λ s. held_all s.entries) c.pop.ensures.entries ∙ removed_held g.K.PartialEq.eq g.met.K.Eq.laws c.args.key.now c.args.cache.now.entries c.len-count.ensures.valid.0

pub returns-in-Some-clause-cost : goal.returns-in-Some-clause-cost
returns-in-Some-clause-cost g c =
    let sum = cost_taken c.args.overhead g.K.PartialEq.eq g.met.K.Eq.laws c.args.key.now c.args.cache.now.entries c.pop.new.self.entries (Some c.in-Some.entry) c.len-count.ensures.valid.0 (ap (λ s. s.entries) c.pop.ensures.entries) c.in-Some.ensures.value in
    omega arith

pub returns-in-None-clause-cost : goal.returns-in-None-clause-cost
returns-in-None-clause-cost g c =
    cost_taken c.args.overhead g.K.PartialEq.eq g.met.K.Eq.laws c.args.key.now c.args.cache.now.entries c.pop.new.self.entries None c.len-count.ensures.valid.0 (ap (λ s. s.entries) c.pop.ensures.entries) c.in-None.ensures.value
