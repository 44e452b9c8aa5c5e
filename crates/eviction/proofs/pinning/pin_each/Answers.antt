use Rattle.std.proofs.Common.{◌+◌, arith, sym, ap, ◌∙◌, take}
use Rattle.std.specs.Prelude.{if◌then◌else◌}
use Rattle.std.proofs.lemmas.List.{take_all}
use Rattle.eviction.specs.Kept.{total_cost}
use Rattle.eviction.specs.Pinning.{repinned, pins_of, one_more}
use Rattle.eviction.specs.View.{held_all}
use Rattle.eviction.proofs.Costs.{pinned_le}
use Rattle.eviction.proofs.Repins.{repinned_id, repinned_next, total-repinned, pins_later, among_at}
use Rattle.eviction.proofs.pinning.pin_each.Goals as goal

pub loop-key-init : goal.loop-key-init
loop-key-init g c = record { entries = sym (repinned_id (held_all c.args.cache.now.entries)); costs = omega arith }

pub pin_one-added-requires-clause-costs : goal.pin_one-added-requires-clause-costs
pin_one-added-requires-clause-costs g c =
    let total = ap (total_cost c.args.overhead) c.loop-key.invariant.entries ∙ total-repinned c.args.overhead (one_more g.K.PartialEq.eq (take c.loop-key.key-index c.args.keys.now)) (held_all c.args.cache.now.entries) in
    let all = c.requires.costs in
    omega arith

pub pin_one-added-requires-clause-count : goal.pin_one-added-requires-clause-count
pin_one-added-requires-clause-count g c =
    let eq = g.K.PartialEq.eq in
    let later = ap (λ es. pins_of eq es c.key-item.result) c.loop-key.invariant.entries ∙ pins_later eq g.met.K.Eq.laws (λ n. n + 1) c.args.keys.now c.loop-key.key-index c.key-item.result (held_all c.args.cache.now.entries) c.requires.distinct c.loop-key-test.true c.key-item.is in
    let few = c.requires.counts c.key-item.result (among_at eq g.met.K.Eq.laws c.args.keys.now c.loop-key.key-index c.key-item.result c.loop-key-test.true c.key-item.is) in
    omega arith

pub overflow_add-added : goal.overflow_add-added
overflow_add-added g c =
    let total = ap (total_cost c.args.overhead) c.loop-key.invariant.entries ∙ total-repinned c.args.overhead (one_more g.K.PartialEq.eq (take c.loop-key.key-index c.args.keys.now)) (held_all c.args.cache.now.entries) in
    let after = ap (total_cost c.args.overhead) c.pin_one-added.ensures.entries ∙ total-repinned c.args.overhead (λ k n. if g.K.PartialEq.eq c.key-item.result k then n + 1 else n) (held_all c.loop-key.cache.entries) in
    let most = pinned_le c.args.overhead (held_all c.pin_one-added.new.cache.entries) in
    let all = c.requires.costs in
    omega arith

pub loop-key-preserved : goal.loop-key-preserved
loop-key-preserved g c = record {
  entries = repinned_next g.K.PartialEq.eq g.met.K.Eq.laws (λ n. n + 1) c.args.keys.now c.loop-key.key-index c.key-item.result (held_all c.args.cache.now.entries) (held_all c.pin_one-added.new.cache.entries) (held_all c.loop-key.cache.entries)
      c.requires.distinct c.loop-key-test.true c.key-item.is c.pin_one-added.ensures.entries c.loop-key.invariant.entries;
  costs = omega arith;
}

pub returns-clause-entries : goal.returns-clause-entries
returns-clause-entries g c = c.loop-key.invariant.entries ∙ ap (λ vs. repinned (one_more g.K.PartialEq.eq vs) (held_all c.args.cache.now.entries)) (take_all c.loop-key.key-index c.args.keys.now c.loop-key-test.false)
