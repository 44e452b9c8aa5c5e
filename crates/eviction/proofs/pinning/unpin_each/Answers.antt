use Rattle.std.proofs.Common.{◌-◌, arith, sym, ap, ◌∙◌, take}
use Rattle.std.proofs.lemmas.List.{take_all}
use Rattle.eviction.specs.Kept.{total_cost}
use Rattle.eviction.specs.Pinning.{repinned, one_less}
use Rattle.eviction.specs.View.{held_all}
use Rattle.eviction.proofs.Costs.{pinned_le}
use Rattle.eviction.proofs.Repins.{repinned_id, repinned_next, total-repinned}
use Rattle.eviction.proofs.pinning.unpin_each.Goals as goal

pub loop-key-init : goal.loop-key-init
loop-key-init g c = record { entries = sym (repinned_id (held_all c.args.cache.now.entries)); costs = omega arith }

pub unpin_one-taken-requires : goal.unpin_one-taken-requires
unpin_one-taken-requires g c =
    let total = ap (total_cost c.args.overhead) c.loop-key.invariant.entries ∙ total-repinned c.args.overhead (one_less g.K.PartialEq.eq (take c.loop-key.key-index c.args.keys.now)) (held_all c.args.cache.now.entries) in
    let all = c.requires.costs in
    omega arith

pub overflow_add-taken : goal.overflow_add-taken
overflow_add-taken g c =
    let most = pinned_le c.args.overhead (held_all c.args.cache.now.entries) in
    let all = c.requires.costs in
    omega arith

pub loop-key-preserved : goal.loop-key-preserved
loop-key-preserved g c = record {
  entries = repinned_next g.K.PartialEq.eq g.met.K.Eq.laws (λ n. n - 1) c.args.keys.now c.loop-key.key-index c.key-item.result (held_all c.args.cache.now.entries) (held_all c.unpin_one-taken.new.cache.entries) (held_all c.loop-key.cache.entries)
      c.requires.distinct c.loop-key-test.true c.key-item.is c.unpin_one-taken.ensures.entries c.loop-key.invariant.entries;
  costs = omega arith;
}

pub returns-clause-entries : goal.returns-clause-entries
returns-clause-entries g c = c.loop-key.invariant.entries ∙ ap (λ vs. repinned (one_less g.K.PartialEq.eq vs) (held_all c.args.cache.now.entries)) (take_all c.loop-key.key-index c.args.keys.now c.loop-key-test.false)
