use Rattle.std.proofs.Common.{sym, arith}
use Rattle.eviction.specs.View.{held_all}
use Rattle.eviction.proofs.Looks.{without_no_keys, without_next}
use Rattle.eviction.proofs.evicting.take_out.Goals as goal

pub loop-key-init : goal.loop-key-init
loop-key-init g c = record { entries = sym (without_no_keys g.K.PartialEq.eq (held_all c.args.cache.now.entries)); cost = omega arith }

pub loop-key-preserved : goal.loop-key-preserved
loop-key-preserved g c = record {
  entries = without_next g.K.PartialEq.eq c.args.keys.now c.loop-key.key-index c.key-item.result (held_all c.args.cache.now.entries) (held_all c.take_one-freed.new.cache.entries) (held_all c.loop-key.cache.entries) c.loop-key-test.true c.key-item.is c.take_one-freed.ensures.entries c.loop-key.invariant.entries;
  cost = omega arith;
}
