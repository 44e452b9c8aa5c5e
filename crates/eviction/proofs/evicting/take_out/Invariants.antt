use Rattle.std.proofs.Common.{◌≡◌, ◌+◌, take}
use Rattle.eviction.specs.Kept.{total_cost}
use Rattle.eviction.specs.Victims.{without_keys}
use Rattle.eviction.specs.View.{held_all}
use Rattle.eviction.proofs.evicting.take_out.Given as goal

abbrev pub invariant-loop-key : goal.invariant-loop-key
invariant-loop-key g l = record {
  entries : held_all l.cache.entries ≡ without_keys g.K.PartialEq.eq (take l.key-index l.keys) (held_all l.initial.cache.entries);
  cost : l.freed + total_cost l.overhead (held_all l.cache.entries) ≡ total_cost l.overhead (held_all l.initial.cache.entries);
}
