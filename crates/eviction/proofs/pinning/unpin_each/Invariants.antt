use Rattle.std.proofs.Common.{◌≡◌, ◌+◌, take}
use Rattle.eviction.specs.Kept.{pinned_cost}
use Rattle.eviction.specs.Pinning.{repinned, one_less}
use Rattle.eviction.specs.View.{held_all}
use Rattle.eviction.proofs.pinning.unpin_each.Given as goal

abbrev pub invariant-loop-key : goal.invariant-loop-key
invariant-loop-key g l = record {
  entries : held_all l.cache.entries ≡ repinned (one_less g.K.PartialEq.eq (take l.key-index l.keys)) (held_all l.initial.cache.entries);
  costs : l.taken + pinned_cost l.overhead (held_all l.cache.entries) ≡ pinned_cost l.overhead (held_all l.initial.cache.entries);
}
