use Rattle.std.proofs.Common.{◌≡◌, ◌+◌, ◌-◌, length, drop, map}
use Rattle.messages.specs.Order.{IsAscending, share_name}
use Rattle.messages.proofs.order.share_a_name.Given as goal

abbrev pub invariant-loop-i : goal.invariant-loop-i
invariant-loop-i g l = record {
  nodes : IsAscending (map g.N.Named.name_in (drop l.i l.nodes));
  others : IsAscending (map g.M.Named.name_in (drop l.j l.others));
  shared : share_name (map g.N.Named.name_in (drop l.i l.nodes)) (map g.M.Named.name_in (drop l.j l.others)) ≡ share_name (map g.N.Named.name_in l.nodes) (map g.M.Named.name_in l.others);
}

abbrev pub decreases-loop-i : goal.decreases-loop-i
decreases-loop-i g l = (length l.nodes - l.i) + (length l.others - l.j)
