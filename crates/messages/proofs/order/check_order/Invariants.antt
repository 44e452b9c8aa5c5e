use Rattle.std.proofs.Common.{◌≡◌, drop, map, None, option_map}
use Rattle.std.specs.List.{AllByRecursion}
use Rattle.messages.specs.Order.{ordered_behind}
use Rattle.messages.proofs.order.check_order.Given as goal

abbrev pub invariant-loop-node : goal.invariant-loop-node
invariant-loop-node g l = record {
  names : ordered_behind (option_map (λ x. x.now) l.before) (map g.N.Named.name_in (drop l.node-index l.nodes)) ≡ ordered_behind None (map g.N.Named.name_in l.nodes);
  kept : AllByRecursion g.N.Named.keeps (drop l.node-index l.nodes) → AllByRecursion g.N.Named.keeps l.nodes;
}
