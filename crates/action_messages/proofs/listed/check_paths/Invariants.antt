use Rattle.std.proofs.Common.{◌≡◌, drop, map, None, option_map}
use Rattle.std.specs.List.{AllByRecursion}
use Rattle.messages.specs.Order.{bytes_cmp}
use Rattle.action_messages.specs.Ascending.{ascending_behind}
use Rattle.action_messages.specs.Overlaps.{texts_of}
use Rattle.action_messages.proofs.listed.check_paths.Given as goal

abbrev pub invariant-loop-item : goal.invariant-loop-item
invariant-loop-item g l = record {
  ascend : ascending_behind bytes_cmp (option_map (λ x. x.now) l.before) (texts_of (map g.L.Listed.path_in (drop l.item-index l.items))) ≡ ascending_behind bytes_cmp None (texts_of (map g.L.Listed.path_in l.items));
  kept : AllByRecursion g.L.Listed.keeps (drop l.item-index l.items) → AllByRecursion g.L.Listed.keeps l.items;
}
