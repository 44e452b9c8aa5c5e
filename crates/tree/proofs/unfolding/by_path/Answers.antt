-- The next entry comes behind those that are in the map.
use Rattle.std.proofs.Common.{rules, ◌≡◌, ◌∷◌}
use Rattle.tree.proofs.ByPath.{next_by_path, flat_ascends}
use Rattle.tree.proofs.unfolding.by_path.Goals as goal

pub loop-names-preserved-in_ok-insert : goal.loop-names-preserved-in_ok-insert
loop-names-preserved-in_ok-insert g c =
    let left = c.next.new.self.rest.items in
    let steps : c.loop-names.names-iterator.rest.items ≡ (c.in-Some.names, c.in-Some.entry) ∷ left = search rules in
    next_by_path c.loop-names.map.entries _ c.in-Some.names c.in-Some.entry _ left c.args.entries.items (flat_ascends _ c.requires) c.loop-names.invariant steps (c.in_ok-insert.ensures {u = tt}).entries

pub loop-names-preserved-in_ok-insert-2 : goal.loop-names-preserved-in_ok-insert-2
loop-names-preserved-in_ok-insert-2 g c =
    let left = c.next.new.self.rest.items in
    let steps : c.loop-names.names-iterator.rest.items ≡ (c.in-Some.names, c.in-Some.entry) ∷ left = search rules in
    next_by_path c.loop-names.map.entries _ c.in-Some.names c.in-Some.entry _ left c.args.entries.items (flat_ascends _ c.requires) c.loop-names.invariant steps (c.in_ok-insert.ensures {u = tt}).entries

pub loop-names-preserved : goal.loop-names-preserved
loop-names-preserved g c =
    let left = c.next.new.self.rest.items in
    let steps : c.loop-names.names-iterator.rest.items ≡ (c.in-Some.names, c.in-Some.entry) ∷ left = search rules in
    next_by_path c.loop-names.map.entries _ c.in-Some.names c.in-Some.entry _ left c.args.entries.items (flat_ascends _ c.requires) c.loop-names.invariant steps (c.in_ok-insert.ensures {u = tt}).entries
