use Rattle.std.proofs.Common.{[], ◌∷◌, ◌++◌, ap, sym, ◌∙◌}
use Rattle.std.specs.BTreeMap.{insert_entry}
use Rattle.tree.specs.Tree.{name_cmp}
use Rattle.tree.specs.MergeParts.{part_value, part_values, group_values}
use Rattle.tree.proofs.MergeGroups.{table_sets, table_inserts}
use Rattle.tree.proofs.MergeLoops.{map_pushed}
use Rattle.tree.proofs.merging.add_part.Goals as goal

pub returns-in-Some : goal.returns-in-Some
returns-in-Some g c = λ W.
    let v = c.push.new.self in
    let items = ap (part_values W) (c.in_ok-push.ensures {u = tt}).items ∙ map_pushed (part_value W) c.in-Some.under.now.items c.args.part in
    ap (group_values W) (c.get_mut.follows.holds v).0
    ∙ table_sets W c.args.groups.now.entries c.args.name c.in-Some.under.now v (part_value W c.args.part) c.get_mut.ensures.ordered (sym c.in-Some.ensures.value) items

pub returns : goal.returns
returns g c = λ W.
    let v = c.push-2.new.self in
    let items = ap (part_values W) ((c.in_ok-push-2.ensures {u = tt}).items ∙ ap (λ ps. ps ++ c.args.part ∷ []) (c.in_ok-under.ensures {u = tt}).items) in
    ap (group_values W) ((c.in_ok-insert.ensures {u = tt}).entries ∙ ap (λ m. insert_entry name_cmp m.entries c.args.name v) c.get_mut.follows.holds-at-none)
    ∙ table_inserts W c.args.groups.now.entries c.args.name v (part_value W c.args.part) (sym c.in_default.ensures.value) items
