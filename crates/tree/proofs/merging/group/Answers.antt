-- The groups so far, and the lines that are left, make those of all lines.
use Rattle.std.proofs.Common.{◌≡◌, ◌<◌, ◌∷◌, [], ap, sym, ◌∙◌, length, rules, arith}
use Rattle.std.proofs.lemmas.Bool.Decides.{Decides-eqb}
use Rattle.std.specs.Vec.{vec_len}
use Rattle.tree.specs.Form.{node_value}
use Rattle.tree.specs.Merging.{NodeWithin}
use Rattle.tree.specs.MergeParts.{part_values, group_values}
use Rattle.tree.proofs.MergeGroups.{grown, grown-grouped}
use Rattle.tree.proofs.MergeLoops.{nothing_left, first_removed, some_if_not}
use Rattle.tree.proofs.merging.group.Goals as goal

pub loop-part-init : goal.loop-part-init
loop-part-init g c = λ W.
    let items : c.into_iter-part-iterator.result.rest.items ≡ c.args.parts.items = search rules in
    ap (λ es. grown (group_values W es) (part_values W c.into_iter-part-iterator.result.rest.items)) c.new-groups.ensures.empty ∙ ap (λ ps. grown [] (part_values W ps)) items ∙ grown-grouped (part_values W c.args.parts.items)

pub loop-part-preserved-in-Continue-1 : goal.loop-part-preserved-in-Continue-1
loop-part-preserved-in-Continue-1 g c = λ W.
    let left = c.next.new.self.rest.items in
    let part = c.in-Some.part in
    let steps : c.loop-part.part-iterator.rest.items ≡ part ∷ left = search rules in
    let count = some_if_not (vec_len part.names) (sym c.if-not-is_empty.ensures) in
    let some : 0 < length part.names.items = omega (arith, count, part.names.ok.0) in
    let names = first_removed part.names.items c.remove-name.new.self.items c.remove-name.result some c.remove-name.ensures.value c.remove-name.ensures.items in
    let x : NodeWithin = record { node = node_value part.node; within = W part.line } in
    ap (λ gs. grown gs (part_values W left)) (c.in_ok-add_part.ensures {u = tt} W)
    ∙ ap (λ ns. grown (group_values W c.loop-part.groups.entries) ((ns, x) ∷ part_values W left)) (sym names)
    ∙ ap (λ ps. grown (group_values W c.loop-part.groups.entries) (part_values W ps)) (sym steps)
    ∙ c.loop-part.invariant W

pub loop-part-preserved-else-not-is_empty : goal.loop-part-preserved-else-not-is_empty
loop-part-preserved-else-not-is_empty g c = λ W.
    let left = c.next.new.self.rest.items in
    let part = c.in-Some.part in
    let steps : c.loop-part.part-iterator.rest.items ≡ part ∷ left = search rules in
    let test = (Decides-eqb (vec_len part.names) 0).0 (sym c.if-not-is_empty.ensures) in
    let none = nothing_left part.names.items (omega (arith, test, part.names.ok.0)) in
    ap (λ ns. grown (group_values W c.loop-part.groups.entries) ((ns, record { node = node_value part.node; within = W part.line }) ∷ part_values W left)) (sym none)
    ∙ ap (λ ps. grown (group_values W c.loop-part.groups.entries) (part_values W ps)) (sym steps)
    ∙ c.loop-part.invariant W

pub loop-part-preserved : goal.loop-part-preserved
loop-part-preserved g c = λ W.
    let left = c.next.new.self.rest.items in
    let part = c.in-Some.part in
    let steps : c.loop-part.part-iterator.rest.items ≡ part ∷ left = search rules in
    let test = (Decides-eqb (vec_len part.names) 0).0 (sym c.if-not-is_empty.ensures) in
    let none = nothing_left part.names.items (omega (arith, test, part.names.ok.0)) in
    ap (λ ns. grown (group_values W c.loop-part.groups.entries) ((ns, record { node = node_value part.node; within = W part.line }) ∷ part_values W left)) (sym none)
    ∙ ap (λ ps. grown (group_values W c.loop-part.groups.entries) (part_values W ps)) (sym steps)
    ∙ c.loop-part.invariant W

pub returns : goal.returns
returns g c = λ W.
    let none = nothing_left c.loop-part.part-iterator.rest.items (omega (arith, c.in-None.ensures.steps.0, c.loop-part.part-iterator.rest.ok.0)) in
    ap (λ ps. grown (group_values W c.loop-part.groups.entries) (part_values W ps)) (sym none) ∙ c.loop-part.invariant W
