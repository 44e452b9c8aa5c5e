use Rattle.std.proofs.Common.{get_or, refl, ap, subst, arith}
use Rattle.tree.specs.Form.{node_value}
use Rattle.tree.specs.Lookup.{nothing, found, looked}
use Rattle.tree.specs.Merging.{within_value}
use Rattle.actions.specs.Outcome.{output_value}
use Rattle.actions.specs.OutcomeLookup.{LooksBelow}
use Rattle.actions.specs.Parts.{names_left}
use Rattle.actions.proofs.OutcomeLookups.{ascending, valid, within, none_over, looks_over, lies_over, memory_over}
use Rattle.actions.proofs.outcome.Outcome.lookup_within.Goals as goal

pub find_over-requires-clause-ascend : goal.find_over-requires-clause-ascend
find_over-requires-clause-ascend g c = ascending c.args.self.now c.outputs-outputs.result.now c.outputs-outputs.ensures.value c.outputs-outputs.ensures.valid

pub find_over-requires-clause-valid : goal.find_over-requires-clause-valid
find_over-requires-clause-valid g c = valid c.args.self.now c.outputs-outputs.result.now c.outputs-outputs.ensures.value c.outputs-outputs.ensures.valid

pub offset_bounds-outputs-over : goal.offset_bounds-outputs-over
offset_bounds-outputs-over g c = omega (arith, within c.outputs-outputs.result.now c.in-Some.over.place c.in-Some.ensures.0 c.in-Some.ensures.1)

pub bounds-outputs-over : goal.bounds-outputs-over
bounds-outputs-over g c = within c.outputs-outputs.result.now c.in-Some.over.place c.in-Some.ensures.0 c.in-Some.ensures.1

pub returns-in_default-clause-looked : goal.returns-in_default-clause-looked
returns-in_default-clause-looked g c = none_over c.args.self.now c.args.path.now c.outputs-outputs.result.now c.outputs-outputs.ensures.value c.in_default.ensures

pub returns-in-Some-2-clause-looked : goal.returns-in-Some-2-clause-looked
returns-in-Some-2-clause-looked g c =
    let over = c.in-Some.ensures in
    let rest = names_left c.in-Some.over.below in
    let item = get_or c.outputs-outputs.result.now c.in-Some.over.place c.index-outputs-over.result in
    looks_over c.args.self.now c.args.path.now rest c.outputs-outputs.result.now c.in-Some.over.place item over.0 c.outputs-outputs.ensures.value over.1 (ap (get_or c.outputs-outputs.result.now c.in-Some.over.place) c.index-outputs-over.is) over.2
    (found (node_value c.in-Some-2.node)) (subst (λ x. LooksBelow (output_value item.1) rest (looked x)) c.in-Some-2.is (c.in_ok-node.ensures {u = tt}).looked)

pub returns-in-Some-2-clause-within : goal.returns-in-Some-2-clause-within
returns-in-Some-2-clause-within g c =
    let over = c.in-Some.ensures in
    let rest = names_left c.in-Some.over.below in
    let item = get_or c.outputs-outputs.result.now c.in-Some.over.place c.index-outputs-over.result in
    lies_over c.args.self.now c.args.path.now rest c.outputs-outputs.result.now c.in-Some.over.place item over.0 c.outputs-outputs.ensures.value over.1 (ap (get_or c.outputs-outputs.result.now c.in-Some.over.place) c.index-outputs-over.is) over.2
    (within_value c.within.result) c.within.ensures

pub returns-in-None-clause-looked : goal.returns-in-None-clause-looked
returns-in-None-clause-looked g c =
    let over = c.in-Some.ensures in
    let rest = names_left c.in-Some.over.below in
    let item = get_or c.outputs-outputs.result.now c.in-Some.over.place c.index-outputs-over.result in
    looks_over c.args.self.now c.args.path.now rest c.outputs-outputs.result.now c.in-Some.over.place item over.0 c.outputs-outputs.ensures.value over.1 (ap (get_or c.outputs-outputs.result.now c.in-Some.over.place) c.index-outputs-over.is) over.2
    nothing (subst (λ x. LooksBelow (output_value item.1) rest (looked x)) c.in-None.is (c.in_ok-node.ensures {u = tt}).looked)

pub returns-in_err-node-clause-memory : goal.returns-in_err-node-clause-memory
returns-in_err-node-clause-memory g c e =
    let over = c.in-Some.ensures in
    let rest = names_left c.in-Some.over.below in
    let item = get_or c.outputs-outputs.result.now c.in-Some.over.place c.index-outputs-over.result in
    memory_over c.args.self.now c.args.path.now rest c.outputs-outputs.result.now c.in-Some.over.place item over.0 c.outputs-outputs.ensures.value over.1 (ap (get_or c.outputs-outputs.result.now c.in-Some.over.place) c.index-outputs-over.is) over.2
    (c.in_err-node.ensures.memory refl)
