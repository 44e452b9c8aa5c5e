-- The children that are left on both sides, and the next two of them.
use Rattle.std.proofs.Common.{[], ◌∷◌, sym, subst, ◌∙◌, refl}
use Rattle.std.proofs.lemmas.Map.Iter.{rest_more, rest_all}
use Rattle.tree.specs.Form.{node_value}
use Rattle.tree.specs.Unfolding.{child_values, AreChildren}
use Rattle.tree.proofs.TreeLemmas.{name_same, name_greater}
use Rattle.tree.proofs.FirstNames.{SideBySide, side_first, side_next, first_grafted, first_recorded, first_both, later_rest, later_own}
use Rattle.tree.proofs.difference.first_name.Goals as goal

pub loop-name-init : goal.loop-name-init
loop-name-init g c = record {
  next = tt;
  finite = tt;
  side = side_first c.args.grafted.now c.args.recorded.now _ _
      (subst (λ l. AreChildren (child_values l) c.args.grafted.now) (sym c.into_iter-name-iterator.ensures.into_iter_gives.0) (c.in_ok-name-items.ensures {u = tt}))
      (subst (λ l. AreChildren (child_values l) c.args.recorded.now) (sym c.into_iter-others.ensures.into_iter_gives.0) (c.in_ok-children_by_name.ensures {u = tt}));
}

pub returns-in_default : goal.returns-in_default
returns-in_default g c =
    let own = rest_more (λ x. x) c.loop-name.name-iterator c.next.new.self c.next.result (c.in-Some.name, c.in-Some.node) c.in-Some.is c.next.ensures.steps in
    let none = rest_all (λ x. x) c.loop-name.others c.next-in-loop-name.new.self c.next-in-loop-name.result c.in_default.is c.next-in-loop-name.ensures.steps in
    let side = subst (λ l. SideBySide c.args.grafted.now c.args.recorded.now (child_values l) (child_values c.loop-name.others)) own c.loop-name.invariant.side in
    let both = subst (λ l. SideBySide c.args.grafted.now c.args.recorded.now ((c.in-Some.name, node_value c.in-Some.node) ∷ child_values c.next.new.self) (child_values l)) none side in
    first_grafted _ c.args.grafted.now c.args.recorded.now (node_value c.in-Some.node) (child_values c.next.new.self) [] both tt refl

pub returns-in-Less : goal.returns-in-Less
returns-in-Less g c =
    let own = rest_more (λ x. x) c.loop-name.name-iterator c.next.new.self c.next.result (c.in-Some.name, c.in-Some.node) c.in-Some.is c.next.ensures.steps in
    let others = rest_more (λ x. x) c.loop-name.others c.next-in-loop-name.new.self c.next-in-loop-name.result (c.in-Some-next.other, c.in-Some-next.recorded) c.in-Some-next.is c.next-in-loop-name.ensures.steps in
    let side = subst (λ l. SideBySide c.args.grafted.now c.args.recorded.now (child_values l) (child_values c.loop-name.others)) own c.loop-name.invariant.side in
    let both = subst (λ l. SideBySide c.args.grafted.now c.args.recorded.now ((c.in-Some.name, node_value c.in-Some.node) ∷ child_values c.next.new.self) (child_values l)) others side in
    let less = sym c.cmp.ensures ∙ c.in-Less.is in
    first_grafted _ c.args.grafted.now c.args.recorded.now (node_value c.in-Some.node) (child_values c.next.new.self) (child_values ((c.in-Some-next.other, c.in-Some-next.recorded) ∷ c.next-in-loop-name.new.self)) both
    (later_rest c.in-Some.name c.in-Some-next.other (node_value c.in-Some-next.recorded) (child_values c.next-in-loop-name.new.self) both less) refl

pub returns-in-Greater : goal.returns-in-Greater
returns-in-Greater g c =
    let own = rest_more (λ x. x) c.loop-name.name-iterator c.next.new.self c.next.result (c.in-Some.name, c.in-Some.node) c.in-Some.is c.next.ensures.steps in
    let others = rest_more (λ x. x) c.loop-name.others c.next-in-loop-name.new.self c.next-in-loop-name.result (c.in-Some-next.other, c.in-Some-next.recorded) c.in-Some-next.is c.next-in-loop-name.ensures.steps in
    let side = subst (λ l. SideBySide c.args.grafted.now c.args.recorded.now (child_values l) (child_values c.loop-name.others)) own c.loop-name.invariant.side in
    let both = subst (λ l. SideBySide c.args.grafted.now c.args.recorded.now ((c.in-Some.name, node_value c.in-Some.node) ∷ child_values c.next.new.self) (child_values l)) others side in
    let less = name_greater c.in-Some.name c.in-Some-next.other (sym c.cmp.ensures ∙ c.in-Greater.is) in
    first_recorded _ c.args.grafted.now c.args.recorded.now (node_value c.in-Some-next.recorded) (child_values ((c.in-Some.name, c.in-Some.node) ∷ c.next.new.self)) (child_values c.next-in-loop-name.new.self) both
    (later_own c.in-Some-next.other c.in-Some.name (node_value c.in-Some.node) (child_values c.next.new.self) both less) refl

pub returns-in-Some-how_unlike : goal.returns-in-Some-how_unlike
returns-in-Some-how_unlike g c =
    let own = rest_more (λ x. x) c.loop-name.name-iterator c.next.new.self c.next.result (c.in-Some.name, c.in-Some.node) c.in-Some.is c.next.ensures.steps in
    let others = rest_more (λ x. x) c.loop-name.others c.next-in-loop-name.new.self c.next-in-loop-name.result (c.in-Some-next.other, c.in-Some-next.recorded) c.in-Some-next.is c.next-in-loop-name.ensures.steps in
    let side = subst (λ l. SideBySide c.args.grafted.now c.args.recorded.now (child_values l) (child_values c.loop-name.others)) own c.loop-name.invariant.side in
    let both = subst (λ l. SideBySide c.args.grafted.now c.args.recorded.now ((c.in-Some.name, node_value c.in-Some.node) ∷ child_values c.next.new.self) (child_values l)) others side in
    let same = name_same c.in-Some.name c.in-Some-next.other (sym c.cmp.ensures ∙ c.in-Equal.is) in
    let at = subst (λ m. SideBySide c.args.grafted.now c.args.recorded.now ((c.in-Some.name, node_value c.in-Some.node) ∷ child_values c.next.new.self) ((m, node_value c.in-Some-next.recorded) ∷ child_values c.next-in-loop-name.new.self)) (sym same) both in
    first_both _ c.args.grafted.now c.args.recorded.now (node_value c.in-Some.node) (node_value c.in-Some-next.recorded) (child_values c.next.new.self) (child_values c.next-in-loop-name.new.self) at c.in-Some-how_unlike.ensures

pub loop-name-preserved : goal.loop-name-preserved
loop-name-preserved g c =
    let own = rest_more (λ x. x) c.loop-name.name-iterator c.next.new.self c.next.result (c.in-Some.name, c.in-Some.node) c.in-Some.is c.next.ensures.steps in
    let others = rest_more (λ x. x) c.loop-name.others c.next-in-loop-name.new.self c.next-in-loop-name.result (c.in-Some-next.other, c.in-Some-next.recorded) c.in-Some-next.is c.next-in-loop-name.ensures.steps in
    let side = subst (λ l. SideBySide c.args.grafted.now c.args.recorded.now (child_values l) (child_values c.loop-name.others)) own c.loop-name.invariant.side in
    let both = subst (λ l. SideBySide c.args.grafted.now c.args.recorded.now ((c.in-Some.name, node_value c.in-Some.node) ∷ child_values c.next.new.self) (child_values l)) others side in
    let same = name_same c.in-Some.name c.in-Some-next.other (sym c.cmp.ensures ∙ c.in-Equal.is) in
    record {
      next = tt;
      finite = tt;
      side = side_next c.args.grafted.now c.args.recorded.now c.in-Some.name c.in-Some-next.other (node_value c.in-Some.node) (node_value c.in-Some-next.recorded) (child_values c.next.new.self) (child_values c.next-in-loop-name.new.self) both same c.in_default-how_unlike.ensures;
    }

pub returns : goal.returns
returns g c =
    let none = rest_all (λ x. x) c.loop-name.name-iterator c.next.new.self c.next.result c.in-None.is c.next.ensures.steps in
    let others = rest_more (λ x. x) c.loop-name.others c.next-2.new.self c.next-2.result (c.in-Some-next-2.name, c.in-Some-next-2.field-0-1) c.in-Some-next-2.is c.next-2.ensures.steps in
    let side = subst (λ l. SideBySide c.args.grafted.now c.args.recorded.now (child_values l) (child_values c.loop-name.others)) none c.loop-name.invariant.side in
    let both = subst (λ l. SideBySide c.args.grafted.now c.args.recorded.now [] (child_values l)) others side in
    first_recorded _ c.args.grafted.now c.args.recorded.now (node_value c.in-Some-next-2.field-0-1) [] (child_values c.next-2.new.self) both tt refl
