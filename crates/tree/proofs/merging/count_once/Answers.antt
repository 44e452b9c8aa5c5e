-- The lines so far, and those that are left, count as all lines do.
use Rattle.std.proofs.Common.{◌≡◌, ◌<◌, [], ◌∷◌, ◌++◌, cond, ap, sym, subst, ◌∙◌, length, rules, arith}
use Rattle.std.specs.List.{list_any}
use Rattle.tree.specs.Merging.{counted, gives_node, same_node}
use Rattle.tree.specs.MergeParts.{AreGivenBy, part_value, part_values}
use Rattle.tree.proofs.GivenLines.{few_count, map_length, not_repeated, repeated}
use Rattle.tree.proofs.MergeLoops.{counted_kept, counted_dropped, counted_end, map_pushed, nothing_left}
use Rattle.tree.proofs.merging.count_once.Goals as goal

pub returns-then-len-lt2 : goal.returns-then-len-lt2
returns-then-len-lt2 g c = λ W.
    let few : length (part_values W c.args.parts.items) < 2 = omega (arith, c.if-len-lt2.true, c.len.ensures, c.args.parts.ok.0, map_length (part_value W) c.args.parts.items) in
    few_count (part_values W c.args.parts.items) few

pub loop-part-init : goal.loop-part-init
loop-part-init g c = λ W.
    let none = ap (part_values W) (c.in_ok-kept.ensures {u = tt}).items in
    let all = ap (part_values W) c.into_iter-part-iterator.ensures.into_iter_gives.0 in (
      ap (λ ks. ks ++ counted ks (part_values W c.into_iter-part-iterator.result.rest.items)) none ∙ ap (counted []) all,
      λ x. ap (λ nodes. list_any (same_node x) nodes) c.new-given.ensures ∙ sym (ap (λ ls. list_any (λ l. gives_node x l.0 l.1) ls) none),
    )

pub loop-part-preserved-in-Continue-branch-3 : goal.loop-part-preserved-in-Continue-branch-3
loop-part-preserved-in-Continue-branch-3 g c = λ W.
    let left = c.next.new.self.rest.items in
    let part = c.in-Some.part in
    let kept = part_values W c.loop-part.kept.items in
    let steps : c.loop-part.part-iterator.rest.items ≡ part ∷ left = search rules in
    let so_far = c.loop-part.invariant W in
    let is = (c.in_ok-is_new.ensures {u = tt}) W kept so_far.1 in
    let items = ap (part_values W) (c.in_ok-push.ensures {u = tt}).items ∙ map_pushed (part_value W) c.loop-part.kept.items part in (
      ap (λ ks. ks ++ counted ks (part_values W left)) items
          ∙ sym (counted_kept kept (part_values W left) (part_value W part) (not_repeated _ (sym c.if-is_new.true ∙ is.0)))
          ∙ ap (λ ps. kept ++ counted kept (part_values W ps)) (sym steps)
          ∙ so_far.0,
      subst (λ ls. AreGivenBy ls c.counts.new.given) (sym items) (subst (λ b. AreGivenBy (cond b (kept ++ part_value W part ∷ []) kept) c.counts.new.given) c.if-is_new.true is.1),
    )

pub loop-part-preserved-else-is_new : goal.loop-part-preserved-else-is_new
loop-part-preserved-else-is_new g c = λ W.
    let left = c.next.new.self.rest.items in
    let part = c.in-Some.part in
    let kept = part_values W c.loop-part.kept.items in
    let steps : c.loop-part.part-iterator.rest.items ≡ part ∷ left = search rules in
    let so_far = c.loop-part.invariant W in
    let is = (c.in_ok-is_new.ensures {u = tt}) W kept so_far.1 in (
      sym (counted_dropped kept (part_values W left) (part_value W part) (repeated _ (sym c.if-is_new.false ∙ is.0)))
          ∙ ap (λ ps. kept ++ counted kept (part_values W ps)) (sym steps)
          ∙ so_far.0,
      subst (λ b. AreGivenBy (cond b (kept ++ part_value W part ∷ []) kept) c.counts.new.given) c.if-is_new.false is.1,
    )

pub loop-part-preserved : goal.loop-part-preserved
loop-part-preserved g c = λ W.
    let left = c.next.new.self.rest.items in
    let part = c.in-Some.part in
    let kept = part_values W c.loop-part.kept.items in
    let steps : c.loop-part.part-iterator.rest.items ≡ part ∷ left = search rules in
    let so_far = c.loop-part.invariant W in
    let is = (c.in_ok-is_new.ensures {u = tt}) W kept so_far.1 in (
      sym (counted_dropped kept (part_values W left) (part_value W part) (repeated _ (sym c.if-is_new.false ∙ is.0)))
          ∙ ap (λ ps. kept ++ counted kept (part_values W ps)) (sym steps)
          ∙ so_far.0,
      subst (λ b. AreGivenBy (cond b (kept ++ part_value W part ∷ []) kept) c.counts.new.given) c.if-is_new.false is.1,
    )

pub returns : goal.returns
returns g c = λ W.
    let none = nothing_left c.loop-part.part-iterator.rest.items (omega (arith, c.in-None.ensures.steps.0, c.loop-part.part-iterator.rest.ok.0)) in
    counted_end (part_values W c.loop-part.kept.items) _ (ap (λ ps. part_values W c.loop-part.kept.items ++ counted (part_values W c.loop-part.kept.items) (part_values W ps)) (sym none) ∙ (c.loop-part.invariant W).0)
