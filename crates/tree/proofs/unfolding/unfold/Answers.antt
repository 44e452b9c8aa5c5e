use Rattle.std.proofs.Common.{ap, arith, sym, subst}
use Rattle.tree.specs.FlatTree.{IsFlatTree, flat_value}
use Rattle.tree.specs.Unfolded.{IsUnfolded, directories_in}
use Rattle.tree.proofs.UnfoldSteps.{appended_flat, appended_told}
use Rattle.tree.proofs.unfolding.unfold.Goals as goal

pub by_path-requires : goal.by_path-requires
by_path-requires g c = appended_flat _ c.args.root.now _ _ (c.in_ok-unfold_below.ensures {u = tt}).told (ap flat_value c.new-entries.ensures.items)

pub invariant_of-result : goal.invariant_of-result
invariant_of-result g c =
    subst IsFlatTree (sym (c.in_ok-by_path.ensures {u = tt})) (appended_flat _ c.args.root.now _ _ (c.in_ok-unfold_below.ensures {u = tt}).told (ap flat_value c.new-entries.ensures.items))

pub returns-clause-told : goal.returns-clause-told
returns-clause-told g c =
    subst (IsUnfolded _ c.args.root.now) (sym (c.in_ok-by_path.ensures {u = tt})) (appended_told _ c.args.root.now _ _ (c.in_ok-unfold_below.ensures {u = tt}).told (ap flat_value c.new-entries.ensures.items))

pub returns-clause-few : goal.returns-clause-few
returns-clause-few g c = omega (arith, (c.in_ok-unfold_below.ensures {u = tt}).few, ap (λ v. directories_in (flat_value v)) c.new-entries.ensures.items, ap directories_in (c.in_ok-by_path.ensures {u = tt}))
