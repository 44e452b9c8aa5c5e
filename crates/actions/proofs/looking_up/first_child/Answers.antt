use Rattle.std.proofs.Common.{rules, ◌≡◌}
use Rattle.tree.proofs.MergeTrees.{none_next, differ}
use Rattle.actions.proofs.TreeLookups.{got_child}
use Rattle.actions.proofs.looking_up.first_child.Goals as goal

pub returns-then-eq-clause-found : goal.returns-then-eq-clause-found
returns-then-eq-clause-found g c =
    let same : c.other-item.result ≡ c.args.digest.now = search rules in
    got_child c.args.tree.now c.args.digest.now c.other-item.result c.loop-index.index c.child_digests-other-items.result.now c.children.result.now c.get.result c.get.ensures.lookup.2 c.get.ensures.lookup.1 c.children.ensures.value c.child_digests-other-items.ensures.value c.loop-index.invariant c.loop-index-test.true c.other-item.is same

pub loop-index-preserved : goal.loop-index-preserved
loop-index-preserved g c = none_next c.args.digest.now c.other-item.result c.child_digests-other-items.result.now c.loop-index.index c.loop-index-test.true c.other-item.is (differ c.other-item.result c.args.digest.now c.if-eq.ensures) c.loop-index.invariant
