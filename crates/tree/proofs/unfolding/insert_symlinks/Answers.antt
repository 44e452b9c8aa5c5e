-- The links so far, and the next.
use Rattle.std.proofs.Common.{ap, ◌∙◌}
use Rattle.messages.specs.declared.node.Node.TheVariants.{Link}
use Rattle.tree.proofs.ChildOrder.{more_symlinks}
use Rattle.tree.proofs.unfolding.insert_symlinks.Goals as goal

pub loop-symlink-init : goal.loop-symlink-init
loop-symlink-init g c = c.requires.none

pub loop-symlink-preserved : goal.loop-symlink-preserved
loop-symlink-preserved g c =
    more_symlinks c.loop-symlink.children.entries c.insert.new.self.entries c.args.symlinks.now c.loop-symlink.symlink-index c.symlink-item.result _ _ c.loop-symlink-test.true c.symlink-item.is
    (c.in_ok-copy_of.ensures {u = tt} ∙ ap (λ f. f.name) c.symlink.view_is) (ap Link (c.in_ok-target.ensures {u = tt} ∙ ap (λ f. f.target) c.symlink.view_is)) c.requires.ascend c.insert.ensures.was_ordered (c.in_ok-insert.ensures {u = tt}).entries c.loop-symlink.invariant
