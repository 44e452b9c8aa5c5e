-- The directories so far, and the next.
use Rattle.std.proofs.Common.{ap, ◌∙◌}
use Rattle.messages.specs.declared.node.Node.TheVariants.{Dir}
use Rattle.tree.proofs.ChildOrder.{more_directories}
use Rattle.tree.proofs.unfolding.insert_directories.Goals as goal

pub loop-directory-init : goal.loop-directory-init
loop-directory-init g c = c.requires.none

pub loop-directory-preserved : goal.loop-directory-preserved
loop-directory-preserved g c =
    more_directories c.loop-directory.children.entries c.insert.new.self.entries c.args.directories.now _ c.loop-directory.directory-index c.directory-item.result _ _ c.loop-directory-test.true c.directory-item.is
    (c.in_ok-copy_of.ensures {u = tt} ∙ ap (λ f. f.name) c.directory.view_is) (ap (λ f. Dir f.digest) c.directory.view_is) c.requires.ascend c.requires.apart c.insert.ensures.was_ordered (c.in_ok-insert.ensures {u = tt}).entries c.loop-directory.invariant
