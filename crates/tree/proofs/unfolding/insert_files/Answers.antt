-- The files so far, and the next.
use Rattle.std.proofs.Common.{ap, ◌∙◌}
use Rattle.messages.specs.declared.node.Node.TheVariants.{File}
use Rattle.messages.specs.DirectoryRules.{directory_with}
use Rattle.tree.specs.Unfolding.{made}
use Rattle.tree.proofs.ChildOrder.{more_files}
use Rattle.tree.proofs.unfolding.insert_files.Goals as goal

pub loop-file-init : goal.loop-file-init
loop-file-init g c =
    let m = made c.args.children.now.entries in
    ap (λ fs. directory_with fs m.directories m.symlinks) c.requires.none

pub loop-file-preserved : goal.loop-file-preserved
loop-file-preserved g c =
    more_files c.loop-file.children.entries c.insert.new.self.entries c.args.files.now _ _ c.loop-file.file-index c.file-item.result _ _ c.loop-file-test.true c.file-item.is
    (c.in_ok-copy_of.ensures {u = tt} ∙ ap (λ f. f.name) c.file.view_is) (ap (λ f. File f.digest f.executable) c.file.view_is) c.requires.ascend c.requires.directories c.requires.symlinks c.insert.ensures.was_ordered (c.in_ok-insert.ensures {u = tt}).entries c.loop-file.invariant
