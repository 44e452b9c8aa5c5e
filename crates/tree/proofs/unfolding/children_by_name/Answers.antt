use Rattle.std.proofs.Common.{[], ap, ◌∙◌}
use Rattle.messages.specs.DirectoryRules.{directory_with}
use Rattle.tree.specs.Unfolding.{made}
use Rattle.tree.proofs.ChildOrder.{ordered_leaves}
use Rattle.tree.proofs.unfolding.children_by_name.Goals as goal

pub returns : goal.returns
returns g c =
    let m = c.args.directory.now in
    let links = c.in_ok-insert_symlinks.ensures {u = tt} ∙ ap (directory_with [] []) c.symlinks.ensures.value in
    let directories = c.in_ok-insert_directories.ensures {u = tt} ∙ ap (λ ds. directory_with [] ds (made c.insert_symlinks.new.children.entries).symlinks) c.directories.ensures.value ∙ ap (λ d. directory_with [] m.directories d.symlinks) links in
    record {
      directory = c.in_ok-insert_files.ensures {u = tt} ∙ ap (λ fs. directory_with fs (made c.insert_directories.new.children.entries).directories (made c.insert_directories.new.children.entries).symlinks) c.files.ensures.value
          ∙ ap (λ d. directory_with m.files d.directories d.symlinks) directories;
      ordered = ordered_leaves _ c.len.ensures.ordered;
    }
