-- The lines so far are those of the children that were taken.
use Rattle.std.proofs.Common.{◌≡◌, ◌<◌, ◌≤◌, ◌++◌, ◌∷◌, [], length, get_or, take, ap, sym, subst, ◌∙◌}
use Rattle.messages.specs.FileNode.{FileNodeValue}
use Rattle.messages.specs.DirectoryNode.{DirectoryNodeValue}
use Rattle.messages.specs.SymlinkNode.{SymlinkNodeValue}
use Rattle.messages.specs.declared.node.Node.TheVariants.{File, Link, Dir}
use Rattle.messages.specs.DirectoryRules.{directory_with}
use Rattle.tree.specs.Merging.{child_lines}
use Rattle.tree.specs.MergeParts.{part_values}
use Rattle.tree.proofs.MergeLoops.{line_added, files_more, directories_more, symlinks_more, files_done, directories_done, symlinks_done}
use Rattle.tree.proofs.merging.push_children.Goals as goal

pub loop-file-preserved : goal.loop-file-preserved
loop-file-preserved g c = λ W.
    let all = c.args.directory.now.files in
    let i = c.loop-file.file-index in
    let f = c.file-item.result in
    let value = c.files-file-items.ensures.value in
    line_added (part_values W c.args.parts.now.items) (child_lines (W c.args.line) (directory_with (take i all) [] [])) _ (part_values W c.loop-file.parts.items) _ _ (c.loop-file.invariant W) (c.in_ok-push_child.ensures {u = tt} W)
    (files_more (W c.args.line) all i f (subst (λ xs. i < length xs) value c.loop-file-test.true) (subst (λ xs. f ≡ get_or xs i f) value c.file-item.is)
    ∙ ap (λ (x : FileNodeValue). child_lines (W c.args.line) (directory_with (take i all) [] []) ++ (x.name ∷ [], record { node = File x.digest x.executable; within = W c.args.line }) ∷ []) (sym c.file.view_is))

pub loop-directory-init : goal.loop-directory-init
loop-directory-init g c = λ W.
    let value = c.files-file-items.ensures.value in
    c.loop-file.invariant W ∙ ap (λ r. part_values W c.args.parts.now.items ++ r) (files_done (W c.args.line) c.args.directory.now.files c.loop-file.file-index (subst (λ xs. length xs ≤ c.loop-file.file-index) value c.loop-file-test.false))

pub loop-directory-preserved : goal.loop-directory-preserved
loop-directory-preserved g c = λ W.
    let files = c.args.directory.now.files in
    let all = c.args.directory.now.directories in
    let i = c.loop-directory.directory-index in
    let d = c.directory-item.result in
    let value = c.directories-directory-items.ensures.value in
    line_added (part_values W c.args.parts.now.items) (child_lines (W c.args.line) (directory_with files (take i all) [])) _ (part_values W c.loop-directory.parts.items) _ _ (c.loop-directory.invariant W) (c.in_ok-push_child-2.ensures {u = tt} W)
    (directories_more (W c.args.line) files all i d (subst (λ xs. i < length xs) value c.loop-directory-test.true) (subst (λ xs. d ≡ get_or xs i d) value c.directory-item.is)
    ∙ ap (λ (x : DirectoryNodeValue). child_lines (W c.args.line) (directory_with files (take i all) []) ++ (x.name ∷ [], record { node = Dir x.digest; within = W c.args.line }) ∷ []) (sym c.directory.view_is))

pub loop-symlink-init : goal.loop-symlink-init
loop-symlink-init g c = λ W.
    let value = c.directories-directory-items.ensures.value in
    c.loop-directory.invariant W ∙ ap (λ r. part_values W c.args.parts.now.items ++ r)
    (directories_done (W c.args.line) c.args.directory.now.files c.args.directory.now.directories c.loop-directory.directory-index (subst (λ xs. length xs ≤ c.loop-directory.directory-index) value c.loop-directory-test.false))

pub loop-symlink-preserved : goal.loop-symlink-preserved
loop-symlink-preserved g c = λ W.
    let files = c.args.directory.now.files in
    let directories = c.args.directory.now.directories in
    let all = c.args.directory.now.symlinks in
    let i = c.loop-symlink.symlink-index in
    let l = c.symlink-item.result in
    let value = c.symlinks-symlink-items.ensures.value in
    line_added (part_values W c.args.parts.now.items) (child_lines (W c.args.line) (directory_with files directories (take i all))) _ (part_values W c.loop-symlink.parts.items) _ _ (c.loop-symlink.invariant W)
    (c.in_ok-push_child-3.ensures {u = tt} W)
    (symlinks_more (W c.args.line) files directories all i l (subst (λ xs. i < length xs) value c.loop-symlink-test.true) (subst (λ xs. l ≡ get_or xs i l) value c.symlink-item.is)
    ∙ ap (λ (x : SymlinkNodeValue). child_lines (W c.args.line) (directory_with files directories (take i all)) ++ (x.name ∷ [], record { node = Link x.target; within = W c.args.line }) ∷ []) (sym c.symlink.view_is)
    ∙ ap (λ t. child_lines (W c.args.line) (directory_with files directories (take i all)) ++ (c.symlink.inside.name ∷ [], record { node = Link t; within = W c.args.line }) ∷ []) (sym (c.in_ok-target.ensures {u = tt})))

pub returns : goal.returns
returns g c = λ W.
    let value = c.symlinks-symlink-items.ensures.value in
    c.loop-symlink.invariant W ∙ ap (λ r. part_values W c.args.parts.now.items ++ r)
    (symlinks_done (W c.args.line) c.args.directory.now.files c.args.directory.now.directories c.args.directory.now.symlinks c.loop-symlink.symlink-index (subst (λ xs. length xs ≤ c.loop-symlink.symlink-index) value c.loop-symlink-test.false))
