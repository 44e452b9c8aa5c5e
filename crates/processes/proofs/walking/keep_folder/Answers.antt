use Rattle.std.proofs.Common.{◌∙◌, ap, sym}
use Rattle.tree.specs.Folded.{items_of}
use Rattle.processes.proofs.Unread.{tree_unread, walk_unread}
use Rattle.std.proofs.lemmas.Result.{err_from_is_err_and}
use Rattle.processes.proofs.Walks.{folder_tree, walked_folder}
use Rattle.processes.proofs.walking.keep_folder.Goals as goal

pub returns-in-Ok-clause-tree : goal.returns-in-Ok-clause-tree
returns-in-Ok-clause-tree g c =
    let fold = c.in_ok-folded.ensures in
    folder_tree g.W.Workshop.works c.args.left.now.ended.now c.args.place.now c.walk.new.tree fold.tree fold.list c.in-Ok.tree (c.in-Ok.ensures.directories ∙ ap items_of c.deref.ensures.value ∙ fold.fold.directories)
    c.new-tree.result (items_of c.args.blobs.now.items) (items_of c.walk.new.blobs.items) c.in_ok-walk.ensures.walked

pub returns-clause-failed : goal.returns-clause-failed
returns-clause-failed g c =
    let works = g.W.Workshop.works in
    let ended = c.args.left.now.ended.now in
    let place = c.args.place.now in
    let fold = c.in_ok-folded.ensures in
    let own = c.in_ok-walk.ensures.walked in
    tree_unread works ended place c.in-Err.trouble c.no_tree.result _ c.in-Err.ensures.none c.no_tree.ensures (λ none. record {
      blobs = own.more;
      tree = fold.tree;
      ordered = fold.list.ordered;
      folder = walked_folder works ended place c.walk.new.tree fold.tree fold.list c.new-tree.result (items_of c.args.blobs.now.items) (items_of c.walk.new.blobs.items) own;
      none = λ m tree same. none m tree (same ∙ sym (ap items_of c.deref.ensures.value ∙ fold.fold.directories));
    })

pub returns-in_err-walk-clause-failed : goal.returns-in_err-walk-clause-failed
returns-in_err-walk-clause-failed g c =
    let p = err_from_is_err_and c.from_residual.result c.from_residual.ensures.1 in
    rw (p.1, p.2) (walk_unread g.W.Workshop.works c.args.left.now.ended.now c.args.place.now c.in_err-walk.field-0.0 c.in_err-walk.ensures.failed)
