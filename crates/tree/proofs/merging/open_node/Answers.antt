-- A directory is read in the source or in its Tree, and its children stand in its place.
use Rattle.std.proofs.Common.{[], sym, rules}
use Rattle.std.proofs.lemmas.Result.{err_from_is_err_and}
use Rattle.blob_source.proofs.Asking.{ok_no_error}
use Rattle.blob_source.proofs.Calling.{called_none, called_exit, called_no, calls_some}
use Rattle.tree.specs.Merging.{child_lines}
use Rattle.tree.specs.MergeParts.{within_of}
use Rattle.tree.proofs.Learning.{learns_none, learns_more, learns_refused, refused_exit}
use Rattle.tree.proofs.MergeOpens.{source_fails, source_opens, source_looks, tree_opens, leaf_opens}
use Rattle.tree.proofs.VisitSteps.{none_after}
use Rattle.tree.proofs.merging.open_node.Goals as goal

pub returns-in_default : goal.returns-in_default
returns-in_default g c = record {
  opened = ([], leaf_opens _ c.args.part.now.node _ c.in_default.not-Dir, sym (none_after _));
  refused = tt;
  called = called_none ok_no_error;
  learned = learns_none c.requires.known;
}

pub returns-in_err-directory-clause-refused : goal.returns-in_err-directory-clause-refused
returns-in_err-directory-clause-refused g c =
    let p = err_from_is_err_and c.from_residual.result c.from_residual.ensures.1 in
    rw (p.1, p.2) (source_fails _ c.args.part.now.node c.in-Dir.digest c.in-Dir.is (within_of c.args.lines.now c.args.part.now.line) c.in_default-tree_of.ensures _ c.in_err-directory.ensures.faulty)

pub returns-in_err-directory-clause-called : goal.returns-in_err-directory-clause-called
returns-in_err-directory-clause-called g c = called_exit c.from_residual.ensures.1 (calls_some c.in_err-directory.ensures.called)

pub returns-in_err-directory-clause-learned : goal.returns-in_err-directory-clause-learned
returns-in_err-directory-clause-learned g c =
    learns_refused (source_looks (g.S.BlobSource.tells c.message.new.source).blobs c.args.part.now.node c.in-Dir.digest c.in-Dir.is (within_of c.args.lines.now c.args.part.now.line) c.in_default-tree_of.ensures)
    (refused_exit _ _ c.from_residual.ensures.1) c.in_err-directory.ensures.learned

pub returns-in_err-push_children-clause-called : goal.returns-in_err-push_children-clause-called
returns-in_err-push_children-clause-called g c = called_no ok_no_error (search rules) (calls_some c.in_ok-directory.ensures.called)

pub returns-in_err-push_children-clause-learned : goal.returns-in_err-push_children-clause-learned
returns-in_err-push_children-clause-learned g c =
    learns_refused (source_looks (g.S.BlobSource.tells c.message.new.source).blobs c.args.part.now.node c.in-Dir.digest c.in-Dir.is (within_of c.args.lines.now c.args.part.now.line) c.in_default-tree_of.ensures)
    (refused_exit _ _ c.from_residual-in_err-push_children.ensures.1) c.in_ok-directory.ensures.learned

pub returns-in_default-tree_of-clause-opened : goal.returns-in_default-tree_of-clause-opened
returns-in_default-tree_of-clause-opened g c =
    let W = within_of c.args.lines.now in
    let B = (g.S.BlobSource.tells c.message.new.source).blobs in (
      child_lines (W c.args.part.now.line) c.in_ok-directory.directory,
      source_opens B c.args.part.now.node c.in-Dir.digest c.in-Dir.is (W c.args.part.now.line) c.in_default-tree_of.ensures c.in_ok-directory.directory c.in_ok-directory.ensures.told,
      c.in_ok-push_children.ensures {u = tt} W,
    )

pub returns-in_default-tree_of-clause-called : goal.returns-in_default-tree_of-clause-called
returns-in_default-tree_of-clause-called g c = called_no ok_no_error ok_no_error (calls_some c.in_ok-directory.ensures.called)

pub returns-in_default-tree_of-clause-learned : goal.returns-in_default-tree_of-clause-learned
returns-in_default-tree_of-clause-learned g c =
    learns_more (source_looks (g.S.BlobSource.tells c.message.new.source).blobs c.args.part.now.node c.in-Dir.digest c.in-Dir.is (within_of c.args.lines.now c.args.part.now.line) c.in_default-tree_of.ensures) (λ n. n) c.in_ok-directory.ensures.learned

pub returns-in_err-push_children-2-clause-called : goal.returns-in_err-push_children-2-clause-called
returns-in_err-push_children-2-clause-called g c = called_none (search rules)

pub returns-clause-opened : goal.returns-clause-opened
returns-clause-opened g c =
    let W = within_of c.args.lines.now in
    let B = (g.S.BlobSource.tells c.args.source.now).blobs in
    let m = c.in_ok-directory-2.directory.now in (
      child_lines (W c.args.part.now.line) m,
      tree_opens B c.args.part.now.node c.in-Dir.digest c.in-Dir.is (W c.args.part.now.line) c.in-Some.tree.now m c.in-Some.ensures c.in_ok-directory-2.ensures,
      c.in_ok-push_children-2.ensures {u = tt} W,
    )
