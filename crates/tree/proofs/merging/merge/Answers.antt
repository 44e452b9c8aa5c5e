-- The lines are those of the root, and no name stands above them.
use Rattle.std.proofs.Common.{[], ap, sym, subst, ◌∙◌, rules}
use Rattle.std.proofs.lemmas.Result.{err_from_is_err_and}
use Rattle.blob_source.proofs.Asking.{ok_no_error}
use Rattle.blob_source.proofs.Calling.{called_exit, called_no}
use Rattle.tree.specs.Folded.{unseen}
use Rattle.tree.specs.Merging.{AreHeld, merged, merged_in, merge_lines}
use Rattle.tree.proofs.Learning.{learns_more, learns_refused, refused_exit}
use Rattle.tree.proofs.MergeBelow.{root_passes, root_fails, root_looks}
use Rattle.tree.proofs.MergeValid.{merged_valid}
use Rattle.tree.proofs.MergeOpens.{merge_explained}
use Rattle.tree.proofs.merging.merge.Goals as goal

pub merge_below-requires-clause-held : goal.merge_below-requires-clause-held
merge_below-requires-clause-held g c = subst AreHeld (sym ((c.in_ok-parts.ensures {u = tt}).parts)) c.requires.held

pub returns-clause-merged : goal.returns-clause-merged
returns-clause-merged g c =
    let B = (g.S.BlobSource.tells c.merge_below.new.source).blobs in
    let parts = c.in_ok-parts.ensures {u = tt} in
    let visit = (c.in_ok-visited.ensures {u = tt}).merged in
    let good = merged_valid B 64 [] (merge_lines c.args.lines.now) parts.valid c.requires.held visit.0 (subst (λ ls. (merged_in B 64 [] ls).passes visit.0) parts.parts visit.1) in (
      visit.0,
      root_passes B _ _ parts.parts visit.0 visit.1,
      record {
        ordered = good.1;
        valid = good.0;
        fold = record { root = visit.2.root; directories = c.in_ok-each_once.ensures {u = tt} ∙ ap (unseen []) visit.2.encodings };
      },
    )

pub returns-in_err-visited-clause-refused : goal.returns-in_err-visited-clause-refused
returns-in_err-visited-clause-refused g c =
    let B = (g.S.BlobSource.tells c.merge_below.new.source).blobs in
    let p = err_from_is_err_and c.from_residual-in_err-visited.result c.from_residual-in_err-visited.ensures.1 in
    rw (p.1, p.2) (merge_explained _ (merged B (merge_lines c.args.lines.now)).fails _ (root_fails B _ _ ((c.in_ok-parts.ensures {u = tt}).parts)) c.in_err-visited.ensures.refused)

pub returns-in_err-visited-clause-called : goal.returns-in_err-visited-clause-called
returns-in_err-visited-clause-called g c = called_exit c.from_residual-in_err-visited.ensures.1 c.in_err-visited.ensures.called

pub returns-in_err-visited-clause-learned : goal.returns-in_err-visited-clause-learned
returns-in_err-visited-clause-learned g c =
    learns_refused (root_looks (g.S.BlobSource.tells c.merge_below.new.source).blobs _ _ ((c.in_ok-parts.ensures {u = tt}).parts)) (refused_exit _ _ c.from_residual-in_err-visited.ensures.1) c.in_err-visited.ensures.learned

pub returns-clause-called : goal.returns-clause-called
returns-clause-called g c = called_no ok_no_error ok_no_error (c.in_ok-visited.ensures {u = tt}).called

pub returns-clause-learned : goal.returns-clause-learned
returns-clause-learned g c =
    learns_more (root_looks (g.S.BlobSource.tells c.merge_below.new.source).blobs _ _ ((c.in_ok-parts.ensures {u = tt}).parts)) (λ none n. n) (c.in_ok-visited.ensures {u = tt}).learned

pub returns-in_err-each_once-clause-called : goal.returns-in_err-each_once-clause-called
returns-in_err-each_once-clause-called g c = called_no ok_no_error (search rules) (c.in_ok-visited.ensures {u = tt}).called

pub returns-in_err-each_once-clause-learned : goal.returns-in_err-each_once-clause-learned
returns-in_err-each_once-clause-learned g c =
    learns_refused (root_looks (g.S.BlobSource.tells c.merge_below.new.source).blobs _ _ ((c.in_ok-parts.ensures {u = tt}).parts)) (refused_exit _ _ c.from_residual-in_err-each_once.ensures.1) (c.in_ok-visited.ensures {u = tt}).learned
