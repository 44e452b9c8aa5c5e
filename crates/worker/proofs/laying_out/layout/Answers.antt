-- A tree that is told, and its entries.
use Rattle.std.proofs.Common.{arith, subst, inl, inr}
use Rattle.std.proofs.lemmas.List.Sorted.{length_permutation}
use Rattle.std.proofs.lemmas.Result.{err_from_is_err_and}
use Rattle.blob_source.proofs.Asking.{ok_no_error}
use Rattle.blob_source.proofs.Calling.{called_ok, called_no, called_exit}
use Rattle.tree.proofs.UnfoldSteps.{unfolded_still}
use Rattle.worker.specs.Gathering.{AreGathered}
use Rattle.worker.specs.Refusals.{StopsLayout}
use Rattle.worker.proofs.Gathering.{folders_count, tree_called, tree_fault}
use Rattle.worker.proofs.Layouts.{laid_out}
use Rattle.worker.proofs.laying_out.layout.Goals as goal

pub returns-in_err-tree-clause-refused : goal.returns-in_err-tree-clause-refused
returns-in_err-tree-clause-refused g c =
    let p = err_from_is_err_and c.from_residual.result c.from_residual.ensures.1 in
    rw (p.1, p.2) (inl (tree_fault (g.S.BlobSource.tells c.unfold.new.source).blobs c.args.root.now c.in_err-tree.field-0.0 c.in_err-tree.ensures.refused))

pub returns-in_err-tree-clause-called : goal.returns-in_err-tree-clause-called
returns-in_err-tree-clause-called g c = called_exit c.from_residual.ensures.1 (tree_called {U = Unit {0}} c.in_err-tree.field-0.0 c.in_err-tree.ensures.called)

pub returns-in_err-gathered-clause-refused : goal.returns-in_err-gathered-clause-refused
returns-in_err-gathered-clause-refused g c =
    let p = err_from_is_err_and c.from_residual-in_err-gathered.result c.from_residual-in_err-gathered.ensures.1 in
    let blobs = (g.S.BlobSource.tells c.gather.new.source).blobs in
    let grows = c.gather.ensures.called.asked.blobs in
    rw (p.1, p.2) (inr (
      c.in_ok-tree.tree,
      unfolded_still grows c.in_ok-tree.ensures.told,
      subst (λ es. StopsLayout blobs es c.in_err-gathered.field-0.0) c.in_ok-into_entries.ensures.value c.in_err-gathered.ensures.refused,
    ))

pub returns-in_err-gathered-clause-called : goal.returns-in_err-gathered-clause-called
returns-in_err-gathered-clause-called g c = called_ok c.in_ok-tree.ensures.called (called_exit c.from_residual-in_err-gathered.ensures.1 c.in_err-gathered.ensures.called)

pub returns-clause-told : goal.returns-clause-told
returns-clause-told g c =
    let blobs = (g.S.BlobSource.tells c.gather.new.source).blobs in
    let grows = c.gather.ensures.called.asked.blobs in
    let entries = c.in_ok-into_entries.ensures.value in
    let folders = c.in_ok-gathered.gathered.folders in
    let files = c.in_ok-gathered.gathered.files in
    laid_out blobs c.args.root.now c.in_ok-tree.tree folders files
    (unfolded_still grows c.in_ok-tree.ensures.told) c.in_ok-into_entries.ensures.flat
    (subst (λ es. AreGathered blobs es folders files) entries c.in_ok-gathered.ensures.gathered)
    c.sort.result c.sort.ensures.folders c.sort.ensures.files c.sort.ensures.folders_sorted c.sort.ensures.files_sorted

pub returns-clause-called : goal.returns-clause-called
returns-clause-called g c = called_no ok_no_error ok_no_error (called_ok c.in_ok-tree.ensures.called c.in_ok-gathered.ensures.called)

pub returns-clause-few : goal.returns-clause-few
returns-clause-few g c =
    let blobs = (g.S.BlobSource.tells c.gather.new.source).blobs in
    let folders = c.in_ok-gathered.gathered.folders in
    let files = c.in_ok-gathered.gathered.files in
    let unfolded = c.in_ok-tree.ensures.few in
    let gathered = c.in_ok-gathered.ensures.few in
    let count = folders_count blobs c.in_ok-tree.tree folders files (subst (λ es. AreGathered blobs es folders files) c.in_ok-into_entries.ensures.value c.in_ok-gathered.ensures.gathered) in
    let as_many_folders = length_permutation folders c.sort.result.folders c.sort.ensures.folders in
    let as_many_files = length_permutation files c.sort.result.files c.sort.ensures.files in
    omega (arith, unfolded, gathered, count, as_many_folders, as_many_files)
