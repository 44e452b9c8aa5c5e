-- A tree that is told, and its entries.
use Rattle.std.proofs.Common.{◌≡◌, subst, inl}
use Rattle.std.specs.Prelude.{Err, IfOk, [], ◌∷◌}
use Rattle.std.proofs.lemmas.Result.{err_from_is_err_and}
use Rattle.blob_source.proofs.Calling.{called_ok, called_no, called_exit}
use Rattle.blob_source.proofs.Asking.{ok_no_error}
use Rattle.checkout.specs.Folder.{Tries, empty_folder}
use Rattle.checkout.specs.Refused.{FailsEntries, FailsPlace}
use Rattle.checkout.specs.Refused.FailsCheckout.{in_tree, in_folder, in_entries}
use Rattle.checkout.specs.Written.{AreWritten, AsksContents, IsGained, places_of}
use Rattle.checkout.specs.Written.{AsksEachOnce as asking}
use Rattle.checkout.proofs.Entries.{asked_among, fails_had, told_anyway, tries_none, tries_then}
use Rattle.checkout.proofs.Telling.{asks_files, contents_none, place_fails, tree_looked, tree_then}
use Rattle.tree.proofs.UnfoldSteps.{unfolded_still}
use Rattle.tree.proofs.Leaving.{others_more}
use Rattle.checkout.proofs.writing.check_out.Goals as goal

-- ---- the tree isn't had

pub returns-in_err-tree-clause-refused : goal.returns-in_err-tree-clause-refused
returns-in_err-tree-clause-refused g c =
    let p = err_from_is_err_and c.from_residual.result c.from_residual.ensures.1 in
    rw (p.1, p.2) (in_tree (tries_none g.W.FolderWriter.tried c.args.writer.now) (c.read_tree.ensures.once, c.read_tree.ensures.only) c.in_err-tree.ensures.refused)

pub returns-in_err-entries-clause-refused : goal.returns-in_err-entries-clause-refused
returns-in_err-entries-clause-refused g c =
    let p = err_from_is_err_and c.from_residual-in_err-entries.result c.from_residual-in_err-entries.ensures.1 in
    rw (p.1, p.2) (in_tree (tries_none g.W.FolderWriter.tried c.args.writer.now) (c.read_tree.ensures.once, c.read_tree.ensures.only) tt)

pub returns-in_err-place-clause-refused : goal.returns-in_err-place-clause-refused
returns-in_err-place-clause-refused g c =
    let p = err_from_is_err_and c.from_residual-in_err-place.result c.from_residual-in_err-place.ensures.1 in
    rw (p.1, p.2) (in_tree (tries_none g.W.FolderWriter.tried c.args.writer.now) (c.read_tree.ensures.once, c.read_tree.ensures.only) tt)

pub returns-in_err-tree-clause-only : goal.returns-in_err-tree-clause-only
returns-in_err-tree-clause-only g c = others_more (λ a h. inl h) c.read_tree.ensures.only

pub returns-in_err-entries-clause-only : goal.returns-in_err-entries-clause-only
returns-in_err-entries-clause-only g c = others_more (λ a h. inl h) c.read_tree.ensures.only

pub returns-in_err-place-clause-only : goal.returns-in_err-place-clause-only
returns-in_err-place-clause-only g c = others_more (λ a h. inl h) c.read_tree.ensures.only

pub returns-in_err-tree-clause-few : goal.returns-in_err-tree-clause-few
returns-in_err-tree-clause-few g c = asking.in_tree c.read_tree.ensures.once

pub returns-in_err-entries-clause-few : goal.returns-in_err-entries-clause-few
returns-in_err-entries-clause-few g c = asking.in_tree c.read_tree.ensures.once

pub returns-in_err-place-clause-few : goal.returns-in_err-place-clause-few
returns-in_err-place-clause-few g c = asking.in_tree c.read_tree.ensures.once

-- ---- the folder isn't taken

pub returns-in_err-folder-clause-refused : goal.returns-in_err-folder-clause-refused
returns-in_err-folder-clause-refused g c =
    let p = err_from_is_err_and c.from_residual-in_err-folder.result c.from_residual-in_err-folder.ensures.1 in
    let mid = g.S.BlobSource.tells c.read_tree.new.source in
    rw (p.1, p.2) (in_folder c.in_ok-tree.tree c.in_ok-tree.ensures.told c.take.ensures.tries
    (tree_then (g.S.BlobSource.tells c.args.source.now) mid c.in_ok-tree.tree (λ d b h. h) c.in_ok-tree.ensures.few c.read_tree.ensures.only (contents_none mid))
    (place_fails (g.W.FolderWriter.refuses c.take.new.self) c.args.path.now c.take.result c.in_err-folder.field-0.0
    (subst (λ q. FailsPlace (λ _ fault. c.take.result ≡ Err fault) q c.in_err-folder.field-0.0) c.in_ok-place.ensures.ok c.in_err-folder.ensures.refused) c.take.ensures.refused))

pub returns-in_err-folder-clause-unwritten : goal.returns-in_err-folder-clause-unwritten
returns-in_err-folder-clause-unwritten g c = told_anyway _ (inl (c.in_ok-tree.tree, c.in_ok-tree.ensures.told))

pub returns-in_err-folder-clause-only : goal.returns-in_err-folder-clause-only
returns-in_err-folder-clause-only g c = others_more (λ a h. inl h) c.read_tree.ensures.only

pub returns-in_err-folder-clause-few : goal.returns-in_err-folder-clause-few
returns-in_err-folder-clause-few g c = asking.in_tree c.read_tree.ensures.once

-- ---- an entry isn't written

pub returns-in_err-write_entries-clause-refused : goal.returns-in_err-write_entries-clause-refused
returns-in_err-write_entries-clause-refused g c =
    let p = err_from_is_err_and c.from_residual-in_err-write_entries.result c.from_residual-in_err-write_entries.ensures.1 in
    let has = g.W.FolderWriter.has in
    let tried = g.W.FolderWriter.tried in
    let path = c.args.path.now in
    let folder = c.in_ok-folder.folder in
    let taken = subst (λ r. IfOk r (λ f. has f (empty_folder path))) c.in_ok-folder.ensures.same c.take.ensures.taken in
    let mid = g.S.BlobSource.tells c.read_tree.new.source in
    let new = g.S.BlobSource.tells c.write_entries.new.source in
    let fails = subst (λ es. FailsEntries (IsGained has folder) (g.W.FolderWriter.refuses c.write_entries.new.writer) (Tries tried c.take.new.self c.write_entries.new.writer) (AsksContents mid new) new.blobs path es c.in_err-write_entries.field-0.0)
    c.in_ok-entries.ensures.value c.in_err-write_entries.ensures.refused in
    rw (p.1, p.2) (in_entries c.in_ok-tree.tree (unfolded_still c.write_entries.ensures.called.asked.blobs c.in_ok-tree.ensures.told)
    (fails_had (λ ws h. (h.0, h.1 (empty_folder path) taken)) (λ ps h. tries_then tried c.args.writer.now c.take.new.self c.write_entries.new.writer (path ∷ []) ps c.take.ensures.tries h)
    (λ some. tree_then (g.S.BlobSource.tells c.args.source.now) mid c.in_ok-tree.tree c.write_entries.ensures.called.asked.blobs c.in_ok-tree.ensures.few c.read_tree.ensures.only) fails))

pub returns-in_err-write_entries-clause-called : goal.returns-in_err-write_entries-clause-called
returns-in_err-write_entries-clause-called g c =
    called_ok c.in_ok-tree.ensures.called (called_exit c.from_residual-in_err-write_entries.ensures.1 c.in_err-write_entries.ensures.called)

pub returns-in_err-write_entries-clause-unwritten : goal.returns-in_err-write_entries-clause-unwritten
returns-in_err-write_entries-clause-unwritten g c =
    told_anyway _ (inl (c.in_ok-tree.tree, unfolded_still c.write_entries.ensures.called.asked.blobs c.in_ok-tree.ensures.told))

pub returns-in_err-write_entries-clause-only : goal.returns-in_err-write_entries-clause-only
returns-in_err-write_entries-clause-only g c =
    let mid = g.S.BlobSource.tells c.read_tree.new.source in
    let new = g.S.BlobSource.tells c.write_entries.new.source in
    tree_looked (g.S.BlobSource.tells c.args.source.now) new (unfolded_still c.write_entries.ensures.called.asked.blobs c.in_ok-tree.ensures.told)
    (tree_then (g.S.BlobSource.tells c.args.source.now) mid c.in_ok-tree.tree c.write_entries.ensures.called.asked.blobs c.in_ok-tree.ensures.few c.read_tree.ensures.only (subst (AsksContents mid new) c.in_ok-entries.ensures.value (asked_among c.in_err-write_entries.ensures.refused)))

pub returns-in_err-write_entries-clause-few : goal.returns-in_err-write_entries-clause-few
returns-in_err-write_entries-clause-few g c =
    let mid = g.S.BlobSource.tells c.read_tree.new.source in
    let new = g.S.BlobSource.tells c.write_entries.new.source in
    asks_files (g.S.BlobSource.tells c.args.source.now) new (unfolded_still c.write_entries.ensures.called.asked.blobs c.in_ok-tree.ensures.told)
    (tree_then (g.S.BlobSource.tells c.args.source.now) mid c.in_ok-tree.tree c.write_entries.ensures.called.asked.blobs c.in_ok-tree.ensures.few c.read_tree.ensures.only (subst (AsksContents mid new) c.in_ok-entries.ensures.value (asked_among c.in_err-write_entries.ensures.refused)))

-- ---- all is written

pub returns-clause-written : goal.returns-clause-written
returns-clause-written g c =
    let blobs = (g.S.BlobSource.tells c.write_entries.new.source).blobs in
    let made = c.in_ok-write_entries.ensures.made in
    let taken = subst (λ r. IfOk r (λ folder. g.W.FolderWriter.has folder (empty_folder c.args.path.now))) c.in_ok-folder.ensures.same c.take.ensures.taken in
    record {
      entries = c.in_ok-tree.tree;
      unfolded = unfolded_still c.write_entries.ensures.called.asked.blobs c.in_ok-tree.ensures.told;
      written = made.written;
      of_entries = subst (λ es. AreWritten blobs c.args.path.now es made.written) c.in_ok-entries.ensures.value made.of_entries;
      holds = made.gains (empty_folder c.args.path.now) taken;
    }

pub returns-clause-tried : goal.returns-clause-tried
returns-clause-tried g c =
    let tried = g.W.FolderWriter.tried in
    let path = c.args.path.now in
    record {
      entries = c.in_ok-tree.tree;
      unfolded = unfolded_still c.write_entries.ensures.called.asked.blobs c.in_ok-tree.ensures.told;
      calls = tries_then tried c.args.writer.now c.take.new.self c.write_entries.new.writer (path ∷ []) (places_of path c.in_ok-tree.tree) c.take.ensures.tries
          (subst (λ es. Tries tried c.take.new.self c.write_entries.new.writer (places_of path es)) c.in_ok-entries.ensures.value c.in_ok-write_entries.ensures.tried);
    }

pub returns-clause-only : goal.returns-clause-only
returns-clause-only g c =
    let mid = g.S.BlobSource.tells c.read_tree.new.source in
    let new = g.S.BlobSource.tells c.write_entries.new.source in
    tree_looked (g.S.BlobSource.tells c.args.source.now) new (unfolded_still c.write_entries.ensures.called.asked.blobs c.in_ok-tree.ensures.told)
    (tree_then (g.S.BlobSource.tells c.args.source.now) mid c.in_ok-tree.tree c.write_entries.ensures.called.asked.blobs c.in_ok-tree.ensures.few c.read_tree.ensures.only (subst (AsksContents mid new) c.in_ok-entries.ensures.value (c.in_ok-write_entries.ensures.asked)))

pub returns-clause-few : goal.returns-clause-few
returns-clause-few g c =
    let mid = g.S.BlobSource.tells c.read_tree.new.source in
    let new = g.S.BlobSource.tells c.write_entries.new.source in
    asks_files (g.S.BlobSource.tells c.args.source.now) new (unfolded_still c.write_entries.ensures.called.asked.blobs c.in_ok-tree.ensures.told)
    (tree_then (g.S.BlobSource.tells c.args.source.now) mid c.in_ok-tree.tree c.write_entries.ensures.called.asked.blobs c.in_ok-tree.ensures.few c.read_tree.ensures.only (subst (AsksContents mid new) c.in_ok-entries.ensures.value (c.in_ok-write_entries.ensures.asked)))

pub returns-clause-called : goal.returns-clause-called
returns-clause-called g c = called_ok c.in_ok-tree.ensures.called (called_no ok_no_error ok_no_error c.in_ok-write_entries.ensures.called)
