-- Two Directories are read, and their first name decides, or two directories of that name in turn.
use Rattle.std.proofs.Common.{◌-◌, [], ◌∷◌, ◌++◌, ap, subst, ◌∙◌, rules}
use Rattle.std.proofs.lemmas.Result.{err_from_is_err_and}
use Rattle.tree.specs.Lookup.{names_in}
use Rattle.tree.specs.Unfolding.{ExplainsChild}
use Rattle.tree.specs.Difference.{Finds, child_of, differing, ExplainsDifference}
use Rattle.tree.specs.Comparing.{encodings_in, IsUnlike}
use Rattle.blob_source.proofs.Asking.{ok_no_error}
use Rattle.blob_source.proofs.Calling.{called_exit, calls_ok}
use Rattle.tree.proofs.TwoReads.{asks_both, calls_both, calls_below}
use Rattle.tree.proofs.Leaving.{leaves_then}
use Rattle.tree.proofs.OwnDirectories.{ok_more, err_more}
use Rattle.tree.proofs.DifferenceSteps.{ReadsBoth, reads_still, reads_both, finds_recorded, finds_grafted, finds_others, finds_last, finds_below, recorded_fault, grafted_fault, child_fault, explains_below}
use Rattle.tree.proofs.Learning.{learns_then, learns_refused, refused_exit}
use Rattle.tree.proofs.Ways.{compares_still, compares_recorded, compares_below, learns_both}
use Rattle.tree.proofs.comparing.+difference_below.Goals as goal

pub returns-in_err-there-clause-refused : goal.returns-in_err-there-clause-refused
returns-in_err-there-clause-refused g t c =
    let p = err_from_is_err_and c.from_residual.result c.from_residual.ensures.1 in
    rw (p.1, p.2) (recorded_fault _ _ (names_in c.args.above.now) c.args.grafted.now c.args.recorded.now c.args.deeper _ c.requires.some (c.in_err-there.ensures {u = tt}).faulty)

pub returns-in_err-here-clause-refused : goal.returns-in_err-here-clause-refused
returns-in_err-here-clause-refused g t c =
    let p = err_from_is_err_and c.from_residual-in_err-here.result c.from_residual-in_err-here.ensures.1 in
    let read = reads_still (encodings_in c.args.own.now) c.args.recorded.now c.in_ok-there.there c.read_directory-2.ensures.called.asked.some.blobs (c.in_ok-there.ensures {u = tt}).told in
    rw (p.1, p.2) (grafted_fault _ _ (names_in c.args.above.now) c.args.grafted.now c.args.recorded.now c.args.deeper c.in_ok-there.there _ c.requires.some read (c.in_err-here.ensures {u = tt}).faulty)

pub returns-in_err-path-clause-refused : goal.returns-in_err-path-clause-refused
returns-in_err-path-clause-refused g t c =
    let p = err_from_is_err_and c.from_residual-in_err-path.result c.from_residual-in_err-path.ensures.1 in
    let full = subst (λ o. ExplainsChild o c.in_err-path.field-0.0) c.as_ref.ensures.value (c.in_err-path.ensures {u = tt}).refused in
    let found = Finds (encodings_in c.args.own.now) (g.S.BlobSource.tells c.read_directory-2.new.source).blobs c.args.deeper (names_in c.args.above.now) c.args.grafted.now c.args.recorded.now in
    rw (p.1, p.2) (child_fault found c.args.deeper c.args.above.now _ c.requires.some c.requires.depth full)

pub returns-in-OnlyRecorded-clause-found : goal.returns-in-OnlyRecorded-clause-found
returns-in-OnlyRecorded-clause-found g t c =
    let first = c.in_ok-name.ensures {u = tt} in
    let name = c.in_ok-name.field-0.name in
    let here = c.in_ok-here.here in
    let there = c.in_ok-there.there in
    let own = encodings_in c.args.own.now in
    let read = reads_still own c.args.recorded.now there c.read_directory-2.ensures.called.asked.some.blobs (c.in_ok-there.ensures {u = tt}).told in
    let both : ReadsBoth own (g.S.BlobSource.tells c.read_directory-2.new.source).blobs c.args.grafted.now c.args.recorded.now name here there = record { recorded = read; grafted = (c.in_ok-here.ensures {u = tt}).told; first = first.name } in
    let path = c.in_ok-path.ensures.path ∙ ap (λ o. names_in o ++ name ∷ []) c.as_ref.ensures.value in
    finds_recorded own _ (names_in c.args.above.now) c.args.grafted.now c.args.recorded.now c.args.deeper c.in_ok-path.path name here there c.requires.some both path (subst (IsUnlike (child_of name here) (child_of name there)) c.in-OnlyRecorded.is first.unlike)

pub returns-in-OnlyGrafted-clause-found : goal.returns-in-OnlyGrafted-clause-found
returns-in-OnlyGrafted-clause-found g t c =
    let first = c.in_ok-name.ensures {u = tt} in
    let name = c.in_ok-name.field-0.name in
    let here = c.in_ok-here.here in
    let there = c.in_ok-there.there in
    let own = encodings_in c.args.own.now in
    let read = reads_still own c.args.recorded.now there c.read_directory-2.ensures.called.asked.some.blobs (c.in_ok-there.ensures {u = tt}).told in
    let both : ReadsBoth own (g.S.BlobSource.tells c.read_directory-2.new.source).blobs c.args.grafted.now c.args.recorded.now name here there = record { recorded = read; grafted = (c.in_ok-here.ensures {u = tt}).told; first = first.name } in
    let path = c.in_ok-path.ensures.path ∙ ap (λ o. names_in o ++ name ∷ []) c.as_ref.ensures.value in
    finds_grafted own _ (names_in c.args.above.now) c.args.grafted.now c.args.recorded.now c.args.deeper c.in_ok-path.path name here there c.requires.some both path (subst (IsUnlike (child_of name here) (child_of name there)) c.in-OnlyGrafted.is first.unlike)

pub returns-in-Others-clause-found : goal.returns-in-Others-clause-found
returns-in-Others-clause-found g t c =
    let first = c.in_ok-name.ensures {u = tt} in
    let name = c.in_ok-name.field-0.name in
    let here = c.in_ok-here.here in
    let there = c.in_ok-there.there in
    let own = encodings_in c.args.own.now in
    let read = reads_still own c.args.recorded.now there c.read_directory-2.ensures.called.asked.some.blobs (c.in_ok-there.ensures {u = tt}).told in
    let both : ReadsBoth own (g.S.BlobSource.tells c.read_directory-2.new.source).blobs c.args.grafted.now c.args.recorded.now name here there = record { recorded = read; grafted = (c.in_ok-here.ensures {u = tt}).told; first = first.name } in
    let path = c.in_ok-path.ensures.path ∙ ap (λ o. names_in o ++ name ∷ []) c.as_ref.ensures.value in
    finds_others own _ (names_in c.args.above.now) c.args.grafted.now c.args.recorded.now c.args.deeper c.in_ok-path.path name here there c.requires.some both path (subst (IsUnlike (child_of name here) (child_of name there)) c.in-Others.is first.unlike)

pub returns-then-deeper-eq1-clause-found : goal.returns-then-deeper-eq1-clause-found
returns-then-deeper-eq1-clause-found g t c =
    let first = c.in_ok-name.ensures {u = tt} in
    let name = c.in_ok-name.field-0.name in
    let here = c.in_ok-here.here in
    let there = c.in_ok-there.there in
    let own = encodings_in c.args.own.now in
    let read = reads_still own c.args.recorded.now there c.read_directory-2.ensures.called.asked.some.blobs (c.in_ok-there.ensures {u = tt}).told in
    let both : ReadsBoth own (g.S.BlobSource.tells c.read_directory-2.new.source).blobs c.args.grafted.now c.args.recorded.now name here there = record { recorded = read; grafted = (c.in_ok-here.ensures {u = tt}).told; first = first.name } in
    let path = c.in_ok-path.ensures.path ∙ ap (λ o. names_in o ++ name ∷ []) c.as_ref.ensures.value in
    finds_last own _ (names_in c.args.above.now) c.args.grafted.now c.args.recorded.now c.args.deeper c.in_ok-path.path name here there c.in-Directories.grafted c.in-Directories.recorded c.if-deeper-eq1.true both path (subst (IsUnlike (child_of name here) (child_of name there)) c.in-Directories.is first.unlike)

pub returns-clause-found : goal.returns-clause-found
returns-clause-found g t c =
    let first = c.in_ok-name.ensures {u = tt} in
    let name = c.in_ok-name.field-0.name in
    let here = c.in_ok-here.here in
    let there = c.in_ok-there.there in
    let own = encodings_in c.args.own.now in
    let read = reads_still own c.args.recorded.now there c.read_directory-2.ensures.called.asked.some.blobs (c.in_ok-there.ensures {u = tt}).told in
    let both : ReadsBoth own (g.S.BlobSource.tells c.read_directory-2.new.source).blobs c.args.grafted.now c.args.recorded.now name here there = record { recorded = read; grafted = (c.in_ok-here.ensures {u = tt}).told; first = first.name } in
    let path = c.in_ok-path.ensures.path ∙ ap (λ o. names_in o ++ name ∷ []) c.as_ref.ensures.value in
    let B = (g.S.BlobSource.tells c.difference_below.new.source).blobs in
    let later = reads_both own c.args.grafted.now c.args.recorded.now name here there c.difference_below.ensures.called.asked.some.blobs both in
    let unlike = subst (IsUnlike (child_of name here) (child_of name there)) c.in-Directories.is first.unlike in
    let below = Finds own B (c.args.deeper - 1) c.in_ok-path.path c.in-Directories.grafted c.in-Directories.recorded in
    let found = Finds own B c.args.deeper (names_in c.args.above.now) c.args.grafted.now c.args.recorded.now in
    let up = finds_below own B (names_in c.args.above.now) c.args.grafted.now c.args.recorded.now c.args.deeper c.in_ok-path.path name here there c.in-Directories.grafted c.in-Directories.recorded in
    ok_more (λ x. below (differing x)) (λ x. found (differing x)) c.difference_below.result (λ x h. up (differing x) c.requires.some c.if-deeper-eq1.false later path unlike h) c.difference_below.ensures.found

pub returns-clause-refused : goal.returns-clause-refused
returns-clause-refused g t c =
    let first = c.in_ok-name.ensures {u = tt} in
    let name = c.in_ok-name.field-0.name in
    let here = c.in_ok-here.here in
    let there = c.in_ok-there.there in
    let own = encodings_in c.args.own.now in
    let read = reads_still own c.args.recorded.now there c.read_directory-2.ensures.called.asked.some.blobs (c.in_ok-there.ensures {u = tt}).told in
    let both : ReadsBoth own (g.S.BlobSource.tells c.read_directory-2.new.source).blobs c.args.grafted.now c.args.recorded.now name here there = record { recorded = read; grafted = (c.in_ok-here.ensures {u = tt}).told; first = first.name } in
    let path = c.in_ok-path.ensures.path ∙ ap (λ o. names_in o ++ name ∷ []) c.as_ref.ensures.value in
    let B = (g.S.BlobSource.tells c.difference_below.new.source).blobs in
    let later = reads_both own c.args.grafted.now c.args.recorded.now name here there c.difference_below.ensures.called.asked.some.blobs both in
    let unlike = subst (IsUnlike (child_of name here) (child_of name there)) c.in-Directories.is first.unlike in
    let below = Finds own B (c.args.deeper - 1) c.in_ok-path.path c.in-Directories.grafted c.in-Directories.recorded in
    let found = Finds own B c.args.deeper (names_in c.args.above.now) c.args.grafted.now c.args.recorded.now in
    let up = finds_below own B (names_in c.args.above.now) c.args.grafted.now c.args.recorded.now c.args.deeper c.in_ok-path.path name here there c.in-Directories.grafted c.in-Directories.recorded in
    err_more (λ e. ExplainsDifference below e) (λ e. ExplainsDifference found e) c.difference_below.result (λ e h. explains_below below found e (λ x k. up x c.requires.some c.if-deeper-eq1.false later path unlike k) h) c.difference_below.ensures.refused

pub returns-in_err-here-clause-unasked : goal.returns-in_err-here-clause-unasked
returns-in_err-here-clause-unasked g t c = leaves_then c.read_directory.ensures.unasked c.read_directory-2.ensures.unasked

pub returns-in_err-name-clause-unasked : goal.returns-in_err-name-clause-unasked
returns-in_err-name-clause-unasked g t c = leaves_then c.read_directory.ensures.unasked c.read_directory-2.ensures.unasked

pub returns-in_err-path-clause-unasked : goal.returns-in_err-path-clause-unasked
returns-in_err-path-clause-unasked g t c = leaves_then c.read_directory.ensures.unasked c.read_directory-2.ensures.unasked

pub returns-in-OnlyRecorded-clause-unasked : goal.returns-in-OnlyRecorded-clause-unasked
returns-in-OnlyRecorded-clause-unasked g t c = leaves_then c.read_directory.ensures.unasked c.read_directory-2.ensures.unasked

pub returns-in-OnlyGrafted-clause-unasked : goal.returns-in-OnlyGrafted-clause-unasked
returns-in-OnlyGrafted-clause-unasked g t c = leaves_then c.read_directory.ensures.unasked c.read_directory-2.ensures.unasked

pub returns-in-Others-clause-unasked : goal.returns-in-Others-clause-unasked
returns-in-Others-clause-unasked g t c = leaves_then c.read_directory.ensures.unasked c.read_directory-2.ensures.unasked

pub returns-then-deeper-eq1-clause-unasked : goal.returns-then-deeper-eq1-clause-unasked
returns-then-deeper-eq1-clause-unasked g t c = leaves_then c.read_directory.ensures.unasked c.read_directory-2.ensures.unasked

pub returns-clause-unasked : goal.returns-clause-unasked
returns-clause-unasked g t c =
    leaves_then c.read_directory.ensures.unasked (leaves_then c.read_directory-2.ensures.unasked c.difference_below.ensures.unasked)

pub returns-in_err-here-clause-called : goal.returns-in_err-here-clause-called
returns-in_err-here-clause-called g t c =
    calls_ok (asks_both c.requires.some) (c.in_ok-there.ensures {u = tt}).called (called_exit c.from_residual-in_err-here.ensures.1 (c.in_err-here.ensures {u = tt}).called)

pub returns-in_err-name-clause-called : goal.returns-in_err-name-clause-called
returns-in_err-name-clause-called g t c = calls_both c.requires.some (c.in_ok-there.ensures {u = tt}).called (c.in_ok-here.ensures {u = tt}).called (search rules)

pub returns-in_err-path-clause-called : goal.returns-in_err-path-clause-called
returns-in_err-path-clause-called g t c = calls_both c.requires.some (c.in_ok-there.ensures {u = tt}).called (c.in_ok-here.ensures {u = tt}).called (search rules)

pub returns-in-OnlyRecorded-clause-called : goal.returns-in-OnlyRecorded-clause-called
returns-in-OnlyRecorded-clause-called g t c = calls_both c.requires.some (c.in_ok-there.ensures {u = tt}).called (c.in_ok-here.ensures {u = tt}).called ok_no_error

pub returns-in-OnlyGrafted-clause-called : goal.returns-in-OnlyGrafted-clause-called
returns-in-OnlyGrafted-clause-called g t c = calls_both c.requires.some (c.in_ok-there.ensures {u = tt}).called (c.in_ok-here.ensures {u = tt}).called ok_no_error

pub returns-in-Others-clause-called : goal.returns-in-Others-clause-called
returns-in-Others-clause-called g t c = calls_both c.requires.some (c.in_ok-there.ensures {u = tt}).called (c.in_ok-here.ensures {u = tt}).called ok_no_error

pub returns-then-deeper-eq1-clause-called : goal.returns-then-deeper-eq1-clause-called
returns-then-deeper-eq1-clause-called g t c = calls_both c.requires.some (c.in_ok-there.ensures {u = tt}).called (c.in_ok-here.ensures {u = tt}).called ok_no_error

pub returns-clause-called : goal.returns-clause-called
returns-clause-called g t c =
    calls_below c.requires.some (c.in_ok-there.ensures {u = tt}).called (c.in_ok-here.ensures {u = tt}).called c.difference_below.ensures.called

pub read_directory-requires-2-clause-known : goal.read_directory-requires-2-clause-known
read_directory-requires-2-clause-known g t c = (c.in_ok-there.ensures {u = tt}).learned.known

pub returns-in_err-there-clause-learned : goal.returns-in_err-there-clause-learned
returns-in_err-there-clause-learned g t c =
    learns_refused (λ a. compares_recorded _ _ c.args.grafted.now c.args.recorded.now c.args.deeper c.requires.some a) (refused_exit _ _ c.from_residual.ensures.1) (c.in_err-there.ensures {u = tt}).learned

pub returns-in_err-here-clause-learned : goal.returns-in_err-here-clause-learned
returns-in_err-here-clause-learned g t c =
    let read = reads_still (encodings_in c.args.own.now) c.args.recorded.now c.in_ok-there.there c.read_directory-2.ensures.called.asked.some.blobs (c.in_ok-there.ensures {u = tt}).told in
    learns_both (encodings_in c.args.own.now) c.args.grafted.now c.args.recorded.now c.args.deeper c.in_ok-there.there c.requires.some read (λ n. n) (c.in_ok-there.ensures {u = tt}).learned (learns_refused (λ a h. h) (refused_exit _ _ c.from_residual-in_err-here.ensures.1) (c.in_err-here.ensures {u = tt}).learned)

pub returns-in_err-name-clause-learned : goal.returns-in_err-name-clause-learned
returns-in_err-name-clause-learned g t c =
    let read = reads_still (encodings_in c.args.own.now) c.args.recorded.now c.in_ok-there.there c.read_directory-2.ensures.called.asked.some.blobs (c.in_ok-there.ensures {u = tt}).told in
    learns_refused (λ a h. h) (refused_exit _ _ c.from_residual-in_err-name.ensures.1)
    (learns_both (encodings_in c.args.own.now) c.args.grafted.now c.args.recorded.now c.args.deeper c.in_ok-there.there c.requires.some read (λ n. n) (c.in_ok-there.ensures {u = tt}).learned (c.in_ok-here.ensures {u = tt}).learned)

pub returns-in_err-path-clause-learned : goal.returns-in_err-path-clause-learned
returns-in_err-path-clause-learned g t c =
    let read = reads_still (encodings_in c.args.own.now) c.args.recorded.now c.in_ok-there.there c.read_directory-2.ensures.called.asked.some.blobs (c.in_ok-there.ensures {u = tt}).told in
    learns_refused (λ a h. h) (refused_exit _ _ c.from_residual-in_err-path.ensures.1)
    (learns_both (encodings_in c.args.own.now) c.args.grafted.now c.args.recorded.now c.args.deeper c.in_ok-there.there c.requires.some read (λ n. n) (c.in_ok-there.ensures {u = tt}).learned (c.in_ok-here.ensures {u = tt}).learned)

pub returns-in-OnlyRecorded-clause-learned : goal.returns-in-OnlyRecorded-clause-learned
returns-in-OnlyRecorded-clause-learned g t c =
    let read = reads_still (encodings_in c.args.own.now) c.args.recorded.now c.in_ok-there.there c.read_directory-2.ensures.called.asked.some.blobs (c.in_ok-there.ensures {u = tt}).told in
    learns_both (encodings_in c.args.own.now) c.args.grafted.now c.args.recorded.now c.args.deeper c.in_ok-there.there c.requires.some read (λ n. n) (c.in_ok-there.ensures {u = tt}).learned (c.in_ok-here.ensures {u = tt}).learned

pub returns-in-OnlyGrafted-clause-learned : goal.returns-in-OnlyGrafted-clause-learned
returns-in-OnlyGrafted-clause-learned g t c =
    let read = reads_still (encodings_in c.args.own.now) c.args.recorded.now c.in_ok-there.there c.read_directory-2.ensures.called.asked.some.blobs (c.in_ok-there.ensures {u = tt}).told in
    learns_both (encodings_in c.args.own.now) c.args.grafted.now c.args.recorded.now c.args.deeper c.in_ok-there.there c.requires.some read (λ n. n) (c.in_ok-there.ensures {u = tt}).learned (c.in_ok-here.ensures {u = tt}).learned

pub returns-in-Others-clause-learned : goal.returns-in-Others-clause-learned
returns-in-Others-clause-learned g t c =
    let read = reads_still (encodings_in c.args.own.now) c.args.recorded.now c.in_ok-there.there c.read_directory-2.ensures.called.asked.some.blobs (c.in_ok-there.ensures {u = tt}).told in
    learns_both (encodings_in c.args.own.now) c.args.grafted.now c.args.recorded.now c.args.deeper c.in_ok-there.there c.requires.some read (λ n. n) (c.in_ok-there.ensures {u = tt}).learned (c.in_ok-here.ensures {u = tt}).learned

pub returns-then-deeper-eq1-clause-learned : goal.returns-then-deeper-eq1-clause-learned
returns-then-deeper-eq1-clause-learned g t c =
    let read = reads_still (encodings_in c.args.own.now) c.args.recorded.now c.in_ok-there.there c.read_directory-2.ensures.called.asked.some.blobs (c.in_ok-there.ensures {u = tt}).told in
    learns_both (encodings_in c.args.own.now) c.args.grafted.now c.args.recorded.now c.args.deeper c.in_ok-there.there c.requires.some read (λ n. n) (c.in_ok-there.ensures {u = tt}).learned (c.in_ok-here.ensures {u = tt}).learned

pub returns-clause-learned : goal.returns-clause-learned
returns-clause-learned g t c =
    let first = c.in_ok-name.ensures {u = tt} in
    let name = c.in_ok-name.field-0.name in
    let here = c.in_ok-here.here in
    let there = c.in_ok-there.there in
    let own = encodings_in c.args.own.now in
    let read = reads_still own c.args.recorded.now there c.read_directory-2.ensures.called.asked.some.blobs (c.in_ok-there.ensures {u = tt}).told in
    let both : ReadsBoth own (g.S.BlobSource.tells c.read_directory-2.new.source).blobs c.args.grafted.now c.args.recorded.now name here there = record { recorded = read; grafted = (c.in_ok-here.ensures {u = tt}).told; first = first.name } in
    let B = (g.S.BlobSource.tells c.difference_below.new.source).blobs in
    let grows = c.difference_below.ensures.called.asked.some.blobs in
    let later = reads_both own c.args.grafted.now c.args.recorded.now name here there grows both in
    let unlike = subst (IsUnlike (child_of name here) (child_of name there)) c.in-Directories.is first.unlike in
    learns_then {t1 = g.S.BlobSource.tells c.read_directory-2.new.source} (λ a. compares_still own grows a c.args.deeper c.args.grafted.now c.args.recorded.now)
    (λ a. compares_below own B c.args.grafted.now c.args.recorded.now c.args.deeper c.requires.some a name here there c.in-Directories.grafted c.in-Directories.recorded later unlike) (λ n. n)
    (learns_both (encodings_in c.args.own.now) c.args.grafted.now c.args.recorded.now c.args.deeper c.in_ok-there.there c.requires.some read (λ n. n) (c.in_ok-there.ensures {u = tt}).learned (c.in_ok-here.ensures {u = tt}).learned) c.difference_below.ensures.learned
