-- The loop goes on at the child that was found; a fault on the way ends the look-up.
use Rattle.std.proofs.Common.{sym, ◌∙◌}
use Rattle.std.specs.Prelude.{Some, None}
use Rattle.std.proofs.lemmas.Result.{err_from_is_err_and}
use Rattle.blob_source.proofs.Asking.{asks_more, asks_then, ok_no_error}
use Rattle.blob_source.proofs.Calling.{called_exit, called_no, calls_on}
use Rattle.tree.proofs.Descent.{goes_dir, goes_child, goes_nowhere, goes_wrong}
use Rattle.blob_source.specs.Told.{FailsDirectory}
use Rattle.tree.specs.TreeError.{IsCutShort}
use Rattle.tree.proofs.Learning.{learns_then, learns_refused, cut_by}
use Rattle.tree.proofs.Ways.{way_dir, way_still, way_here, way_child, others_on_way}
use Rattle.tree.proofs.memo.Memo.descend.Goals as goal

pub child-requires : goal.child-requires
child-requires g c = c.loop-name.invariant.learned.known

pub returns-in_err-next-clause-refused : goal.returns-in_err-next-clause-refused
returns-in_err-next-clause-refused g c =
    let p = err_from_is_err_and c.from_residual.result c.from_residual.ensures.1 in
    let goes = goes_dir _ c.args.root.now c.in-Dir.digest c.args.names.now _ c.loop-name.node c.in-Dir.is c.loop-name.invariant.goes in
    rw (p.1, p.2) (goes_wrong _ _ c.args.root.now _ c.args.names.now c.loop-name.name-index _ c.loop-name-test.true goes c.child.ensures.called.asked.some.blobs c.in_err-next.ensures.faulty)

pub returns-in_err-next-clause-called : goal.returns-in_err-next-clause-called
returns-in_err-next-clause-called g c =
    calls_on (asks_more c.loop-name-test.true) c.loop-name.invariant.called (called_exit c.from_residual.ensures.1 c.in_err-next.ensures.called)

pub returns-in_err-next-clause-only : goal.returns-in_err-next-clause-only
returns-in_err-next-clause-only g c =
    others_on_way c.args.root.now c.in-Dir.digest c.args.names.now c.loop-name.name-index c.loop-name.node c.loop-name-test.true c.in-Dir.is c.loop-name.invariant.way c.loop-name.invariant.only c.child.ensures.called.asked.some.blobs c.child.ensures.learned.only

pub returns-in_err-next-clause-learned : goal.returns-in_err-next-clause-learned
returns-in_err-next-clause-learned g c =
    let p = err_from_is_err_and c.from_residual.result c.from_residual.ensures.1 in
    let cut : IsCutShort c.from_residual.result = rw (p.1, p.2) (cut_by (FailsDirectory (g.S.BlobSource.tells c.child.new.source).blobs c.in-Dir.digest) _ c.in_err-next.ensures.faulty) in
    let tells = g.S.BlobSource.tells in
    let grows = c.child.ensures.called.asked.some.blobs in
    let way = way_dir _ c.args.root.now c.in-Dir.digest c.args.names.now _ c.loop-name.node c.in-Dir.is c.loop-name.invariant.way in
    learns_then {t1 = tells c.loop-name.source} (λ a. way_still _ _ c.args.root.now c.args.names.now a grows)
    (way_here _ _ c.args.root.now c.in-Dir.digest c.args.names.now c.loop-name.name-index c.loop-name-test.true way grows) (λ n. n) c.loop-name.invariant.learned
    (learns_refused (λ a h. h) cut c.child.ensures.learned)

pub returns-in-None-clause-found : goal.returns-in-None-clause-found
returns-in-None-clause-found g c =
    let goes = goes_dir _ c.args.root.now c.in-Dir.digest c.args.names.now _ c.loop-name.node c.in-Dir.is c.loop-name.invariant.goes in
    let told = c.in_ok-next.ensures.told in
    goes_nowhere _ c.args.root.now c.args.names.now _
    (goes_child _ _ c.args.root.now _ c.args.names.now c.loop-name.name-index c.name-item.result told.0 None c.loop-name-test.true goes c.child.ensures.called.asked.some.blobs told.1 c.name-item.is
    (sym c.in-None.is ∙ told.2))

pub returns-in-None-clause-called : goal.returns-in-None-clause-called
returns-in-None-clause-called g c =
    calls_on (asks_more c.loop-name-test.true) c.loop-name.invariant.called (called_no ok_no_error ok_no_error c.in_ok-next.ensures.called)

pub returns-in-None-clause-only : goal.returns-in-None-clause-only
returns-in-None-clause-only g c =
    others_on_way c.args.root.now c.in-Dir.digest c.args.names.now c.loop-name.name-index c.loop-name.node c.loop-name-test.true c.in-Dir.is c.loop-name.invariant.way c.loop-name.invariant.only c.child.ensures.called.asked.some.blobs c.child.ensures.learned.only

pub returns-in-None-clause-learned : goal.returns-in-None-clause-learned
returns-in-None-clause-learned g c =
    let tells = g.S.BlobSource.tells in
    let grows = c.child.ensures.called.asked.some.blobs in
    let way = way_dir _ c.args.root.now c.in-Dir.digest c.args.names.now _ c.loop-name.node c.in-Dir.is c.loop-name.invariant.way in
    learns_then {t1 = tells c.loop-name.source} (λ a. way_still _ _ c.args.root.now c.args.names.now a grows)
    (way_here _ _ c.args.root.now c.in-Dir.digest c.args.names.now c.loop-name.name-index c.loop-name-test.true way grows) (λ n. n) c.loop-name.invariant.learned
    c.in_ok-next.ensures.learned

pub loop-name-preserved : goal.loop-name-preserved
loop-name-preserved g c =
    let tells = g.S.BlobSource.tells in
    let goes = goes_dir _ c.args.root.now c.in-Dir.digest c.args.names.now _ c.loop-name.node c.in-Dir.is c.loop-name.invariant.goes in
    let way = way_dir _ c.args.root.now c.in-Dir.digest c.args.names.now _ c.loop-name.node c.in-Dir.is c.loop-name.invariant.way in
    let grows = c.child.ensures.called.asked.some.blobs in
    let told = c.in_ok-next.ensures.told in
    record {
      called = calls_on asks_then c.loop-name.invariant.called (called_no ok_no_error (λ n. n) c.in_ok-next.ensures.called);
      goes = goes_child _ _ c.args.root.now _ c.args.names.now c.loop-name.name-index c.name-item.result told.0 (Some c.in-Some.next) c.loop-name-test.true goes grows told.1 c.name-item.is (sym c.in-Some.is ∙ told.2);
      way = way_child _ _ c.args.root.now c.in-Dir.digest c.args.names.now c.loop-name.name-index c.loop-name-test.true way grows c.name-item.result told.0 (Some c.in-Some.next) told.1 c.name-item.is (sym c.in-Some.is ∙ told.2);
      only = others_on_way c.args.root.now c.in-Dir.digest c.args.names.now c.loop-name.name-index c.loop-name.node c.loop-name-test.true c.in-Dir.is c.loop-name.invariant.way c.loop-name.invariant.only c.child.ensures.called.asked.some.blobs c.child.ensures.learned.only;
      learned = learns_then {t1 = tells c.loop-name.source} (λ a. way_still _ _ c.args.root.now c.args.names.now a grows)
          (way_here _ _ c.args.root.now c.in-Dir.digest c.args.names.now c.loop-name.name-index c.loop-name-test.true way grows) (λ n. n) c.loop-name.invariant.learned c.in_ok-next.ensures.learned;
    }
