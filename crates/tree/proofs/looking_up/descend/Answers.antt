-- The loop goes on at the child that was found; a fault on the way ends the look-up.
use Rattle.std.proofs.Common.{ap, sym, ◌∙◌, rules}
use Rattle.std.specs.Prelude.{Some, None}
use Rattle.std.proofs.lemmas.Result.{err_from_is_err_and}
use Rattle.messages.specs.Node.{child}
use Rattle.blob_source.proofs.Asking.{asks_more, asks_then, ok_no_error}
use Rattle.blob_source.proofs.Calling.{called_exit, called_no, calls_on}
use Rattle.tree.proofs.Descent.{goes_dir, goes_child, goes_nowhere, goes_wrong}
use Rattle.tree.proofs.Ways.{way_dir, way_child, others_on_way}
use Rattle.tree.proofs.looking_up.descend.Goals as goal

pub returns-in_err-directory-clause-refused : goal.returns-in_err-directory-clause-refused
returns-in_err-directory-clause-refused g c =
    let p = err_from_is_err_and c.from_residual.result c.from_residual.ensures.1 in
    let goes = goes_dir _ c.args.root.now c.in-Dir.digest c.args.names.now _ c.loop-name.node c.in-Dir.is c.loop-name.invariant.goes in
    rw (p.1, p.2) (goes_wrong _ _ c.args.root.now _ c.args.names.now c.loop-name.name-index _ c.loop-name-test.true goes c.fetch_message.ensures.called.asked.some.blobs c.in_err-directory.ensures.faulty)

pub returns-in_err-directory-clause-called : goal.returns-in_err-directory-clause-called
returns-in_err-directory-clause-called g c =
    calls_on (asks_more c.loop-name-test.true) c.loop-name.invariant.called (called_exit c.from_residual.ensures.1 c.in_err-directory.ensures.called)

pub returns-in_err-next-clause-called : goal.returns-in_err-next-clause-called
returns-in_err-next-clause-called g c =
    calls_on (asks_more c.loop-name-test.true) c.loop-name.invariant.called (called_no ok_no_error (search rules) c.in_ok-directory.ensures.called)

pub returns-in-None-clause-found : goal.returns-in-None-clause-found
returns-in-None-clause-found g c =
    let goes = goes_dir _ c.args.root.now c.in-Dir.digest c.args.names.now _ c.loop-name.node c.in-Dir.is c.loop-name.invariant.goes in
    goes_nowhere _ c.args.root.now c.args.names.now _
    (goes_child _ _ c.args.root.now _ c.args.names.now c.loop-name.name-index c.name-item.result _ None c.loop-name-test.true goes c.fetch_message.ensures.called.asked.some.blobs c.in_ok-directory.ensures.told c.name-item.is
    (sym c.in-None.is ∙ (c.in_ok-next.ensures {u = tt}).exact ∙ ap (λ n. child n c.in_ok-directory.directory) c.as_bytes.ensures.value))

pub returns-in-None-clause-called : goal.returns-in-None-clause-called
returns-in-None-clause-called g c =
    calls_on (asks_more c.loop-name-test.true) c.loop-name.invariant.called (called_no ok_no_error ok_no_error c.in_ok-directory.ensures.called)

pub returns-in_err-directory-clause-only : goal.returns-in_err-directory-clause-only
returns-in_err-directory-clause-only g c =
    others_on_way c.args.root.now c.in-Dir.digest c.args.names.now c.loop-name.name-index c.loop-name.node c.loop-name-test.true c.in-Dir.is c.loop-name.invariant.way c.loop-name.invariant.only c.fetch_message.ensures.called.asked.some.blobs c.fetch_message.ensures.only

pub returns-in_err-next-clause-only : goal.returns-in_err-next-clause-only
returns-in_err-next-clause-only g c =
    others_on_way c.args.root.now c.in-Dir.digest c.args.names.now c.loop-name.name-index c.loop-name.node c.loop-name-test.true c.in-Dir.is c.loop-name.invariant.way c.loop-name.invariant.only c.fetch_message.ensures.called.asked.some.blobs c.fetch_message.ensures.only

pub returns-in-None-clause-only : goal.returns-in-None-clause-only
returns-in-None-clause-only g c =
    others_on_way c.args.root.now c.in-Dir.digest c.args.names.now c.loop-name.name-index c.loop-name.node c.loop-name-test.true c.in-Dir.is c.loop-name.invariant.way c.loop-name.invariant.only c.fetch_message.ensures.called.asked.some.blobs c.fetch_message.ensures.only

pub loop-name-preserved : goal.loop-name-preserved
loop-name-preserved g c =
    let goes = goes_dir _ c.args.root.now c.in-Dir.digest c.args.names.now _ c.loop-name.node c.in-Dir.is c.loop-name.invariant.goes in
    let grows = c.fetch_message.ensures.called.asked.some.blobs in
    let way = way_dir _ c.args.root.now c.in-Dir.digest c.args.names.now _ c.loop-name.node c.in-Dir.is c.loop-name.invariant.way in
    record {
      called = calls_on asks_then c.loop-name.invariant.called (called_no ok_no_error (λ n. n) c.in_ok-directory.ensures.called);
      goes = goes_child _ _ c.args.root.now _ c.args.names.now c.loop-name.name-index c.name-item.result _ (Some c.in-Some.next) c.loop-name-test.true goes c.fetch_message.ensures.called.asked.some.blobs c.in_ok-directory.ensures.told c.name-item.is
          (sym c.in-Some.is ∙ (c.in_ok-next.ensures {u = tt}).exact ∙ ap (λ n. child n c.in_ok-directory.directory) c.as_bytes.ensures.value);
      way = way_child _ _ c.args.root.now c.in-Dir.digest c.args.names.now c.loop-name.name-index c.loop-name-test.true way grows c.name-item.result _ (Some c.in-Some.next) c.in_ok-directory.ensures.told c.name-item.is
          (sym c.in-Some.is ∙ (c.in_ok-next.ensures {u = tt}).exact ∙ ap (λ n. child n c.in_ok-directory.directory) c.as_bytes.ensures.value);
      only = others_on_way c.args.root.now c.in-Dir.digest c.args.names.now c.loop-name.name-index c.loop-name.node c.loop-name-test.true c.in-Dir.is c.loop-name.invariant.way c.loop-name.invariant.only c.fetch_message.ensures.called.asked.some.blobs c.fetch_message.ensures.only;
    }
