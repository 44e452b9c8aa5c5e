use Rattle.std.proofs.Common.{◌≢◌, arith, subst, sym, ap, length, ◌∙◌}
use Rattle.std.specs.Prelude.{map}
use Rattle.std.specs.List.{AllByRecursion}
use Rattle.std.proofs.lemmas.List.{length-map}
use Rattle.blob_digest.specs.Digest.{digest_of}
use Rattle.blob_source.specs.Sink.{HasRight}
use Rattle.messages.specs.Directory.{directory_bytes}
use Rattle.worker.proofs.Keeping.{kept_trans, kept_blob, right_put, right_still, all_right_spelled, only_none, only_one, only_then, spelled_so}
use Rattle.blob_source.proofs.Asking.{ok_no_error}
use Rattle.worker.specs.Counted.{IsFetch}
use Rattle.worker.proofs.PutOnce.{call_counts}
use Rattle.worker.proofs.Failures.{counts_none, counts_same, counts_from, counts_exit, counts_put, counts_calls}
use Rattle.worker.proofs.putting.put_directories.Goals as goal

pub loop-child-preserved : goal.loop-child-preserved
loop-child-preserved g c =
    let before = (g.S.BlobSource.tells c.loop-child.sink).blobs in
    let after = (g.S.BlobSource.tells c.put_blob-in-loop-child.new.self).blobs in
    let kept = kept_blob c.put_blob-in-loop-child.ensures.called in
    record {
      kept = kept_trans c.loop-child.invariant.kept kept;
      only = only_then c.loop-child.invariant.only (only_one (λ d all. subst (λ bs. digest_of bs ≢ d) (sym (c.deref-in-loop-child.ensures.value ∙ c.in_ok-encode-2.ensures.bytes))
          (spelled_so directory_bytes (λ b. digest_of b ≢ d) c.children-child-items.result.now c.loop-child.child-index c.child-item.result c.loop-child-test.true c.child-item.is (subst (λ xs. AllByRecursion (λ b. digest_of b ≢ d) (map directory_bytes xs)) (sym c.children-child-items.ensures.value) all.1)))
          c.put_blob-in-loop-child.ensures.called);
      once = let one = call_counts c.put_blob-in-loop-child.ensures.called.asked.counts in let was = c.loop-child.invariant.once in omega (arith, one, was);
      within = let more = c.loop-child-test.true in omega (arith, more);
      fetched = c.in_ok-put_blob-2.ensures.called.unfailed ok_no_error ∙ c.loop-child.invariant.fetched;
      held = (
        right_still kept.blobs c.loop-child.invariant.held.0,
        all_right_spelled directory_bytes before after c.children-child-items.result.now c.loop-child.child-index c.child-item.result c.loop-child-test.true c.child-item.is kept.blobs c.loop-child.invariant.held.1
            (subst (λ bs. HasRight after (digest_of bs)) (c.deref-in-loop-child.ensures.value ∙ c.in_ok-encode-2.ensures.bytes) (right_put before after c.in_ok-put_blob-2.ensures.held)),
      );
    }

pub loop-child-init : goal.loop-child-init
loop-child-init g c =
    let before = (g.S.BlobSource.tells c.args.sink.now).blobs in
    let after = (g.S.BlobSource.tells c.put_blob.new.self).blobs in
    record {
      kept = kept_blob c.put_blob.ensures.called;
      only = only_one (λ d all. subst (λ bs. digest_of bs ≢ d) (sym (c.deref.ensures.value ∙ c.in_ok-encode.ensures.bytes ∙ ap directory_bytes c.root.ensures.value)) all.0) c.put_blob.ensures.called;
      once = let one = call_counts c.put_blob.ensures.called.asked.counts in omega (arith, one);
      within = omega arith;
      fetched = c.in_ok-put_blob.ensures.called.unfailed ok_no_error;
      held = (subst (λ bs. HasRight after (digest_of bs)) (c.deref.ensures.value ∙ c.in_ok-encode.ensures.bytes ∙ ap directory_bytes c.root.ensures.value) (right_put before after c.in_ok-put_blob.ensures.held), tt);
    }

pub returns-in_err-encode-clause-only : goal.returns-in_err-encode-clause-only
returns-in_err-encode-clause-only g c = only_none

pub returns-in_err-put_blob-clause-only : goal.returns-in_err-put_blob-clause-only
returns-in_err-put_blob-clause-only g c = only_one (λ d all. subst (λ bs. digest_of bs ≢ d) (sym (c.deref.ensures.value ∙ c.in_ok-encode.ensures.bytes ∙ ap directory_bytes c.root.ensures.value)) all.0) c.put_blob.ensures.called

pub returns-in_err-encode-2-clause-only : goal.returns-in_err-encode-2-clause-only
returns-in_err-encode-2-clause-only g c = c.loop-child.invariant.only

pub returns-in_err-put_blob-2-clause-only : goal.returns-in_err-put_blob-2-clause-only
returns-in_err-put_blob-2-clause-only g c =
    only_then c.loop-child.invariant.only (only_one (λ d all. subst (λ bs. digest_of bs ≢ d) (sym (c.deref-in-loop-child.ensures.value ∙ c.in_ok-encode-2.ensures.bytes))
    (spelled_so directory_bytes (λ b. digest_of b ≢ d) c.children-child-items.result.now c.loop-child.child-index c.child-item.result c.loop-child-test.true c.child-item.is (subst (λ xs. AllByRecursion (λ b. digest_of b ≢ d) (map directory_bytes xs)) (sym c.children-child-items.ensures.value) all.1)))
    c.put_blob-in-loop-child.ensures.called)

pub returns-clause-only : goal.returns-clause-only
returns-clause-only g c = c.loop-child.invariant.only

pub returns-in_err-encode-2-clause-fetched : goal.returns-in_err-encode-2-clause-fetched
returns-in_err-encode-2-clause-fetched g c = counts_from c.loop-child.invariant.fetched (counts_exit IsFetch c.from_residual-in_err-encode-2.result c.from_residual-in_err-encode-2.ensures.1 (counts_none (λ f. f)))

pub returns-in_err-put_blob-2-clause-fetched : goal.returns-in_err-put_blob-2-clause-fetched
returns-in_err-put_blob-2-clause-fetched g c = counts_from c.loop-child.invariant.fetched (counts_exit IsFetch c.from_residual-in_err-put_blob-2.result c.from_residual-in_err-put_blob-2.ensures.1 (counts_put _ _ (counts_calls c.in_err-put_blob-2.ensures.called)))

pub returns-clause-fetched : goal.returns-clause-fetched
returns-clause-fetched g c = counts_same (λ f. f) c.loop-child.invariant.fetched

pub returns-clause-once : goal.returns-clause-once
returns-clause-once g c =
    let was = c.loop-child.invariant.once in
    let within = c.loop-child.invariant.within in
    let children = ap length c.children-child-items.ensures.value in
    let spelled = length-map c.args.tree.now.children directory_bytes in
    omega (arith, was, within, children, spelled)
