use Rattle.std.proofs.Common.{◌≢◌, arith, refl, subst, sym, ◌∙◌}
use Rattle.blob_digest.specs.Digest.{digest_of}
use Rattle.blob_source.specs.Sink.{HasRight}
use Rattle.worker.proofs.Keeping.{kept_none, kept_trans, kept_blob, right_put, all_right_taken, differs, only_none, only_one, only_then}
use Rattle.worker.proofs.PutOnce.{call_counts}
use Rattle.blob_source.proofs.Asking.{ok_no_error}
use Rattle.worker.specs.Counted.{IsFetch}
use Rattle.worker.proofs.Failures.{counts_same, counts_from, counts_exit, counts_put, counts_calls}
use Rattle.worker.proofs.putting.put_all.Goals as goal

pub loop-blob-init : goal.loop-blob-init
loop-blob-init g c = record { kept = kept_none; fetched = refl; held = tt; only = only_none; once = omega arith; within = omega arith }

pub loop-blob-preserved : goal.loop-blob-preserved
loop-blob-preserved g c =
    let before = (g.S.BlobSource.tells c.loop-blob.sink).blobs in
    let after = (g.S.BlobSource.tells c.put_blob.new.self).blobs in
    record {
      kept = kept_trans c.loop-blob.invariant.kept (kept_blob c.put_blob.ensures.called);
      fetched = c.in_ok-put_blob.ensures.called.unfailed ok_no_error ∙ c.loop-blob.invariant.fetched;
      held = all_right_taken before after c.args.blobs.now c.loop-blob.blob-index c.blob-item.result c.loop-blob-test.true c.blob-item.is
          c.put_blob.ensures.called.asked.right c.loop-blob.invariant.held
          (subst (λ bs. HasRight after (digest_of bs)) c.deref.ensures.value (right_put before after c.in_ok-put_blob.ensures.held));
      only = only_then c.loop-blob.invariant.only (only_one (λ d all. subst (λ bs. digest_of bs ≢ d) (sym c.deref.ensures.value) (differs d c.args.blobs.now c.loop-blob.blob-index c.blob-item.result c.loop-blob-test.true c.blob-item.is all)) c.put_blob.ensures.called);
      once = let one = call_counts c.put_blob.ensures.called.asked.counts in let was = c.loop-blob.invariant.once in omega (arith, one, was);
      within = let more = c.loop-blob-test.true in omega (arith, more);
    }

pub returns-in_err-put_blob-clause-only : goal.returns-in_err-put_blob-clause-only
returns-in_err-put_blob-clause-only g c =
    only_then c.loop-blob.invariant.only (only_one (λ d all. subst (λ bs. digest_of bs ≢ d) (sym c.deref.ensures.value) (differs d c.args.blobs.now c.loop-blob.blob-index c.blob-item.result c.loop-blob-test.true c.blob-item.is all)) c.put_blob.ensures.called)

pub returns-in_err-put_blob-clause-once : goal.returns-in_err-put_blob-clause-once
returns-in_err-put_blob-clause-once g c =
    let one = call_counts c.put_blob.ensures.called.asked.counts in
    let was = c.loop-blob.invariant.once in
    let more = c.loop-blob-test.true in
    omega (arith, one, was, more)

pub returns-clause-once : goal.returns-clause-once
returns-clause-once g c = let was = c.loop-blob.invariant.once in let within = c.loop-blob.invariant.within in omega (arith, was, within)

pub returns-clause-only : goal.returns-clause-only
returns-clause-only g c = c.loop-blob.invariant.only

pub returns-in_err-put_blob-clause-fetched : goal.returns-in_err-put_blob-clause-fetched
returns-in_err-put_blob-clause-fetched g c = counts_from c.loop-blob.invariant.fetched (counts_exit IsFetch c.from_residual.result c.from_residual.ensures.1 (counts_put _ _ (counts_calls c.in_err-put_blob.ensures.called)))

pub returns-clause-fetched : goal.returns-clause-fetched
returns-clause-fetched g c = counts_same (λ f. f) c.loop-blob.invariant.fetched
