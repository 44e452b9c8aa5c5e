use Rattle.std.proofs.Common.{◌≡◌, ◌≢◌, ℕ, ◌<◌, ◌≤◌, ◌+◌, List, [], ◌∷◌, length, get_or, subst, sym, ◌∙◌, arith}
use Rattle.std.specs.declared.vec.Vec.{Vec}
use Rattle.blob_digest.specs.Digest.{digest_of}
use Rattle.blob_source.specs.Sink.{HasRight}
use Rattle.worker.specs.Counted.{IsFetch}
use Rattle.worker.proofs.Keeping.{kept_trans, kept_blob, right_put, right_still, all_right_taken, differs, only_one, only_then}
use Rattle.worker.specs.Storing.{HasPut, not_put}
use Rattle.worker.proofs.PutOnce.{call_counts, once_first, once_more, put_all_more, put_still}
use Rattle.worker.proofs.Failures.{counts_same, counts_from, counts_exit}
use Rattle.blob_source.proofs.Asking.{ok_no_error}
use Rattle.worker.proofs.putting.put_input.Goals as goal

pub loop-directory-init : goal.loop-directory-init
loop-directory-init g c =
    let old = (g.S.BlobSource.tells c.args.sink.now).blobs in
    let put = (g.S.BlobSource.tells c.put_blob.new.self).blobs in
    record {
      put = put_still c.args.put.now c.put_blob.ensures.called.asked.right c.requires.put;
      kept = kept_blob c.put_blob.ensures.called;
      only = only_one (λ d all. subst (λ bs. digest_of bs ≢ d) (sym (c.deref.ensures.value ∙ c.in_ok-action.ensures.bytes)) all.0) c.put_blob.ensures.called;
      fetched = c.in_ok-put_blob.ensures.called.unfailed ok_no_error;
      held = subst (λ bs. HasRight put (digest_of bs)) (c.deref.ensures.value ∙ c.in_ok-action.ensures.bytes) (right_put old put c.in_ok-put_blob.ensures.held);
      stays = λ d among. among;
      listed = tt;
      once = let one = call_counts c.in_ok-put_blob.ensures.called.asked.counts in omega (arith, one);
      input = tt;
    }

pub loop-directory-preserved : goal.loop-directory-preserved
loop-directory-preserved g c =
    let before = (g.S.BlobSource.tells c.loop-directory.sink).blobs in
    let after = (g.S.BlobSource.tells c.put_once.new.sink).blobs in
    record {
      put = c.put_once.ensures.put;
      kept = kept_trans c.loop-directory.invariant.kept c.put_once.ensures.kept;
      only = only_then c.loop-directory.invariant.only (record {
        same = λ d all. c.put_once.ensures.only.same d (
          subst (λ bs. digest_of bs ≢ d) (sym c.deref-in-loop-directory.ensures.value)
              (differs d c.args.job.now.input.directories.items c.loop-directory.directory-index c.directory-item.result (subst (λ (xs : List (Vec ℕ g.row.A.Denot)). c.loop-directory.directory-index < length xs) c.deref-directory-items.ensures.value c.loop-directory-test.true)
              (subst (λ (xs : List (Vec ℕ g.row.A.Denot)). c.directory-item.result ≡ get_or xs c.loop-directory.directory-index c.directory-item.result) c.deref-directory-items.ensures.value c.directory-item.is) all.1),
          tt,
        );
      });
      fetched = c.in_ok-put_once.ensures.fetched.unfailed (λ f. f) ∙ c.loop-directory.invariant.fetched;
      held = right_still c.put_once.ensures.kept.blobs c.loop-directory.invariant.held;
      stays = λ d among. c.put_once.ensures.stays d (c.loop-directory.invariant.stays d among);
      listed =
          let items = c.deref-directory-items.ensures.value in
          put_all_more c.loop-directory.put c.put_once.new.put c.args.job.now.input.directories.items c.loop-directory.directory-index c.directory-item.result (subst (λ (xs : List (Vec ℕ g.row.A.Denot)). c.loop-directory.directory-index < length xs) items c.loop-directory-test.true)
          (subst (λ (xs : List (Vec ℕ g.row.A.Denot)). c.directory-item.result ≡ get_or xs c.loop-directory.directory-index c.directory-item.result) items c.directory-item.is) c.put_once.ensures.stays c.loop-directory.invariant.listed
          (subst (λ bs. HasPut c.put_once.new.put (digest_of bs)) c.deref-in-loop-directory.ensures.value c.in_ok-put_once.ensures.listed);
      once =
          let items = c.deref-directory-items.ensures.value in
          once_more c.args.put.now c.loop-directory.put c.args.job.now.input.directories.items c.loop-directory.directory-index c.directory-item.result (g.S.BlobSource.tells c.args.sink.now).calls (g.S.BlobSource.tells c.loop-directory.sink).calls (g.S.BlobSource.tells c.put_once.new.sink).calls
          (subst (λ (xs : List (Vec ℕ g.row.A.Denot)). c.loop-directory.directory-index < length xs) items c.loop-directory-test.true)
          (subst (λ (xs : List (Vec ℕ g.row.A.Denot)). c.directory-item.result ≡ get_or xs c.loop-directory.directory-index c.directory-item.result) items c.directory-item.is) c.loop-directory.invariant.stays c.loop-directory.invariant.once
          (subst (λ bs. (g.S.BlobSource.tells c.put_once.new.sink).calls ≤ (g.S.BlobSource.tells c.loop-directory.sink).calls + not_put c.loop-directory.put (bs ∷ [])) c.deref-in-loop-directory.ensures.value c.put_once.ensures.once);
      input =
          let items = c.deref-directory-items.ensures.value in
          all_right_taken before after c.args.job.now.input.directories.items c.loop-directory.directory-index c.directory-item.result (subst (λ (xs : List (Vec ℕ g.row.A.Denot)). c.loop-directory.directory-index < length xs) items c.loop-directory-test.true)
          (subst (λ (xs : List (Vec ℕ g.row.A.Denot)). c.directory-item.result ≡ get_or xs c.loop-directory.directory-index c.directory-item.result) items c.directory-item.is) c.put_once.ensures.kept.blobs c.loop-directory.invariant.input
          (subst (λ bs. HasRight after (digest_of bs)) c.deref-in-loop-directory.ensures.value c.in_ok-put_once.ensures.held);
    }

pub returns-in_err-put_blob-clause-only : goal.returns-in_err-put_blob-clause-only
returns-in_err-put_blob-clause-only g c = only_one (λ d all. subst (λ bs. digest_of bs ≢ d) (sym (c.deref.ensures.value ∙ c.in_ok-action.ensures.bytes)) all.0) c.put_blob.ensures.called

pub returns-in_err-put_once-clause-only : goal.returns-in_err-put_once-clause-only
returns-in_err-put_once-clause-only g c = only_then c.loop-directory.invariant.only (record {
  same = λ d all. c.put_once.ensures.only.same d (
    subst (λ bs. digest_of bs ≢ d) (sym c.deref-in-loop-directory.ensures.value)
        (differs d c.args.job.now.input.directories.items c.loop-directory.directory-index c.directory-item.result (subst (λ (xs : List (Vec ℕ g.row.A.Denot)). c.loop-directory.directory-index < length xs) c.deref-directory-items.ensures.value c.loop-directory-test.true)
        (subst (λ (xs : List (Vec ℕ g.row.A.Denot)). c.directory-item.result ≡ get_or xs c.loop-directory.directory-index c.directory-item.result) c.deref-directory-items.ensures.value c.directory-item.is) all.1),
    tt,
  );
})

pub returns-in_err-put_once-clause-fetched : goal.returns-in_err-put_once-clause-fetched
returns-in_err-put_once-clause-fetched g c = counts_from c.loop-directory.invariant.fetched (counts_exit IsFetch c.from_residual-in_err-put_once.result c.from_residual-in_err-put_once.ensures.1 (c.in_err-put_once.ensures.fetched))

pub returns-clause-fetched : goal.returns-clause-fetched
returns-clause-fetched g c = counts_same (λ f. f) c.loop-directory.invariant.fetched

pub returns-in_err-put_once-clause-once : goal.returns-in_err-put_once-clause-once
returns-in_err-put_once-clause-once g c =
    let items = c.deref-directory-items.ensures.value in
    let all = c.args.job.now.input.directories.items in
    let more = once_more c.args.put.now c.loop-directory.put all c.loop-directory.directory-index c.directory-item.result (g.S.BlobSource.tells c.args.sink.now).calls (g.S.BlobSource.tells c.loop-directory.sink).calls (g.S.BlobSource.tells c.put_once.new.sink).calls
    (subst (λ (xs : List (Vec ℕ g.row.A.Denot)). c.loop-directory.directory-index < length xs) items c.loop-directory-test.true)
    (subst (λ (xs : List (Vec ℕ g.row.A.Denot)). c.directory-item.result ≡ get_or xs c.loop-directory.directory-index c.directory-item.result) items c.directory-item.is) c.loop-directory.invariant.stays c.loop-directory.invariant.once
    (subst (λ bs. (g.S.BlobSource.tells c.put_once.new.sink).calls ≤ (g.S.BlobSource.tells c.loop-directory.sink).calls + not_put c.loop-directory.put (bs ∷ [])) c.deref-in-loop-directory.ensures.value c.put_once.ensures.once) in
    let rest = once_first c.args.put.now all (c.loop-directory.directory-index + 1) in
    omega (arith, more, rest)
