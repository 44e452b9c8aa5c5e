use Rattle.std.proofs.Common.{◌≡◌, true, false, ap, sym, ◌∙◌, subst}
use Rattle.action_messages.specs.Reads.{Reads}
use Rattle.blob_source.specs.Source.{bytes_of}
use Rattle.worker.proofs.Keeping.{kept_trans, kept_asks, kept_result, result_grows}
use Rattle.std.specs.Prelude.{Err}
use Rattle.blob_source.proofs.Asking.{ok_no_error}
use Rattle.worker.proofs.Failures.{counts_as, counts_no, counts_from, counts_calls}
use Rattle.worker.specs.Going.{HasNoneToTake}
use Rattle.worker.proofs.Untaken.{unread, none_reads, none_fits, none_explained, if_ok, if_err, asked_trees}
use Rattle.worker.proofs.recorded.recorded_outcome.Goals.{in-Memory, in_default-error}
use Rattle.worker.proofs.recorded.recorded_outcome.Goals as goal

pub returns-then-fits-clause-kept : goal.returns-then-fits-clause-kept
returns-then-fits-clause-kept g c = kept_trans (kept_result c.result.ensures.called) (kept_asks c.recorded.ensures.called)

pub returns-then-fits-clause-held : goal.returns-then-fits-clause-held
returns-then-fits-clause-held g c =
    let told = c.in_ok-bytes.ensures.told in
    let results = c.recorded.ensures.called.asked.some.results in
    record {
      result = c.in-Ok.made;
      held = (
        c.in-Some.bytes.items,
        results c.args.job.now.digest c.in-Some.bytes.items (sym told ∙ ap bytes_of c.in-Some.is),
        subst (λ bs. Reads c.in-Ok.made bs) c.deref.ensures.value c.in-Ok.ensures.found,
      );
      recorded = c.in-Ok-recorded.ensures.found;
    }

pub returns-in-Ok-recorded-clause-kept : goal.returns-in-Ok-recorded-clause-kept
returns-in-Ok-recorded-clause-kept g c = kept_trans (kept_result c.result.ensures.called) (kept_asks c.recorded.ensures.called)

pub returns-in-Fetch-clause-kept : goal.returns-in-Fetch-clause-kept
returns-in-Fetch-clause-kept g c = kept_trans (kept_result c.result.ensures.called) (kept_asks c.recorded.ensures.called)

pub returns-in-Memory-error-clause-kept : goal.returns-in-Memory-error-clause-kept
returns-in-Memory-error-clause-kept g c = kept_trans (kept_result c.result.ensures.called) (kept_asks c.recorded.ensures.called)

pub returns-clause-kept : goal.returns-clause-kept
returns-clause-kept g c = kept_trans (kept_result c.result.ensures.called) (kept_asks c.recorded.ensures.called)

pub returns-in-Fetch-clause-fetched : goal.returns-in-Fetch-clause-fetched
returns-in-Fetch-clause-fetched g c = counts_from (c.in_ok-bytes.ensures.called.unfailed ok_no_error) (counts_as (λ f. ap Err c.in-Fetch.is) (λ e. tt) (counts_calls c.in-Err-recorded.ensures.called))

pub returns-in-Memory-error-clause-fetched : goal.returns-in-Memory-error-clause-fetched
returns-in-Memory-error-clause-fetched g c = counts_from (c.in_ok-bytes.ensures.called.unfailed ok_no_error) (counts_no (λ e. let is = c.in-Memory-error.is in cc) (λ f. f) (counts_calls c.in-Err-recorded.ensures.called))

pub returns-in-Err-clause-none : goal.returns-in-Err-clause-none
returns-in-Err-clause-none g c =
    let t = g.S.BlobSource.tells c.result.new.self in
    let bytes = c.in-Some.bytes.items in
    elim c.match-error.branch [
      | in-Memory w ↦ if_err (HasNoneToTake t c.args.job.now.digest c.args.job.now.command) c.match-error.result _ w.result-is
      | in_default-error w ↦ if_ok c.match-error.result (none_reads t c.args.job.now.digest c.args.job.now.command bytes (sym c.in_ok-bytes.ensures.told ∙ ap bytes_of c.in-Some.is)
          (λ r reads. unread c.in-Err.error r w.in_default-error.not-Memory ((c.in-Err.ensures {u = tt}).only r (subst (Reads r) (sym c.deref.ensures.value) reads))))
    ]

pub returns-in-Ok-recorded-clause-none : goal.returns-in-Ok-recorded-clause-none
returns-in-Ok-recorded-clause-none g c same =
    let t = g.S.BlobSource.tells c.recorded.new.source in
    let bytes = c.in-Some.bytes.items in
    none_fits t c.args.job.now.digest c.args.job.now.command bytes (c.recorded.ensures.called.asked.some.results c.args.job.now.digest bytes (sym c.in_ok-bytes.ensures.told ∙ ap bytes_of c.in-Some.is))
    c.in-Ok.made (subst (λ bs. Reads c.in-Ok.made bs) c.deref.ensures.value c.in-Ok.ensures.found) c.in-Ok-recorded.outcome c.in-Ok-recorded.ensures.found
    (λ h. let yes = c.fits.ensures.1 h in let no = c.if-fits.false in let both : true ≡ false = sym yes ∙ no in cc)

pub returns-clause-none : goal.returns-clause-none
returns-clause-none g c same =
    let t = g.S.BlobSource.tells c.recorded.new.source in
    let bytes = c.in-Some.bytes.items in
    none_explained t c.args.job.now.digest c.args.job.now.command bytes (c.recorded.ensures.called.asked.some.results c.args.job.now.digest bytes (sym c.in_ok-bytes.ensures.told ∙ ap bytes_of c.in-Some.is))
    c.in-Ok.made (subst (λ bs. Reads c.in-Ok.made bs) c.deref.ensures.value c.in-Ok.ensures.found) c.in-Err-recorded.error c.in-Err-recorded.ensures.faulty c.in_default-error-2.not-Fetch c.in_default-error-2.not-Memory

pub returns-then-fits-clause-once : goal.returns-then-fits-clause-once
returns-then-fits-clause-once g c = asked_trees c.args.job.now.digest c.result.ensures.called.asked.counts (g.S.BlobSource.tells c.recorded.new.source) c.in-Ok.made c.recorded.ensures.called.asked c.in_ok-bytes.ensures.told c.in-Some.is c.deref.ensures.value c.in-Ok.ensures.found

pub returns-in-Ok-recorded-clause-once : goal.returns-in-Ok-recorded-clause-once
returns-in-Ok-recorded-clause-once g c = asked_trees c.args.job.now.digest c.result.ensures.called.asked.counts (g.S.BlobSource.tells c.recorded.new.source) c.in-Ok.made c.recorded.ensures.called.asked c.in_ok-bytes.ensures.told c.in-Some.is c.deref.ensures.value c.in-Ok.ensures.found

pub returns-in-Fetch-clause-once : goal.returns-in-Fetch-clause-once
returns-in-Fetch-clause-once g c = asked_trees c.args.job.now.digest c.result.ensures.called.asked.counts (g.S.BlobSource.tells c.recorded.new.source) c.in-Ok.made c.recorded.ensures.called.asked c.in_ok-bytes.ensures.told c.in-Some.is c.deref.ensures.value c.in-Ok.ensures.found

pub returns-in-Memory-error-clause-once : goal.returns-in-Memory-error-clause-once
returns-in-Memory-error-clause-once g c = asked_trees c.args.job.now.digest c.result.ensures.called.asked.counts (g.S.BlobSource.tells c.recorded.new.source) c.in-Ok.made c.recorded.ensures.called.asked c.in_ok-bytes.ensures.told c.in-Some.is c.deref.ensures.value c.in-Ok.ensures.found

pub returns-clause-once : goal.returns-clause-once
returns-clause-once g c = asked_trees c.args.job.now.digest c.result.ensures.called.asked.counts (g.S.BlobSource.tells c.recorded.new.source) c.in-Ok.made c.recorded.ensures.called.asked c.in_ok-bytes.ensures.told c.in-Some.is c.deref.ensures.value c.in-Ok.ensures.found

pub returns-then-fits-clause-only : goal.returns-then-fits-clause-only
returns-then-fits-clause-only g c e b at = c.recorded.ensures.called.asked.some.blobs e b (result_grows c.result.ensures.called e b at)

pub returns-in-Ok-recorded-clause-only : goal.returns-in-Ok-recorded-clause-only
returns-in-Ok-recorded-clause-only g c e b at = c.recorded.ensures.called.asked.some.blobs e b (result_grows c.result.ensures.called e b at)

pub returns-in-Fetch-clause-only : goal.returns-in-Fetch-clause-only
returns-in-Fetch-clause-only g c e b at = c.recorded.ensures.called.asked.some.blobs e b (result_grows c.result.ensures.called e b at)

pub returns-in-Memory-error-clause-only : goal.returns-in-Memory-error-clause-only
returns-in-Memory-error-clause-only g c e b at = c.recorded.ensures.called.asked.some.blobs e b (result_grows c.result.ensures.called e b at)

pub returns-clause-only : goal.returns-clause-only
returns-clause-only g c e b at = c.recorded.ensures.called.asked.some.blobs e b (result_grows c.result.ensures.called e b at)
