use Rattle.std.proofs.Common.{subst}
use Rattle.std.proofs.lemmas.Result.{err_from_is_err_and}
use Rattle.worker.proofs.Stopping.{start_stops}
use Rattle.worker.specs.Layout.{IsLayoutOf}
use Rattle.worker.proofs.Keeping.{kept_some}
use Rattle.blob_source.proofs.Asking.{ok_no_error}
use Rattle.worker.specs.Counted.{IsDevice, IsFetch}
use Rattle.worker.proofs.Failures.{counts_none, counts_same, counts_from, counts_exit, counts_calls, counts_layout}
use Rattle.worker.proofs.beginning.start_child.Goals as goal

pub returns-in_err-start-clause-kept : goal.returns-in_err-start-clause-kept
returns-in_err-start-clause-kept g c = kept_some c.layout.ensures.called

pub returns-clause-kept : goal.returns-clause-kept
returns-clause-kept g c = kept_some c.layout.ensures.called

pub returns-clause-owed : goal.returns-clause-owed
returns-clause-owed g c = (
  c.in_ok-laid.laid,
  subst (λ d. IsLayoutOf (g.S.BlobSource.tells c.layout.new.source).blobs d c.in_ok-laid.laid) c.input_root_digest-root.ensures.value c.in_ok-laid.ensures.told,
  λ p m. let given = c.in_ok-start.ensures.gives p m in (c.start.ensures.same c.in_ok-laid.laid c.args.job.now.command p given.0, given.1),
  c.in_ok-start.ensures.listed,
  c.in_ok-laid.ensures.few,
)

pub returns-in_err-start-clause-refused : goal.returns-in_err-start-clause-refused
returns-in_err-start-clause-refused g c =
    let p = err_from_is_err_and c.from_residual-in_err-start.result c.from_residual-in_err-start.ensures.1 in
    let blobs = (g.S.BlobSource.tells c.layout.new.source).blobs in
    rw (p.1, p.2) (start_stops (g.N.Runner.yields c.args.runner.now) (g.N.Runner.yields c.start.new.self) blobs c.args.job.now.action.input c.args.job.now.command c.in_ok-laid.laid c.in_err-start.field-0.0
    (subst (λ d. IsLayoutOf blobs d c.in_ok-laid.laid) c.input_root_digest-root.ensures.value c.in_ok-laid.ensures.told)
    c.start.ensures.same c.in_err-start.ensures.refused c.in_err-start.ensures.bad c.in_err-start.ensures.device)

pub returns-in_err-laid-clause-fetched : goal.returns-in_err-laid-clause-fetched
returns-in_err-laid-clause-fetched g c = counts_exit IsFetch c.from_residual.result c.from_residual.ensures.1 (counts_layout _ (counts_calls c.in_err-laid.ensures.called))

pub returns-in_err-laid-clause-device : goal.returns-in_err-laid-clause-device
returns-in_err-laid-clause-device g c = counts_exit IsDevice c.from_residual.result c.from_residual.ensures.1 (counts_none (λ f. f))

pub returns-in_err-start-clause-fetched : goal.returns-in_err-start-clause-fetched
returns-in_err-start-clause-fetched g c = counts_from (c.in_ok-laid.ensures.called.unfailed ok_no_error) (counts_exit IsFetch c.from_residual-in_err-start.result c.from_residual-in_err-start.ensures.1 (counts_none (λ f. f)))

pub returns-in_err-start-clause-device : goal.returns-in_err-start-clause-device
returns-in_err-start-clause-device g c = counts_exit IsDevice c.from_residual-in_err-start.result c.from_residual-in_err-start.ensures.1 c.in_err-start.ensures.counted

pub returns-clause-fetched : goal.returns-clause-fetched
returns-clause-fetched g c = counts_same (λ f. f) (c.in_ok-laid.ensures.called.unfailed ok_no_error)

pub returns-clause-device : goal.returns-clause-device
returns-clause-device g c = counts_same (λ f. f) (c.in_ok-start.ensures.counted.unfailed (λ f. f))

pub returns-in_err-start-clause-only : goal.returns-in_err-start-clause-only
returns-in_err-start-clause-only g c = c.layout.ensures.called.asked.blobs

pub returns-clause-only : goal.returns-clause-only
returns-clause-only g c = c.layout.ensures.called.asked.blobs
