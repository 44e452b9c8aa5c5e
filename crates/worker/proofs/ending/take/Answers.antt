use Rattle.std.proofs.Common.{subst}
use Rattle.std.proofs.lemmas.Result.{err_from_is_err_and}
use Rattle.runs.specs.Calls.{IsFinished, IsFinishFault}
use Rattle.worker.proofs.Stopping.{collecting_stops}
use Rattle.worker.specs.Outcomes.{HasTrees}
use Rattle.worker.proofs.Keeping.{kept_but}
use Rattle.worker.specs.Counted.{IsDevice, IsFetch}
use Rattle.worker.proofs.Failures.{counts_none, counts_same, counts_from, counts_exit, finish_no_fetch}
use Rattle.worker.proofs.ending.take.Goals as goal

pub returns-clause-ended : goal.returns-clause-ended
returns-clause-ended g c =
    let gave = c.in_ok-outcome.ensures.gave in
    record {
      produced = gave.0;
      came = gave.1;
      finished = subst (λ v. IsFinished c.args.child.id v c.args.engine.now c.finish.new.self) gave.2 c.in_ok-finish.ensures.finished;
      blobs = gave.3;
      trees = subst (HasTrees (g.S.BlobSource.tells c.collect.new.sink).blobs) gave.2 c.in_ok-outcome.ensures.trees;
      kept = kept_but c.collect.ensures.kept;
    }

pub returns-in_err-outcome-clause-refused : goal.returns-in_err-outcome-clause-refused
returns-in_err-outcome-clause-refused g c =
    let p = err_from_is_err_and c.from_residual.result c.from_residual.ensures.1 in
    rw (p.1, p.2) (collecting_stops g.N.Runner.may_give (g.S.BlobSource.tells c.collect.new.sink).blobs c.args.child c.args.engine.now c.in_err-outcome.field-0.0 c.in_err-outcome.ensures.refused)

pub returns-in_err-finish-clause-refused : goal.returns-in_err-finish-clause-refused
returns-in_err-finish-clause-refused g c =
    let p = err_from_is_err_and c.from_residual-in_err-finish.result c.from_residual-in_err-finish.ensures.1 in
    let gave = c.in_ok-outcome.ensures.gave in
    rw (p.1, p.2) (gave.0, gave.1, gave.3, subst (HasTrees (g.S.BlobSource.tells c.collect.new.sink).blobs) gave.2 c.in_ok-outcome.ensures.trees, subst (λ v. IsFinishFault c.args.engine.now c.args.child.id v c.in_err-finish.field-0.0) gave.2 c.in_err-finish.ensures.refused)

pub returns-in_err-outcome-clause-fetched : goal.returns-in_err-outcome-clause-fetched
returns-in_err-outcome-clause-fetched g c = counts_exit IsFetch c.from_residual.result c.from_residual.ensures.1 (c.in_err-outcome.ensures.fetched)

pub returns-in_err-outcome-clause-device : goal.returns-in_err-outcome-clause-device
returns-in_err-outcome-clause-device g c = counts_exit IsDevice c.from_residual.result c.from_residual.ensures.1 (c.in_err-outcome.ensures.device)

pub returns-in_err-finish-clause-fetched : goal.returns-in_err-finish-clause-fetched
returns-in_err-finish-clause-fetched g c = counts_from (c.in_ok-outcome.ensures.fetched.unfailed (λ f. f)) (counts_exit IsFetch c.from_residual-in_err-finish.result c.from_residual-in_err-finish.ensures.1 (counts_none (finish_no_fetch c.args.engine.now c.args.child.id c.in_ok-outcome.outcome c.in_err-finish.field-0.0 c.in_err-finish.ensures.refused)))

pub returns-in_err-finish-clause-device : goal.returns-in_err-finish-clause-device
returns-in_err-finish-clause-device g c = counts_from (c.in_ok-outcome.ensures.device.unfailed (λ f. f)) (counts_exit IsDevice c.from_residual-in_err-finish.result c.from_residual-in_err-finish.ensures.1 (counts_none (λ f. f)))

pub returns-clause-fetched : goal.returns-clause-fetched
returns-clause-fetched g c = counts_same (λ f. f) (c.in_ok-outcome.ensures.fetched.unfailed (λ f. f))

pub returns-clause-device : goal.returns-clause-device
returns-clause-device g c = counts_same (λ f. f) (c.in_ok-outcome.ensures.device.unfailed (λ f. f))
