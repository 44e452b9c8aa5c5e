-- The steps so far, and the next.
use Rattle.std.proofs.Common.{◌≡◌, ◌+◌, ◌<◌, [], ◌∷◌, ◌++◌, length, drop, ap, sym, subst, ◌∙◌, rules}
use Rattle.std.specs.List.{AllByRecursion}
use Rattle.std.proofs.lemmas.List.{length-append}
use Rattle.std.specs.Prelude.{Err, IsErrOf}
use Rattle.verifier.specs.declared.verdict.Cause.{Cause}
use Rattle.plan.specs.Values.{IsLine}
use Rattle.blob_source.proofs.Asking.{ok_no_error}
use Rattle.verifier.specs.declared.error.VerifyError.TheVariants as errors
use Rattle.verifier.specs.Stage.{ExplainsFault}
use Rattle.verifier.specs.StepChecks.{step_check}
use Rattle.blob_source.proofs.Calling.{err_injective, called_none, called_as, called_no, called_on, called_exit}
use Rattle.tree.proofs.Learning.{learns_none, learns_refused}
use Rattle.verifier.proofs.ChecksThen.{stopped_exit}
use Rattle.verifier.proofs.CheckingSteps.{StepsGoOn, steps_first, steps_next, steps_fail, steps_end, learns_step, numbered_lines}
use Rattle.verifier.proofs.verifying.check_steps.Goals as goal

pub check_step-requires-clause-lines : goal.check_step-requires-clause-lines
check_step-requires-clause-lines g c =
    let lines = numbered_lines c.args.steps.now c.loop-index.index c.index-steps-index.result c.loop-index-test.true c.index-steps-index.is c.requires.valid in
    let count : c.loop-index.index ≡ length c.deref.result.now = sym c.loop-index.invariant.count ∙ ap length (sym c.deref.ensures.value) in
    subst (λ n. AllByRecursion (IsLine n) c.index-steps-index.result.lines) count lines.each

pub returns-in-Err-clause-checked : goal.returns-in-Err-clause-checked
returns-in-Err-clause-checked g c =
    let old = g.S.BlobSource.tells c.loop-index.source in
    let tells = g.S.BlobSource.tells c.check_step.new.source in
    let asked = c.check_step.ensures.called.asked in
    let check = step_check {A = g.row.A.Denot} tells c.args.sources.now c.deref.result.now c.index-steps-index.result c.index-recorded-index.result in
    let why = subst (ExplainsFault check.fails) ((c.in_ok-cause-in-Err.ensures {u = tt}).cause) (c.in-Err.ensures {u = tt}).checked in
    let fails = subst (λ os. (step_check tells c.args.sources.now os c.index-steps-index.result c.index-recorded-index.result).fails c.in_ok-cause-in-Err.cause) c.deref.ensures.value why in
    let within : c.loop-index.index < length c.args.recorded.now = subst (λ n. c.loop-index.index < n) (sym c.requires.each) c.loop-index-test.true in
    steps_fail old tells c.args.sources.now c.args.steps.now c.args.recorded.now c.loop-index.outcomes.items c.loop-index.index c.index-steps-index.result c.index-recorded-index.result
    c.loop-index-test.true c.index-steps-index.is within c.index-recorded-index.is c.loop-index.invariant.goes asked.blobs asked.results c.in_ok-copy_of-in-Err.field-0 c.in_ok-cause-in-Err.cause (search rules) fails

pub check_step-requires-clause-known : goal.check_step-requires-clause-known
check_step-requires-clause-known g c = c.loop-index.invariant.learned.known

pub loop-index-preserved : goal.loop-index-preserved
loop-index-preserved g c =
    let old = g.S.BlobSource.tells c.loop-index.source in
    let tells = g.S.BlobSource.tells c.check_step.new.source in
    let asked = c.check_step.ensures.called.asked in
    let o = c.in-Ok.outcome in
    let pushed : c.push.new.self.items ≡ c.loop-index.outcomes.items ++ o ∷ [] = search rules in
    let passes = subst (λ os. (step_check {A = g.row.A.Denot} tells c.args.sources.now os c.index-steps-index.result c.index-recorded-index.result).passes o) c.deref.ensures.value (c.in-Ok.ensures {u = tt}).checked in
    let within : c.loop-index.index < length c.args.recorded.now = subst (λ n. c.loop-index.index < n) (sym c.requires.each) c.loop-index-test.true in
    let longer : length c.push.new.self.items ≡ length c.loop-index.outcomes.items + 1 = ap length pushed ∙ length-append c.loop-index.outcomes.items (o ∷ []) in
    record {
      called = called_on c.loop-index.invariant.called (called_no ok_no_error (λ n. n) (c.in-Ok.ensures {u = tt}).called);
      count = longer ∙ ap (λ n. n + 1) c.loop-index.invariant.count;
      goes = subst (λ os. StepsGoOn g.row.A.Denot tells c.args.sources.now c.args.steps.now c.args.recorded.now os (drop (c.loop-index.index + 1) c.args.steps.now) (drop (c.loop-index.index + 1) c.args.recorded.now)) (sym pushed)
          (steps_next old tells c.args.sources.now c.args.steps.now c.args.recorded.now c.loop-index.outcomes.items c.loop-index.index c.index-steps-index.result c.index-recorded-index.result
          c.loop-index-test.true c.index-steps-index.is within c.index-recorded-index.is c.loop-index.invariant.goes asked.blobs asked.results o passes);
      learned = learns_step {A = g.row.A.Denot} old tells c.args.sources.now c.args.steps.now c.args.recorded.now c.loop-index.outcomes.items c.loop-index.index c.index-steps-index.result c.index-recorded-index.result
          c.loop-index-test.true c.index-steps-index.is within c.index-recorded-index.is c.loop-index.invariant.goes asked.blobs asked.results c.deref.result.now c.deref.ensures.value c.loop-index.invariant.learned (c.in-Ok.ensures {u = tt}).learned;
    }

pub returns-clause-checked : goal.returns-clause-checked
returns-clause-checked g c = steps_end {A = g.row.A.Denot} _ c.args.sources.now c.args.steps.now c.args.recorded.now c.loop-index.outcomes.items c.loop-index.index c.loop-index-test.false c.loop-index.invariant.goes

pub loop-index-init : goal.loop-index-init
loop-index-init g c = record {
  called = called_none (λ n. n);
  count = ap length c.new-outcomes.ensures.items;
  goes = subst (λ os. StepsGoOn g.row.A.Denot (g.S.BlobSource.tells c.args.source.now) c.args.sources.now c.args.steps.now c.args.recorded.now os c.args.steps.now c.args.recorded.now) (sym c.new-outcomes.ensures.items) (steps_first _ _ _ _);
  learned = learns_none c.requires.known;
}

pub returns-in_err-push-in-Ok-clause-called : goal.returns-in_err-push-in-Ok-clause-called
returns-in_err-push-in-Ok-clause-called g c = called_on c.loop-index.invariant.called (called_no ok_no_error (search rules) (c.in-Ok.ensures {u = tt}).called)

pub returns-in_err-cause-in-Err-clause-called : goal.returns-in_err-cause-in-Err-clause-called
returns-in_err-cause-in-Err-clause-called g c =
    let fault = c.in_err-cause-in-Err.ensures {u = tt} in
    called_on c.loop-index.invariant.called (called_exit c.from_residual-in_err-cause-in-Err.ensures.1
    (called_as {fails' = IsErrOf {T = Cause g.row.A.Denot} (Err c.in_err-cause-in-Err.field-0.0) errors.Fetch} (λ e. ap Err (fault.failed e)) (λ e. fault.told (err_injective c.in-Err.fault _ e)) (c.in-Err.ensures {u = tt}).called))

pub returns-in_err-copy_of-in-Err-clause-called : goal.returns-in_err-copy_of-in-Err-clause-called
returns-in_err-copy_of-in-Err-clause-called g c =
    called_on c.loop-index.invariant.called (called_no (λ e. ok_no_error ((c.in_ok-cause-in-Err.ensures {u = tt}).told (err_injective c.in-Err.fault _ e))) (search rules) (c.in-Err.ensures {u = tt}).called)

pub returns-in-Err-clause-called : goal.returns-in-Err-clause-called
returns-in-Err-clause-called g c =
    called_on c.loop-index.invariant.called (called_no (λ e. ok_no_error ((c.in_ok-cause-in-Err.ensures {u = tt}).told (err_injective c.in-Err.fault _ e))) ok_no_error (c.in-Err.ensures {u = tt}).called)

pub returns-clause-called : goal.returns-clause-called
returns-clause-called g c = called_no (λ n. n) ok_no_error c.loop-index.invariant.called

pub returns-in_err-push-in-Ok-clause-learned : goal.returns-in_err-push-in-Ok-clause-learned
returns-in_err-push-in-Ok-clause-learned g c =
    let old = g.S.BlobSource.tells c.loop-index.source in
    let tells = g.S.BlobSource.tells c.check_step.new.source in
    let asked = c.check_step.ensures.called.asked in
    let within : c.loop-index.index < length c.args.recorded.now = subst (λ n. c.loop-index.index < n) (sym c.requires.each) c.loop-index-test.true in
    learns_refused (λ a h. h) (stopped_exit _ _ c.from_residual.ensures.1)
    (learns_step {A = g.row.A.Denot} old tells c.args.sources.now c.args.steps.now c.args.recorded.now c.loop-index.outcomes.items c.loop-index.index c.index-steps-index.result c.index-recorded-index.result
    c.loop-index-test.true c.index-steps-index.is within c.index-recorded-index.is c.loop-index.invariant.goes asked.blobs asked.results c.deref.result.now c.deref.ensures.value c.loop-index.invariant.learned (c.in-Ok.ensures {u = tt}).learned)

pub returns-in_err-cause-in-Err-clause-learned : goal.returns-in_err-cause-in-Err-clause-learned
returns-in_err-cause-in-Err-clause-learned g c =
    let old = g.S.BlobSource.tells c.loop-index.source in
    let tells = g.S.BlobSource.tells c.check_step.new.source in
    let asked = c.check_step.ensures.called.asked in
    let within : c.loop-index.index < length c.args.recorded.now = subst (λ n. c.loop-index.index < n) (sym c.requires.each) c.loop-index-test.true in
    learns_refused (λ a h. h) (stopped_exit _ _ c.from_residual-in_err-cause-in-Err.ensures.1)
    (learns_step {A = g.row.A.Denot} old tells c.args.sources.now c.args.steps.now c.args.recorded.now c.loop-index.outcomes.items c.loop-index.index c.index-steps-index.result c.index-recorded-index.result
    c.loop-index-test.true c.index-steps-index.is within c.index-recorded-index.is c.loop-index.invariant.goes asked.blobs asked.results c.deref.result.now c.deref.ensures.value c.loop-index.invariant.learned (c.in-Err.ensures {u = tt}).learned)

pub returns-in_err-copy_of-in-Err-clause-learned : goal.returns-in_err-copy_of-in-Err-clause-learned
returns-in_err-copy_of-in-Err-clause-learned g c =
    let old = g.S.BlobSource.tells c.loop-index.source in
    let tells = g.S.BlobSource.tells c.check_step.new.source in
    let asked = c.check_step.ensures.called.asked in
    let within : c.loop-index.index < length c.args.recorded.now = subst (λ n. c.loop-index.index < n) (sym c.requires.each) c.loop-index-test.true in
    learns_refused (λ a h. h) (stopped_exit _ _ c.from_residual-in_err-copy_of-in-Err.ensures.1)
    (learns_step {A = g.row.A.Denot} old tells c.args.sources.now c.args.steps.now c.args.recorded.now c.loop-index.outcomes.items c.loop-index.index c.index-steps-index.result c.index-recorded-index.result
    c.loop-index-test.true c.index-steps-index.is within c.index-recorded-index.is c.loop-index.invariant.goes asked.blobs asked.results c.deref.result.now c.deref.ensures.value c.loop-index.invariant.learned (c.in-Err.ensures {u = tt}).learned)

pub returns-in-Err-clause-learned : goal.returns-in-Err-clause-learned
returns-in-Err-clause-learned g c =
    let old = g.S.BlobSource.tells c.loop-index.source in
    let tells = g.S.BlobSource.tells c.check_step.new.source in
    let asked = c.check_step.ensures.called.asked in
    let within : c.loop-index.index < length c.args.recorded.now = subst (λ n. c.loop-index.index < n) (sym c.requires.each) c.loop-index-test.true in
    learns_step {A = g.row.A.Denot} old tells c.args.sources.now c.args.steps.now c.args.recorded.now c.loop-index.outcomes.items c.loop-index.index c.index-steps-index.result c.index-recorded-index.result
    c.loop-index-test.true c.index-steps-index.is within c.index-recorded-index.is c.loop-index.invariant.goes asked.blobs asked.results c.deref.result.now c.deref.ensures.value c.loop-index.invariant.learned (c.in-Err.ensures {u = tt}).learned

pub returns-clause-learned : goal.returns-clause-learned
returns-clause-learned g c = c.loop-index.invariant.learned
