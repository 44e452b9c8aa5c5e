-- What was read stays told while the next is read; its fault is the first.
use Rattle.std.proofs.Common.{◌+◌, ◌∙◌, rules}
use Rattle.std.proofs.lemmas.Result.{err_from_is_err_and}
use Rattle.blob_source.proofs.Asking.{asks_none, ok_no_error}
use Rattle.blob_source.proofs.Calling.{called_exit, called_no, calls_more, calls_on}
use Rattle.tree.proofs.Leaving.{others_then}
use Rattle.actions.proofs.Reading.{asks_next, asks_all, reads_next, fault_next, looked_at, stops}
use Rattle.actions.proofs.recording.read_outputs.Goals as goal

pub returns-in_err-read-clause-faulty : goal.returns-in_err-read-clause-faulty
returns-in_err-read-clause-faulty g c =
    let p = err_from_is_err_and c.from_residual.result c.from_residual.ensures.1 in
    rw (p.1, p.2) (fault_next c.args.recorded.now c.loop-output.output-index c.output-item.result c.loop-output-test.true c.output-item.is _ _ c.loop-output.outputs.items _ c.read.ensures.called.asked.some.blobs c.loop-output.invariant.read c.in_err-read.ensures.faulty)

pub returns-in_err-read-clause-called : goal.returns-in_err-read-clause-called
returns-in_err-read-clause-called g c =
    calls_on (λ h k. asks_all c.args.recorded.now (c.loop-output.output-index + 1) _ _ (asks_next c.args.recorded.now c.loop-output.output-index c.output-item.result c.loop-output-test.true c.output-item.is _ _ _ h k c.read.ensures.unasked))
    c.loop-output.invariant.called (called_exit c.from_residual.ensures.1 c.in_err-read.ensures.called)

pub returns-in_err-copy_of-clause-called : goal.returns-in_err-copy_of-clause-called
returns-in_err-copy_of-clause-called g c =
    calls_on (λ h k. asks_all c.args.recorded.now (c.loop-output.output-index + 1) _ _ (asks_next c.args.recorded.now c.loop-output.output-index c.output-item.result c.loop-output-test.true c.output-item.is _ _ _ h k c.read.ensures.unasked))
    c.loop-output.invariant.called (called_no ok_no_error (search rules) c.in_ok-read.ensures.called)

pub returns-in_err-push-clause-called : goal.returns-in_err-push-clause-called
returns-in_err-push-clause-called g c =
    calls_on (λ h k. asks_all c.args.recorded.now (c.loop-output.output-index + 1) _ _ (asks_next c.args.recorded.now c.loop-output.output-index c.output-item.result c.loop-output-test.true c.output-item.is _ _ _ h k c.read.ensures.unasked))
    c.loop-output.invariant.called (called_no ok_no_error (search rules) c.in_ok-read.ensures.called)

pub returns-clause-called : goal.returns-clause-called
returns-clause-called g c = calls_more (λ h. asks_all c.args.recorded.now c.loop-output.output-index _ _ h) (called_no (λ n. n) ok_no_error c.loop-output.invariant.called)

pub loop-output-preserved : goal.loop-output-preserved
loop-output-preserved g c = record {
  read = reads_next c.args.recorded.now c.loop-output.output-index c.output-item.result c.loop-output-test.true c.output-item.is _ _ c.loop-output.outputs.items c.push.new.self.items c.in_ok-copy_of.field-0 c.in_ok-read.read c.read.ensures.called.asked.some.blobs c.loop-output.invariant.read
      ((c.in_ok-copy_of.ensures {u = tt}) ∙ c.path.ensures) c.in_ok-read.ensures.found (c.in_ok-push.ensures {u = tt}).items;
  called = calls_on (λ h k. asks_next c.args.recorded.now c.loop-output.output-index c.output-item.result c.loop-output-test.true c.output-item.is _ _ _ h k c.read.ensures.unasked)
      c.loop-output.invariant.called (called_no ok_no_error (λ n. n) c.in_ok-read.ensures.called);
  only = others_then (λ a h. h) (looked_at c.args.recorded.now c.loop-output.output-index c.output-item.result c.loop-output-test.true c.output-item.is) c.loop-output.invariant.only c.read.ensures.only;
}

pub returns-in_err-read-clause-few : goal.returns-in_err-read-clause-few
returns-in_err-read-clause-few g c = stops c.args.recorded.now c.loop-output.output-index _ _ _ c.loop-output.outputs.items c.loop-output.invariant.read c.loop-output.invariant.called.asked c.read.ensures.called.asked

pub returns-in_err-copy_of-clause-few : goal.returns-in_err-copy_of-clause-few
returns-in_err-copy_of-clause-few g c = stops c.args.recorded.now c.loop-output.output-index _ _ _ c.loop-output.outputs.items c.loop-output.invariant.read c.loop-output.invariant.called.asked c.read.ensures.called.asked

pub returns-in_err-push-clause-few : goal.returns-in_err-push-clause-few
returns-in_err-push-clause-few g c = stops c.args.recorded.now c.loop-output.output-index _ _ _ c.loop-output.outputs.items c.loop-output.invariant.read c.loop-output.invariant.called.asked c.read.ensures.called.asked

pub returns-clause-few : goal.returns-clause-few
returns-clause-few g c = stops c.args.recorded.now c.loop-output.output-index _ _ _ c.loop-output.outputs.items c.loop-output.invariant.read c.loop-output.invariant.called.asked (asks_none _)

pub returns-in_err-read-clause-only : goal.returns-in_err-read-clause-only
returns-in_err-read-clause-only g c =
    others_then (λ a h. h) (looked_at c.args.recorded.now c.loop-output.output-index c.output-item.result c.loop-output-test.true c.output-item.is) c.loop-output.invariant.only c.read.ensures.only

pub returns-in_err-copy_of-clause-only : goal.returns-in_err-copy_of-clause-only
returns-in_err-copy_of-clause-only g c =
    others_then (λ a h. h) (looked_at c.args.recorded.now c.loop-output.output-index c.output-item.result c.loop-output-test.true c.output-item.is) c.loop-output.invariant.only c.read.ensures.only

pub returns-in_err-push-clause-only : goal.returns-in_err-push-clause-only
returns-in_err-push-clause-only g c =
    others_then (λ a h. h) (looked_at c.args.recorded.now c.loop-output.output-index c.output-item.result c.loop-output-test.true c.output-item.is) c.loop-output.invariant.only c.read.ensures.only
