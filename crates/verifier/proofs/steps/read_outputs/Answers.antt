-- The outputs so far, and the next.
use Rattle.std.proofs.Common.{◌≡◌, ◌+◌, ◌∷◌, [], ◌++◌, refl, ap, sym, subst, ◌∙◌, drop, rules}
use Rattle.std.proofs.lemmas.List.{map-append}
use Rattle.std.proofs.lemmas.Result.{err_from_is_err_and}
use Rattle.actions.specs.Outcome.{output_value, outputs_in}
use Rattle.action_messages.specs.Outputs.{recorded_value, recorded_values}
use Rattle.blob_source.proofs.Asking.{ok_no_error}
use Rattle.verifier.specs.StepChecks.{IsRefusedOutput, OutputFault}
use Rattle.blob_source.proofs.Calling.{called_none, called_no, called_on, called_exit}
use Rattle.verifier.proofs.Explained.{explains_map}
use Rattle.verifier.proofs.Checking.{OutputsGoOn, outputs_first, outputs_next, outputs_fault, outputs_end}
use Rattle.tree.proofs.Learning.{learns_none, learns_then, learns_refused, refused_exit}
use Rattle.verifier.proofs.Looking.{outputs_look_first, outputs_look_here, outputs_look_next, outputs_look_still}
use Rattle.verifier.proofs.steps.read_outputs.Goals as goal

pub returns-in_err-read-clause-refused : goal.returns-in_err-read-clause-refused
returns-in_err-read-clause-refused g c =
    let p = err_from_is_err_and c.from_residual.result c.from_residual.ensures.1 in
    let B = (g.S.BlobSource.tells c.read_output.new.source).blobs in
    rw (p.1, p.2) (explains_map (IsRefusedOutput B c.args.command.now (recorded_value c.output-item.result)) (OutputFault B c.args.command.now (recorded_values c.args.recorded.now)) c.in_err-read.field-0.0
    (λ cause h. outputs_fault _ B c.args.command.now (recorded_values c.args.recorded.now) _ c.args.recorded.now c.loop-output.output-index c.output-item.result cause c.loop-output-test.true c.output-item.is c.loop-output.invariant.goes c.read_output.ensures.called.asked.blobs h) c.in_err-read.ensures.refused)

pub loop-output-preserved : goal.loop-output-preserved
loop-output-preserved g c =
    let B = (g.S.BlobSource.tells c.read_output.new.source).blobs in
    let path = c.in_ok-copy_of.field-0 in
    let read = c.in_ok-read.read in
    let pushed : c.push.new.self.items ≡ c.loop-output.outputs.items ++ (path, read) ∷ [] = search rules in
    let values : outputs_in c.push.new.self.items ≡ outputs_in c.loop-output.outputs.items ++ (path, output_value read) ∷ [] = ap outputs_in pushed ∙ map-append (λ e. (e.0, output_value e.1)) c.loop-output.outputs.items ((path, read) ∷ []) in
    record {
      called = called_on c.loop-output.invariant.called (called_no ok_no_error (λ n. n) c.in_ok-read.ensures.called);
      goes = subst (λ es. OutputsGoOn g.row.A.Denot B c.args.command.now (recorded_values c.args.recorded.now) es (recorded_values (drop (c.loop-output.output-index + 1) c.args.recorded.now))) (sym values)
          (outputs_next _ B c.args.command.now (recorded_values c.args.recorded.now) (outputs_in c.loop-output.outputs.items) c.args.recorded.now c.loop-output.output-index c.output-item.result path (output_value read) c.loop-output-test.true c.output-item.is c.loop-output.invariant.goes
          c.read_output.ensures.called.asked.blobs ((c.in_ok-copy_of.ensures {u = tt}) ∙ c.path.ensures) (c.in_ok-read.ensures.listed refl) c.in_ok-read.ensures.read);
      look = outputs_look_next _ _ c.args.command.now (recorded_values c.args.recorded.now) c.args.recorded.now c.loop-output.output-index c.output-item.result c.loop-output-test.true c.output-item.is c.loop-output.invariant.look c.read_output.ensures.called.asked.blobs (output_value read) (c.in_ok-read.ensures.listed refl) c.in_ok-read.ensures.read;
      learned = learns_then {t1 = g.S.BlobSource.tells c.loop-output.source} (λ a. outputs_look_still _ _ c.args.command.now (recorded_values c.args.recorded.now) a c.read_output.ensures.called.asked.blobs)
          (outputs_look_here _ _ c.args.command.now (recorded_values c.args.recorded.now) c.args.recorded.now c.loop-output.output-index c.output-item.result c.loop-output-test.true c.output-item.is c.loop-output.invariant.look c.read_output.ensures.called.asked.blobs) (λ n. n) c.loop-output.invariant.learned c.in_ok-read.ensures.learned;
    }

pub returns-clause-read : goal.returns-clause-read
returns-clause-read g c = outputs_end {A = g.row.A.Denot} _ c.args.command.now (recorded_values c.args.recorded.now) (outputs_in c.loop-output.outputs.items) c.args.recorded.now c.loop-output.output-index c.loop-output-test.false c.loop-output.invariant.goes

pub returns-in_err-read-clause-called : goal.returns-in_err-read-clause-called
returns-in_err-read-clause-called g c = called_on c.loop-output.invariant.called (called_exit c.from_residual.ensures.1 c.in_err-read.ensures.called)

pub returns-in_err-copy_of-clause-called : goal.returns-in_err-copy_of-clause-called
returns-in_err-copy_of-clause-called g c = called_on c.loop-output.invariant.called (called_no ok_no_error (search rules) c.in_ok-read.ensures.called)

pub returns-in_err-push-clause-called : goal.returns-in_err-push-clause-called
returns-in_err-push-clause-called g c = called_on c.loop-output.invariant.called (called_no ok_no_error (search rules) c.in_ok-read.ensures.called)

pub returns-clause-called : goal.returns-clause-called
returns-clause-called g c = called_no (λ n. n) ok_no_error c.loop-output.invariant.called

pub loop-output-init : goal.loop-output-init
loop-output-init g c = record {
  called = called_none (λ n. n);
  goes = subst (λ es. OutputsGoOn g.row.A.Denot (g.S.BlobSource.tells c.args.source.now).blobs c.args.command.now (recorded_values c.args.recorded.now) (outputs_in es) (recorded_values c.args.recorded.now)) (sym c.new-outputs.ensures.items) (outputs_first _ _ _);
  look = outputs_look_first _ _ _;
  learned = learns_none c.requires;
}

pub read_output-requires : goal.read_output-requires
read_output-requires g c = c.loop-output.invariant.learned.known

pub returns-in_err-read-clause-learned : goal.returns-in_err-read-clause-learned
returns-in_err-read-clause-learned g c =
    learns_then {t1 = g.S.BlobSource.tells c.loop-output.source} (λ a. outputs_look_still _ _ c.args.command.now (recorded_values c.args.recorded.now) a c.read_output.ensures.called.asked.blobs)
    (outputs_look_here _ _ c.args.command.now (recorded_values c.args.recorded.now) c.args.recorded.now c.loop-output.output-index c.output-item.result c.loop-output-test.true c.output-item.is c.loop-output.invariant.look c.read_output.ensures.called.asked.blobs) (λ n. n) c.loop-output.invariant.learned (learns_refused (λ a h. h) (refused_exit _ _ c.from_residual.ensures.1) c.in_err-read.ensures.learned)

pub returns-in_err-copy_of-clause-learned : goal.returns-in_err-copy_of-clause-learned
returns-in_err-copy_of-clause-learned g c =
    learns_refused (λ a h. h) (refused_exit _ _ c.from_residual-in_err-copy_of.ensures.1)
    (learns_then {t1 = g.S.BlobSource.tells c.loop-output.source} (λ a. outputs_look_still _ _ c.args.command.now (recorded_values c.args.recorded.now) a c.read_output.ensures.called.asked.blobs)
    (outputs_look_here _ _ c.args.command.now (recorded_values c.args.recorded.now) c.args.recorded.now c.loop-output.output-index c.output-item.result c.loop-output-test.true c.output-item.is c.loop-output.invariant.look c.read_output.ensures.called.asked.blobs) (λ n. n) c.loop-output.invariant.learned c.in_ok-read.ensures.learned)

pub returns-in_err-push-clause-learned : goal.returns-in_err-push-clause-learned
returns-in_err-push-clause-learned g c =
    learns_refused (λ a h. h) (refused_exit _ _ c.from_residual-in_err-push.ensures.1)
    (learns_then {t1 = g.S.BlobSource.tells c.loop-output.source} (λ a. outputs_look_still _ _ c.args.command.now (recorded_values c.args.recorded.now) a c.read_output.ensures.called.asked.blobs)
    (outputs_look_here _ _ c.args.command.now (recorded_values c.args.recorded.now) c.args.recorded.now c.loop-output.output-index c.output-item.result c.loop-output-test.true c.output-item.is c.loop-output.invariant.look c.read_output.ensures.called.asked.blobs) (λ n. n) c.loop-output.invariant.learned c.in_ok-read.ensures.learned)

pub returns-clause-learned : goal.returns-clause-learned
returns-clause-learned g c = c.loop-output.invariant.learned
