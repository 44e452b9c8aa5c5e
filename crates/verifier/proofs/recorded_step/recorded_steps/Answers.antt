use Rattle.std.proofs.Common.{◌≡◌, ◌+◌, sym, subst, length, refl}
use Rattle.std.specs.Prelude.{Result, Ok, Err, IsErrOf}
use Rattle.std.specs.Result.{IsErrAnd}
use Rattle.std.proofs.lemmas.Option.{slice_get_read}
use Rattle.blob_source.proofs.Asking.{ok_no_error}
use Rattle.blob_source.proofs.Calling.{called_exit, called_no, called_on, err_injective}
use Rattle.verifier.specs.Compared.{RecordedStepValue}
use Rattle.verifier.specs.declared.error.VerifyError.{VerifyError}
use Rattle.verifier.specs.declared.error.VerifyError.TheVariants as errors
use Rattle.verifier.proofs.Recalling.{AreRecalled, recalls_next, has_next}
use Rattle.verifier.proofs.recorded_step.recorded_steps.Goals as goal

no_fetch : {T : Type 0} (r : Result T VerifyError) → IsErrAnd r (λ e. e ≡ errors.Memory) → IsErrOf r errors.Fetch → ⊥
no_fetch (Ok x) memory fetch = elim memory [ ]
no_fetch {T} (Err e) memory fetch = let same = err_injective {T = T} e errors.Fetch fetch in cc

pub recorded_outcome-requires : goal.recorded_outcome-requires
recorded_outcome-requires g c =
    has_next _ _ c.args.actions.now c.loop-action.steps.items c.loop-action.action-index c.action-item.result
    (slice_get_read c.args.actions.now (length c.args.actions.now) c.loop-action.action-index c.action-item.result refl c.loop-action-test.true c.action-item.is) c.loop-action.invariant

pub returns-in_err-outcome-clause-called : goal.returns-in_err-outcome-clause-called
returns-in_err-outcome-clause-called g c = let r = c.from_residual.ensures in called_on c.loop-action.invariant.called (called_exit r.1 c.in_err-outcome.ensures.called)

pub returns-in_err-push-clause-called : goal.returns-in_err-push-clause-called
returns-in_err-push-clause-called g c =
    let r = c.from_residual-in_err-push.ensures in
    called_on c.loop-action.invariant.called (called_no ok_no_error (λ f. no_fetch _ r.1 f) c.in_ok-outcome.ensures.called)

pub loop-action-preserved : goal.loop-action-preserved
loop-action-preserved g c =
    let s : RecordedStepValue = record { action = c.action-item.result; outcome = c.in_ok-outcome.outcome } in
    subst (λ steps. AreRecalled (g.S.BlobSource.tells c.args.source.now) (g.S.BlobSource.tells c.recorded_outcome.new.source) c.args.actions.now steps (c.loop-action.action-index + 1)) (sym c.in_ok-push.ensures.items)
    (recalls_next (g.S.BlobSource.tells c.args.source.now) (g.S.BlobSource.tells c.loop-action.source) (g.S.BlobSource.tells c.recorded_outcome.new.source) c.args.actions.now c.loop-action.steps.items c.loop-action.action-index s
    (slice_get_read c.args.actions.now (length c.args.actions.now) c.loop-action.action-index c.action-item.result refl c.loop-action-test.true c.action-item.is) c.loop-action.invariant
    (called_no ok_no_error (λ f. f) c.in_ok-outcome.ensures.called) c.in_ok-outcome.ensures.held)

pub returns-clause-called : goal.returns-clause-called
returns-clause-called g c = called_no (λ f. f) ok_no_error c.loop-action.invariant.called
