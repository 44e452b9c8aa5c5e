-- The checks, one after another: each exit of a `?` stands on the checks that have passed.
use Rattle.std.proofs.Common.{◌≡◌, ap, sym, ◌∙◌}
use Rattle.plan.specs.Values.{StepValue}
use Rattle.verifier.proofs.Explained.{told_at}
use Rattle.verifier.proofs.ChecksThen.{checks_both, checks_then, checks_exit, checks_then_here, checks_here_exit, stable_message, stable_input, steady_without, steady_input, looked_blob, input_checked}
use Rattle.verifier.proofs.steps.check_step.Goals as goal

pub returns-in_err-action : goal.returns-in_err-action
returns-in_err-action g c =
    checks_exit _ _ _ _ c.from_residual.ensures.1 c.in_err-action.ensures.checked c.in_err-action.ensures.called c.in_err-action.ensures.learned

pub returns-in_err-check_cached : goal.returns-in_err-check_cached
returns-in_err-check_cached g c =
    checks_here_exit _ _ _ stable_message steady_without (checks_both _ _ _ _ c.in_ok-action.ensures.checked c.in_ok-action.ensures.called c.in_ok-action.ensures.learned)
    c.from_residual-in_err-check_cached.ensures.1 c.in_err-check_cached.ensures.checked c.in_err-check_cached.ensures.fetch

pub returns-in_err-command : goal.returns-in_err-command
returns-in_err-command g c =
    checks_then_here _ _ _ stable_message steady_without (checks_both _ _ _ _ c.in_ok-action.ensures.checked c.in_ok-action.ensures.called c.in_ok-action.ensures.learned) c.in_ok-check_cached.ensures.checked
    (checks_exit _ _ _ _ c.from_residual-in_err-command.ensures.1 (rw (sym c.command_digest.ensures.value) c.in_err-command.ensures.checked) c.in_err-command.ensures.called (looked_blob c.command_digest.ensures.value c.in_err-command.ensures.learned))

pub returns-in_err-check_frame : goal.returns-in_err-check_frame
returns-in_err-check_frame g c =
    checks_then_here _ _ _ stable_message steady_without (checks_both _ _ _ _ c.in_ok-action.ensures.checked c.in_ok-action.ensures.called c.in_ok-action.ensures.learned) c.in_ok-check_cached.ensures.checked
    (checks_here_exit _ _ _ stable_message steady_without (checks_both _ _ _ _ (told_at c.command_digest.ensures.value c.in_ok-command.ensures.checked) c.in_ok-command.ensures.called (looked_blob c.command_digest.ensures.value c.in_ok-command.ensures.learned))
    c.from_residual-in_err-check_frame.ensures.1 c.in_err-check_frame.ensures.checked c.in_err-check_frame.ensures.fetch)

pub returns-in_err-check_input : goal.returns-in_err-check_input
returns-in_err-check_input g c =
    let same : c.deref.result.now ≡ c.args.step.now.lines = c.deref.ensures.value ∙ ap (λ (z : StepValue). z.lines) c.step.view_is in
    let failed = input_checked c.args.sources.now c.args.outcomes.now c.in_ok-action.action same c.in_err-check_input.ensures in
    checks_then_here _ _ _ stable_message steady_without (checks_both _ _ _ _ c.in_ok-action.ensures.checked c.in_ok-action.ensures.called c.in_ok-action.ensures.learned) c.in_ok-check_cached.ensures.checked
    (checks_then_here _ _ _ stable_message steady_without (checks_both _ _ _ _ (told_at c.command_digest.ensures.value c.in_ok-command.ensures.checked) c.in_ok-command.ensures.called (looked_blob c.command_digest.ensures.value c.in_ok-command.ensures.learned)) c.in_ok-check_frame.ensures.checked
    (checks_exit _ _ _ _ c.from_residual-in_err-check_input.ensures.1 failed.checked failed.called failed.learned))

pub returns : goal.returns
returns g c =
    let same : c.deref.result.now ≡ c.args.step.now.lines = c.deref.ensures.value ∙ ap (λ (z : StepValue). z.lines) c.step.view_is in
    checks_then_here _ _ _ stable_message steady_without (checks_both _ _ _ _ c.in_ok-action.ensures.checked c.in_ok-action.ensures.called c.in_ok-action.ensures.learned) c.in_ok-check_cached.ensures.checked
    (checks_then_here _ _ _ stable_message steady_without (checks_both _ _ _ _ (told_at c.command_digest.ensures.value c.in_ok-command.ensures.checked) c.in_ok-command.ensures.called (looked_blob c.command_digest.ensures.value c.in_ok-command.ensures.learned)) c.in_ok-check_frame.ensures.checked
    (checks_then _ _ (stable_input _ _ _ c.in_ok-action.action) (steady_input _ _ _ _ c.in_ok-action.action) (input_checked c.args.sources.now c.args.outcomes.now c.in_ok-action.action same c.in_ok-check_input.ensures) c.check_result.ensures))

pub told-requires-2 : goal.told-requires-2
told-requires-2 g c = c.in_ok-action.ensures.learned.known

pub check_input-requires-clause-known : goal.check_input-requires-clause-known
check_input-requires-clause-known g c = c.in_ok-command.ensures.learned.known

pub check_result-requires : goal.check_result-requires
check_result-requires g c = c.in_ok-check_input.ensures.learned.known
