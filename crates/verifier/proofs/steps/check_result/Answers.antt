-- The result, its exit code and its outputs, one after another.
use Rattle.verifier.proofs.ChecksThen.{checks_both, checks_exit, checks_then_here, checks_here_exit, stable_held, steady_without}
use Rattle.verifier.proofs.steps.check_result.Goals as goal

pub returns-in_err-made : goal.returns-in_err-made
returns-in_err-made g c =
    checks_exit _ _ _ _ c.from_residual.ensures.1 c.in_err-made.ensures.checked c.in_err-made.ensures.called c.in_err-made.ensures.learned

pub returns-in_err-check_exit_code : goal.returns-in_err-check_exit_code
returns-in_err-check_exit_code g c =
    checks_here_exit _ _ _ stable_held steady_without (checks_both _ _ _ _ c.in_ok-made.ensures.checked c.in_ok-made.ensures.called c.in_ok-made.ensures.learned)
    c.from_residual-in_err-check_exit_code.ensures.1 c.in_err-check_exit_code.ensures.checked c.in_err-check_exit_code.ensures.fetch

pub returns : goal.returns
returns g c =
    checks_then_here _ _ _ stable_held steady_without (checks_both _ _ _ _ c.in_ok-made.ensures.checked c.in_ok-made.ensures.called c.in_ok-made.ensures.learned) c.in_ok-check_exit_code.ensures.checked
    (checks_both _ _ _ _ c.read_outcome.ensures.checked c.read_outcome.ensures.called c.read_outcome.ensures.learned)

pub read_outcome-requires : goal.read_outcome-requires
read_outcome-requires g c = c.in_ok-made.ensures.learned.known
