-- The lines are put together, and the tree is compared.
use Rattle.std.specs.Prelude.{Ok}
use Rattle.blob_source.proofs.Asking.{ok_no_error}
use Rattle.blob_source.proofs.Calling.{called_no}
use Rattle.verifier.proofs.ChecksThen.{checks_both, checks_then, checks_exit, stable_together, steady_together}
use Rattle.verifier.proofs.steps.check_input.Goals as goal

pub returns-in_err-input : goal.returns-in_err-input
returns-in_err-input g c =
    checks_exit _ _ _ _ c.from_residual.ensures.1 c.in_err-input.ensures.faulty c.in_err-input.ensures.called c.in_err-input.ensures.learned

pub returns : goal.returns
returns g c =
    let made = c.in_ok-input.ensures.told in
    checks_then _ _ (stable_together _ _ _) (steady_together _ _ _) (checks_both _ _ _ (Ok made.0) made.1 (called_no ok_no_error ok_no_error c.in_ok-input.ensures.called) c.in_ok-input.ensures.learned)
    (c.compare_input.ensures made.0 made.2.fold)

pub compare_input-requires-clause-valid : goal.compare_input-requires-clause-valid
compare_input-requires-clause-valid g c = let made = c.in_ok-input.ensures.told in (made.0, made.2)

pub compare_input-requires-clause-known : goal.compare_input-requires-clause-known
compare_input-requires-clause-known g c = c.in_ok-input.ensures.learned.known
