-- What the lines put together, and then its root.
use Rattle.std.proofs.Common.{◌≡◌, ◌≢◌, ap, sym, ◌∙◌, rules}
use Rattle.std.specs.Prelude.{Ok}
use Rattle.tree.specs.Form.{root}
use Rattle.blob_source.proofs.Asking.{ok_no_error}
use Rattle.blob_source.proofs.Calling.{called_no}
use Rattle.verifier.specs.declared.verdict.Cause.TheVariants.{RootDiffers}
use Rattle.verifier.proofs.ChecksThen.{checks_none, checks_both, checks_then, checks_fails, stable_together, steady_together}
use Rattle.verifier.proofs.HandedOut.{no_other_of_lines}
use Rattle.verifier.proofs.SameDigests.{other_digests, same_digests}
use Rattle.verifier.proofs.verifying.check_root.Goals as goal

pub returns-in-Err-clause-checked : goal.returns-in-Err-clause-checked
returns-in-Err-clause-checked g c = checks_fails _ _ _ _ (c.in-Err.ensures {u = tt}).faulty (c.in-Err.ensures {u = tt}).called (c.in-Err.ensures {u = tt}).learned

pub returns-in-Err-clause-other : goal.returns-in-Err-clause-other
returns-in-Err-clause-other g c = no_other_of_lines _ c.in-Err.fault (c.in-Err.ensures {u = tt}).faulty

pub returns-then-eq-clause-checked : goal.returns-then-eq-clause-checked
returns-then-eq-clause-checked g c =
    let made = (c.in-Ok.ensures {u = tt}).told in
    let is : c.in-Ok.made.root ≡ root made.0 = made.2.fold.root in
    let same : c.in-Ok.made.root ≡ c.args.claim.now = same_digests c.in-Ok.made.root c.args.claim.now (sym c.eq.ensures ∙ c.if-eq.true) in
    checks_then _ _ (stable_together _ _ _) (steady_together _ _ _) (checks_both _ _ _ (Ok made.0) made.1 (called_no ok_no_error ok_no_error (c.in-Ok.ensures {u = tt}).called) (c.in-Ok.ensures {u = tt}).learned)
    (checks_none _ _ _ (c.in-Ok.ensures {u = tt}).learned.known (sym is ∙ same) ok_no_error)

pub returns-clause-checked : goal.returns-clause-checked
returns-clause-checked g c =
    let made = (c.in-Ok.ensures {u = tt}).told in
    let is : c.in-Ok.made.root ≡ root made.0 = made.2.fold.root in
    let other : c.in-Ok.made.root ≢ c.args.claim.now = other_digests c.in-Ok.made.root c.args.claim.now (sym c.eq.ensures ∙ c.if-eq.false) in
    checks_then _ _ (stable_together _ _ _) (steady_together _ _ _) (checks_both _ _ _ (Ok made.0) made.1 (called_no ok_no_error ok_no_error (c.in-Ok.ensures {u = tt}).called) (c.in-Ok.ensures {u = tt}).learned)
    (checks_none _ _ _ (c.in-Ok.ensures {u = tt}).learned.known ((λ e. other (is ∙ e)), ap RootDiffers is) (search rules))
