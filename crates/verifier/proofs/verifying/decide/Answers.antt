-- The steps, and then the root.
use Rattle.std.proofs.Common.{◌≡◌, ◌∙◌, [], length, ap, subst, sym, refl, arith, rules}
use Rattle.std.specs.List.{AllByRecursion}
use Rattle.std.specs.Prelude.{Ok, Err, IsErrOf, MatchOption, slice_get}
use Rattle.blob_source.specs.Called.{Called}
use Rattle.tree.specs.Folded.{IsFoldOfPassed}
use Rattle.verifier.specs.declared.verdict.Place.TheVariants.{Step}
use Rattle.plan.specs.Values.{IsLine}
use Rattle.blob_source.proofs.Asking.{ok_no_error}
use Rattle.blob_source.proofs.Calling.{err_injective, called_as, called_no, called_ok, called_exit}
use Rattle.verifier.specs.declared.error.VerifyError.TheVariants as errors
use Rattle.verifier.specs.declared.verdict.Cause.{Cause}
use Rattle.verifier.specs.Answers.{IsChecked, IsMadeOther, IsNoOther, IsStopped}
use Rattle.verifier.specs.Together.{put_together}
use Rattle.verifier.specs.declared.fault.Fault.TheVariants as faults
use Rattle.verifier.specs.declared.verdict.Cause.TheVariants.{RootDiffers}
use Rattle.verifier.specs.declared.error.VerifyError.{VerifyError}
use Rattle.verifier.specs.LooksAt.{StepsLookAt}
use Rattle.tree.proofs.Learning.{learns_refused}
use Rattle.verifier.specs.Stage.{Answers, ExplainsFault}
use Rattle.verifier.specs.Verdict.{root_check, steps_check}
use Rattle.verifier.proofs.HandedOut.{handed_out}
use Rattle.verifier.proofs.CheckingSteps.{passes_count, steps_decide, root_decides, all_pass_decides, plan_look_steps, learns_root}
use Rattle.verifier.proofs.verifying.decide.Goals as goal

pub returns-in-First-clause-verdict : goal.returns-in-First-clause-verdict
returns-in-First-clause-verdict g c =
    let told = g.S.BlobSource.tells c.check_steps.new.source in
    let checked = subst (IsChecked told c.args.sources.now c.steps.result.now c.args.recorded.now) c.in-First.is (c.in_ok-name.ensures {u = tt}).checked in
    steps_decide g.row.A.Denot told c.args.sources.now c.args.plan.now c.args.recorded.now c.args.claim.now c.in-First.name c.in-First.cause
    (subst (λ steps. (steps_check told c.args.sources.now [] steps c.args.recorded.now).fails (Step c.in-First.name, c.in-First.cause)) c.steps.ensures.value checked)

pub check_root-check-requires-clause-valid : goal.check_root-check-requires-clause-valid
check_root-check-requires-clause-valid g c =
    let told = g.S.BlobSource.tells c.check_steps.new.source in
    let checked = subst (IsChecked told c.args.sources.now c.steps.result.now c.args.recorded.now) c.in-Outcomes.is (c.in_ok-name.ensures {u = tt}).checked in
    let count : length c.args.plan.now.steps ≡ length c.deref.result.now =
    (let all = passes_count g.row.A.Denot told c.args.sources.now [] c.steps.result.now c.args.recorded.now c.in-Outcomes.outcomes.items checked in
    let steps = ap length c.steps.ensures.value in
    let items = ap length c.deref.ensures.value in
    omega (arith, all, steps, items)) in
    subst (λ lines. AllByRecursion (IsLine (length c.deref.result.now)) lines) (sym c.root.ensures.value) (subst (λ n. AllByRecursion (IsLine n) c.args.plan.now.root_lines) count c.root.ensures.valid.root_lines.each)

pub returns-in-Err-clause-verdict : goal.returns-in-Err-clause-verdict
returns-in-Err-clause-verdict g c =
    let told = g.S.BlobSource.tells c.check_steps.new.source in
    let later = g.S.BlobSource.tells c.check_root-check.new.source in
    let asked = c.check_root-check.ensures.checked.called.asked in
    let checked = subst (IsChecked told c.args.sources.now c.steps.result.now c.args.recorded.now) c.in-Outcomes.is (c.in_ok-name.ensures {u = tt}).checked in
    let passes = subst (λ steps. (steps_check {A = g.row.A.Denot} told c.args.sources.now [] steps c.args.recorded.now).passes c.in-Outcomes.outcomes.items) c.steps.ensures.value checked in
    let check = root_check {A = g.row.A.Denot} later c.args.sources.now c.deref.result.now c.root.result.now c.args.claim.now in
    let why = subst (ExplainsFault check.fails) ((c.in_ok-cause-in-Err.ensures {u = tt}).cause) (subst (λ r. Answers check r) c.in-Err.is c.check_root-check.ensures.checked.checked) in
    let fails = subst (λ os. (root_check later c.args.sources.now os c.args.plan.now.root_lines c.args.claim.now).fails c.in_ok-cause-in-Err.cause) c.deref.ensures.value
    (subst (λ ls. (root_check later c.args.sources.now c.deref.result.now ls c.args.claim.now).fails c.in_ok-cause-in-Err.cause) c.root.ensures.value why) in
    root_decides g.row.A.Denot told c.args.sources.now c.args.plan.now c.args.recorded.now c.args.claim.now later asked.blobs asked.results c.in-Outcomes.outcomes.items passes c.in_ok-cause-in-Err.cause fails

pub returns-clause-verdict : goal.returns-clause-verdict
returns-clause-verdict g c =
    let told = g.S.BlobSource.tells c.check_steps.new.source in
    let later = g.S.BlobSource.tells c.check_root-check.new.source in
    let asked = c.check_root-check.ensures.checked.called.asked in
    let checked = subst (IsChecked told c.args.sources.now c.steps.result.now c.args.recorded.now) c.in-Outcomes.is (c.in_ok-name.ensures {u = tt}).checked in
    let passes = subst (λ steps. (steps_check {A = g.row.A.Denot} told c.args.sources.now [] steps c.args.recorded.now).passes c.in-Outcomes.outcomes.items) c.steps.ensures.value checked in
    let root = subst (λ os. (root_check {A = g.row.A.Denot} later c.args.sources.now os c.args.plan.now.root_lines c.args.claim.now).passes tt) c.deref.ensures.value
    (subst (λ ls. (root_check {A = g.row.A.Denot} later c.args.sources.now c.deref.result.now ls c.args.claim.now).passes tt) c.root.ensures.value (subst (λ r. Answers (root_check {A = g.row.A.Denot} later c.args.sources.now c.deref.result.now c.root.result.now c.args.claim.now) r) c.in-Ok.is c.check_root-check.ensures.checked.checked)) in
    all_pass_decides g.row.A.Denot told c.args.sources.now c.args.plan.now c.args.recorded.now c.args.claim.now later asked.blobs asked.results c.in-Outcomes.outcomes.items passes _ _ refl (search rules) root

pub returns-in_err-cause-in-Err-clause-called : goal.returns-in_err-cause-in-Err-clause-called
returns-in_err-cause-in-Err-clause-called g c =
    let fault = c.in_err-cause-in-Err.ensures {u = tt} in
    called_ok (c.in_ok-name.ensures {u = tt}).called (called_exit c.from_residual-in_err-cause-in-Err.ensures.1
    (called_as {fails' = IsErrOf {T = Cause g.row.A.Denot} (Err c.in_err-cause-in-Err.field-0.0) errors.Fetch} (λ e. ap Err (fault.failed e)) (λ e. fault.told (err_injective c.in-Err.fault _ e)) (subst (λ r. Called (g.S.BlobSource.tells c.check_steps.new.source) (g.S.BlobSource.tells c.check_root-check.new.source) (IsErrOf r faults.Fetch)) c.in-Err.is c.check_root-check.ensures.checked.called)))

pub returns-in-Err-clause-called : goal.returns-in-Err-clause-called
returns-in-Err-clause-called g c =
    called_ok (c.in_ok-name.ensures {u = tt}).called
    (called_no (λ e. ok_no_error ((c.in_ok-cause-in-Err.ensures {u = tt}).told (err_injective c.in-Err.fault _ e))) ok_no_error (subst (λ r. Called (g.S.BlobSource.tells c.check_steps.new.source) (g.S.BlobSource.tells c.check_root-check.new.source) (IsErrOf r faults.Fetch)) c.in-Err.is c.check_root-check.ensures.checked.called))

pub returns-clause-called : goal.returns-clause-called
returns-clause-called g c = called_ok (c.in_ok-name.ensures {u = tt}).called (called_no ok_no_error ok_no_error (subst (λ r. Called (g.S.BlobSource.tells c.check_steps.new.source) (g.S.BlobSource.tells c.check_root-check.new.source) (IsErrOf r faults.Fetch)) c.in-Ok.is c.check_root-check.ensures.checked.called))

pub check_root-check-requires-clause-known : goal.check_root-check-requires-clause-known
check_root-check-requires-clause-known g c = (c.in_ok-name.ensures {u = tt}).learned.known

pub returns-in_err-name-clause-learned : goal.returns-in_err-name-clause-learned
returns-in_err-name-clause-learned g c =
    let told = g.S.BlobSource.tells c.check_steps.new.source in
    learns_refused (λ a h. plan_look_steps g.row.A.Denot told c.args.sources.now c.args.plan.now c.args.recorded.now a (subst (λ ss. StepsLookAt g.row.A.Denot told c.args.sources.now [] ss c.args.recorded.now a) c.steps.ensures.value h)) tt
    (c.in_err-name.ensures {u = tt}).learned

pub returns-in-First-clause-learned : goal.returns-in-First-clause-learned
returns-in-First-clause-learned g c =
    let told = g.S.BlobSource.tells c.check_steps.new.source in
    learns_refused (λ a h. plan_look_steps g.row.A.Denot told c.args.sources.now c.args.plan.now c.args.recorded.now a (subst (λ ss. StepsLookAt g.row.A.Denot told c.args.sources.now [] ss c.args.recorded.now a) c.steps.ensures.value h)) tt
    (c.in_ok-name.ensures {u = tt}).learned

pub returns-in_err-cause-in-Err-clause-learned : goal.returns-in_err-cause-in-Err-clause-learned
returns-in_err-cause-in-Err-clause-learned g c =
    let told = g.S.BlobSource.tells c.check_steps.new.source in
    let later = g.S.BlobSource.tells c.check_root-check.new.source in
    let asked = c.check_root-check.ensures.checked.called.asked in
    let checked = subst (IsChecked told c.args.sources.now c.steps.result.now c.args.recorded.now) c.in-Outcomes.is (c.in_ok-name.ensures {u = tt}).checked in
    learns_root g.row.A.Denot told c.args.sources.now c.args.plan.now c.args.recorded.now later asked.blobs asked.results c.steps.result.now c.root.result.now c.deref.result.now c.in-Outcomes.outcomes.items
    c.steps.ensures.value c.root.ensures.value c.deref.ensures.value checked (λ stopped. subst (λ x. IsStopped {E = VerifyError} (Ok x)) c.in-Outcomes.is stopped) (c.in_ok-name.ensures {u = tt}).learned c.check_root-check.ensures.checked.learned

pub returns-in-Err-clause-learned : goal.returns-in-Err-clause-learned
returns-in-Err-clause-learned g c =
    let told = g.S.BlobSource.tells c.check_steps.new.source in
    let later = g.S.BlobSource.tells c.check_root-check.new.source in
    let asked = c.check_root-check.ensures.checked.called.asked in
    let checked = subst (IsChecked told c.args.sources.now c.steps.result.now c.args.recorded.now) c.in-Outcomes.is (c.in_ok-name.ensures {u = tt}).checked in
    learns_root g.row.A.Denot told c.args.sources.now c.args.plan.now c.args.recorded.now later asked.blobs asked.results c.steps.result.now c.root.result.now c.deref.result.now c.in-Outcomes.outcomes.items
    c.steps.ensures.value c.root.ensures.value c.deref.ensures.value checked (λ stopped. subst (λ x. IsStopped {E = VerifyError} (Ok x)) c.in-Outcomes.is stopped) (c.in_ok-name.ensures {u = tt}).learned c.check_root-check.ensures.checked.learned

pub returns-clause-learned : goal.returns-clause-learned
returns-clause-learned g c =
    let told = g.S.BlobSource.tells c.check_steps.new.source in
    let later = g.S.BlobSource.tells c.check_root-check.new.source in
    let asked = c.check_root-check.ensures.checked.called.asked in
    let checked = subst (IsChecked told c.args.sources.now c.steps.result.now c.args.recorded.now) c.in-Outcomes.is (c.in_ok-name.ensures {u = tt}).checked in
    learns_root g.row.A.Denot told c.args.sources.now c.args.plan.now c.args.recorded.now later asked.blobs asked.results c.steps.result.now c.root.result.now c.deref.result.now c.in-Outcomes.outcomes.items
    c.steps.ensures.value c.root.ensures.value c.deref.ensures.value checked (λ stopped. subst (λ x. IsStopped {E = VerifyError} (Ok x)) c.in-Outcomes.is stopped) (c.in_ok-name.ensures {u = tt}).learned c.check_root-check.ensures.checked.learned

pub returns-in_err-made-in-Err-clause-called : goal.returns-in_err-made-in-Err-clause-called
returns-in_err-made-in-Err-clause-called g c =
    called_ok (c.in_ok-name.ensures {u = tt}).called
    (called_no (λ e. ok_no_error ((c.in_ok-cause-in-Err.ensures {u = tt}).told (err_injective c.in-Err.fault _ e))) (search rules) (subst (λ r. Called (g.S.BlobSource.tells c.check_steps.new.source) (g.S.BlobSource.tells c.check_root-check.new.source) (IsErrOf r faults.Fetch)) c.in-Err.is c.check_root-check.ensures.checked.called))

pub returns-in_err-made-in-Err-clause-learned : goal.returns-in_err-made-in-Err-clause-learned
returns-in_err-made-in-Err-clause-learned g c =
    let told = g.S.BlobSource.tells c.check_steps.new.source in
    let later = g.S.BlobSource.tells c.check_root-check.new.source in
    let asked = c.check_root-check.ensures.checked.called.asked in
    let checked = subst (IsChecked told c.args.sources.now c.steps.result.now c.args.recorded.now) c.in-Outcomes.is (c.in_ok-name.ensures {u = tt}).checked in
    learns_root g.row.A.Denot told c.args.sources.now c.args.plan.now c.args.recorded.now later asked.blobs asked.results c.steps.result.now c.root.result.now c.deref.result.now c.in-Outcomes.outcomes.items
    c.steps.ensures.value c.root.ensures.value c.deref.ensures.value checked (λ stopped. subst (λ x. IsStopped {E = VerifyError} (Ok x)) c.in-Outcomes.is stopped) (c.in_ok-name.ensures {u = tt}).learned c.check_root-check.ensures.checked.learned

pub returns-in-Err-clause-made : goal.returns-in-Err-clause-made
returns-in-Err-clause-made g c =
    let told = g.S.BlobSource.tells c.check_steps.new.source in
    let later = g.S.BlobSource.tells c.check_root-check.new.source in
    let asked = c.check_root-check.ensures.checked.called.asked in
    let checked = subst (IsChecked told c.args.sources.now c.steps.result.now c.args.recorded.now) c.in-Outcomes.is (c.in_ok-name.ensures {u = tt}).checked in
    let passes = subst (λ steps. (steps_check {A = g.row.A.Denot} told c.args.sources.now [] steps c.args.recorded.now).passes c.in-Outcomes.outcomes.items) c.steps.ensures.value checked in
    let other = subst (λ os. MatchOption c.check_root-check.result.other (IsNoOther c.check_root-check.result.check) (λ f. IsFoldOfPassed (put_together later.blobs c.args.sources.now (slice_get os) c.args.plan.now.root_lines) f × (c.check_root-check.result.check ≡ Err (faults.Cause (RootDiffers f.root))))) c.deref.ensures.value
    (subst (λ ls. MatchOption c.check_root-check.result.other (IsNoOther c.check_root-check.result.check) (λ f. IsFoldOfPassed (put_together later.blobs c.args.sources.now (slice_get c.deref.result.now) ls) f × (c.check_root-check.result.check ≡ Err (faults.Cause (RootDiffers f.root))))) c.root.ensures.value c.check_root-check.ensures.other) in
    let made = subst (λ os. IsMadeOther c.check_root-check.result.other os c.in_ok-made-in-Err.made) c.deref-in-Err.ensures.value (c.in_ok-made-in-Err.ensures {u = tt}) in
    handed_out told later asked.blobs asked.results c.args.sources.now c.args.plan.now c.args.recorded.now c.in-Outcomes.outcomes.items passes c.check_root-check.result.check c.check_root-check.result.other c.in_ok-made-in-Err.made c.in_ok-cause-in-Err.cause
    (c.in-Err.is ∙ ap Err (c.in_ok-cause-in-Err.ensures {u = tt}).cause) other made
