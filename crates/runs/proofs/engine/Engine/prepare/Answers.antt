use Rattle.std.proofs.Common.{◌∙◌, ◌<◌, ap, sym, subst, length, refl, arith, Some, get_or}
use Rattle.std.specs.Prelude.{slice_get}
use Rattle.std.proofs.lemmas.Result.{err_from_is_err_and}
use Rattle.blob_digest.specs.Digest.{digest_of}
use Rattle.action_messages.specs.Action.{ActionValue}
use Rattle.plan.specs.Values.{StepValue}
use Rattle.blob_source.proofs.Asking.{ok_no_error}
use Rattle.blob_source.proofs.Calling.{called_no}
use Rattle.runs.specs.Engine.{EngineValue}
use Rattle.runs.proofs.Fetching.{fetching_memory}
use Rattle.tree.specs.declared.error.TreeError.TheVariants as tree
use Rattle.tree.specs.Folded.{IsFoldOfPassed}
use Rattle.verifier.proofs.FreshRuns.{one_answer}
use Rattle.runs.specs.Looking.{ExplainsRefusal, together_in}
use Rattle.runs.proofs.Places.{element_at, step_at}
use Rattle.tree.proofs.Learning.{learns_refused, refused_exit}
use Rattle.runs.proofs.Starts.{step_needed}
use Rattle.runs.proofs.engine.Engine.prepare.Goals as goal

pub returns-in_err-encode-clause-faulty : goal.returns-in_err-encode-clause-faulty
returns-in_err-encode-clause-faulty g c = λ s at.
    let p = err_from_is_err_and c.from_residual-in_err-encode.result c.from_residual-in_err-encode.ensures.1 in
    rw (p.1, p.2) (tree.Memory, tt, refl)

pub returns-in_err-input-clause-faulty : goal.returns-in_err-input-clause-faulty
returns-in_err-input-clause-faulty g c = λ s at.
    let p = err_from_is_err_and c.from_residual.result c.from_residual.ensures.1 in
    let told = (g.S.BlobSource.tells c.put_together.new.source).blobs in
    let there = step_at c.self.view_is c.requires.within c.index-steps-step.is c.steps-steps.ensures.value in
    let lines = c.deref.ensures.value ∙ ap (λ (x : StepValue). x.lines) (c.planned.view_is ∙ one_answer (slice_get c.args.self.now.plan.steps c.args.step) c.index-steps-step.result s there at) in
    rw (p.1, p.2) (subst (λ ls. ExplainsRefusal (together_in told c.args.self.now ls).fails c.in_err-input.field-0.0) lines c.in_err-input.ensures.faulty)

pub returns-in_err-frame-clause-faulty : goal.returns-in_err-frame-clause-faulty
returns-in_err-frame-clause-faulty g c = λ s at.
    let p = err_from_is_err_and c.from_residual-in_err-frame.result c.from_residual-in_err-frame.ensures.1 in
    rw (p.1, p.2) (tree.Memory, tt, refl)

pub offset_bounds-commands-step : goal.offset_bounds-commands-step
offset_bounds-commands-step g c =
    let lt = subst (λ (e : EngineValue). c.args.step < length e.plan.steps) (sym c.self.view_is) c.requires.within in
    let count = sym (ap length c.as_slice-commands.ensures.value ∙ c.self.invariant.stand.commands_count) in
    let within : c.args.step < length c.as_slice-commands.result.now = subst (λ n. c.args.step < n) count lt in
    omega (arith, within)

pub bounds-commands-step : goal.bounds-commands-step
bounds-commands-step g c =
    let lt = subst (λ (e : EngineValue). c.args.step < length e.plan.steps) (sym c.self.view_is) c.requires.within in
    subst (λ n. c.args.step < n) (sym (ap length c.as_slice-commands.ensures.value ∙ c.self.invariant.stand.commands_count)) lt

pub returns-in_err-command-clause-faulty : goal.returns-in_err-command-clause-faulty
returns-in_err-command-clause-faulty g c = λ s at.
    let p = err_from_is_err_and c.from_residual-in_err-command.result c.from_residual-in_err-command.ensures.1 in
    rw (p.1, p.2) (tree.Memory, tt, refl)

pub returns-clause-prepared : goal.returns-clause-prepared
returns-clause-prepared g c =
    let tells = g.S.BlobSource.tells c.put_together.new.source in
    let lt = subst (λ (e : EngineValue). c.args.step < length e.plan.steps) (sym c.self.view_is) c.requires.within in
    let stand = c.self.invariant.stand in
    let told = subst (λ ls. IsFoldOfPassed (together_in tells.blobs c.args.self.now ls) c.in_ok-input.input) (c.deref.ensures.value ∙ ap (λ (s : StepValue). s.lines) c.planned.view_is) c.in_ok-input.ensures.told in
    let f = element_at c.self.inside.frames.items c.args.step c.index-frames-step.result (subst (λ n. c.args.step < n) (sym stand.frames_count) lt) (c.index-frames-step.is ∙ ap (λ fs. get_or fs c.args.step c.index-frames-step.result) c.as_slice-frames.ensures.value) in
    let d = element_at c.self.inside.commands.items c.args.step c.index-commands-step.result (subst (λ n. c.args.step < n) (sym stand.commands_count) lt) (c.index-commands-step.is ∙ ap (λ fs. get_or fs c.args.step c.index-commands-step.result) c.as_slice-commands.ensures.value) in
    record {
      planned = c.index-steps-step.result;
      at = step_at c.self.view_is c.requires.within c.index-steps-step.is c.steps-steps.ensures.value;
      tree = told.0;
      together = told.1;
      number = refl;
      of_step = refl;
      frame = ap (λ (e : EngineValue). slice_get e.frames c.args.step) (sym c.self.view_is) ∙ f ∙ ap Some (sym c.in_ok-frame.ensures ∙ sym c.with_input-action.ensures.frame);
      input = ap (λ (a : ActionValue). a.input) c.with_input-action.ensures.value ∙ told.2.fold.root;
      command = ap (λ (e : EngineValue). slice_get e.commands c.args.step) (sym c.self.view_is) ∙ d ∙ ap Some (sym c.in_ok-command.ensures);
      digest = c.of-digest.ensures ∙ ap digest_of (c.deref-2.ensures.value ∙ c.in_ok-encode.ensures.bytes);
      folded = told.2.fold;
    }

pub returns-in_err-encode-clause-called : goal.returns-in_err-encode-clause-called
returns-in_err-encode-clause-called g c = fetching_memory c.from_residual-in_err-encode.ensures.1 ok_no_error c.in_ok-input.ensures.called

pub returns-in_err-command-clause-called : goal.returns-in_err-command-clause-called
returns-in_err-command-clause-called g c = fetching_memory c.from_residual-in_err-command.ensures.1 ok_no_error c.in_ok-input.ensures.called

pub returns-clause-called : goal.returns-clause-called
returns-clause-called g c = called_no ok_no_error ok_no_error c.in_ok-input.ensures.called

pub returns-in_err-input-clause-learned : goal.returns-in_err-input-clause-learned
returns-in_err-input-clause-learned g c s at =
    let there = step_at c.self.view_is c.requires.within c.index-steps-step.is c.steps-steps.ensures.value in
    learns_refused (λ a h. h) (refused_exit _ _ c.from_residual.ensures.1) (step_needed c.args.self.now c.args.step c.index-steps-step.result s there at (c.deref.ensures.value ∙ ap (λ (s : StepValue). s.lines) c.planned.view_is) c.put_together.ensures.learned)

pub returns-in_err-frame-clause-learned : goal.returns-in_err-frame-clause-learned
returns-in_err-frame-clause-learned g c s at =
    let there = step_at c.self.view_is c.requires.within c.index-steps-step.is c.steps-steps.ensures.value in
    learns_refused (λ a h. h) (refused_exit _ _ c.from_residual-in_err-frame.ensures.1) (step_needed c.args.self.now c.args.step c.index-steps-step.result s there at (c.deref.ensures.value ∙ ap (λ (s : StepValue). s.lines) c.planned.view_is) c.put_together.ensures.learned)

pub returns-in_err-encode-clause-learned : goal.returns-in_err-encode-clause-learned
returns-in_err-encode-clause-learned g c s at =
    let there = step_at c.self.view_is c.requires.within c.index-steps-step.is c.steps-steps.ensures.value in
    learns_refused (λ a h. h) (refused_exit _ _ c.from_residual-in_err-encode.ensures.1) (step_needed c.args.self.now c.args.step c.index-steps-step.result s there at (c.deref.ensures.value ∙ ap (λ (s : StepValue). s.lines) c.planned.view_is) c.put_together.ensures.learned)

pub returns-in_err-command-clause-learned : goal.returns-in_err-command-clause-learned
returns-in_err-command-clause-learned g c s at =
    let there = step_at c.self.view_is c.requires.within c.index-steps-step.is c.steps-steps.ensures.value in
    learns_refused (λ a h. h) (refused_exit _ _ c.from_residual-in_err-command.ensures.1) (step_needed c.args.self.now c.args.step c.index-steps-step.result s there at (c.deref.ensures.value ∙ ap (λ (s : StepValue). s.lines) c.planned.view_is) c.put_together.ensures.learned)

pub returns-clause-learned : goal.returns-clause-learned
returns-clause-learned g c s at =
    let there = step_at c.self.view_is c.requires.within c.index-steps-step.is c.steps-steps.ensures.value in
    (step_needed c.args.self.now c.args.step c.index-steps-step.result s there at (c.deref.ensures.value ∙ ap (λ (s : StepValue). s.lines) c.planned.view_is) c.in_ok-input.ensures.learned)
