use Rattle.std.proofs.lemmas.Result.{err_from_is_err_and}
use Rattle.std.proofs.Common.{arith, length, ◌+◌, refl, sym, subst, inl, inr, ap, ◌∙◌, ◌++◌, ◌∷◌, []}
use Rattle.blob_source.specs.Sink.{HasRight}
use Rattle.std.specs.Prelude.{IfSome}
use Rattle.worker.specs.declared.child.Child.{Child}
use Rattle.worker.specs.Outcomes.{CanBeTakenFor, CanBeTaken, tree_blobs}
use Rattle.worker.specs.Going.{kept_job}
use Rattle.worker.proofs.Stopping.{store_stops, store_no_child, job_begun, child_stops}
use Rattle.worker.proofs.Telling.{held_kept}
use Rattle.worker.proofs.Blobs.{others_finished, others_gone, others_grown, others_input, others_recorded, others_then}
use Rattle.worker.proofs.Keeping.{kept_trans, right_still}
use Rattle.worker.proofs.PutOnce.{put_still}
use Rattle.worker.specs.Counted.{IsDevice, IsFetch}
use Rattle.worker.proofs.Failures.{counts_none, counts_same, counts_from, counts_exit, finish_no_fetch, store_no_device}
use Rattle.worker.proofs.beginning.launch.Goals as goal
use Rattle.verifier.specs.Recorded.{IsHeld}

pub returns-in_err-put_trees-clause-kept : goal.returns-in_err-put_trees-clause-kept
returns-in_err-put_trees-clause-kept g c = kept_trans c.put_input.ensures.kept (kept_trans c.recorded_outcome.ensures.kept c.put_trees.ensures.kept)

pub returns-in_err-finish-clause-kept : goal.returns-in_err-finish-clause-kept
returns-in_err-finish-clause-kept g c = kept_trans c.put_input.ensures.kept (kept_trans c.recorded_outcome.ensures.kept c.put_trees.ensures.kept)

pub returns-in-Some-clause-kept : goal.returns-in-Some-clause-kept
returns-in-Some-clause-kept g c = kept_trans c.put_input.ensures.kept (kept_trans c.recorded_outcome.ensures.kept c.put_trees.ensures.kept)

pub returns-in-Some-clause-launched : goal.returns-in-Some-clause-launched
returns-in-Some-clause-launched g c =
    let t = g.S.BlobSource.tells c.recorded_outcome.new.sink in
    let held : IsHeld t c.args.job.now.digest c.in-Some.outcome = subst (λ o. IfSome o (IsHeld t c.args.job.now.digest)) c.in-Some.is c.in_ok-outcome.ensures.held in
    let end = (g.S.BlobSource.tells c.put_trees.new.sink).blobs in
    inr (
      c.in-Some.outcome,
      c.in_ok-finish.ensures.finished,
      record {
        held = held_kept c.put_trees.ensures.kept held;
        action = subst (HasRight end) (sym c.requires.job.digest) (right_still (kept_trans c.recorded_outcome.ensures.kept c.put_trees.ensures.kept).blobs c.in_ok-put_input.ensures.held);
        trees = c.in_ok-put_trees.ensures.held;
      },
      refl,
      λ before h. h,
    )

pub returns-in_err-child-clause-kept : goal.returns-in_err-child-clause-kept
returns-in_err-child-clause-kept g c = kept_trans c.put_input.ensures.kept (kept_trans c.recorded_outcome.ensures.kept c.start_child.ensures.kept)

pub returns-clause-kept : goal.returns-clause-kept
returns-clause-kept g c = kept_trans c.put_input.ensures.kept (kept_trans c.recorded_outcome.ensures.kept c.start_child.ensures.kept)

pub returns-clause-launched : goal.returns-clause-launched
returns-clause-launched g c =
    let B = (g.S.BlobSource.tells c.start_child.new.sink).blobs in
    let child : Child g.row.N-Job.Denot = record { id = c.args.job.now.id; step = c.args.job.now.step; action = c.args.job.now.digest; job = c.in_ok-child.child } in
    let owed = c.in_ok-child.ensures.owed in
    inl (
      child,
      refl,
      record {
        own = record {
          of_child = record { step = refl; action = refl };
          owed = record {
            layout = owed.0;
            laid = owed.1;
            command = c.args.job.now.command;
            of_step = c.requires.job.command;
            may_come = owed.2;
            own = (c.args.job.now.action.frame, c.requires.job.frame, c.requires.job.digest);
            action = subst (HasRight B) (sym c.requires.job.digest) (right_still (kept_trans c.recorded_outcome.ensures.kept c.start_child.ensures.kept).blobs c.in_ok-put_input.ensures.held);
          };
        };
        started = owed.3;
        none = λ v held fits. c.in_ok-outcome.ensures.none c.in_default.is v (held_kept (kept_trans c.put_input.ensures.kept c.recorded_outcome.ensures.kept) held) fits;
      },
      refl,
      c.push_back_reserved.ensures.items ∙ ap (λ xs. xs ++ child ∷ []) c.reserve.ensures.items,
    )

pub returns-in_err-put_input-clause-refused : goal.returns-in_err-put_input-clause-refused
returns-in_err-put_input-clause-refused g c =
    let p = err_from_is_err_and c.from_residual.result c.from_residual.ensures.1 in
    rw (p.1, p.2) (store_stops (g.N.Runner.yields c.args.runner.now) (g.S.BlobSource.tells c.put_input.new.sink) c.args.engine.now c.args.job.now.step c.in_err-put_input.field-0.0 (job_begun c.args.engine.now c.args.job.now c.requires.job) c.in_err-put_input.ensures.failed)

pub returns-in_err-outcome-clause-refused : goal.returns-in_err-outcome-clause-refused
returns-in_err-outcome-clause-refused g c =
    let p = err_from_is_err_and c.from_residual-in_err-outcome.result c.from_residual-in_err-outcome.ensures.1 in
    rw (p.1, p.2) (store_stops (g.N.Runner.yields c.args.runner.now) (g.S.BlobSource.tells c.recorded_outcome.new.sink) c.args.engine.now c.args.job.now.step c.in_err-outcome.field-0.0 (job_begun c.args.engine.now c.args.job.now c.requires.job) c.in_err-outcome.ensures.failed)

pub returns-in_err-put_trees-clause-refused : goal.returns-in_err-put_trees-clause-refused
returns-in_err-put_trees-clause-refused g c =
    let p = err_from_is_err_and c.from_residual-in_err-put_trees.result c.from_residual-in_err-put_trees.ensures.1 in
    rw (p.1, p.2) (store_stops (g.N.Runner.yields c.args.runner.now) (g.S.BlobSource.tells c.put_trees.new.sink) c.args.engine.now c.args.job.now.step c.in_err-put_trees.field-0.0 (job_begun c.args.engine.now c.args.job.now c.requires.job) c.in_err-put_trees.ensures.failed)

pub returns-in_err-finish-clause-refused : goal.returns-in_err-finish-clause-refused
returns-in_err-finish-clause-refused g c =
    let p = err_from_is_err_and c.from_residual-in_err-finish.result c.from_residual-in_err-finish.ensures.1 in
    let t = g.S.BlobSource.tells c.recorded_outcome.new.sink in
    let held : IsHeld t c.args.job.now.digest c.in-Some.outcome = subst (λ o. IfSome o (IsHeld t c.args.job.now.digest)) c.in-Some.is c.in_ok-outcome.ensures.held in
    let taken : CanBeTakenFor (g.S.BlobSource.tells c.put_trees.new.sink) c.args.engine.now (kept_job c.args.job.now) c.in-Some.outcome = record {
      held = held_kept c.put_trees.ensures.kept held;
      command = c.args.job.now.command;
      of_step = c.requires.job.command;
      fits = subst (λ o. IfSome o (CanBeTaken c.args.job.now.command)) c.in-Some.is c.in_ok-outcome.ensures.fits;
    } in
    rw (p.1, p.2) (inr (c.args.job.now.id, kept_job c.args.job.now, c.requires.job.there, refl, (c.in-Some.outcome, inr taken, c.in_err-finish.ensures.refused)))

pub returns-in_err-reserve-clause-refused : goal.returns-in_err-reserve-clause-refused
returns-in_err-reserve-clause-refused g c =
    let p = err_from_is_err_and c.from_residual-in_err-reserve.result c.from_residual-in_err-reserve.ensures.1 in
    rw (p.1, p.2) (job_begun c.args.engine.now c.args.job.now c.requires.job)

pub returns-in_err-child-clause-refused : goal.returns-in_err-child-clause-refused
returns-in_err-child-clause-refused g c =
    let p = err_from_is_err_and c.from_residual-in_err-child.result c.from_residual-in_err-child.ensures.1 in
    rw (p.1, p.2) (child_stops (g.N.Runner.yields c.args.runner.now) (g.S.BlobSource.tells c.start_child.new.sink) c.args.engine.now c.args.job.now c.requires.job
    (subst (HasRight (g.S.BlobSource.tells c.start_child.new.sink).blobs) (sym c.requires.job.digest) (right_still (kept_trans c.recorded_outcome.ensures.kept c.start_child.ensures.kept).blobs c.in_ok-put_input.ensures.held))
    c.in_err-child.field-0.0 c.in_err-child.ensures.refused)

pub returns-in_err-put_input-clause-untaken : goal.returns-in_err-put_input-clause-untaken
returns-in_err-put_input-clause-untaken g c =
    let p = err_from_is_err_and c.from_residual.result c.from_residual.ensures.1 in
    rw (p.1, p.2) (λ of_child. absurd (store_no_child c.in_err-put_input.field-0.0 c.in_err-put_input.ensures.failed of_child))

pub returns-in_err-outcome-clause-untaken : goal.returns-in_err-outcome-clause-untaken
returns-in_err-outcome-clause-untaken g c =
    let p = err_from_is_err_and c.from_residual-in_err-outcome.result c.from_residual-in_err-outcome.ensures.1 in
    rw (p.1, p.2) (λ of_child. absurd (store_no_child c.in_err-outcome.field-0.0 c.in_err-outcome.ensures.failed of_child))

pub returns-in_err-put_trees-clause-untaken : goal.returns-in_err-put_trees-clause-untaken
returns-in_err-put_trees-clause-untaken g c =
    let p = err_from_is_err_and c.from_residual-in_err-put_trees.result c.from_residual-in_err-put_trees.ensures.1 in
    rw (p.1, p.2) (λ of_child. absurd (store_no_child c.in_err-put_trees.field-0.0 c.in_err-put_trees.ensures.failed of_child))

pub returns-in_err-finish-clause-untaken : goal.returns-in_err-finish-clause-untaken
returns-in_err-finish-clause-untaken g c =
    let p = err_from_is_err_and c.from_residual-in_err-finish.result c.from_residual-in_err-finish.ensures.1 in
    rw (p.1, p.2) (λ of_child. absurd of_child)

pub returns-in_err-reserve-clause-untaken : goal.returns-in_err-reserve-clause-untaken
returns-in_err-reserve-clause-untaken g c =
    let p = err_from_is_err_and c.from_residual-in_err-reserve.result c.from_residual-in_err-reserve.ensures.1 in
    rw (p.1, p.2) (λ of_child. absurd of_child)

pub returns-in_err-child-clause-untaken : goal.returns-in_err-child-clause-untaken
returns-in_err-child-clause-untaken g c =
    let p = err_from_is_err_and c.from_residual-in_err-child.result c.from_residual-in_err-child.ensures.1 in
    rw (p.1, p.2) (λ of_child v held fits. c.in_ok-outcome.ensures.none c.in_default.is v (held_kept (kept_trans c.put_input.ensures.kept c.recorded_outcome.ensures.kept) held) fits)

pub returns-in_err-put_input-clause-fetched : goal.returns-in_err-put_input-clause-fetched
returns-in_err-put_input-clause-fetched g c = counts_exit IsFetch c.from_residual.result c.from_residual.ensures.1 (c.in_err-put_input.ensures.fetched)

pub returns-in_err-outcome-clause-fetched : goal.returns-in_err-outcome-clause-fetched
returns-in_err-outcome-clause-fetched g c = counts_from (c.in_ok-put_input.ensures.fetched.unfailed (λ f. f)) (counts_exit IsFetch c.from_residual-in_err-outcome.result c.from_residual-in_err-outcome.ensures.1 (c.in_err-outcome.ensures.fetched))

pub returns-in_err-put_trees-clause-fetched : goal.returns-in_err-put_trees-clause-fetched
returns-in_err-put_trees-clause-fetched g c = counts_from (c.in_ok-outcome.ensures.fetched.unfailed (λ f. f) ∙ c.in_ok-put_input.ensures.fetched.unfailed (λ f. f)) (counts_exit IsFetch c.from_residual-in_err-put_trees.result c.from_residual-in_err-put_trees.ensures.1 (c.in_err-put_trees.ensures.fetched))

pub returns-in_err-finish-clause-fetched : goal.returns-in_err-finish-clause-fetched
returns-in_err-finish-clause-fetched g c = counts_from (c.in_ok-put_trees.ensures.fetched.unfailed (λ f. f) ∙ c.in_ok-outcome.ensures.fetched.unfailed (λ f. f) ∙ c.in_ok-put_input.ensures.fetched.unfailed (λ f. f)) (counts_exit IsFetch c.from_residual-in_err-finish.result c.from_residual-in_err-finish.ensures.1 (counts_none (finish_no_fetch c.args.engine.now c.args.job.now.id c.in-Some.outcome c.in_err-finish.field-0.0 c.in_err-finish.ensures.refused)))

pub returns-in-Some-clause-fetched : goal.returns-in-Some-clause-fetched
returns-in-Some-clause-fetched g c = counts_same (λ f. f) (c.in_ok-put_trees.ensures.fetched.unfailed (λ f. f) ∙ c.in_ok-outcome.ensures.fetched.unfailed (λ f. f) ∙ c.in_ok-put_input.ensures.fetched.unfailed (λ f. f))

pub returns-in_err-reserve-clause-fetched : goal.returns-in_err-reserve-clause-fetched
returns-in_err-reserve-clause-fetched g c = counts_from (c.in_ok-outcome.ensures.fetched.unfailed (λ f. f) ∙ c.in_ok-put_input.ensures.fetched.unfailed (λ f. f)) (counts_exit IsFetch c.from_residual-in_err-reserve.result c.from_residual-in_err-reserve.ensures.1 (counts_none (λ f. f)))

pub returns-in_err-child-clause-fetched : goal.returns-in_err-child-clause-fetched
returns-in_err-child-clause-fetched g c = counts_from (c.in_ok-outcome.ensures.fetched.unfailed (λ f. f) ∙ c.in_ok-put_input.ensures.fetched.unfailed (λ f. f)) (counts_exit IsFetch c.from_residual-in_err-child.result c.from_residual-in_err-child.ensures.1 (c.in_err-child.ensures.fetched))

pub returns-clause-fetched : goal.returns-clause-fetched
returns-clause-fetched g c = counts_same (λ f. f) (c.in_ok-child.ensures.fetched.unfailed (λ f. f) ∙ c.in_ok-outcome.ensures.fetched.unfailed (λ f. f) ∙ c.in_ok-put_input.ensures.fetched.unfailed (λ f. f))

pub returns-in_err-put_input-clause-device : goal.returns-in_err-put_input-clause-device
returns-in_err-put_input-clause-device g c = counts_exit IsDevice c.from_residual.result c.from_residual.ensures.1 (counts_none (store_no_device c.in_err-put_input.field-0.0 c.in_err-put_input.ensures.failed))

pub returns-in_err-outcome-clause-device : goal.returns-in_err-outcome-clause-device
returns-in_err-outcome-clause-device g c = counts_exit IsDevice c.from_residual-in_err-outcome.result c.from_residual-in_err-outcome.ensures.1 (counts_none (store_no_device c.in_err-outcome.field-0.0 c.in_err-outcome.ensures.failed))

pub returns-in_err-put_trees-clause-device : goal.returns-in_err-put_trees-clause-device
returns-in_err-put_trees-clause-device g c = counts_exit IsDevice c.from_residual-in_err-put_trees.result c.from_residual-in_err-put_trees.ensures.1 (counts_none (store_no_device c.in_err-put_trees.field-0.0 c.in_err-put_trees.ensures.failed))

pub returns-in_err-finish-clause-device : goal.returns-in_err-finish-clause-device
returns-in_err-finish-clause-device g c = counts_exit IsDevice c.from_residual-in_err-finish.result c.from_residual-in_err-finish.ensures.1 (counts_none (λ f. f))

pub returns-in-Some-clause-device : goal.returns-in-Some-clause-device
returns-in-Some-clause-device g c = counts_none (λ f. f)

pub returns-in_err-reserve-clause-device : goal.returns-in_err-reserve-clause-device
returns-in_err-reserve-clause-device g c = counts_exit IsDevice c.from_residual-in_err-reserve.result c.from_residual-in_err-reserve.ensures.1 (counts_none (λ f. f))

pub returns-in_err-child-clause-device : goal.returns-in_err-child-clause-device
returns-in_err-child-clause-device g c = counts_exit IsDevice c.from_residual-in_err-child.result c.from_residual-in_err-child.ensures.1 (c.in_err-child.ensures.device)

pub returns-clause-device : goal.returns-clause-device
returns-clause-device g c = counts_same (λ f. f) (c.in_ok-child.ensures.device.unfailed (λ f. f))

pub returns-in_err-finish-clause-put : goal.returns-in_err-finish-clause-put
returns-in_err-finish-clause-put g c = put_still c.put_input.new.put (kept_trans c.recorded_outcome.ensures.kept c.put_trees.ensures.kept).blobs c.put_input.ensures.put

pub returns-in-Some-clause-put : goal.returns-in-Some-clause-put
returns-in-Some-clause-put g c = put_still c.put_input.new.put (kept_trans c.recorded_outcome.ensures.kept c.put_trees.ensures.kept).blobs c.put_input.ensures.put

pub returns-in-Some-clause-once : goal.returns-in-Some-clause-once
returns-in-Some-clause-once g c = record {
  rest = length (tree_blobs c.in-Some.outcome.outputs);
  for_rest = inr (c.in-Some.outcome, c.in_ok-finish.ensures.finished, refl);
  once = λ most few.
      let put = c.put_input.ensures.once in
      let asked = c.recorded_outcome.ensures.once most (λ b r at reads. few b r (c.put_trees.ensures.kept.results c.args.job.now.digest b at) reads) in
      let trees = c.in_ok-put_trees.ensures.once in
      omega (arith, put, asked, trees);
}

pub returns-clause-once : goal.returns-clause-once
returns-clause-once g c =
    let owed = c.in_ok-child.ensures.owed in
    record {
      rest = 1 + length owed.0.folders + length owed.0.files;
      for_rest = inl (owed.0, owed.1, refl);
      once = λ most few.
          let put = c.put_input.ensures.once in
          let asked = c.recorded_outcome.ensures.once most (λ b r at reads. few b r (c.start_child.ensures.kept.results c.args.job.now.digest b at) reads) in
          let laid = owed.4 in
          omega (arith, put, asked, laid);
    }

pub returns-in_err-put_input-clause-only : goal.returns-in_err-put_input-clause-only
returns-in_err-put_input-clause-only g c = others_input c.args.job.now c.put_input.ensures.only

pub returns-in_err-outcome-clause-only : goal.returns-in_err-outcome-clause-only
returns-in_err-outcome-clause-only g c = others_then (others_input c.args.job.now c.put_input.ensures.only) (others_grown c.recorded_outcome.ensures.only)

pub returns-in_err-put_trees-clause-only : goal.returns-in_err-put_trees-clause-only
returns-in_err-put_trees-clause-only g c =
    let t = g.S.BlobSource.tells c.recorded_outcome.new.sink in
    let held : IsHeld t c.args.job.now.digest c.in-Some.outcome = subst (λ o. IfSome o (IsHeld t c.args.job.now.digest)) c.in-Some.is c.in_ok-outcome.ensures.held in
    others_then (others_then (others_input c.args.job.now c.put_input.ensures.only) (others_grown c.recorded_outcome.ensures.only))
    (others_recorded c.args.job.now c.in-Some.outcome (held_kept c.put_trees.ensures.kept held) (subst (λ o. IfSome o (CanBeTaken c.args.job.now.command)) c.in-Some.is c.in_ok-outcome.ensures.fits) c.put_trees.ensures.only)

pub returns-in_err-finish-clause-only : goal.returns-in_err-finish-clause-only
returns-in_err-finish-clause-only g c =
    let t = g.S.BlobSource.tells c.recorded_outcome.new.sink in
    let held : IsHeld t c.args.job.now.digest c.in-Some.outcome = subst (λ o. IfSome o (IsHeld t c.args.job.now.digest)) c.in-Some.is c.in_ok-outcome.ensures.held in
    others_then (others_then (others_input c.args.job.now c.put_input.ensures.only) (others_grown c.recorded_outcome.ensures.only))
    (others_recorded c.args.job.now c.in-Some.outcome (held_kept c.put_trees.ensures.kept held) (subst (λ o. IfSome o (CanBeTaken c.args.job.now.command)) c.in-Some.is c.in_ok-outcome.ensures.fits) c.put_trees.ensures.only)

pub returns-in-Some-clause-only : goal.returns-in-Some-clause-only
returns-in-Some-clause-only g c =
    let t = g.S.BlobSource.tells c.recorded_outcome.new.sink in
    let held : IsHeld t c.args.job.now.digest c.in-Some.outcome = subst (λ o. IfSome o (IsHeld t c.args.job.now.digest)) c.in-Some.is c.in_ok-outcome.ensures.held in
    others_then (others_then (others_input c.args.job.now c.put_input.ensures.only) (others_grown c.recorded_outcome.ensures.only))
    (others_recorded c.args.job.now c.in-Some.outcome (held_kept c.put_trees.ensures.kept held) (subst (λ o. IfSome o (CanBeTaken c.args.job.now.command)) c.in-Some.is c.in_ok-outcome.ensures.fits) c.put_trees.ensures.only)

pub returns-in_err-reserve-clause-only : goal.returns-in_err-reserve-clause-only
returns-in_err-reserve-clause-only g c = others_then (others_input c.args.job.now c.put_input.ensures.only) (others_grown c.recorded_outcome.ensures.only)

pub returns-in_err-child-clause-only : goal.returns-in_err-child-clause-only
returns-in_err-child-clause-only g c = others_then (others_then (others_input c.args.job.now c.put_input.ensures.only) (others_grown c.recorded_outcome.ensures.only)) (others_grown c.start_child.ensures.only)

pub returns-clause-only : goal.returns-clause-only
returns-clause-only g c = others_then (others_then (others_input c.args.job.now c.put_input.ensures.only) (others_grown c.recorded_outcome.ensures.only)) (others_grown c.start_child.ensures.only)

pub returns-in-Some-clause-gone : goal.returns-in-Some-clause-gone
returns-in-Some-clause-gone g c = others_then (others_then (others_gone c.args.job.now c.put_input.ensures.only) (others_grown c.recorded_outcome.ensures.only)) (others_finished c.args.job.now c.in-Some.outcome c.in_ok-finish.ensures.finished c.put_trees.ensures.only)

pub returns-clause-gone : goal.returns-clause-gone
returns-clause-gone g c = others_then (others_then (others_gone c.args.job.now c.put_input.ensures.only) (others_grown c.recorded_outcome.ensures.only)) (others_grown c.start_child.ensures.only)
