use Rattle.std.proofs.Common.{refl, ap, subst, ◌∙◌, length}
use Rattle.runs.specs.Calls.{AreTold}
use Rattle.blob_source.proofs.Asking.{ok_no_error}
use Rattle.blob_source.proofs.Calling.{called_no}
use Rattle.runs.proofs.Fetching.{opening_exit, opening_memory}
use Rattle.runs.proofs.Opened.{opened_engine, opened_mirrors}
use Rattle.runs.proofs.engine.Engine.new.Goals as goal

pub invariant_of-result : goal.invariant_of-result
invariant_of-result g c =
    let told = subst (λ ss. AreTold (g.S.BlobSource.tells c.read_steps.new.source).blobs ss c.in_ok-meanings.meanings.frames.items c.in_ok-meanings.meanings.commands.items) c.steps.ensures.value c.in_ok-meanings.ensures.told in
    opened_engine (g.S.BlobSource.tells c.read_steps.new.source).blobs _ told (c.in_ok-finished.ensures).none (c.in_ok-finished.ensures.count ∙ ap length c.steps-2.ensures.value) c.new.ensures.items

pub returns-clause-opened : goal.returns-clause-opened
returns-clause-opened g c = record {
  plan = refl;
  sources = refl;
  told = subst (λ ss. AreTold (g.S.BlobSource.tells c.read_steps.new.source).blobs ss c.in_ok-meanings.meanings.frames.items c.in_ok-meanings.meanings.commands.items) c.steps.ensures.value c.in_ok-meanings.ensures.told;
  none_finished = (c.in_ok-finished.ensures).none;
  none_runs = c.new.ensures.items;
}

pub returns-clause-mirrors : goal.returns-clause-mirrors
returns-clause-mirrors g c = opened_mirrors (g.S.BlobSource.tells c.read_steps.new.source).blobs c.args.plan.now c.args.sources _ (record {
  plan = refl;
  sources = refl;
  told = subst (λ ss. AreTold (g.S.BlobSource.tells c.read_steps.new.source).blobs ss c.in_ok-meanings.meanings.frames.items c.in_ok-meanings.meanings.commands.items) c.steps.ensures.value c.in_ok-meanings.ensures.told;
  none_finished = (c.in_ok-finished.ensures).none;
  none_runs = c.new.ensures.items;
})

pub returns-in_err-meanings-clause-called : goal.returns-in_err-meanings-clause-called
returns-in_err-meanings-clause-called g c = opening_exit c.from_residual.ensures.1 c.in_err-meanings.ensures.called

pub returns-in_err-finished-clause-called : goal.returns-in_err-finished-clause-called
returns-in_err-finished-clause-called g c = opening_memory c.from_residual-in_err-finished.ensures.1 (λ f. ok_no_error f.1) c.in_ok-meanings.ensures.called

pub returns-clause-called : goal.returns-clause-called
returns-clause-called g c = called_no (λ f. ok_no_error f.1) (λ f. ok_no_error f.1) c.in_ok-meanings.ensures.called
