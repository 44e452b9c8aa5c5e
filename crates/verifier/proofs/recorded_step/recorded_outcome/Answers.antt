use Rattle.std.proofs.Common.{ap}
use Rattle.std.specs.Prelude.{Err}
use Rattle.blob_source.proofs.Asking.{ok_no_error}
use Rattle.blob_source.proofs.Calling.{called_as, called_no, called_ok, calls_some, err_injective}
use Rattle.verifier.proofs.Recalling.{call_error, has_still, outcome_there}
use Rattle.verifier.proofs.recorded_step.recorded_outcome.Goals as goal

pub returns-in-Ok-clause-held : goal.returns-in-Ok-clause-held
returns-in-Ok-clause-held g c =
    let before = c.in_ok-made.ensures.called.asked in
    let after = c.in-Ok.ensures.called.asked.some in
    let held = c.in_ok-made.ensures.held in
    outcome_there (g.S.BlobSource.tells c.recorded.new.source) c.args.action.now c.in_ok-made.made (held.0, after.results c.args.action.now held.0 held.1, held.2) c.in-Ok.outcome c.in-Ok.ensures.found
    (has_still after c.args.action.now (has_still before c.args.action.now c.requires))

pub returns-in-Ok-clause-called : goal.returns-in-Ok-clause-called
returns-in-Ok-clause-called g c = called_ok c.in_ok-made.ensures.called (called_no ok_no_error ok_no_error (calls_some c.in-Ok.ensures.called))

pub read_error-requires : goal.read_error-requires
read_error-requires g c =
    let before = c.in_ok-made.ensures.called.asked in
    let after = c.in-Err.ensures.called.asked.some in
    let held = c.in_ok-made.ensures.held in
    call_error (g.S.BlobSource.tells c.recorded.new.source) c.args.action.now c.in_ok-made.made (held.0, after.results c.args.action.now held.0 held.1, held.2) c.in-Err.error c.in-Err.ensures.faulty
    (has_still after c.args.action.now (has_still before c.args.action.now c.requires))

pub returns-clause-called : goal.returns-clause-called
returns-clause-called g c =
    called_ok c.in_ok-made.ensures.called (called_as (λ is. ap Err (c.read_error.ensures.1 (err_injective _ _ is))) (λ is. ap Err (c.read_error.ensures.0 (err_injective _ _ is))) (calls_some c.in-Err.ensures.called))
