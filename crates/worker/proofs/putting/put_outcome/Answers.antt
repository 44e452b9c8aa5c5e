use Rattle.std.proofs.Common.{arith, ◌∙◌}
use Rattle.action_messages.specs.Reads.{Reads}
use Rattle.action_messages.proofs.Written.{canon_reads}
use Rattle.worker.proofs.Keeping.{kept_as}
use Rattle.worker.proofs.Storing.{there, put_result_of, result_of_step}
use Rattle.worker.proofs.putting.put_outcome.Goals as goal

pub returns-clause-kept : goal.returns-clause-kept
returns-clause-kept g c =
    let reads : Reads c.in_ok-result.field-0 c.deref.result.now = canon_reads c.deref.result.now c.in_ok-result.field-0 (let len = c.deref.ensures.len in omega (arith, len), c.put_encoded.ensures.bytes) c.in_ok-result-2.ensures.valid (c.deref.ensures.value ∙ c.in_ok-result-2.ensures.bytes) in
    kept_as (result_of_step c.args.engine.now c.args.step c.deref.result.now c.in_ok-result.field-0 reads (there c.requires) c.in_ok-result.ensures.value) c.put_encoded.ensures.kept

pub returns-clause-listed : goal.returns-clause-listed
returns-clause-listed g c = c.put_encoded.ensures.listed

pub returns-clause-put : goal.returns-clause-put
returns-clause-put g c =
    put_result_of (g.S.BlobSource.tells c.put_encoded.new.sink) c.put_encoded.result c.args.engine.now c.args.step c.args.action.now c.deref.result.now c.in_ok-result.field-0 (there c.requires) c.put_encoded.ensures.held
    (canon_reads c.deref.result.now c.in_ok-result.field-0 (let len = c.deref.ensures.len in omega (arith, len), c.put_encoded.ensures.bytes) c.in_ok-result-2.ensures.valid (c.deref.ensures.value ∙ c.in_ok-result-2.ensures.bytes)) c.in_ok-result.ensures.kept
