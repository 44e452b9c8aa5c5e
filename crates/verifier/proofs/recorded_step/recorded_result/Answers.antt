use Rattle.std.proofs.Common.{◌∙◌, ap, sym, subst, rules}
use Rattle.blob_source.proofs.Asking.{ok_no_error}
use Rattle.blob_source.proofs.Calling.{called_no, calls_result, calls_some}
use Rattle.blob_source.specs.Source.{bytes_of}
use Rattle.action_messages.specs.Reads.{Reads}
use Rattle.verifier.proofs.Checking.{not_read}
use Rattle.verifier.proofs.Recalling.{reads_there, has_still}
use Rattle.verifier.proofs.recorded_step.recorded_result.Goals as goal

pub returns-in-Ok-clause-called : goal.returns-in-Ok-clause-called
returns-in-Ok-clause-called g c = called_no ok_no_error ok_no_error (calls_some (calls_result c.in_ok-bytes.ensures.called))

pub unreachable-requires-in-Err : goal.unreachable-requires-in-Err
unreachable-requires-in-Err g c =
    let some = (calls_some (calls_result c.in_ok-bytes.ensures.called)).asked in
    let t = g.S.BlobSource.tells c.result.new.self in
    let r = reads_there t c.args.action.now c.in-Some.bytes.items (sym c.in_ok-bytes.ensures.told ∙ ap bytes_of c.in-Some.is) (has_still some c.args.action.now c.requires) in
    not_read c.in-Err.field-0 r.0 (λ h. search rules) (c.in-Err.ensures.only r.0 (subst (Reads r.0) (sym c.deref.ensures.value) r.1))
