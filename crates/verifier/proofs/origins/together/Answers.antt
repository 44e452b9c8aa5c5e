use Rattle.std.proofs.Common.{ap}
use Rattle.std.specs.Prelude.{Err, slice_get}
use Rattle.blob_source.proofs.Asking.{ok_no_error}
use Rattle.blob_source.proofs.Calling.{called_as, called_no, err_injective}
use Rattle.verifier.specs.Together.{put_together}
use Rattle.verifier.proofs.Explained.{fault_fetches, fetch_faults, lines_explained, lines_there}
use Rattle.verifier.proofs.origins.together.Goals as goal

pub put_together-requires-clause-there : goal.put_together-requires-clause-there
put_together-requires-clause-there g c = lines_there c.args.outcomes.now c.args.lines.now c.requires.lines

pub returns-in-Err-clause-faulty : goal.returns-in-Err-clause-faulty
returns-in-Err-clause-faulty g c =
    lines_explained (put_together (g.S.BlobSource.tells c.put_together.new.source).blobs c.args.sources.now (slice_get c.args.outcomes.now) c.args.lines.now).fails c.in-Err.error c.fault_of.result (c.in-Err.ensures {u = tt}).faulty c.fault_of.ensures

pub returns-in-Ok-clause-called : goal.returns-in-Ok-clause-called
returns-in-Ok-clause-called g c = called_no ok_no_error ok_no_error (c.in-Ok.ensures {u = tt}).called

pub returns-in-Err-clause-called : goal.returns-in-Err-clause-called
returns-in-Err-clause-called g c =
    let is = c.fault_of.ensures in
    called_as (λ e. ap Err (fault_fetches c.in-Err.error c.fault_of.result is (err_injective c.fault_of.result _ e)))
    (λ e. ap Err (fetch_faults c.in-Err.error c.fault_of.result is (err_injective c.in-Err.error _ e))) (c.in-Err.ensures {u = tt}).called
