use Rattle.blob_source.specs.Told.{IsFault}
use Rattle.tree.proofs.Learning.{learns_refused}
use Rattle.verifier.proofs.Explained.{blob_explained}
use Rattle.verifier.proofs.told.told.Goals as goal

pub returns-in-Err-clause-checked : goal.returns-in-Err-clause-checked
returns-in-Err-clause-checked g c = blob_explained (IsFault g.M.Message.keeps g.M.Encode.spells (g.S.BlobSource.tells c.message.new.source).blobs c.args.digest.now) c.in-Err.error c.fault_of.result (c.in-Err.ensures {u = tt}).faulty c.fault_of.ensures

pub returns-in-Ok-clause-learned : goal.returns-in-Ok-clause-learned
returns-in-Ok-clause-learned g c = (c.in-Ok.ensures {u = tt}).learned

pub returns-in-Err-clause-learned : goal.returns-in-Err-clause-learned
returns-in-Err-clause-learned g c = learns_refused (λ a h. h) tt (c.in-Err.ensures {u = tt}).learned
