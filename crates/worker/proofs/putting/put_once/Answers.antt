use Rattle.std.proofs.Common.{subst, sym}
use Rattle.blob_source.specs.Sink.{HasRight}
use Rattle.worker.specs.Storing.{HasPut}
use Rattle.worker.proofs.Keeping.{right_put}
use Rattle.worker.proofs.PutOnce.{among_more, put_more, put_still, stays_more}
use Rattle.worker.proofs.putting.put_once.Goals as goal

pub returns-clause-put : goal.returns-clause-put
returns-clause-put g c =
    let new = (g.S.BlobSource.tells c.put_blob.new.self).blobs in
    let right = right_put (g.S.BlobSource.tells c.args.sink.now).blobs new c.in_ok-put_blob.ensures.held in
    put_more c.args.put.now c.insert.new.self c.of-digest.result c.in_ok-insert.ensures.updates.0 (subst (HasRight new) (sym c.of-digest.ensures) right) (put_still c.args.put.now c.put_blob.ensures.called.asked.right c.requires.put)

pub returns-clause-stays : goal.returns-clause-stays
returns-clause-stays g c = stays_more c.args.put.now c.insert.new.self c.of-digest.result c.in_ok-insert.ensures.updates.0

pub returns-clause-listed : goal.returns-clause-listed
returns-clause-listed g c = subst (HasPut c.insert.new.self) c.of-digest.ensures (among_more c.args.put.now c.insert.new.self c.of-digest.result c.in_ok-insert.ensures.updates.0)
