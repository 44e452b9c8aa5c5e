use Rattle.tree.proofs.FailSinks.{fails_put, hands_on_put}
use Rattle.tree.proofs.fail_sink.FailSinkBlobSink.put_result.Goals as goal

pub returns-then-is_due-clause-called : goal.returns-then-is_due-clause-called
returns-then-is_due-clause-called g c =
    fails_put g.S.BlobSource.tells c.args.self.now c.is_due.new.self c.fail.new.self c.fail.result c.is_due.ensures.begun
    c.fail.ensures.same.calls c.fail.ensures.counted c.fail.ensures.same.inner c.args.digest.now c.args.bytes.now

pub returns-clause-called : goal.returns-clause-called
returns-clause-called g c =
    hands_on_put g.S.BlobSource.tells c.args.self.now c.is_due.new.self c.pass_on.new.self c.pass_on.result c.is_due.ensures.begun
    c.pass_on.ensures.same.calls c.pass_on.ensures.counted _ c.pass_on.ensures.same.inner c.args.digest.now c.args.bytes.now c.put_result-answer.ensures.called.asked
