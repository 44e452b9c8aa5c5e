use Rattle.tree.proofs.FailSinks.{fails_fetch, hands_on_fetch}
use Rattle.tree.proofs.fail_sink.FailSinkBlobSource.fetch.Goals as goal

pub returns-then-is_due-clause-called : goal.returns-then-is_due-clause-called
returns-then-is_due-clause-called g c =
    fails_fetch g.S.BlobSource.tells c.args.self.now c.is_due.new.self c.fail.new.self c.fail.result c.is_due.ensures.begun
    c.fail.ensures.same.calls c.fail.ensures.counted c.fail.ensures.same.inner c.args.digest.now

pub returns-clause-called : goal.returns-clause-called
returns-clause-called g c =
    hands_on_fetch g.S.BlobSource.tells c.args.self.now c.is_due.new.self c.pass_on.new.self c.pass_on.result c.is_due.ensures.begun
    c.pass_on.ensures.same.calls c.pass_on.ensures.counted _ c.pass_on.ensures.same.inner c.args.digest.now c.fetch-answer.ensures.called.asked
