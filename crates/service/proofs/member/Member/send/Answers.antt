use Rattle.cache_server.specs.declared.error.ConnError.TheVariants.{WriteFault}
use Rattle.service.proofs.Talking.{sent_passes, stays_passes, fails_for}
use Rattle.service.specs.Sockets.{Failed}
use Rattle.std.proofs.Common.{ap}
use Rattle.service.specs.Member.{MemberValue, end_of}
use Rattle.service.proofs.member.Member.send.Goals as goal

pub returns-in-Ok-clause-passes : goal.returns-in-Ok-clause-passes
returns-in-Ok-clause-passes g c =
    sent_passes g.S.Peer.spoke g.S.Peer.over (end_of c.pass.result) c.args.self.now c.write_some.new.self c.pass.new.self c.in-Ok.count
    c.in-Ok.ensures.sent (ap (λ (z : MemberValue g.row.S.Denot). z.left) c.write_some.ensures.same) (ap (λ (z : MemberValue g.row.S.Denot). z.unsent) c.write_some.ensures.same) c.pass.ensures.passes

pub returns-in-Err-clause-passes : goal.returns-in-Err-clause-passes
returns-in-Err-clause-passes g c =
    stays_passes g.S.Peer.spoke g.S.Peer.over (end_of c.after_fault.result) c.args.self.now c.write_some.new.self
    c.in-Err.ensures.fault (ap (λ (z : MemberValue g.row.S.Denot). z.left) c.write_some.ensures.same) (ap (λ (z : MemberValue g.row.S.Denot). z.unsent) c.write_some.ensures.same) (fails_for (λ e. g.S.Peer.over c.write_some.new.self.stream (Failed e)) c.in-Err.fault WriteFault c.after_fault.result c.in-Err.ensures.broken c.after_fault.ensures)
