use Rattle.std.proofs.Common.{false}
use Rattle.service.proofs.Keeping.{keeps_ended}
use Rattle.service.proofs.Seeing.{ended_keeps, seen_gone}
use Rattle.service.proofs.Whole.{none_stays, others_stay}
use Rattle.service.proofs.together.Together.give_up.Goals as goal

pub returns-in-Some-clause-keeps : goal.returns-in-Some-clause-keeps
returns-in-Some-clause-keeps g c accepted =
    keeps_ended false g.S.Peer.spoke g.N.Sockets.ended g.N.Sockets.lost g.S.Peer.over c.in-Some.why c.args.self.now.members.entries c.end.new.self.members.entries
    accepted c.args.server.now c.end.new.server c.args.number c.in-Some.ensures.may c.end.ensures.ends

pub returns-in-Some-clause-others : goal.returns-in-Some-clause-others
returns-in-Some-clause-others g c =
    others_stay g.S.Peer.spoke g.S.Peer.over g.N.Sockets.ended g.N.Sockets.lost c.args.number c.in-Some.why c.args.server.now c.end.new.server
    c.args.self.now.members.entries c.end.new.self.members.entries c.end.ensures.ends

pub returns-in-Some-clause-seen : goal.returns-in-Some-clause-seen
returns-in-Some-clause-seen g c =
    let k = c.args.number in
    let t = c.args.self.now in
    let u = c.end.new.self in
    seen_gone g.S.Peer.full g.S.Peer.dry k t u
    (ended_keeps k t u (others_stay g.S.Peer.spoke g.S.Peer.over g.N.Sockets.ended g.N.Sockets.lost k c.in-Some.why c.args.server.now c.end.new.server t.members.entries u.members.entries c.end.ensures.ends) c.end.ensures.rest)
    (none_stays g.S.Peer.spoke g.S.Peer.over g.N.Sockets.ended g.N.Sockets.lost k c.in-Some.why c.args.server.now c.end.new.server t.members.entries u.members.entries c.end.ensures.ends)
