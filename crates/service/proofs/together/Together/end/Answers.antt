use Rattle.std.proofs.Common.{inl, rules, subst}
use Rattle.service.specs.Sockets.{EndsAs}
use Rattle.service.proofs.Places.{placed_left}
use Rattle.service.proofs.together.Together.end.Goals as goal

pub returns-clause-ends : goal.returns-clause-ends
returns-clause-ends g c = inl (record {
  m = c.in-Some.member;
  held = c.in-Some.ensures.held;
  gone = c.take.ensures.gone;
  others = c.take.ensures.others;
  ends = subst (λ (z : g.row.S.Denot). EndsAs g.S.Peer.spoke g.S.Peer.over z c.args.why g.N.Sockets.ended g.N.Sockets.lost) c.into_parts-stream.ensures c.end.ensures.ends;
  same = c.end-2.ensures.forgets.kept.prefix;
  stands = c.end-2.ensures.stands;
})

pub returns-clause-places : goal.returns-clause-places
returns-clause-places g c all accepted =
    placed_left c.args.number c.args.sockets.now c.end.new.self c.args.self.now.members.entries c.take.new.self.members.entries accepted
    c.end.ensures.gives (search rules) c.take.ensures.gone c.take.ensures.others
