use Rattle.std.proofs.Common.{ap, arith, length}
use Rattle.service.proofs.Keeping.{keeps_further, cut_ended}
use Rattle.service.proofs.Places.{placed_further}
use Rattle.service.proofs.Whole.{none_open}
use Rattle.service.proofs.together.Together.end_all.Goals as goal

pub loop-preserved : goal.loop-preserved
loop-preserved g c = record {
  keeps = λ accepted. keeps_further (c.loop.invariant.keeps accepted)
      (cut_ended g.S.Peer.spoke g.N.Sockets.ended g.N.Sockets.lost g.S.Peer.over c.loop.self.members.entries c.end.new.self.members.entries accepted c.loop.server c.end.new.server c.in-Some.number c.end.ensures.ends);
  places = λ all accepted. placed_further (c.loop.invariant.places all accepted) (c.end.ensures.places all accepted);
  fewer = omega (arith, c.end.ensures.fewer c.in-Some.ensures.some, c.loop.invariant.fewer);
}

pub returns-in_default-clause-all : goal.returns-in_default-clause-all
returns-in_default-clause-all g c k = none_open c.loop.self.members.entries (ap length c.in_default.ensures.none) k

pub returns-clause-all : goal.returns-clause-all
returns-clause-all g c k = none_open c.loop.self.members.entries (omega arith) k
