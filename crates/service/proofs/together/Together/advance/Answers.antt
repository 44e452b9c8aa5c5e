use Rattle.std.proofs.Common.{false, rules, subst}
use Rattle.service.specs.Member.{GoesAhead, MemberValue, MovesOn, end_of}
use Rattle.service.proofs.Pausing.{moves_queued}
use Rattle.service.proofs.Rounds.{goes_at}
use Rattle.service.proofs.together.Together.advance.Goals as goal

pub returns-clause-some : goal.returns-clause-some
returns-clause-some g c = record {
  before = c.in-Some.member.now;
  after = c.turn-turn.new.self;
  held = search rules;
  at = search rules;
  others = λ j n. search rules;
  many = search rules;
  moves = moves_queued g.S.Peer.spoke g.S.Peer.over (end_of c.turn-turn.result) c.args.number c.args.server.now c.turn-turn.new.server c.in-Some.member.now c.turn-turn.new.self false
      (subst (λ (z : MemberValue g.row.S.Denot). MovesOn g.S.Peer.spoke g.S.Peer.over 16 (end_of c.turn-turn.result) c.args.number c.args.server.now z c.turn-turn.new.server c.turn-turn.new.self) c.queue.ensures.is c.turn-turn.ensures.moves);
}

pub returns-clause-ahead : goal.returns-clause-ahead
returns-clause-ahead g c again =
    goes_at g.S.Peer.tried c.args.now c.args.number c.args.self.now.members.entries _ c.in-Some.member.now c.turn-turn.new.self (search rules) (search rules)
    (subst (λ (z : MemberValue g.row.S.Denot). GoesAhead g.S.Peer.tried c.args.now z c.turn-turn.new.self) c.queue.ensures.is (c.turn-turn.ensures.ahead again))
