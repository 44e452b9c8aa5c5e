use Rattle.std.proofs.Common.{◌≡◌, ◌⊎◌, ◌<◌, false, None}
use Rattle.service.specs.Member.{CountsKept, GoesAhead, MovesOn}
use Rattle.service.proofs.member.Member.turn.Given as goal

abbrev pub invariant-loop : goal.invariant-loop
invariant-loop g l = record {
  moves : MovesOn g.S.Peer.spoke g.S.Peer.over l.counter None l.fn.number l.fn.server l.fn.self l.server l.self;
  ahead : ((l.counter ≡ 0) × (l.self ≡ l.fn.self)) ⊎ GoesAhead g.S.Peer.tried l.fn.now l.fn.self l.self;
  counts : CountsKept l.fn.server l.fn.number l.fn.self → CountsKept l.server l.fn.number l.self;
  queued : l.self.queued ≡ l.fn.self.queued;
  held : 0 < l.counter → l.self.held ≡ false;
}
