use Rattle.std.specs.Prelude.{IsTrue, false, min}
use Rattle.std.proofs.Common.{◌≡◌, ◌+◌, ◌≤◌, ◌⊎◌}
use Rattle.service.specs.Talks.{FindsNone}
use Rattle.service.specs.Together.{AreSeenTo, GoesOnTogether, StaysPlaced, WakesAfter}
use Rattle.service.proofs.together.Together.accept_some.Given as goal

abbrev pub invariant-loop : goal.invariant-loop
invariant-loop g l = record {
  keeps : GoesOnTogether false g.S.Peer.spoke g.N.Sockets.ended g.N.Sockets.lost l.fn.self.members.entries l.fn.accepted l.fn.server l.self.members.entries l.accepted l.server;
  places : StaysPlaced g.N.Sockets.places l.fn.at_once l.fn.sockets l.fn.self.members.entries l.fn.accepted l.sockets l.self.members.entries l.accepted;
  count : (l.self.waits ≡ false) ⊎ (l.fn.accepted + l.counter ≡ l.accepted);
  within : l.accepted ≤ l.fn.connections;
  again : IsTrue l.fn.self.waits ⊎ (l.fn.self.retry ≤ l.fn.now) → l.self.waits ≡ false → FindsNone g.N.Sockets.refused l.sockets ⊎ (l.self.retry ≡ min (l.fn.now + 500) 18446744073709551615);
  seen : AreSeenTo g.S.Peer.full g.S.Peer.dry l.fn.self → AreSeenTo g.S.Peer.full g.S.Peer.dry l.self;
  rest : l.self ≡ record l.fn.self { members = l.self.members; ready = l.self.ready; short = l.self.short; waits = l.self.waits; retry = l.self.retry; wake = l.self.wake; line = l.self.line };
  wake : AreSeenTo g.S.Peer.full g.S.Peer.dry l.fn.self → WakesAfter l.fn.now l.fn.self.wake → WakesAfter l.fn.now l.self.wake;
}
