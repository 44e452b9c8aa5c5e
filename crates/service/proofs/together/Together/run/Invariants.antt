use Rattle.std.specs.Prelude.{IsTrue, false}
use Rattle.std.proofs.Common.{◌≡◌, ℕ}
use Rattle.service.specs.Rounds.{TakeTurns}
use Rattle.service.specs.Together.{AreSeenTo, GoesOnTogether, LeavesPlaced}
use Rattle.service.proofs.together.Together.run.Given as goal

abbrev pub invariant-loop : goal.invariant-loop
invariant-loop g l = record {
  keeps : (accepted : ℕ) → GoesOnTogether false g.S.Peer.spoke g.N.Sockets.ended g.N.Sockets.lost l.fn.self.members.entries accepted l.fn.server l.self.members.entries accepted l.server;
  seen : AreSeenTo g.S.Peer.full g.S.Peer.dry l.fn.self → AreSeenTo g.S.Peer.full g.S.Peer.dry l.self;
  turns : TakeTurns g.S.Peer.tried l.counter l.fn.self l.self;
  waits : IsTrue l.fn.self.waits → IsTrue l.self.waits;
  share : l.self.share ≡ l.fn.self.share;
  retry : l.self.retry ≡ l.fn.self.retry;
  idle : l.self.idle ≡ l.fn.self.idle;
  eased : IsTrue l.fn.self.scales.eased → IsTrue l.self.scales.eased;
  places : LeavesPlaced g.N.Sockets.places (l.fn.sockets, l.fn.self.members.entries) (l.sockets, l.self.members.entries);
}
