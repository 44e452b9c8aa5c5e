use Rattle.std.specs.Prelude.{false}
use Rattle.std.proofs.Common.{◌≡◌, ◌≤◌}
use Rattle.service.specs.Together.{AreSeenTo, GoesOnTogether, StaysPlaced}
use Rattle.service.proofs.together.Together.serve.Given as goal

abbrev pub invariant-loop : goal.invariant-loop
invariant-loop g l = record {
  keeps : GoesOnTogether false g.S.Peer.spoke g.N.Sockets.ended g.N.Sockets.lost l.fn.self.members.entries l.fn.accepted l.fn.server l.self.members.entries l.accepted l.server;
  places : StaysPlaced g.N.Sockets.places l.fn.at_once l.fn.sockets l.fn.self.members.entries l.fn.accepted l.sockets l.self.members.entries l.accepted;
  share : l.self.share ≡ l.fn.self.share;
  idle : l.self.idle ≡ l.fn.self.idle;
  within : l.accepted ≤ l.fn.connections;
  seen : AreSeenTo g.S.Peer.full g.S.Peer.dry l.self;
}
