use Rattle.std.specs.Prelude.{Bool, IsTrue, false, true}
use Rattle.std.proofs.Common.{◌≡◌, ℕ, ◌+◌, length}
use Rattle.service.specs.Rounds.{EndLate}
use Rattle.service.specs.Together.{AreSeenTo, GoesOnTogether, HoldLittle, LeavesPlaced, SparesInTime}
use Rattle.service.proofs.together.Together.sweep.Given as goal

abbrev pub invariant-loop : goal.invariant-loop
invariant-loop g l = record {
  keeps : (accepted : ℕ) → GoesOnTogether false g.S.Peer.spoke g.N.Sockets.ended g.N.Sockets.lost l.fn.self.members.entries accepted l.fn.server l.self.members.entries accepted l.server;
  places : LeavesPlaced g.N.Sockets.places (l.fn.sockets, l.fn.self.members.entries) (l.sockets, l.self.members.entries);
  seen : AreSeenTo g.S.Peer.full g.S.Peer.dry l.fn.self → AreSeenTo g.S.Peer.full g.S.Peer.dry l.self;
  rest : l.self ≡ record l.fn.self { members = l.self.members; scales = l.self.scales; waits = l.self.waits; line = l.self.line };
  waits : IsTrue l.fn.self.waits → IsTrue l.self.waits;
  spares : (calm : Bool) → (calm ≡ true → HoldLittle l.fn.self.scales.load) → SparesInTime calm l.fn.self.idle l.fn.now l.fn.self.members.entries l.self.members.entries;
  late : EndLate l.fn.self.idle l.fn.now l.fn.self.members.entries l.fn.self.scales.load l.self.members.entries l.self.scales.load;
  little : HoldLittle l.fn.self.scales.load → HoldLittle l.self.scales.load;
  fewer : l.counter + length l.self.members.entries ≡ length l.fn.self.members.entries;
}
