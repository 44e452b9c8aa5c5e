use Rattle.std.specs.Prelude.{true}
use Rattle.std.proofs.Common.{◌≡◌, ℕ, ◌+◌, length}
use Rattle.service.specs.Together.{GoesOnTogether, LeavesPlaced}
use Rattle.service.proofs.together.Together.end_all.Given as goal

abbrev pub invariant-loop : goal.invariant-loop
invariant-loop g l = record {
  keeps : (accepted : ℕ) → GoesOnTogether true g.S.Peer.spoke g.N.Sockets.ended g.N.Sockets.lost l.fn.self.members.entries accepted l.fn.server l.self.members.entries accepted l.server;
  places : LeavesPlaced g.N.Sockets.places (l.fn.sockets, l.fn.self.members.entries) (l.sockets, l.self.members.entries);
  fewer : l.counter + length l.self.members.entries ≡ length l.fn.self.members.entries;
}
