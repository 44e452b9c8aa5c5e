use Rattle.std.proofs.Common.{◌≡◌, ◌+◌, length}
use Rattle.service.specs.Together.{AreSameButHeld, AreSeenTo}
use Rattle.service.proofs.Marking.{AreFreeBut}
use Rattle.service.proofs.together.Together.release.Given as goal

abbrev pub invariant-loop : goal.invariant-loop
invariant-loop g l = record {
  same : AreSameButHeld g.S.Peer.spoke l.fn.now l.fn.self.members.entries l.self.members.entries;
  free : AreFreeBut l.fn.now l.fn.self.held.items l.self.held.items l.self.members.entries;
  seen : AreSeenTo g.S.Peer.full g.S.Peer.dry l.fn.self → AreSeenTo g.S.Peer.full g.S.Peer.dry l.self;
  rest : l.self ≡ record l.fn.self { members = l.self.members; ready = l.self.ready; short = l.self.short; held = l.self.held; wake = l.self.wake };
  many : l.counter + length l.self.held.items ≡ length l.fn.self.held.items;
}
