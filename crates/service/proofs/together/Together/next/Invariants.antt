use Rattle.std.proofs.Common.{◌≡◌, ◌<◌}
use Rattle.service.specs.Sockets.{KeepsPlaces}
use Rattle.service.specs.Turns.{FailsAfter}
use Rattle.service.proofs.together.Together.next.Given as goal

abbrev pub invariant-loop-failed : goal.invariant-loop-failed
invariant-loop-failed g l = record {
  tried : FailsAfter g.N.Sockets.failed 0 l.failed l.fn.sockets l.sockets;
  places : KeepsPlaces g.N.Sockets.places l.fn.sockets l.sockets;
  few : l.failed < 100;
  same : l.self ≡ record l.fn.self { line = l.self.line };
}
