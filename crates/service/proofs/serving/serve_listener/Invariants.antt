use Rattle.service.specs.Turns.{CountsOn, FailsAfter, ServesInTurn}
use Rattle.service.proofs.serving.serve_listener.Given as goal

abbrev pub invariant-loop-number : goal.invariant-loop-number
invariant-loop-number g l = record {
  serves : ServesInTurn g.L.Listener.opened g.L.Listener.ended g.L.Listener.lost g.L.Listener.sent l.fn.prefix l.fn.cache l.number l.cache;
  counts : CountsOn g.L.Listener.counts l.number l.number l.fn.listener l.listener;
  failed : FailsAfter g.L.Listener.failed l.number 0 l.fn.listener l.listener;
}
