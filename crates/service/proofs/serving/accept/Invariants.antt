use Rattle.std.proofs.Common.{◌-◌}
use Rattle.service.specs.Turns.{CountsOn, FailsAfter}
use Rattle.service.proofs.serving.accept.Given as goal

abbrev pub invariant-loop-tried : goal.invariant-loop-tried
invariant-loop-tried g l = record {
  tried : FailsAfter g.L.Listener.failed 0 (l.tried-counter - 1) l.fn.listener l.listener;
  still : CountsOn g.L.Listener.counts 0 0 l.fn.listener l.listener;
}
