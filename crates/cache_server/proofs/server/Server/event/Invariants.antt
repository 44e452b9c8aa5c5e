use Rattle.std.proofs.Common.{◌-◌, ◌≤◌, take, length}
use Rattle.cache_server.proofs.Standing.{HasFed}
use Rattle.cache_server.proofs.server.Server.event.Given as goal

abbrev pub invariant-loop-at : goal.invariant-loop-at
invariant-loop-at g l = record {
  within : l.at ≤ length l.piece;
  fed : HasFed l.initial.self l.connection (take l.at l.piece) l.text.items l.self;
}

abbrev pub decreases-loop-at : goal.decreases-loop-at
decreases-loop-at g l = length l.piece - l.at
