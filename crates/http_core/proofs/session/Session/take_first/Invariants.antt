use Rattle.std.proofs.Common.{◌≡◌, ℕ, ◌-◌, ◌≤◌, List, ◌++◌, take, length}
use Rattle.http_core.specs.Event.{EventValue}
use Rattle.http_core.specs.Session.{Holds, Stands, IsClosed}
use Rattle.http_core.proofs.session.Session.take_first.Given as goal

abbrev pub invariant-loop-at : goal.invariant-loop-at
invariant-loop-at g l = record {
  within : l.at ≤ length l.piece;
  prefix : l.self.prefix ≡ l.fn.self.prefix;
  closed : IsClosed l.fn.self → IsClosed l.self;
  holds : (rest : List ℕ) → Holds l.fn.self.prefix l.fn.self.state rest → Holds l.fn.self.prefix l.self.state (rest ++ take l.at l.piece);
  stands : (stream : List ℕ) (before : List EventValue) → Stands l.fn.self stream before → Stands l.self (stream ++ take l.at l.piece) before;
}

abbrev pub decreases-loop-at : goal.decreases-loop-at
decreases-loop-at g l = length l.piece - l.at
