use Rattle.std.proofs.Common.{◌≡◌, ℕ, ◌-◌, ◌≤◌, List, [], ◌++◌, take, map, length}
use Rattle.std.specs.List.{AllByRecursion}
use Rattle.http_core.specs.Event.{EventValue, event_of, IsValid}
use Rattle.http_core.specs.Session.{Stands, IsClosed}
use Rattle.http_core.proofs.session.Session.cut.Given as goal

abbrev pub invariant-loop-at : goal.invariant-loop-at
invariant-loop-at g l = record {
  within : l.at ≤ length l.piece;
  prefix : l.self.prefix ≡ l.fn.self.prefix;
  closed : IsClosed l.fn.self → IsClosed l.self × (l.events.items ≡ []);
  valid : AllByRecursion IsValid (map event_of l.events.items);
  stands : (stream : List ℕ) (before : List EventValue) → Stands l.fn.self stream before → Stands l.self (stream ++ take l.at l.piece) (before ++ map event_of l.events.items);
}

abbrev pub decreases-loop-at : goal.decreases-loop-at
decreases-loop-at g l = length l.piece - l.at
