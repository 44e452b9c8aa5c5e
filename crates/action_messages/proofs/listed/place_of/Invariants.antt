use Rattle.std.proofs.Common.{◌≤◌, ◌-◌, length, take, drop, Less, Greater}
use Rattle.action_messages.proofs.Searches.{texts_in, AllCompare}
use Rattle.action_messages.proofs.listed.place_of.Given as goal

abbrev pub invariant-loop-low : goal.invariant-loop-low
invariant-loop-low g l = record {
  ordered : l.low ≤ l.high;
  within : l.high ≤ length l.items;
  before : AllCompare Less l.text (texts_in g.L.Listed.path_in (take l.low l.items));
  after : AllCompare Greater l.text (texts_in g.L.Listed.path_in (drop l.high l.items));
}

abbrev pub decreases-loop-low : goal.decreases-loop-low
decreases-loop-low g l = l.high - l.low
