use Rattle.std.proofs.Common.{◌≡◌, drop}
use Rattle.action_messages.specs.Overlaps.{some_under}
use Rattle.action_messages.proofs.Searches.{texts_in}
use Rattle.action_messages.proofs.listed.some_under.Given as goal

abbrev pub invariant-loop-item : goal.invariant-loop-item
invariant-loop-item g l = some_under (texts_in g.L.Listed.path_in (drop l.item-index l.items)) (texts_in g.M.Listed.path_in l.others) ≡ some_under (texts_in g.L.Listed.path_in l.items) (texts_in g.M.Listed.path_in l.others)
