use Rattle.std.proofs.Common.{◌≡◌, ℕ, ◌<◌, false, take, get_or}
use Rattle.messages.specs.Order.{has_name}
use Rattle.action_messages.proofs.Searches.{texts_in}
use Rattle.action_messages.proofs.listed.lies_under_some.Given as goal

abbrev pub invariant-loop-index : goal.invariant-loop-index
invariant-loop-index g l = (k : ℕ) → k < l.index → get_or l.text k 0 ≡ 47 → has_name (texts_in g.L.Listed.path_in l.items) (take k l.text) ≡ false
