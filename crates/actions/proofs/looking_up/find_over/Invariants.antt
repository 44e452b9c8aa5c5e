use Rattle.action_messages.proofs.Searches.{texts_in}
use Rattle.actions.proofs.PathLookups.{NoneListed}
use Rattle.actions.proofs.looking_up.find_over.Given as goal

abbrev pub invariant-loop-index : goal.invariant-loop-index
invariant-loop-index g l = NoneListed (texts_in g.L.Listed.path_in l.items) l.text l.index
