use Rattle.tree.proofs.LookupLemmas.{looks_tell}
use Rattle.tree.proofs.laws.look_ups_tell_of_trees.Goals as goal

pub returns : goal.returns
returns c = looks_tell
