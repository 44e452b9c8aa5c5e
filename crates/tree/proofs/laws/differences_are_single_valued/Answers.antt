use Rattle.tree.proofs.DifferenceOnce.{finds_first_once}
use Rattle.tree.proofs.laws.differences_are_single_valued.Goals as goal

pub returns : goal.returns
returns c = finds_first_once
