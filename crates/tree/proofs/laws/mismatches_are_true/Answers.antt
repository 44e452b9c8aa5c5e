use Rattle.tree.proofs.TrueMismatches.{first_true}
use Rattle.tree.proofs.laws.mismatches_are_true.Goals as goal

pub returns : goal.returns
returns c = λ known g r x h. first_true known g r x h
