use Rattle.tree.proofs.TrueDifferences.{finds_first_true}
use Rattle.tree.proofs.laws.differences_are_true.Goals as goal

pub returns : goal.returns
returns c = λ own blobs g r x h. finds_first_true own blobs g r x h
