use Rattle.tree.proofs.FirstDifferences.{finds_first_total}
use Rattle.tree.proofs.Totals.{looks_total}
use Rattle.tree.proofs.laws.answers_are_always_there.Goals as goal

pub returns-clause-looked : goal.returns-clause-looked
returns-clause-looked c = λ blobs d p none. looks_total blobs d p none

pub returns-clause-differs : goal.returns-clause-differs
returns-clause-differs c = λ own blobs g r valid other none. finds_first_total own blobs valid g r other none
