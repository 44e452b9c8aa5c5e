use Rattle.verifier.proofs.TwoStages.{nothing_told, other_claimed}
use Rattle.verifier.proofs.TwoTellings.{says_yes, tell_alike, tells_less, tells_more}
use Rattle.verifier.proofs.laws.two_sources_meet_the_premises.Goals as goal

pub returns-clause-less : goal.returns-clause-less
returns-clause-less g c = tells_less

pub returns-clause-yes : goal.returns-clause-yes
returns-clause-yes g c = says_yes g.row.A.Denot

pub returns-clause-no : goal.returns-clause-no
returns-clause-no g c = nothing_told g.row.A.Denot

pub returns-clause-more : goal.returns-clause-more
returns-clause-more g c = tells_more

pub returns-clause-other : goal.returns-clause-other
returns-clause-other g c = other_claimed g.row.A.Denot

pub returns-clause-alike : goal.returns-clause-alike
returns-clause-alike g c = tell_alike g.row.A.Denot
