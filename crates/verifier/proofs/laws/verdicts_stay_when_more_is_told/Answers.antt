use Rattle.verifier.proofs.Lasting.{yes_stays, no_stays}
use Rattle.verifier.proofs.laws.verdicts_stay_when_more_is_told.Goals as goal

pub returns-clause-yes : goal.returns-clause-yes
returns-clause-yes g c = λ fewer more sources plan recorded claim root steps tells h. yes_stays g.row.A.Denot fewer more tells sources plan recorded claim root steps h

pub returns-clause-no : goal.returns-clause-no
returns-clause-no g c = λ fewer more sources plan recorded claim place cause tells other h. no_stays g.row.A.Denot fewer more tells sources plan recorded claim place cause other h
