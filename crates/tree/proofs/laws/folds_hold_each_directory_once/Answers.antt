use Rattle.tree.proofs.Visits.{visits_once, visits_found, visits_held}
use Rattle.tree.proofs.laws.folds_hold_each_directory_once.Goals as goal

pub returns-clause-once : goal.returns-clause-once
returns-clause-once c = visits_once

pub returns-clause-all : goal.returns-clause-all
returns-clause-all c = λ t b ordered. ((λ h. let r = visits_found t b ordered h in (r.0, r.1.0, r.1.1, r.1.2)), (λ h. visits_held t b h.0 (h.1, h.2, h.3)))
