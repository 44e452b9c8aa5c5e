use Rattle.verifier.proofs.VerdictsAlike.{plan_looks, verdicts_agree}
use Rattle.verifier.proofs.laws.verdicts_depend_on_what_is_looked_at.Goals as goal

pub returns-clause-verdict : goal.returns-clause-verdict
returns-clause-verdict g c = λ one other sources plan recorded claim v alike. verdicts_agree g.row.A.Denot one other sources plan recorded alike claim v

pub returns-clause-looks : goal.returns-clause-looks
returns-clause-looks g c = λ one other sources plan recorded a alike. plan_looks g.row.A.Denot one other sources plan recorded alike a
