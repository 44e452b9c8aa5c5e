use Rattle.verifier.proofs.NamedMessages.{plan_looks}
use Rattle.verifier.proofs.laws.only_messages_are_looked_at.Goals as goal

pub returns : goal.returns
returns g c = λ tells sources plan recorded a is valid look. plan_looks tells sources recorded g.row.A.Denot is plan a valid look
