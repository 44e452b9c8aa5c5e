use Rattle.std.proofs.Common.{[], sym, subst}
use Rattle.http_core.specs.Session.{Stands, Reading}
use Rattle.http_core.proofs.Standing.{stands_first}
use Rattle.http_core.proofs.session.Session.new.Goals as goal

pub returns-clause-stands : goal.returns-clause-stands
returns-clause-stands g c = subst (λ z. Stands (record { prefix = c.in_ok-copied.field-0; state = Reading z }) [] []) (sym c.new.ensures.items) (stands_first c.in_ok-copied.field-0)
