use Rattle.std.proofs.Common.{◌≡◌, Some, ap, sym, ◌∙◌, subst}
use Rattle.std.proofs.lemmas.Result.{on_err_weaker}
use Rattle.cache_server.specs.Server.{ServerValue, IsOpenAt, session_at}
use Rattle.cache_server.proofs.server.Server.first.Goals as goal

pub returns-in-Some-clause-memory : goal.returns-in-Some-clause-memory
returns-in-Some-clause-memory g c =
    let found : session_at c.args.self.now c.args.connection ≡ Some c.in-Some.session.now = ap (λ (z : ServerValue). session_at z c.args.connection) (sym c.self.view_is) ∙ sym c.in-Some.ensures.value in
    on_err_weaker c.next.result (λ m. subst IsOpenAt (sym found) m.opened) c.next.ensures.memory
