use Rattle.std.proofs.Common.{◌≡◌, Bool, true, Option, Some, None, ap, sym, ◌∙◌, subst, rules, IsTrue}
use Rattle.http_core.specs.Session.{SessionValue, IsOpen}
use Rattle.cache_server.specs.Server.{ServerValue, session_at, IsOpenAt}
use Rattle.cache_server.proofs.server.Server.is_open.Goals as goal

told : (b : Bool) (o : Option SessionValue) (session : SessionValue) → o ≡ Some session → (IsTrue b → IsOpen session) × (IsOpen session → IsTrue b)
    → (IsTrue b → IsOpenAt o) × (IsOpenAt o → IsTrue b)
told b o session e h = subst (λ z. (IsTrue b → IsOpenAt z) × (IsOpenAt z → IsTrue b)) (sym e) h

told_none : (o : Option SessionValue) → o ≡ None → (IsTrue true → IsOpenAt o) × (IsOpenAt o → IsTrue true)
told_none o e = (λ t. subst IsOpenAt (sym e) tt, λ t. search rules)

pub returns-in-Some : goal.returns-in-Some
returns-in-Some g c = told c.is_open.result (session_at c.args.self.now c.args.connection) c.in-Some.session.now (ap (λ (z : ServerValue). session_at z c.args.connection) (sym c.self.view_is) ∙ sym c.in-Some.ensures.value) c.is_open.ensures

pub returns-in-None : goal.returns-in-None
returns-in-None g c = told_none (session_at c.args.self.now c.args.connection) (ap (λ (z : ServerValue). session_at z c.args.connection) (sym c.self.view_is) ∙ sym c.in-None.ensures.value)
