use Rattle.std.proofs.Common.{◌≡◌, ℕ, true, Option, Some, None, ap, sym, ◌∙◌, subst, refl}
use Rattle.std.specs.Option.{is_some}
use Rattle.http_core.specs.Session.{SessionValue}
use Rattle.cache_server.specs.Server.{ServerValue, session_at}
use Rattle.cache_server.specs.Server.{IsSessionFor}
use Rattle.cache_server.specs.Sessions.{OpensAt}
use Rattle.cache_server.proofs.server.Server.open.Goals as goal

opened : (s : ServerValue) (k : ℕ) (o : Option SessionValue) → session_at s k ≡ o → is_some o ≡ true → OpensAt s k s
opened s k None e t = cc
opened s k (Some session) e t = record { session = session; held = subst (λ z. IsSessionFor s.prefix z session) (sym e) refl; at = e; kept = record { cache = refl; prefix = refl; others = λ j n. refl } }

pub returns-then-contains_key-clause-ok : goal.returns-then-contains_key-clause-ok
returns-then-contains_key-clause-ok g c =
    opened c.args.self.now c.args.connection (session_at c.args.self.now c.args.connection) refl
    (ap (λ (z : ServerValue). is_some (session_at z c.args.connection)) (sym c.self.view_is) ∙ sym c.contains_key.ensures ∙ c.if-contains_key.true)
