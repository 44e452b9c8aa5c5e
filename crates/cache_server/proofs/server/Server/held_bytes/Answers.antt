use Rattle.std.proofs.Common.{ap, ◌∙◌}
use Rattle.cache_server.specs.Server.{ServerValue, session_at, held_bytes_at}
use Rattle.cache_server.proofs.server.Server.held_bytes.Goals as goal

pub returns-in-Some : goal.returns-in-Some
returns-in-Some g c = c.held_bytes.ensures ∙ ap held_bytes_at (c.in-Some.ensures.value ∙ ap (λ (z : ServerValue). session_at z c.args.connection) c.self.view_is)

pub returns-in-None : goal.returns-in-None
returns-in-None g c = ap held_bytes_at (c.in-None.ensures.value ∙ ap (λ (z : ServerValue). session_at z c.args.connection) c.self.view_is)
