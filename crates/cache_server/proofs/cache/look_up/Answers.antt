use Rattle.std.proofs.Common.{ap, sym, ◌∙◌}
use Rattle.cache_server.proofs.Replying.{get_nothing}
use Rattle.cache_server.proofs.cache.look_up.Goals as goal

pub returns-in-Pin-clause-ok : goal.returns-in-Pin-clause-ok
returns-in-Pin-clause-ok g c = get_nothing c.args.store.now c.args.area c.args.hash.now c.in-Pin.is ∙ ap (λ r. (r, c.args.store.now)) (sym c.bare.ensures)
