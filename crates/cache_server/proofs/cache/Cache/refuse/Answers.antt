use Rattle.std.proofs.Common.{ℕ, List, ap, sym, ◌∙◌}
use Rattle.http_core.specs.Event.{Refused}
use Rattle.http_core.specs.Reply.{ReplyValue, bare, reply_text}
use Rattle.cache_server.specs.Answering.{answered}
use Rattle.cache_server.specs.Cache.{CacheValue}
use Rattle.cache_server.specs.declared.counts.Counts.{Counts}
use Rattle.cache_server.proofs.cache.Cache.refuse.Goals as goal

pub returns : goal.returns
unfolding answered
returns g c =
    let status = c.args.status in
    let close = c.args.close in
    let state = c.self.inside.store in
    let new : CacheValue = record { state = state; counts = c.count_other.new.self } in
    ap (λ (z : CacheValue). answered z (Refused status close)) (sym c.self.view_is)
    ∙ ap (λ (k : Counts). let z : CacheValue = record { state = state; counts = k } in (reply_text (bare status) close, z)) (sym c.count_other.ensures)
    ∙ ap (λ (t : List ℕ). (t, new)) (ap (λ (r : ReplyValue). reply_text r close) (sym c.bare.ensures) ∙ sym c.new.ensures)
