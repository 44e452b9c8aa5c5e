use Rattle.std.proofs.Common.{ℕ, List, ap, sym, ◌∙◌, subst}
use Rattle.http_core.specs.Event.{event_of}
use Rattle.http_core.specs.Reply.{ReplyValue, reply_text}
use Rattle.cache_server.specs.Answering.{MayWantFor, answered}
use Rattle.cache_server.specs.Cache.{CacheValue}
use Rattle.cache_server.proofs.Serving.{on_err}
use Rattle.cache_server.proofs.cache.Cache.answer_to.Goals as goal

pub returns-in_ok-reply-in-Ask-clause-ok : goal.returns-in_ok-reply-in-Ask-clause-ok
unfolding answered
returns-in_ok-reply-in-Ask-clause-ok g c =
    let new = c.apply.new.self in
    ap (λ e. answered c.args.self.now (event_of e)) c.in-Ask.is ∙ ap (λ (z : ReplyValue × CacheValue). (reply_text z.0 c.in-Ask.close, z.1)) c.in_ok-reply-in-Ask.ensures.ok ∙ ap (λ (t : List ℕ). (t, new)) (sym c.new.ensures)

pub returns-in_err-reply-in-Ask-clause-memory : goal.returns-in_err-reply-in-Ask-clause-memory
returns-in_err-reply-in-Ask-clause-memory g c =
    on_err c.from_residual.result (subst (λ e. MayWantFor c.args.self.now (event_of e)) (sym c.in-Ask.is) c.in_err-reply-in-Ask.ensures.memory)

pub returns-in-Refuse-clause-ok : goal.returns-in-Refuse-clause-ok
returns-in-Refuse-clause-ok g c = ap (λ e. answered c.args.self.now (event_of e)) c.in-Refuse.is ∙ c.refuse.ensures
