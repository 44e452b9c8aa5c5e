use Rattle.std.proofs.Common.{◌≡◌, Some, None, option_map, ap, sym, ◌∙◌, subst}
use Rattle.action_cache.specs.Machine.{get_result as result_got}
use Rattle.action_cache.specs.Reading.{by_messages}
use Rattle.action_cache.specs.State.{answer_of}
use Rattle.cache_server.proofs.Replying.{get_result_steps}
use Rattle.cache_server.proofs.cache.get_result.Goals as goal

pub returns-in-Some-clause-ok : goal.returns-in-Some-clause-ok
returns-in-Some-clause-ok g c =
    let s = c.args.store.now in
    let h = c.args.hash.now in
    let new = c.get_result.new.self in
    let got = subst (λ o. result_got by_messages s h ≡ (answer_of (option_map (λ v. v.items) o), new)) c.in-Some.is c.in_ok-bytes.ensures.ok in
    get_result_steps s new h (Some c.in-Some.bytes.items) got ∙ ap (λ r. (r, new)) (sym c.reply_with.ensures)

pub returns-in-None-clause-ok : goal.returns-in-None-clause-ok
returns-in-None-clause-ok g c =
    let s = c.args.store.now in
    let h = c.args.hash.now in
    let new = c.get_result.new.self in
    let got = subst (λ o. result_got by_messages s h ≡ (answer_of (option_map (λ v. v.items) o), new)) c.in-None.is c.in_ok-bytes.ensures.ok in
    get_result_steps s new h None got ∙ ap (λ r. (r, new)) (sym c.reply_with-in-None.ensures)
