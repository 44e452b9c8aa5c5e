use Rattle.std.proofs.Common.{◌≡◌, Some, None, ap, sym, ◌∙◌, subst}
use Rattle.action_cache.specs.Machine.{get_blob as blob_got}
use Rattle.action_cache.specs.Reading.{by_messages}
use Rattle.action_cache.specs.State.{answer_of}
use Rattle.cache_server.specs.Cache.{found_reply}
use Rattle.cache_server.proofs.Replying.{get_blob_steps}
use Rattle.cache_server.proofs.cache.get_blob.Goals as goal

pub returns-in-Some-clause-ok : goal.returns-in-Some-clause-ok
returns-in-Some-clause-ok g c =
    let s = c.args.store.now in
    let h = c.args.hash.now in
    let new = c.get_shared.new.self in
    let got = subst (λ o. blob_got by_messages s h ≡ (answer_of o, new)) c.in-Some.is c.in_ok-bytes.ensures.ok in
    get_blob_steps s new h (Some c.in-Some.bytes) got ∙ ap (λ r. (r, new)) (ap (λ b. found_reply (Some b)) (sym c.into_rc.ensures) ∙ sym c.reply_with.ensures)

pub returns-in-None-clause-ok : goal.returns-in-None-clause-ok
returns-in-None-clause-ok g c =
    let s = c.args.store.now in
    let h = c.args.hash.now in
    let new = c.get_shared.new.self in
    let got = subst (λ o. blob_got by_messages s h ≡ (answer_of o, new)) c.in-None.is c.in_ok-bytes.ensures.ok in
    get_blob_steps s new h None got ∙ ap (λ r. (r, new)) (sym c.reply_with-in-None.ensures)
