use Rattle.std.proofs.Common.{◌≡◌, [], sym, subst, false, length, ◌==◌}
use Rattle.std.proofs.lemmas.Result.{IfOk-weaker}
use Rattle.http_core.specs.Event.{Put}
use Rattle.cache_server.specs.Cache.{MayWant}
use Rattle.cache_server.proofs.Replying.{put_blob_steps, put_result_steps, pin_steps, unpin_steps, pin_bodied, unpin_bodied, no_body, wanting}
use Rattle.cache_server.proofs.cache.put.Goals as goal

pub returns-then-not-is_empty-clause-ok : goal.returns-then-not-is_empty-clause-ok
returns-then-not-is_empty-clause-ok g c =
    let e : (length c.args.body == 0) ≡ false = cc in
    pin_bodied c.args.store.now c.args.area c.args.hash c.args.body c.in-Pin.is e

pub returns-then-not-is_empty-2-clause-ok : goal.returns-then-not-is_empty-2-clause-ok
returns-then-not-is_empty-2-clause-ok g c =
    let e : (length c.args.body == 0) ≡ false = cc in
    unpin_bodied c.args.store.now c.args.area c.args.hash c.args.body c.in-Unpin.is e

pub returns-in-Cas-clause-ok : goal.returns-in-Cas-clause-ok
returns-in-Cas-clause-ok g c =
    IfOk-weaker c.status_of.result _ _ (λ status told. put_blob_steps c.args.store.now c.put_sealed.new.self c.args.hash c.args.body c.put_sealed.result c.args.area status c.in-Cas.is c.put_sealed.ensures.ok c.put_sealed.ensures.refused c.put_sealed.ensures.err told) c.status_of.ensures.ok

pub returns-in-Ac-clause-ok : goal.returns-in-Ac-clause-ok
returns-in-Ac-clause-ok g c =
    let bytes : c.into_bytes.result.items ≡ c.args.body = c.into_bytes.ensures in
    rw (← bytes)
    (IfOk-weaker c.status_of-in-Ac.result _ _ (λ status told. put_result_steps c.args.store.now c.put_result.new.self c.args.hash c.into_bytes.result.items c.put_result.result c.args.area status c.in-Ac.is c.put_result.ensures.ok c.put_result.ensures.refused c.put_result.ensures.err told) c.status_of-in-Ac.ensures.ok)

pub returns-else-not-is_empty-clause-ok : goal.returns-else-not-is_empty-clause-ok
returns-else-not-is_empty-clause-ok g c =
    let none : c.args.body ≡ [] = no_body c.args.body cc in
    IfOk-weaker c.status_of-in-Pin.result _ _ (λ status told. pin_steps c.args.store.now c.pin.new.self c.args.hash c.args.body c.pin.result c.args.area status c.in-Pin.is none c.pin.ensures.ok c.pin.ensures.refused c.pin.ensures.err told) c.status_of-in-Pin.ensures.ok

pub returns-else-not-is_empty-2-clause-ok : goal.returns-else-not-is_empty-2-clause-ok
returns-else-not-is_empty-2-clause-ok g c =
    let none : c.args.body ≡ [] = no_body c.args.body cc in
    IfOk-weaker c.status_of-in-Unpin.result _ _ (λ status told. unpin_steps c.args.store.now c.unpin.new.self c.args.hash c.args.body c.unpin.result c.args.area status c.in-Unpin.is none c.unpin.ensures.ok c.unpin.ensures.refused c.unpin.ensures.err told) c.status_of-in-Unpin.ensures.ok

pub returns-in-Cas-clause-memory : goal.returns-in-Cas-clause-memory
returns-in-Cas-clause-memory g c =
    wanting c.put_sealed.result c.status_of.result (MayWant c.args.store.now (Put c.args.area c.args.hash c.args.body)) c.status_of.ensures.err
    (λ is. subst (λ a. MayWant c.args.store.now (Put a c.args.hash c.args.body)) (sym c.in-Cas.is) (c.put_sealed.ensures.memory is, c.put_sealed.ensures.held is))

pub returns-in-Ac-clause-memory : goal.returns-in-Ac-clause-memory
returns-in-Ac-clause-memory g c =
    wanting c.put_result.result c.status_of-in-Ac.result (MayWant c.args.store.now (Put c.args.area c.args.hash c.args.body)) c.status_of-in-Ac.ensures.err
    (λ is. subst (λ a. MayWant c.args.store.now (Put a c.args.hash c.args.body)) (sym c.in-Ac.is) tt)

pub returns-else-not-is_empty-clause-memory : goal.returns-else-not-is_empty-clause-memory
returns-else-not-is_empty-clause-memory g c =
    let none : c.args.body ≡ [] = no_body c.args.body cc in
    wanting c.pin.result c.status_of-in-Pin.result (MayWant c.args.store.now (Put c.args.area c.args.hash c.args.body)) c.status_of-in-Pin.ensures.err
    (λ is. subst (λ a. MayWant c.args.store.now (Put a c.args.hash c.args.body)) (sym c.in-Pin.is) (none, c.pin.ensures.memory is))

pub returns-else-not-is_empty-2-clause-memory : goal.returns-else-not-is_empty-2-clause-memory
returns-else-not-is_empty-2-clause-memory g c =
    let none : c.args.body ≡ [] = no_body c.args.body cc in
    wanting c.unpin.result c.status_of-in-Unpin.result (MayWant c.args.store.now (Put c.args.area c.args.hash c.args.body)) c.status_of-in-Unpin.ensures.err
    (λ is. subst (λ a. MayWant c.args.store.now (Put a c.args.hash c.args.body)) (sym c.in-Unpin.is) (none, c.unpin.ensures.memory is))
