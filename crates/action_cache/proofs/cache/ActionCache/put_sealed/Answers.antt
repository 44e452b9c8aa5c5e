use Rattle.std.proofs.Common.{◌≡◌, ap, Err, IfErr, subst}
use Rattle.action_cache.specs.Reading.{by_messages}
use Rattle.action_cache.specs.Machine.{CacheState, done, nothing, put_blob as blob_put, get_blob as blob_got}
use Rattle.action_cache.specs.State.{state_of}
use Rattle.action_cache.specs.CacheError.{of_blob, IsRefused}
use Rattle.action_cache.specs.declared.error.CacheError.TheVariants.{Memory}
use Rattle.action_cache.proofs.Fetching.{nothing_got}
use Rattle.action_cache.proofs.Refusing.{memory_of}
use Rattle.action_cache.proofs.Mirrors.{put_ok, put_refused, put_wanting, told, told_is}
use Rattle.action_cache.proofs.cache.ActionCache.put_sealed.Goals as goal

pub returns-in_err-put_sealed-clause-refused : goal.returns-in_err-put_sealed-clause-refused
returns-in_err-put_sealed-clause-refused g c =
    let i = c.self.inside in
    let reader = by_messages in
    let b = c.args.sealed in
    let refused = put_refused reader i.blobs i.results.limit i.results.entries c.self.invariant.1 c.held_bytes-held.ensures.valid.distinct c.self.invariant.0 c.args.hash b c.in_err-put_sealed.field-0.0 c.in_err-put_sealed.ensures.refused in
    subst (λ (w : CacheState). IfErr c.from_residual.result (IsRefused w (blob_put reader w c.args.hash b))) c.self.view_is
    (told c.from_residual.result (of_blob c.in_err-put_sealed.field-0.0) (IsRefused (state_of i.blobs.limit i.results.limit i.blobs.entries i.results.entries) (blob_put reader (state_of i.blobs.limit i.results.limit i.blobs.entries i.results.entries) c.args.hash b)) c.from_residual.ensures.1 refused)

pub invariant_of-self-2 : goal.invariant_of-self-2
invariant_of-self-2 g c =
    let i = c.self.inside in
    let p = put_ok by_messages i.blobs i.results.limit i.results.entries c.self.invariant.1 c.held_bytes-held.ensures.valid.distinct c.self.invariant.0 c.args.hash c.args.sealed c.put_sealed.new.self c.in_ok-put_sealed.ensures.ok c.in_ok-put_sealed.ensures.passed in
    (p.still, p.flat_still, c.self.invariant.2)

pub returns-clause-ok : goal.returns-clause-ok
returns-clause-ok g c =
    let i = c.self.inside in
    let reader = by_messages in
    let b = c.args.sealed in
    let p = put_ok reader i.blobs i.results.limit i.results.entries c.self.invariant.1 c.held_bytes-held.ensures.valid.distinct c.self.invariant.0 c.args.hash b c.put_sealed.new.self c.in_ok-put_sealed.ensures.ok c.in_ok-put_sealed.ensures.passed in
    subst (λ (w : CacheState). blob_put reader w c.args.hash b ≡ (done, state_of c.put_sealed.new.self.limit i.results.limit c.put_sealed.new.self.entries i.results.entries)) c.self.view_is p.out_is

pub returns-in_err-put_sealed-clause-memory : goal.returns-in_err-put_sealed-clause-memory
returns-in_err-put_sealed-clause-memory g c is =
    let i = c.self.inside in
    let b = c.args.sealed in
    let e = c.in_err-put_sealed.field-0.0 in
    let memory = memory_of e (told_is c.from_residual.result (of_blob e) Memory c.from_residual.ensures.1 is) in
    subst (λ (w : CacheState). (blob_put by_messages w c.args.hash b).0 ≡ done) c.self.view_is
    (put_wanting by_messages i.blobs i.results.limit i.results.entries c.self.invariant.1 c.held_bytes-held.ensures.valid.distinct c.self.invariant.0 c.args.hash b e c.in_err-put_sealed.ensures.refused memory)

pub returns-in_err-put_sealed-clause-held : goal.returns-in_err-put_sealed-clause-held
returns-in_err-put_sealed-clause-held g c is =
    let i = c.self.inside in
    let e = c.in_err-put_sealed.field-0.0 in
    let memory = memory_of e (told_is c.from_residual.result (of_blob e) Memory c.from_residual.ensures.1 is) in
    subst (λ (w : CacheState). (blob_got by_messages w c.args.hash).0 ≡ nothing) c.self.view_is
    (nothing_got by_messages i.blobs i.results.limit i.results.entries c.args.hash (c.in_err-put_sealed.ensures.memory (ap Err memory)))
