use Rattle.std.proofs.Common.{is_some, ap, subst, IfErr}
use Rattle.action_cache.specs.Reading.{by_messages}
use Rattle.action_cache.specs.Machine.{CacheState, put_result as result_put}
use Rattle.action_cache.specs.State.{state_of}
use Rattle.action_cache.specs.CacheError.{IsRefused, IsNoResult}
use Rattle.action_cache.proofs.Said.{bad_told}
use Rattle.action_cache.proofs.Refusing.{unread_refused}
use Rattle.action_cache.proofs.Mirrors.{told}
use Rattle.action_cache.proofs.Replacing.{bad_put}
use Rattle.action_cache.proofs.cache.ActionCache.put_result.Goals as goal

pub returns-in_err-read_result-clause-refused : goal.returns-in_err-read_result-clause-refused
returns-in_err-read_result-clause-refused g c =
    let i = c.self.inside in
    let reader = by_messages in
    let h = c.args.hash in
    let b = c.args.bytes.items in
    let s = i.results in
    let B = i.blobs.entries in
    let flat = c.self.invariant.2 in
    let d = c.held_bytes-held.ensures.valid.distinct in
    let st = state_of i.blobs.limit s.limit B s.entries in
    let e = c.in_err-read_result.field-0.0 in
    let why : IsNoResult e b = subst (IsNoResult e) c.deref.ensures.value c.in_err-read_result.ensures.refused in
    subst (λ (w : CacheState). IfErr c.from_residual.result (IsRefused w (result_put reader w h b))) c.self.view_is
    (told c.from_residual.result e (IsRefused st (result_put reader st h b)) c.from_residual.ensures.1
    (unread_refused st (result_put reader st h b) b e why (λ none. bad_put reader i.blobs.limit B s flat d h b (ap is_some none))))

pub returns-in_err-read_result-clause-bad : goal.returns-in_err-read_result-clause-bad
returns-in_err-read_result-clause-bad g c = λ e.
    let b = c.args.bytes.items in
    let why : IsNoResult c.in_err-read_result.field-0.0 b = subst (IsNoResult c.in_err-read_result.field-0.0) c.deref.ensures.value c.in_err-read_result.ensures.refused in
    bad_told c.from_residual.result e b (told c.from_residual.result c.in_err-read_result.field-0.0 (λ x. IsNoResult x b) c.from_residual.ensures.1 why)
