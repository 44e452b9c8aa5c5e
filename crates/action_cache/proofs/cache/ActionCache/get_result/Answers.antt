use Rattle.std.proofs.Common.{◌≡◌, subst, sym, ◌∙◌, bytes_eq, refl}
use Rattle.std.specs.Prelude.{IsSome}
use Rattle.std.specs.Map.{lookup}
use Rattle.action_cache.specs.Survey.{IsSurveyUnder}
use Rattle.action_cache.specs.Reading.{by_messages}
use Rattle.action_cache.specs.Machine.{CacheState, nothing, given, under, get_result as result_got}
use Rattle.action_cache.specs.Tied.{found_in}
use Rattle.action_cache.specs.State.{state_of}
use Rattle.action_cache.proofs.Mirrors.{on_err}
use Rattle.action_cache.proofs.Getting.{unread_got, part_got}
use Rattle.action_cache.proofs.Surveyed.{found_bytes, not_gone, some_under, no_fault, a_fault, part, gets}
use Rattle.action_cache.proofs.cache.ActionCache.get_result.Goals as goal

pub returns-in_default-clause-ok : goal.returns-in_default-clause-ok
returns-in_default-clause-ok g c =
    let i = c.self.inside in
    let h = c.args.hash.now in
    let unread = subst (IsSurveyUnder i.blobs.entries i.results.entries h) c.in_default.is c.in_ok-survey.ensures.ok in
    subst (λ (w : CacheState). result_got by_messages w h ≡ (nothing, w)) c.self.view_is (unread_got by_messages i.blobs.limit i.results.limit i.blobs.entries i.results.entries h unread)

pub returns-then-is_some-clause-ok : goal.returns-then-is_some-clause-ok
returns-then-is_some-clause-ok g c =
    let i = c.self.inside in
    let h = c.args.hash.now in
    let B = i.blobs.entries in
    let s = subst (IsSurveyUnder B i.results.entries h) c.in-Some.is c.in_ok-survey.ensures.ok in
    let fault = a_fault c.in-Some.survey.fault (sym c.is_some.ensures ∙ c.if-is_some.true) in
    subst (λ (w : CacheState). result_got by_messages w h ≡ (nothing, w)) c.self.view_is
    (part_got by_messages i.blobs.limit i.results.limit B i.results.entries h s.0 s.1 (part (found_in B) s.0.bytes c.in-Some.survey s.2 fault.0 fault.1))

pub returns-in-None-clause-ok : goal.returns-in-None-clause-ok
returns-in-None-clause-ok g c =
    let R = c.self.inside.results.entries in
    let s = subst (IsSurveyUnder c.self.inside.blobs.entries R c.args.hash.now) c.in-Some.is c.in_ok-survey.ensures.ok in
    absurd (not_gone (lookup (bytes_eq c.args.hash.now) R) s.0 s.1 c.in-None.ensures)

pub invariant_of-self : goal.invariant_of-self
invariant_of-self g c =
    let i = c.self.inside in
    let h = c.args.hash.now in
    let s = subst (IsSurveyUnder i.blobs.entries i.results.entries h) c.in-Some.is c.in_ok-survey.ensures.ok in
    let copied = c.in_ok-copy-in-Some-peek.ensures.items ∙ found_bytes (lookup (bytes_eq h) i.results.entries) s.0 c.in-Some-peek.bytes.now s.1 c.in-Some-peek.ensures in
    let did = gets i.blobs i.results c.self.invariant.1 c.self.invariant.2 c.self.invariant.0 h s.0 s.1 c.in-Some.survey s.2 c.touch_each.new.blobs c.touch-held.new.self
    (no_fault c.in-Some.survey.fault (sym c.is_some.ensures ∙ c.if-is_some.false)) c.deref.result.now c.deref.ensures.value c.touch_each.ensures c.touch-held.ensures.moves c.in_ok-copy-in-Some-peek.copy.items copied in
    (did.tied, did.flat, did.heavy)

pub returns-clause-ok : goal.returns-clause-ok
returns-clause-ok g c =
    let i = c.self.inside in
    let h = c.args.hash.now in
    let s = subst (IsSurveyUnder i.blobs.entries i.results.entries h) c.in-Some.is c.in_ok-survey.ensures.ok in
    let copied = c.in_ok-copy-in-Some-peek.ensures.items ∙ found_bytes (lookup (bytes_eq h) i.results.entries) s.0 c.in-Some-peek.bytes.now s.1 c.in-Some-peek.ensures in
    let did = gets i.blobs i.results c.self.invariant.1 c.self.invariant.2 c.self.invariant.0 h s.0 s.1 c.in-Some.survey s.2 c.touch_each.new.blobs c.touch-held.new.self
    (no_fault c.in-Some.survey.fault (sym c.is_some.ensures ∙ c.if-is_some.false)) c.deref.result.now c.deref.ensures.value c.touch_each.ensures c.touch-held.ensures.moves c.in_ok-copy-in-Some-peek.copy.items copied in
    subst (λ (w : CacheState). result_got by_messages w h ≡ (given c.in_ok-copy-in-Some-peek.copy.items, state_of c.touch_each.new.blobs.limit c.touch-held.new.self.limit c.touch_each.new.blobs.entries c.touch-held.new.self.entries)) c.self.view_is did.is

pub returns-in_err-survey-clause-memory : goal.returns-in_err-survey-clause-memory
returns-in_err-survey-clause-memory g c =
    let h = c.args.hash.now in
    on_err c.from_residual.result (subst (λ (w : CacheState). IsSome (under h w.results)) c.self.view_is (some_under h c.self.inside.results.entries c.in_err-survey.ensures.err))

pub returns-in_err-copy-in-Some-peek-clause-memory : goal.returns-in_err-copy-in-Some-peek-clause-memory
returns-in_err-copy-in-Some-peek-clause-memory g c =
    let h = c.args.hash.now in
    let R = c.self.inside.results.entries in
    let s = subst (IsSurveyUnder c.self.inside.blobs.entries R h) c.in-Some.is c.in_ok-survey.ensures.ok in
    on_err c.from_residual-in_err-copy-in-Some-peek.result (subst (λ (w : CacheState). IsSome (under h w.results)) c.self.view_is (some_under h R (subst IsSome (sym s.1) refl)))
