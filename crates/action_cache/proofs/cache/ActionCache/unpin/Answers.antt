use Rattle.std.proofs.Common.{◌≡◌, subst, sym, ap, ◌∙◌, true, false, Err, IfErr}
use Rattle.blob_store.specs.declared.error.BlobError.TheVariants as blob
use Rattle.action_cache.specs.Survey.{IsSurveyUnder}
use Rattle.action_cache.specs.Reading.{by_messages}
use Rattle.action_cache.specs.Machine.{CacheState, done, unpin as take_off}
use Rattle.action_cache.specs.Tied.{found_in}
use Rattle.action_cache.specs.State.{state_of}
use Rattle.action_cache.specs.CacheError.{IsRefused, of_blob}
use Rattle.action_cache.specs.declared.error.CacheError.TheVariants.{NotPinned}
use Rattle.action_cache.proofs.Mirrors.{told as told_as}
use Rattle.action_cache.proofs.Refusing.{only_memory}
use Rattle.action_cache.proofs.Unpinning.{no_pins, one_distinct}
use Rattle.action_cache.proofs.Surveyed.{distinct, unpins, was_read, counted, takes_off}
use Rattle.action_cache.proofs.cache.ActionCache.unpin.Goals as goal

pub returns-then-pins-eq0-clause-refused : goal.returns-then-pins-eq0-clause-refused
returns-then-pins-eq0-clause-refused g c =
    let i = c.self.inside in
    subst (λ (w : CacheState). IsRefused w (take_off by_messages w c.args.hash.now) NotPinned) c.self.view_is
    (no_pins by_messages i.blobs.limit i.results.limit i.blobs.entries i.results.entries c.args.hash.now (sym c.pins.ensures ∙ c.if-pins-eq0.true))

pub returns-in_err-survey-clause-memory : goal.returns-in_err-survey-clause-memory
returns-in_err-survey-clause-memory g c is =
    let i = c.self.inside in
    subst (λ (w : CacheState). (take_off by_messages w c.args.hash.now).0 ≡ done) c.self.view_is
    (unpins i.blobs i.results c.self.invariant.1 c.self.invariant.2 c.self.invariant.0 c.args.hash.now c.pins.result c.pins.ensures c.if-pins-eq0.false)

pub returns-in_default-clause-refused : goal.returns-in_default-clause-refused
returns-in_default-clause-refused g c =
    let i = c.self.inside in
    let h = c.args.hash.now in
    let unread = subst (IsSurveyUnder i.blobs.entries i.results.entries h) c.in_default.is c.in_ok-survey.ensures.ok in
    absurd (was_read i.blobs i.results c.self.invariant.1 c.self.invariant.2 c.self.invariant.0 h c.held_bytes-held.ensures.valid.distinct c.pins.result c.pins.ensures c.if-pins-eq0.false unread)

pub unpin-requires : goal.unpin-requires
unpin-requires g c =
    let B = c.self.inside.blobs.entries in
    let s = subst (IsSurveyUnder B c.self.inside.results.entries c.args.hash.now) c.in-Some.is c.in_ok-survey.ensures.ok in
    distinct (found_in B) s.0.bytes c.in-Some.survey s.2 c.deref.result.now c.deref.ensures.value

pub unpin-unpinned-requires : goal.unpin-unpinned-requires
unpin-unpinned-requires g c = one_distinct c.args.hash.now

pub returns-in_err-unpin-clause-refused : goal.returns-in_err-unpin-clause-refused
returns-in_err-unpin-clause-refused g c =
    let i = c.self.inside in
    let h = c.args.hash.now in
    let st = state_of i.blobs.limit i.results.limit i.blobs.entries i.results.entries in
    let e = c.in_err-unpin.field-0.0 in
    let s = subst (IsSurveyUnder i.blobs.entries i.results.entries h) c.in-Some.is c.in_ok-survey.ensures.ok in
    let all = counted i.blobs i.results c.self.invariant.1 c.self.invariant.2 c.self.invariant.0 h c.held_bytes-held.ensures.valid.distinct s.0 s.1 c.in-Some.survey s.2 c.pins.result c.pins.ensures c.deref.result.now c.deref.ensures.value c.if-pins-eq0.false in
    subst (λ (w : CacheState). IfErr c.from_residual-in_err-unpin.result (IsRefused w (take_off by_messages w h))) c.self.view_is
    (told_as c.from_residual-in_err-unpin.result (of_blob e) (IsRefused st (take_off by_messages st h)) c.from_residual-in_err-unpin.ensures.1
    (only_memory st (take_off by_messages st h) e blob.NotPinned c.in_err-unpin.ensures.errors (λ same. let no = c.in_err-unpin.ensures.not_pinned.0 (ap Err same) in let both : true ≡ false = sym all ∙ no in cc)))

pub returns-in_err-unpin-clause-memory : goal.returns-in_err-unpin-clause-memory
returns-in_err-unpin-clause-memory g c is =
    let i = c.self.inside in
    subst (λ (w : CacheState). (take_off by_messages w c.args.hash.now).0 ≡ done) c.self.view_is
    (unpins i.blobs i.results c.self.invariant.1 c.self.invariant.2 c.self.invariant.0 c.args.hash.now c.pins.result c.pins.ensures c.if-pins-eq0.false)

pub invariant_of-self-2 : goal.invariant_of-self-2
invariant_of-self-2 g c =
    let i = c.self.inside in
    let h = c.args.hash.now in
    let s = subst (IsSurveyUnder i.blobs.entries i.results.entries h) c.in-Some.is c.in_ok-survey.ensures.ok in
    let did = takes_off i.blobs i.results c.self.invariant.1 c.self.invariant.2 c.self.invariant.0 h c.held_bytes-held.ensures.valid.distinct s.0 s.1 c.in-Some.survey s.2 c.pins.result c.pins.ensures c.deref.result.now c.deref.ensures.value
    c.if-pins-eq0.false c.unpin.new.self c.unpin-unpinned.new.self c.unpin-unpinned.result c.in_ok-unpin.ensures.ok c.unpin-unpinned.ensures.ok c.unpin-unpinned.ensures.not_pinned in
    (did.tied, did.flat, did.heavy)

pub returns-clause-ok : goal.returns-clause-ok
returns-clause-ok g c =
    let i = c.self.inside in
    let h = c.args.hash.now in
    let s = subst (IsSurveyUnder i.blobs.entries i.results.entries h) c.in-Some.is c.in_ok-survey.ensures.ok in
    let did = takes_off i.blobs i.results c.self.invariant.1 c.self.invariant.2 c.self.invariant.0 h c.held_bytes-held.ensures.valid.distinct s.0 s.1 c.in-Some.survey s.2 c.pins.result c.pins.ensures c.deref.result.now c.deref.ensures.value
    c.if-pins-eq0.false c.unpin.new.self c.unpin-unpinned.new.self c.unpin-unpinned.result c.in_ok-unpin.ensures.ok c.unpin-unpinned.ensures.ok c.unpin-unpinned.ensures.not_pinned in
    subst (λ (w : CacheState). take_off by_messages w h ≡ (done, state_of c.unpin.new.self.limit c.unpin-unpinned.new.self.limit c.unpin.new.self.entries c.unpin-unpinned.new.self.entries)) c.self.view_is did.is
