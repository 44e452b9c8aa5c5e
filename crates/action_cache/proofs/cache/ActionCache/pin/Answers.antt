use Rattle.std.proofs.Common.{◌≡◌, ◌<◌, arith, subst, sym, ap, ◌∙◌, refl, true, false, bytes_eq, Err, IfErr}
use Rattle.std.specs.Prelude.{IsSome, IsSomeAnd}
use Rattle.std.specs.Map.{lookup}
use Rattle.eviction.specs.Kept.{total_cost}
use Rattle.eviction.specs.Pinning.{pins_of}
use Rattle.blob_store.specs.declared.error.BlobError.TheVariants as blob
use Rattle.action_cache.specs.Survey.{IsSurveyUnder}
use Rattle.action_cache.specs.References.{refers}
use Rattle.action_cache.specs.Reading.{by_messages}
use Rattle.action_cache.specs.Machine.{CacheState, Marked, done, refused, under, pin as put_on}
use Rattle.action_cache.specs.Tied.{found_in}
use Rattle.action_cache.specs.State.{state_of}
use Rattle.action_cache.specs.CacheError.{IsRefused, of_blob}
use Rattle.action_cache.specs.declared.error.CacheError.TheVariants.{NotHeld, Incomplete}
use Rattle.action_cache.proofs.Mirrors.{told as told_as}
use Rattle.action_cache.proofs.Refusing.{only_memory}
use Rattle.action_cache.proofs.Unpinning.{pinned_entry, one_distinct, was_complete}
use Rattle.action_cache.proofs.Pinning.{part_pinned, why_fault, again, unread_pinned, few, costly}
use Rattle.action_cache.proofs.Surveyed.{some_unpinned, part, distinct, there, pins}
use Rattle.action_cache.proofs.cache.ActionCache.pin.Goals as goal

pub returns-then-pins-gt0-clause-ok : goal.returns-then-pins-gt0-clause-ok
returns-then-pins-gt0-clause-ok g c =
    let i = c.self.inside in
    let h = c.args.hash.now in
    let B = i.blobs.entries in
    let R = i.results.entries in
    let d = c.held_bytes-held.ensures.valid.distinct in
    let tied = c.self.invariant.0 in
    let told = c.pins.ensures in
    let some = c.if-pins-gt0.true in
    let counted : 0 < pins_of bytes_eq R h = omega arith in
    let f = pinned_entry (lookup (bytes_eq h) R) counted in
    subst (λ (w : CacheState). put_on by_messages w h ≡ (done, w)) c.self.view_is
    (again by_messages i.blobs.limit i.results.limit B R d tied h f.0 f.1 (was_complete by_messages i.blobs.limit i.results.limit B R d tied h f.0 f.1 f.2) f.2)

pub returns-in_default-clause-refused : goal.returns-in_default-clause-refused
returns-in_default-clause-refused g c =
    let i = c.self.inside in
    let h = c.args.hash.now in
    let B = i.blobs.entries in
    let R = i.results.entries in
    let unread = subst (IsSurveyUnder B R h) c.in_default.is c.in_ok-survey.ensures.ok in
    subst (λ (w : CacheState). IsRefused w (put_on by_messages w h) NotHeld) c.self.view_is
    (unread_pinned by_messages i.blobs.limit i.results.limit B R c.held_bytes-held.ensures.valid.distinct c.self.invariant.0 h unread)

pub returns-in-Some-fault-clause-refused : goal.returns-in-Some-fault-clause-refused
returns-in-Some-fault-clause-refused g c =
    let i = c.self.inside in
    let h = c.args.hash.now in
    let B = i.blobs.entries in
    let R = i.results.entries in
    let st = state_of i.blobs.limit i.results.limit B R in
    let s = subst (IsSurveyUnder B R h) c.in-Some.is c.in_ok-survey.ensures.ok in
    subst (λ (w : CacheState). IsRefused w (put_on by_messages w h) (Incomplete c.in-Some-fault.digest)) c.self.view_is
    (part_pinned by_messages i.blobs.limit i.results.limit B R c.held_bytes-held.ensures.valid.distinct c.self.invariant.0 h s.0 s.1 (part (found_in B) s.0.bytes c.in-Some.survey s.2 c.in-Some-fault.digest c.in-Some-fault.is)
    ∙ ap (λ r. (refused r, st)) (why_fault by_messages st s.0.bytes c.in-Some-fault.digest (sym s.2.fault ∙ c.in-Some-fault.is)))

pub returns-in_err-survey-clause-memory : goal.returns-in_err-survey-clause-memory
returns-in_err-survey-clause-memory g c is =
    let h = c.args.hash.now in
    let none : c.pins.result ≡ 0 = let n = c.if-pins-gt0.false in omega arith in
    subst (λ (w : CacheState). IsSomeAnd (under h w.results) (λ (r : Marked). r.pinned ≡ false)) c.self.view_is
    (some_unpinned h c.self.inside.results.entries c.pins.result c.pins.ensures none c.in_err-survey.ensures.err)

pub pin_all-requires-clause-counts : goal.pin_all-requires-clause-counts
pin_all-requires-clause-counts g c = λ k at.
    let i = c.self.inside in
    let R = i.results.entries in
    let tied = c.self.invariant.0.counts k in
    let most = few (λ bytes. refers (found_in i.blobs.entries) by_messages bytes k) R in
    let cost = costly R in
    let total : c.held_bytes-held.result ≡ total_cost 64 R = c.held_bytes-held.ensures.value ∙ ap (λ o. total_cost o R) c.self.invariant.2 in
    let bound = c.held_bytes-held.type_inv in
    omega arith

pub pin_all-requires-clause-distinct : goal.pin_all-requires-clause-distinct
pin_all-requires-clause-distinct g c =
    let B = c.self.inside.blobs.entries in
    let s = subst (IsSurveyUnder B c.self.inside.results.entries c.args.hash.now) c.in-Some.is c.in_ok-survey.ensures.ok in
    distinct (found_in B) s.0.bytes c.in-Some.survey s.2 c.deref.result.now c.deref.ensures.value

pub pin_all-pinned-requires-clause-distinct : goal.pin_all-pinned-requires-clause-distinct
pin_all-pinned-requires-clause-distinct g c = one_distinct c.args.hash.now

pub returns-in_err-pin_all-clause-refused : goal.returns-in_err-pin_all-clause-refused
returns-in_err-pin_all-clause-refused g c =
    let i = c.self.inside in
    let h = c.args.hash.now in
    let B = i.blobs.entries in
    let R = i.results.entries in
    let st = state_of i.blobs.limit i.results.limit B R in
    let e = c.in_err-pin_all.field-0.0 in
    let s = subst (IsSurveyUnder B R h) c.in-Some.is c.in_ok-survey.ensures.ok in
    let all = there (found_in B) s.0.bytes c.in-Some.survey s.2 c.deref.result.now c.deref.ensures.value c.in_default-fault.is in
    subst (λ (w : CacheState). IfErr c.from_residual-in_err-pin_all.result (IsRefused w (put_on by_messages w h))) c.self.view_is
    (told_as c.from_residual-in_err-pin_all.result (of_blob e) (IsRefused st (put_on by_messages st h)) c.from_residual-in_err-pin_all.ensures.1
    (only_memory st (put_on by_messages st h) e blob.NotHeld c.in_err-pin_all.ensures.errors (λ same. let no = c.in_err-pin_all.ensures.not_held.0 (ap Err same) in let both : true ≡ false = sym all ∙ no in cc)))

pub returns-in_err-pin_all-clause-memory : goal.returns-in_err-pin_all-clause-memory
returns-in_err-pin_all-clause-memory g c is =
    let h = c.args.hash.now in
    let R = c.self.inside.results.entries in
    let none : c.pins.result ≡ 0 = let n = c.if-pins-gt0.false in omega arith in
    let s = subst (IsSurveyUnder c.self.inside.blobs.entries R h) c.in-Some.is c.in_ok-survey.ensures.ok in
    subst (λ (w : CacheState). IsSomeAnd (under h w.results) (λ (r : Marked). r.pinned ≡ false)) c.self.view_is
    (some_unpinned h R c.pins.result c.pins.ensures none (subst IsSome (sym s.1) refl))

pub invariant_of-self-2 : goal.invariant_of-self-2
invariant_of-self-2 g c =
    let i = c.self.inside in
    let h = c.args.hash.now in
    let none : c.pins.result ≡ 0 = let n = c.if-pins-gt0.false in omega arith in
    let s = subst (IsSurveyUnder i.blobs.entries i.results.entries h) c.in-Some.is c.in_ok-survey.ensures.ok in
    let did = pins i.blobs i.results c.self.invariant.1 c.self.invariant.2 c.self.invariant.0 h c.held_bytes-held.ensures.valid.distinct s.0 s.1 c.in-Some.survey s.2 c.pins.result c.pins.ensures c.deref.result.now c.deref.ensures.value
    c.pin_all.new.self c.pin_all-pinned.new.self c.pin_all-pinned.result c.in_default-fault.is none c.in_ok-pin_all.ensures.ok c.pin_all-pinned.ensures.ok c.pin_all-pinned.ensures.not_held in
    (did.tied, did.flat, did.heavy)

pub returns-clause-ok : goal.returns-clause-ok
returns-clause-ok g c =
    let i = c.self.inside in
    let h = c.args.hash.now in
    let none : c.pins.result ≡ 0 = let n = c.if-pins-gt0.false in omega arith in
    let s = subst (IsSurveyUnder i.blobs.entries i.results.entries h) c.in-Some.is c.in_ok-survey.ensures.ok in
    let did = pins i.blobs i.results c.self.invariant.1 c.self.invariant.2 c.self.invariant.0 h c.held_bytes-held.ensures.valid.distinct s.0 s.1 c.in-Some.survey s.2 c.pins.result c.pins.ensures c.deref.result.now c.deref.ensures.value
    c.pin_all.new.self c.pin_all-pinned.new.self c.pin_all-pinned.result c.in_default-fault.is none c.in_ok-pin_all.ensures.ok c.pin_all-pinned.ensures.ok c.pin_all-pinned.ensures.not_held in
    subst (λ (w : CacheState). put_on by_messages w h ≡ (done, state_of c.pin_all.new.self.limit c.pin_all-pinned.new.self.limit c.pin_all.new.self.entries c.pin_all-pinned.new.self.entries)) c.self.view_is did.is
