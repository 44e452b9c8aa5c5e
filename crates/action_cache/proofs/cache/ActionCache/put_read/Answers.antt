use Rattle.std.proofs.Common.{◌≡◌, ℕ, List, Bool, refl, sym, ap, ◌∙◌, subst, bytes_eq, true, false, Err, inl, inr, ◌⊎◌, IfErr}
use Rattle.eviction.specs.declared.error.BoundedError.{BoundedError}
use Rattle.eviction.specs.declared.error.BoundedError.TheVariants as bounded
use Rattle.eviction.specs.Entering.{can_enter}
use Rattle.action_cache.specs.declared.error.CacheError.TheVariants as cache
use Rattle.action_cache.specs.declared.error.CacheError.TheVariants.{PinnedDiffers, BadResult}
use Rattle.messages.specs.declared.error.MessageError.{MessageError}
use Rattle.action_cache.specs.Reading.{by_messages}
use Rattle.action_cache.specs.Machine.{CacheState, Answer, done, refused, full, under, differs_pinned, put_result as result_put}
use Rattle.action_cache.specs.State.{state_of}
use Rattle.action_cache.specs.CacheError.{of_bounded, IsRefused}
use Rattle.action_cache.proofs.Said.{not_bad}
use Rattle.action_cache.proofs.Mirrors.{told, told_is}
use Rattle.action_cache.proofs.Replacing.{other_put, ok_put, full_put, put_done, entered_overhead, same_put, put_tied}
use Rattle.action_cache.proofs.cache.ActionCache.put_read.Goals as goal

-- whether a pinned result differs, in the machine's words
seen : (w st : CacheState) (h b l : List ℕ) (q t : Bool) → st ≡ w → l ≡ b → q ≡ differs_pinned by_messages w l (under h w.results) → q ≡ t → differs_pinned by_messages st b (under h st.results) ≡ t
seen w st h b l q t v e told is = (λ i. differs_pinned by_messages (v i) (sym e i) (under h (v i).results)) ∙ sym told ∙ is

pub returns-then-differs-clause-refused : goal.returns-then-differs-clause-refused
returns-then-differs-clause-refused g c =
    let i = c.self.inside in
    let h = c.args.hash in
    let b = c.args.bytes.items in
    let other = seen _ (state_of i.blobs.limit i.results.limit i.blobs.entries i.results.entries) h b c.deref.result.now c.differs.result true c.self.view_is c.deref.ensures.value c.differs.ensures c.if-differs.true in
    subst (λ (w : CacheState). IsRefused w (result_put by_messages w h b) PinnedDiffers) c.self.view_is (other_put by_messages i.blobs.limit i.blobs.entries i.results c.self.invariant.2 c.held_bytes-held.ensures.valid.distinct h b c.requires other)

pub invariant_of-self-2 : goal.invariant_of-self-2
invariant_of-self-2 g c =
    let i = c.self.inside in
    let h = c.args.hash in
    let b = c.args.bytes.items in
    let other = seen _ (state_of i.blobs.limit i.results.limit i.blobs.entries i.results.entries) h b c.deref.result.now c.differs.result false c.self.view_is c.deref.ensures.value c.differs.ensures c.if-differs.false in
    (put_tied by_messages i.blobs.limit i.blobs.entries i.results c.self.invariant.2 c.held_bytes-held.ensures.valid.distinct h b c.put.new.self c.in_ok-put.ensures.ok (same_put by_messages i.blobs.limit i.blobs.entries i.results c.self.invariant.2 c.held_bytes-held.ensures.valid.distinct h b other) c.self.invariant.0, c.self.invariant.1, entered_overhead i.results c.put.new.self h b c.in_ok-put.ensures.ok ∙ c.self.invariant.2)

pub returns-clause-ok : goal.returns-clause-ok
returns-clause-ok g c =
    let i = c.self.inside in
    let h = c.args.hash in
    let b = c.args.bytes.items in
    let other = seen _ (state_of i.blobs.limit i.results.limit i.blobs.entries i.results.entries) h b c.deref.result.now c.differs.result false c.self.view_is c.deref.ensures.value c.differs.ensures c.if-differs.false in
    subst (λ (w : CacheState). result_put by_messages w h b ≡ (done, state_of i.blobs.limit c.put.new.self.limit i.blobs.entries c.put.new.self.entries)) c.self.view_is (ok_put by_messages i.blobs.limit i.blobs.entries i.results c.self.invariant.2 c.held_bytes-held.ensures.valid.distinct h b c.put.new.self c.requires other c.in_ok-put.ensures.ok)

-- full or out of memory
refused_by : (st : CacheState) (out : Answer × CacheState) (e : BoundedError) → (e ≡ bounded.Full) ⊎ (e ≡ bounded.Memory) → (e ≡ bounded.Full → out ≡ (refused full, st)) → IsRefused st out (of_bounded e)
refused_by st out e (inl same) f = subst (λ x. IsRefused st out (of_bounded x)) (sym same) (f same)
refused_by st out e (inr memory) f = subst (λ x. IsRefused st out (of_bounded x)) (sym memory) tt

pub returns-in_err-put-clause-refused : goal.returns-in_err-put-clause-refused
returns-in_err-put-clause-refused g c =
    let i = c.self.inside in
    let h = c.args.hash in
    let b = c.args.bytes.items in
    let other = seen _ (state_of i.blobs.limit i.results.limit i.blobs.entries i.results.entries) h b c.deref.result.now c.differs.result false c.self.view_is c.deref.ensures.value c.differs.ensures c.if-differs.false in
    let st = state_of i.blobs.limit i.results.limit i.blobs.entries i.results.entries in
    let e = c.in_err-put.field-0.0 in
    let full : e ≡ bounded.Full → can_enter bytes_eq i.results h b ≡ false = λ q. c.in_err-put.ensures.full.0 (ap Err q) in
    subst (λ (w : CacheState). IfErr c.from_residual.result (IsRefused w (result_put by_messages w h b))) c.self.view_is
    (told c.from_residual.result (of_bounded e) (IsRefused st (result_put by_messages st h b)) c.from_residual.ensures.1
    (refused_by st (result_put by_messages st h b) e c.in_err-put.ensures.errors (λ q. full_put by_messages i.blobs.limit i.blobs.entries i.results c.self.invariant.2 c.held_bytes-held.ensures.valid.distinct h b c.requires other (full q))))

bounded_not_bad : (e : BoundedError) (d : MessageError) → (e ≡ bounded.Full) ⊎ (e ≡ bounded.Memory) → of_bounded e ≡ BadResult d → ⊥
bounded_not_bad e d (inl same) h = let no : cache.Full ≡ BadResult d = sym (ap of_bounded same) ∙ h in absurd cc
bounded_not_bad e d (inr same) h = let no : cache.Memory ≡ BadResult d = sym (ap of_bounded same) ∙ h in absurd cc

pub returns-in_err-put-clause-not_bad : goal.returns-in_err-put-clause-not_bad
returns-in_err-put-clause-not_bad g c = λ e.
    not_bad c.from_residual.result e ⊥
    (told c.from_residual.result (of_bounded c.in_err-put.field-0.0) (λ x. x ≡ BadResult e → ⊥) c.from_residual.ensures.1 (bounded_not_bad c.in_err-put.field-0.0 e c.in_err-put.ensures.errors))

bounded_memory : (e : BoundedError) → of_bounded e ≡ cache.Memory → e ≡ bounded.Memory
bounded_memory bounded.Full h = let no : cache.Full ≡ cache.Memory = h in absurd cc
bounded_memory bounded.NotHeld h = let no : cache.NotHeld ≡ cache.Memory = h in absurd cc
bounded_memory bounded.NotPinned h = let no : cache.NotPinned ≡ cache.Memory = h in absurd cc
bounded_memory bounded.Memory h = refl

not_false : (b : Bool) → (b ≡ false → ⊥) → b ≡ true
not_false true n = refl
not_false false n = absurd (n refl)

pub returns-in_err-put-clause-memory : goal.returns-in_err-put-clause-memory
returns-in_err-put-clause-memory g c is =
    let i = c.self.inside in
    let h = c.args.hash in
    let b = c.args.bytes.items in
    let other = seen _ (state_of i.blobs.limit i.results.limit i.blobs.entries i.results.entries) h b c.deref.result.now c.differs.result false c.self.view_is c.deref.ensures.value c.differs.ensures c.if-differs.false in
    let memory = bounded_memory c.in_err-put.field-0.0 (told_is c.from_residual.result (of_bounded c.in_err-put.field-0.0) cache.Memory c.from_residual.ensures.1 is) in
    let room = not_false (can_enter bytes_eq i.results h b) (λ full. let is_full = c.in_err-put.ensures.full.1 full in let no : bounded.Full ≡ bounded.Memory = cc in absurd cc) in
    subst (λ (w : CacheState). (result_put by_messages w h b).0 ≡ done) c.self.view_is (put_done by_messages i.blobs.limit i.blobs.entries i.results c.self.invariant.2 c.held_bytes-held.ensures.valid.distinct h b c.requires other room)
