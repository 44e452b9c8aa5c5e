-- Replies of the cache, by what the machine answers.
use Rattle.std.proofs.Common.{◌≡◌, ℕ, ◌==◌, length, arith, ◌⊎◌, inl, inr, true, false, Option, Some, None, List, [], ◌∷◌, Result, Ok, Err, OnOk, OnErr, IfErr, IfSome, refl, sym, ◌∙◌, ap}
use Rattle.std.specs.Prelude.{option_map}
use Rattle.http_core.specs.Reply.{bare}
use Rattle.action_cache.specs.declared.error.CacheError.{CacheError}
use Rattle.action_cache.specs.CacheError.{refusal_of, IsRefused}
use Rattle.action_cache.specs.Machine.{CacheState, Answer, done, nothing, refused, Refusal, get_blob}
use Rattle.action_cache.specs.Machine as machine
use Rattle.action_cache.specs.Reading.{by_messages}
use Rattle.http_core.specs.declared.event.Area.{Area}
use Rattle.http_core.specs.declared.event.Area.TheVariants.{Ac, Cas, Pin, Unpin}
use Rattle.http_core.specs.Event.{Get, Put}
use Rattle.action_cache.specs.State.{answer_of}
use Rattle.cache_server.specs.Cache.{step, found_reply, reply_to, replied, without_body}
use Rattle.action_cache.specs.declared.error.CacheError.TheVariants as cache
use Rattle.cache_server.specs.Status.{status_of, IsStatusOf, WantsMemory}

-- a change that was made or refused
pub changed : {T : Type 0} (r : Result T CacheError) (old new : CacheState) (out : Answer × CacheState) (status : ℕ)
    → OnOk r (out ≡ (done, new)) → IfErr r (IsRefused old out) → OnErr r (new ≡ old) → IsStatusOf r status → replied out ≡ (bare status, new)
changed (Ok x) old new out status made why kept told = ap replied made ∙ ap (λ z. (bare z, new)) (sym told)
changed (Err e) old new out status made why kept told = by (refusal_of e) why told
  where
    by : (o : Option Refusal) → IfSome o (λ r. out ≡ (refused r, old)) → option_map status_of o ≡ Some status → replied out ≡ (bare status, new)
    by None w t = cc
    by (Some r) w t =
        let s : status_of r ≡ status = cc in
        ap replied w ∙ ap (λ z. (bare z, old)) s ∙ ap (λ z. (bare status, z)) (sym kept)

-- a look-up of a result
pub found_result : (found : Option (List ℕ)) → reply_to (answer_of found) ≡ found_reply found
found_result None = refl
found_result (Some b) = refl

-- steps of the cache, by what its calls promise
module _ (old new : CacheState) (h b : List ℕ) where
  pub put_blob_steps : {T : Type 0} (r : Result T CacheError) (area : Area) (status : ℕ) → area ≡ Cas
      → OnOk r (machine.put_blob by_messages old h b ≡ (done, new)) → IfErr r (IsRefused old (machine.put_blob by_messages old h b)) → OnErr r (new ≡ old) → IsStatusOf r status
      → step old (Put area h b) ≡ (bare status, new)
  unfolding step
  put_blob_steps r area status is made why kept told = ap (λ a. step old (Put a h b)) is ∙ changed r old new (machine.put_blob by_messages old h b) status made why kept told

  pub put_result_steps : {T : Type 0} (r : Result T CacheError) (area : Area) (status : ℕ) → area ≡ Ac
      → OnOk r (machine.put_result by_messages old h b ≡ (done, new)) → IfErr r (IsRefused old (machine.put_result by_messages old h b)) → OnErr r (new ≡ old) → IsStatusOf r status
      → step old (Put area h b) ≡ (bare status, new)
  unfolding step
  put_result_steps r area status is made why kept told = ap (λ a. step old (Put a h b)) is ∙ changed r old new (machine.put_result by_messages old h b) status made why kept told

  pub pin_steps : {T : Type 0} (r : Result T CacheError) (area : Area) (status : ℕ) → area ≡ Pin → b ≡ []
      → OnOk r (machine.pin by_messages old h ≡ (done, new)) → IfErr r (IsRefused old (machine.pin by_messages old h)) → OnErr r (new ≡ old) → IsStatusOf r status
      → step old (Put area h b) ≡ (bare status, new)
  unfolding step
  pin_steps r area status is none made why kept told = ap (λ a. step old (Put a h b)) is ∙ ap (λ z. step old (Put Pin h z)) none ∙ changed r old new (machine.pin by_messages old h) status made why kept told

  pub unpin_steps : {T : Type 0} (r : Result T CacheError) (area : Area) (status : ℕ) → area ≡ Unpin → b ≡ []
      → OnOk r (machine.unpin by_messages old h ≡ (done, new)) → IfErr r (IsRefused old (machine.unpin by_messages old h)) → OnErr r (new ≡ old) → IsStatusOf r status
      → step old (Put area h b) ≡ (bare status, new)
  unfolding step
  unpin_steps r area status is none made why kept told = ap (λ a. step old (Put a h b)) is ∙ ap (λ z. step old (Put Unpin h z)) none ∙ changed r old new (machine.unpin by_messages old h) status made why kept told

-- a body where none may be
bodied : (s : CacheState) (b : List ℕ) (out : Answer × CacheState) → (length b == 0) ≡ false → without_body s b out ≡ (bare 400, s)
bodied s [] out e = cc
bodied s (x ∷ b) out e = refl

pub pin_bodied : (s : CacheState) (area : Area) (h b : List ℕ) → area ≡ Pin → (length b == 0) ≡ false → step s (Put area h b) ≡ (bare 400, s)
unfolding step
pin_bodied s area h b is e = ap (λ a. step s (Put a h b)) is ∙ bodied s b (machine.pin by_messages s h) e

pub unpin_bodied : (s : CacheState) (area : Area) (h b : List ℕ) → area ≡ Unpin → (length b == 0) ≡ false → step s (Put area h b) ≡ (bare 400, s)
unfolding step
unpin_bodied s area h b is e = ap (λ a. step s (Put a h b)) is ∙ bodied s b (machine.unpin by_messages s h) e

pub no_body : (b : List ℕ) → (length b == 0) ≡ true → b ≡ []
no_body [] e = refl
no_body (x ∷ b) e = absurd (grind (arith, e))

-- look-ups
pub get_blob_steps : (s new : CacheState) (h : List ℕ) (found : Option (List ℕ)) → machine.get_blob by_messages s h ≡ (answer_of found, new)
    → step s (Get Cas h) ≡ (found_reply found, new)
unfolding step
get_blob_steps s new h found e = ap replied e ∙ ap (λ z. (z, new)) (found_result found)

pub get_result_steps : (s new : CacheState) (h : List ℕ) (found : Option (List ℕ)) → machine.get_result by_messages s h ≡ (answer_of found, new)
    → step s (Get Ac h) ≡ (found_reply found, new)
unfolding step
get_result_steps s new h found e = ap replied e ∙ ap (λ z. (z, new)) (found_result found)

pub get_nothing : (s : CacheState) (area : Area) (h : List ℕ) → (area ≡ Pin) ⊎ (area ≡ Unpin) → step s (Get area h) ≡ (bare 404, s)
unfolding step
get_nothing s area h (inl e) = ap (λ a. step s (Get a h)) e
get_nothing s area h (inr e) = ap (λ a. step s (Get a h)) e

-- memory was wanting for a change
pub wanting : {T N E : Type 0} (r : Result T CacheError) (o : Result N E) (P : Type 0) → OnErr o (WantsMemory r) → (r ≡ Err cache.Memory → P) → OnErr o P
wanting r (Ok n) P w f = tt
wanting (Ok x) (Err e) P w f = absurd w
wanting (Err d) (Err e) P w f = f (ap Err w)
