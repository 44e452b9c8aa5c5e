-- What a history leaves is a sound cache, whose blobs stand under their hashes.
use Rattle.std.proofs.Common.{◌≡◌, ℕ, true, false, cond, List, [], ◌∷◌, Option, Some, None, bytes_eq, refl, ap, sym, ◌∙◌, subst, arith}
use Rattle.std.proofs.lemmas.Slice.Eq.{bytes_eq-Decides}
use Rattle.sha2.specs.Sha256.{sha256}
use Rattle.http_core.specs.declared.event.Area.TheVariants.{Ac, Cas, Pin, Unpin}
use Rattle.http_core.specs.Event.{AskValue, Get, Put, EventValue, Asked, Refused}
use Rattle.http_core.specs.Reply.{ReplyValue}
use Rattle.action_cache.specs.Asking as asking
use Rattle.action_cache.specs.Machine.{CacheState, Answer, given, empty_cache, found, got_blob, get_blob}
use Rattle.action_cache.specs.Reading.{by_messages}
use Rattle.action_cache.proofs.Leading.{IsSound, leads_ask}
use Rattle.action_cache.proofs.Asked.{sound_opened, hash_answered}
use Rattle.cache_server.specs.Cache.{CacheValue, step, reply_to}
use Rattle.cache_server.specs.History.{HistoryEntry, CacheAfter}
use Rattle.cache_server.specs.Laws.{AnswersItsHash}
use Rattle.cache_server.specs.Answering.{answered, answered_all}
use Rattle.cache_server.specs.Counts.{no_counts}
use Rattle.cache_server.proofs.Serving.{cache_is}

sound_step : (s : CacheState) → IsSound by_messages s → (ask : AskValue) → IsSound by_messages (step s ask).1
unfolding step
sound_step s k (Get Ac h) = (leads_ask by_messages s k (asking.GetResult h)).sound
sound_step s k (Get Cas h) = (leads_ask by_messages s k (asking.GetBlob h)).sound
sound_step s k (Get Pin h) = k
sound_step s k (Get Unpin h) = k
sound_step s k (Put Ac h b) = (leads_ask by_messages s k (asking.PutResult h b)).sound
sound_step s k (Put Cas h b) = (leads_ask by_messages s k (asking.PutBlob h b)).sound
sound_step s k (Put Pin h []) = (leads_ask by_messages s k (asking.Pin h)).sound
sound_step s k (Put Pin h (x ∷ b)) = k
sound_step s k (Put Unpin h []) = (leads_ask by_messages s k (asking.Unpin h)).sound
sound_step s k (Put Unpin h (x ∷ b)) = k

sound_one : (old : CacheValue) (event : EventValue) → IsSound by_messages old.state → IsSound by_messages (answered old event).1.state
unfolding answered
sound_one old (Asked ask close) k = sound_step old.state k ask
sound_one old (Refused status close) k = k

sound_all : (old : CacheValue) (events : List EventValue) → IsSound by_messages old.state → IsSound by_messages (answered_all old events).1.state
unfolding answered_all
sound_all old [] k = k
sound_all old (event ∷ events) k = sound_all (answered old event).1 events (sound_one old event k)

sound_after : (prefix : List ℕ) (limit result_limit : ℕ) (history : List HistoryEntry) (cache : CacheValue)
    → CacheAfter prefix (record { state = empty_cache limit result_limit; counts = no_counts }) history cache → IsSound by_messages cache.state
unfolding CacheAfter
sound_after prefix limit result_limit history cache (events, text, brings, serves) =
    let opening : CacheValue = record { state = empty_cache limit result_limit; counts = no_counts } in
    subst (λ (z : CacheValue). IsSound by_messages z.state) (cache_is (answered_all opening events) (text, cache) serves) (sound_all opening events (sound_opened by_messages limit result_limit))

replied_hash : (s : CacheState) → IsSound by_messages s → (h : List ℕ) (reply : ReplyValue) → reply_to (get_blob by_messages s h).0 ≡ reply → reply.status ≡ 200 → sha256 reply.body ≡ h
replied_hash s k h reply e ok = (elim (bytes_eq (sha256 []) h) as (λ y. bytes_eq (sha256 []) h ≡ y → reply_to (cond {A = Answer × CacheState} y (given [], s) (got_blob by_messages s h (found by_messages s h))).0 ≡ reply → sha256 reply.body ≡ h) [
  | true ↦ λ t f. ap (λ (r : ReplyValue). sha256 r.body) (sym f) ∙ (bytes_eq-Decides (sha256 []) h).0 t
  | false ↦ λ t f. by t (found by_messages s h) refl f
]) refl e
  where
    by : bytes_eq (sha256 []) h ≡ false → (o : Option (List ℕ)) → found by_messages s h ≡ o → reply_to (got_blob by_messages s h o).0 ≡ reply → sha256 reply.body ≡ h
    by t None g f = absurd (let no : 404 ≡ 200 = ap (λ (r : ReplyValue). r.status) f ∙ ok in omega arith)
    by t (Some b) g f = ap (λ (r : ReplyValue). sha256 r.body) (sym f) ∙ hash_answered by_messages s k h b (λ i. (cond {A = Answer × CacheState} (t i) (given [], s) (got_blob by_messages s h (g i))).0)

pub answers_its_hash : AnswersItsHash
unfolding step
answers_its_hash prefix limit result_limit history cache new hash reply after steps ok =
    replied_hash cache.state (sound_after prefix limit result_limit history cache after) hash reply (ap (λ (z : ReplyValue × CacheValue). z.0) steps) ok
