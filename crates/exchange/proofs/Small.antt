-- No body that a cache holds is too large, where no PUT was.
use Rattle.std.proofs.Common.{◌≡◌, ℕ, ◌+◌, ◌≤◌, nat_lt, not, Bool, true, false, cond, Option, Some, None, is_some, option_map, List, [], ◌∷◌, length, map, bytes_eq, refl, sym, subst, arith}
use Rattle.std.specs.List.{AllByRecursion, fold}
use Rattle.std.specs.Option.{option_map_or}
use Rattle.sha2.specs.Sha256.{sha256}
use Rattle.blob_digest.specs.Body.{greatest_blob}
use Rattle.blob_digest.specs.DigestValue.{DigestValue}
use Rattle.http_core.specs.declared.event.Area.TheVariants.{Ac, Cas, Pin, Unpin}
use Rattle.http_core.specs.Event.{AskValue, EventValue, Asked, Get, IsValid, Put, Refused}
use Rattle.http_core.specs.Reply.{ReplyValue}
use Rattle.blob_store.proofs.BlobLemmas.{all_filter, all_spared_last}
use Rattle.action_cache.specs.Machine.{Answer, CacheState, Marked, blob_is_pinned, blobs_entered, differs_pinned, done, found, fronted, full, get_blob, got_blob, got_result, hash_differs, bad_result, marked, not_held, not_pinned, nothing, or_full, others_than, pin, pinned_differs, pinned_now, put_blob, put_result, refused, result_used, results_entered, too_large, under, unpin, unpinned_now, why_incomplete, with_blobs, with_results}
use Rattle.action_cache.specs.Reading.{by_messages, references_in}
use Rattle.action_cache.specs.References.{is_complete, outputs_of, references}
use Rattle.action_cache.proofs.Keeping.{all_under, fronted_all}
use Rattle.action_cache.proofs.Thinning.{enters}
use Rattle.cache_server.specs.Answering.{answered, answered_all}
use Rattle.cache_server.specs.Cache.{CacheValue, reply_to, step, unused_cache, without_body}
use Rattle.remote.specs.Reply.{ReceivedReply}
use Rattle.exchange.specs.Laws.{RepliesAreSmall}
use Rattle.exchange.specs.Serving.{Other, Own, Work, event_of, own_replies, reply_by}

abbrev IsSmallBlob : List ℕ × List ℕ → Type 0
IsSmallBlob b = length b.1 ≤ greatest_blob

abbrev IsSmallResult : List ℕ × Marked → Type 0
IsSmallResult r = length r.1.bytes ≤ greatest_blob

record AreSmall (s : CacheState) : Type 0 where
  pub blobs : AllByRecursion IsSmallBlob s.blobs
  pub results : AllByRecursion IsSmallResult s.results

-- a reply, and the state after it
record IsSmall (reply : ReplyValue) (s : CacheState) : Type 0 where
  pub body : length reply.body ≤ greatest_blob
  pub state : AreSmall s

record AnswersSmall (out : Answer × CacheState) : Type 0 where
  pub is : IsSmall (reply_to out.0) out.1

either : (b : Bool) (x y : Answer × CacheState) → AnswersSmall x → AnswersSmall y → AnswersSmall (cond b x y)
either true x y p q = p
either false x y p q = q

-- an answer without a body
bare_small : (answer : Answer) (s : CacheState) → (reply_to answer).body ≡ [] → AreSmall s → AnswersSmall (answer, s)
bare_small answer s e k = record { is = record { body = subst (λ z. length z ≤ greatest_blob) (sym e) (omega arith); state = k } }

module _ (s : CacheState) (k : AreSmall s) where
  abbrev same : (answer : Answer) → (reply_to answer).body ≡ [] → AnswersSmall (answer, s)
  same answer e = bare_small answer s e k

  fronted_small : (h : List ℕ) → AreSmall (with_blobs by_messages s (fronted h s.blobs))
  fronted_small h = record { blobs = fronted_all IsSmallBlob h s.blobs k.blobs; results = k.results }

  -- ---- blobs

  got : (h : List ℕ) (o : Option (List ℕ)) → found by_messages s h ≡ o → AnswersSmall (got_blob by_messages s h o)
  got h None e = same nothing refl
  got h (Some b) e = record { is = record { body = all_under (λ x. length x ≤ greatest_blob) h b s.blobs k.blobs e; state = fronted_small h } }

  get_blob_small : (h : List ℕ) → AnswersSmall (get_blob by_messages s h)
  get_blob_small h = either (bytes_eq (sha256 []) h) _ _ (record { is = record { body = omega arith; state = k } }) (got h (found by_messages s h) refl)

  blobs_in : (h body : List ℕ) (o : Option (List (List ℕ × List ℕ))) → length body ≤ greatest_blob → blobs_entered by_messages s h body ≡ o
      → AnswersSmall (or_full by_messages s (option_map (with_blobs by_messages s) o))
  blobs_in h body None small e = same (refused full) refl
  blobs_in h body (Some bs) small e =
      let n = enters (blob_is_pinned by_messages s) (λ b. length b.1) s.limit (h, body) (others_than h s.blobs) bs e in
      bare_small done (with_blobs by_messages s bs) refl (record {
        blobs = subst (AllByRecursion IsSmallBlob) (sym n.out_is)
            (small, all_spared_last IsSmallBlob (blob_is_pinned by_messages s) n.most (others_than h s.blobs) (all_filter IsSmallBlob (λ b. not (bytes_eq h b.0)) s.blobs k.blobs));
        results = k.results;
      })

  put_blob_small : (h body : List ℕ) → length body ≤ greatest_blob → AnswersSmall (put_blob by_messages s h body)
  put_blob_small h body small =
      either (nat_lt greatest_blob (length body)) _ _ (same (refused too_large) refl)
      (either (bytes_eq (sha256 body) h) _ _
      (either (bytes_eq (sha256 []) h) _ _ (same done refl)
      (either (is_some (found by_messages s h)) _ _ (bare_small done (with_blobs by_messages s (fronted h s.blobs)) refl (fronted_small h)) (blobs_in h body (blobs_entered by_messages s h body) small refl)))
      (same (refused hash_differs) refl))

  -- ---- results

  moved : (ds : List DigestValue) (bs : List (List ℕ × List ℕ)) → AllByRecursion IsSmallBlob bs → AllByRecursion IsSmallBlob (fold (λ es (d : DigestValue). fronted d.hash es) bs ds)
  moved [] bs a = a
  moved (d ∷ ds) bs a = moved ds (fronted d.hash bs) (fronted_all IsSmallBlob d.hash bs a)

  used : (h bytes : List ℕ) → AreSmall (result_used by_messages s h bytes)
  used h bytes = record { blobs = moved (references (found by_messages s) by_messages (outputs_of by_messages bytes)) s.blobs k.blobs; results = fronted_all IsSmallResult h s.results k.results }

  got_small : (h : List ℕ) (o : Option Marked) → under h s.results ≡ o → AnswersSmall (got_result by_messages s h o)
  got_small h None e = same nothing refl
  got_small h (Some r) e =
      either (is_complete (found by_messages s) by_messages r.bytes) _ _
      (record { is = record { body = all_under (λ (m : Marked). length m.bytes ≤ greatest_blob) h r s.results k.results e; state = used h r.bytes } }) (same nothing refl)

  results_in : (h body : List ℕ) (o : Option (List (List ℕ × Marked))) → length body ≤ greatest_blob → results_entered by_messages s h body ≡ o
      → AnswersSmall (or_full by_messages s (option_map (with_results by_messages s) o))
  results_in h body None small e = same (refused full) refl
  results_in h body (Some rs) small e =
      let new : Marked = record { bytes = body; pinned = option_map_or (λ (r : Marked). r.pinned) (under h s.results) false } in
      let n = enters (λ (r : List ℕ × Marked). r.1.pinned) (λ r. length r.1.bytes + 64) s.result_limit (h, new) (others_than h s.results) rs e in
      bare_small done (with_results by_messages s rs) refl (record {
        blobs = k.blobs;
        results = subst (AllByRecursion IsSmallResult) (sym n.out_is)
            (small, all_spared_last IsSmallResult (λ (r : List ℕ × Marked). r.1.pinned) n.most (others_than h s.results) (all_filter IsSmallResult (λ r. not (bytes_eq h r.0)) s.results k.results));
      })

  put_result_small : (h body : List ℕ) → length body ≤ greatest_blob → AnswersSmall (put_result by_messages s h body)
  put_result_small h body small =
      either (is_some (references_in body)) _ _
      (either (differs_pinned by_messages s body (under h s.results)) _ _ (same (refused pinned_differs) refl) (results_in h body (results_entered by_messages s h body) small refl))
      (same (refused bad_result) refl)

  marked_small : (on : Bool) (h : List ℕ) → AreSmall (with_results by_messages s (marked by_messages s on h))
  marked_small on h = record { blobs = k.blobs; results = each s.results k.results }
    where
      each : (rs : List (List ℕ × Marked)) → AllByRecursion IsSmallResult rs
          → AllByRecursion IsSmallResult (map (λ (r : List ℕ × Marked). (r.0, record { bytes = r.1.bytes; pinned = cond (bytes_eq h r.0) on r.1.pinned })) rs)
      each [] a = tt
      each (r ∷ rs) (first, a) = (first, each rs a)

  pin_small : (h : List ℕ) (o : Option Marked) → AnswersSmall (pinned_now by_messages s h o)
  pin_small h None = same (refused not_held) refl
  pin_small h (Some r) =
      either (is_complete (found by_messages s) by_messages r.bytes) _ _ (bare_small done (with_results by_messages s (marked by_messages s true h)) refl (marked_small true h))
      (same (refused (why_incomplete by_messages s r.bytes)) refl)

  unpin_small : (h : List ℕ) (o : Option Marked) → AnswersSmall (unpinned_now by_messages s h o)
  unpin_small h None = same (refused not_pinned) refl
  unpin_small h (Some r) = either r.pinned _ _ (bare_small done (with_results by_messages s (marked by_messages s false h)) refl (marked_small false h)) (same (refused not_pinned) refl)

  bodiless : (body : List ℕ) (out : Answer × CacheState) → AnswersSmall out → IsSmall (without_body s body out).0 (without_body s body out).1
  bodiless [] out a = a.is
  bodiless (b ∷ body) out a = record { body = omega arith; state = k }

  step_small : (ask : AskValue) → IsValid (Asked ask false) → IsSmall (step s ask).0 (step s ask).1
  unfolding step
  step_small (Get Ac h) v = (got_small h (under h s.results) refl).is
  step_small (Get Cas h) v = (get_blob_small h).is
  step_small (Get Pin h) v = record { body = omega arith; state = k }
  step_small (Get Unpin h) v = record { body = omega arith; state = k }
  step_small (Put Ac h body) v = (put_result_small h body v).is
  step_small (Put Cas h body) v = (put_blob_small h body v).is
  step_small (Put Pin h body) v = bodiless body (pin by_messages s h) (pin_small h (under h s.results))
  step_small (Put Unpin h body) v = bodiless body (unpin by_messages s h) (unpin_small h (under h s.results))

-- ---- events

valid_ask : (ask : AskValue) (close : Bool) → IsValid (Asked ask close) → IsValid (Asked ask false)
valid_ask (Get area hash) close v = v
valid_ask (Put area hash body) close v = v

after_small : (c : CacheValue) (event : EventValue) → AreSmall c.state → IsValid event → AreSmall (answered c event).1.state
unfolding answered
after_small c (Asked ask close) k v = (step_small c.state k ask (valid_ask ask close v)).state
after_small c (Refused status close) k v = k

reply_small : (c : CacheValue) (event : EventValue) → AreSmall c.state → IsValid event → length (reply_by c event).body ≤ greatest_blob
reply_small c (Asked ask close) k v = (step_small c.state k ask (valid_ask ask close v)).body
reply_small c (Refused status close) k v = omega arith

all_after : (c : CacheValue) (events : List EventValue) → AreSmall c.state → AllByRecursion IsValid events → AreSmall (answered_all c events).1.state
unfolding answered_all
all_after c [] k v = k
all_after c (event ∷ events) k (first, v) = all_after (answered c event).1 events (after_small c event k first) v

all_small : (c : CacheValue) (work : List Work) → AreSmall c.state → AllByRecursion IsValid (map event_of work) → AllByRecursion (λ (reply : ReceivedReply). length reply.body ≤ greatest_blob) (own_replies c work)
unfolding own_replies
all_small c [] k v = tt
all_small c (Own event ∷ work) k (first, v) = (reply_small c event k first, all_small (answered c event).1 work (after_small c event k first) v)
all_small c (Other event ∷ work) k (first, v) = all_small (answered c event).1 work (after_small c event k first) v

pub replies_small : RepliesAreSmall
replies_small limit result_limit events work before v = all_small (answered_all (unused_cache limit result_limit) events).1 work (all_after (unused_cache limit result_limit) events (record { blobs = tt; results = tt }) before) v
