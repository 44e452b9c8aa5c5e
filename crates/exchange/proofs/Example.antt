-- A put and a get of one blob.
use Rattle.std.proofs.Common.{◌≡◌, ℕ, zero, suc, ◌≤◌, nat_lt, true, false, cond, Option, Some, None, List, [], ◌∷◌, ◌++◌, length, bytes_eq, inl, refl, sym, ◌∙◌, ap, subst, arith}
use Rattle.std.proofs.lemmas.Slice.Eq.{bytes_eq-Decides}
use Rattle.std.proofs.lemmas.List.{append-nil}
use Rattle.std.specs.List.{AllByRecursion, list_all}
use Rattle.hex.specs.Hex.{IsBytes}
use Rattle.sha2.specs.Sha256.{compress, digest_bytes, first_words, hash_after, rounds, schedule, sha256}
use Rattle.sha2.proofs.Facts256.{digest_of_abc_256, length-sha256}
use Rattle.blob_digest.specs.Body.{greatest_blob}
use Rattle.blob_digest.specs.DigestValue.{IsHash}
use Rattle.http_core.specs.declared.event.Area.{Area}
use Rattle.http_core.specs.declared.event.Area.TheVariants.{Cas, Ac}
use Rattle.http_core.specs.Event.{Asked, EventValue, Get, Put, is_served}
use Rattle.http_core.specs.Reply.{ReplyValue, bare, reply_text}
use Rattle.http_core.specs.Stream.{Cuts}
use Rattle.action_cache.specs.Machine.{CacheState, with_blobs, Marked, found, under, with_results}
use Rattle.action_cache.specs.Reading.{by_messages}
use Rattle.cache_server.specs.Answering.{answered, answered_all}
use Rattle.cache_server.specs.Cache.{CacheValue, found_reply, step}
use Rattle.cache_server.specs.History.{AnswersTo, Brings, BringsAll, CacheAfter, Piece, since_end, stream_of, until_fail}
use Rattle.blob_source.specs.declared.source.FetchError.TheVariants.{Failed}
use Rattle.remote.specs.declared.fault.Fault.TheVariants.{Status}
use Rattle.http_core.specs.Request.{request_text}
use Rattle.action_cache.specs.References.{is_complete}
use Rattle.exchange.proofs.EmptyResult.{empty_read}
use Rattle.exchange.specs.Connections.{TellsAllOver}
use Rattle.remote.specs.Line.{Gets, IsReplied, Puts, RefusesRequest, Request, get, put, request_bytes}
use Rattle.remote.specs.Reply.{IsReply, ReceivedReply}
use Rattle.exchange.specs.Asking.{IsAddress, IsServable, event_for}
use Rattle.exchange.specs.Conversation.{after, before, between, blob, blob_hash, cache, client, full_reply, get_event, get_reply, get_request, history, hopeful, host, prefix, put_event, put_reply, put_request, refused, tight_cache, before_result, after_result, put_alone}
use Rattle.exchange.specs.Laws.{MayHaveBody, PutsThenGets}
use Rattle.exchange.specs.Serving.{IsServed, Work, alone, held, own_events, own_replies, own_text}
use Rattle.exchange.proofs.Lines.{both}
use Rattle.exchange.proofs.Machines.{get_found, other_held, result_found}
use Rattle.exchange.proofs.Streams.{answers_read, nothing_cut, requests_cut}

-- ---- the hash

small_bytes : (xs : List ℕ) → list_all (λ b. nat_lt b 256) xs ≡ true → IsBytes xs
small_bytes [] h i = omega arith
small_bytes (x ∷ xs) h zero = (let k = (both (nat_lt x 256) (list_all (λ b. nat_lt b 256) xs) h).0 in grind arith)
small_bytes (x ∷ xs) h (suc i) = small_bytes xs (both (nat_lt x 256) (list_all (λ b. nat_lt b 256) xs) h).1 i

bytes_as : (xs ys : List ℕ) → xs ≡ ys → list_all (λ b. nat_lt b 256) ys ≡ true → IsBytes xs
bytes_as xs ys e h = subst IsBytes (sym e) (small_bytes ys h)

pub hash_is : IsHash blob_hash
hash_is = record { len = length-sha256 blob; bytes = bytes_as blob_hash _ digest_of_abc_256 refl }

other_hash : bytes_eq (sha256 []) blob_hash ≡ false
unfolding first_words schedule rounds compress hash_after digest_bytes sha256
other_hash = refl

same_hash : bytes_eq blob_hash blob_hash ≡ true
same_hash = (bytes_eq-Decides blob_hash blob_hash).1 refl

pub address : IsAddress prefix host
address = record { prefix_is = refl; host_is = refl; host_fits = omega arith }

-- ---- the cache

pub opened : CacheAfter prefix cache [] cache
unfolding CacheAfter BringsAll answered_all
opened = ([], [], refl, refl)

nothing_held : held cache.state Cas blob_hash ≡ None
nothing_held = rw other_hash refl

pub none_held : (other : List ℕ) → held cache.state Cas blob_hash ≡ Some other → other ≡ blob
none_held other e = absurd (let no : None ≡ Some other = sym nothing_held ∙ e in cc)

-- the cache that holds the blob
abbrev full : CacheState
full = with_blobs by_messages cache.state ((blob_hash, blob) ∷ [])

put_step : step cache.state (Put Cas blob_hash blob) ≡ (bare 200, full)
unfolding step
put_step = rw (same_hash, other_hash) refl

get_step : (step full (Get Cas blob_hash)).0 ≡ found_reply (Some blob)
get_step =
    get_found full Cas blob_hash refl
    ∙ ap found_reply (other_held cache.state blob_hash blob full other_hash (Some blob) (ap (λ t. cond t (Some blob) None) same_hash))

-- ---- the client

closed_not : Some true ≡ Some false → ⊥
closed_not e = cc

-- one request and its reply over the stream in memory
one_reply : (r : Request) (sent coming request text : List ℕ) (reply : ReceivedReply) → request_bytes (client sent coming) r ≡ request → IsReply text reply → reply.close ≡ false
    → IsReplied (client sent (text ++ coming)) (client (sent ++ request) coming) r reply
one_reply r sent coming request text reply e is open_ = record {
  unbroken = refl;
  stream = (client sent (text ++ coming)).flow;
  next = record { is = inl ((refl, closed_not), refl); sent = refl };
  trip = record {
    between = (client (sent ++ request) (text ++ coming)).flow;
    asks = record { sent = ap (λ z. sent ++ z) (sym e); coming = refl; stream = record { openings = refl; refusals = refl; later = refl; is_renewable = refl } };
    answers = record { text = text; is = is; read = record { coming = refl; sent = refl; stream = record { openings = refl; refusals = refl; later = refl; is_renewable = refl } } };
  };
  stays = refl;
  closes = sym open_;
  failures = refl;
  fault = refl;
  server = record { host = refl; prefix = refl };
}

plain_200 : MayHaveBody 200
plain_200 = record { low = omega arith; high = omega arith; other = λ e. omega arith }

-- ---- the server

one_text : (c : CacheValue) (event : EventValue) (reply : List ℕ) → (answered c event).0 ≡ reply → own_text c (alone (event ∷ [])) ≡ reply
unfolding own_text
one_text c event reply e = append-nil (answered c event).0 ∙ e

two_texts : (c : CacheValue) (first second : EventValue) (x y : List ℕ) → (answered c first).0 ≡ x → (answered (answered c first).1 second).0 ≡ y
    → own_text c (alone (first ∷ second ∷ [])) ≡ x ++ y
unfolding own_text
two_texts c first second x y e f = (λ i. e i ++ (f i ++ [])) ∙ ap (λ z. x ++ z) (append-nil y)

one_cut : (r : Request) → IsServable r → Cuts prefix (request_text prefix host r.area r.hash r.body) (event_for r ∷ []) (Some [])
one_cut r is =
    subst (λ z. Cuts prefix z (event_for r ∷ []) (Some [])) (append-nil (request_text prefix host r.area r.hash r.body)) (requests_cut prefix host (r ∷ []) address (is, tt))

two_cut : (r q : Request) → IsServable r → IsServable q
    → Cuts prefix (request_text prefix host r.area r.hash r.body ++ request_text prefix host q.area q.hash q.body) (event_for r ∷ event_for q ∷ []) (Some [])
two_cut r q is be =
    subst (λ z. Cuts prefix (request_text prefix host r.area r.hash r.body ++ z) (event_for r ∷ event_for q ∷ []) (Some [])) (append-nil (request_text prefix host q.area q.hash q.body))
    (requests_cut prefix host (r ∷ q ∷ []) address (is, (be, tt)))

-- a stretch of the stream in memory
served : (c : CacheValue) (work : List Work) (earlier stream text later : List ℕ) → Cuts prefix stream (own_events work) (Some []) → own_text c work ≡ text
    → IsServed prefix c work (client earlier (text ++ later)).flow (client (earlier ++ stream) later).flow
served c work earlier stream text later cut e = record {
  openings = 0;
  earlier = earlier;
  stream = stream;
  left = Some [];
  later = later;
  opened_before = refl;
  opened_after = refl;
  sent_before = refl;
  sent_after = refl;
  cut = cut;
  coming = ap (λ z. Some (z ++ later)) (sym e);
}

-- where nothing comes later
served_last : (c : CacheValue) (work : List Work) (earlier stream text : List ℕ) → Cuts prefix stream (own_events work) (Some []) → own_text c work ≡ text
    → IsServed prefix c work (client earlier text).flow (client (earlier ++ stream) []).flow
served_last c work earlier stream text cut e =
    subst (λ z. IsServed prefix c work (client earlier z).flow (client (earlier ++ stream) []).flow) (append-nil text) (served c work earlier stream text [] cut e)

-- ---- a put and a get

abbrev put_text : Area → List ℕ → List ℕ
put_text area body = request_text prefix host area blob_hash (Some body)

abbrev get_text : Area → List ℕ
get_text area = request_text prefix host area blob_hash None

abbrev found_text : List ℕ → List ℕ
found_text body = reply_text (found_reply (Some body)) false

puts_of : (area : Area) (body coming : List ℕ) → Puts (client [] (put_reply ++ coming)) (client (put_text area body) coming) area blob_hash body
puts_of area body coming =
    let told : ReceivedReply = record { status = 200; body = []; close = false } in
    record { reply = told; asks = one_reply (put area blob_hash body) [] coming (put_text area body) put_reply told refl (answers_read 200 [] false plain_200 (omega arith)) refl; is = refl }

gets_of : (area : Area) (body sent : List ℕ) → length body ≤ greatest_blob → Gets (client sent (found_text body)) (client (sent ++ get_text area) []) area blob_hash (Some body)
gets_of area body sent small =
    let told : ReceivedReply = record { status = 200; body = body; close = false } in
    record {
      reply = told;
      asks = subst (λ z. IsReplied (client sent z) (client (sent ++ get_text area) []) (get area blob_hash) told) (append-nil (found_text body))
          (one_reply (get area blob_hash) sent [] (get_text area) (found_text body) told refl (answers_read 200 body false plain_200 small) refl);
      is = inl (refl, refl);
    }

-- the body is put, and then found
conversation : (area : Area) (body : List ℕ) → is_served false area ≡ true → is_served true area ≡ true → length body ≤ greatest_blob
    → (answered cache (Asked (Put area blob_hash body) false)).0 ≡ put_reply
    → (answered (answered cache (Asked (Put area blob_hash body) false)).1 (Asked (Get area blob_hash) false)).0 ≡ found_text body
    → PutsThenGets area cache (client [] (put_reply ++ found_text body)) (client (put_text area body ++ get_text area) []) blob_hash body (Some body)
conversation area body readable writable small put_told get_told =
    let first : EventValue = Asked (Put area blob_hash body) false in
    let second : EventValue = Asked (Get area blob_hash) false in
    record {
      address = address;
      area_is = readable;
      hash_is = hash_is;
      fits = small;
      mid = client (put_text area body) (found_text body);
      puts = puts_of area body (found_text body);
      gets = gets_of area body (put_text area body) small;
      served = served_last cache (alone (first ∷ second ∷ [])) [] (put_text area body ++ get_text area) (put_reply ++ found_text body)
          (two_cut (put area blob_hash body) (get area blob_hash) (record { area = writable; hash = hash_is; fits = small }) (record { area = readable; hash = hash_is; fits = tt }))
          (two_texts cache first second put_reply (found_text body) put_told get_told);
    }

-- ---- of a blob

put_told : (answered cache put_event).0 ≡ put_reply
unfolding answered
put_told = ap (λ (z : ReplyValue × CacheState). reply_text z.0 false) put_step

get_told : (answered (answered cache put_event).1 get_event).0 ≡ get_reply
unfolding answered
get_told = ap (λ (z : ReplyValue × CacheState). reply_text (step z.1 (Get Cas blob_hash)).0 false) put_step ∙ ap (λ z. reply_text z false) get_step

pub blob_put : Puts before between Cas blob_hash blob
blob_put = puts_of Cas blob get_reply

pub blob_got : Gets between after Cas blob_hash (Some blob)
blob_got = gets_of Cas blob put_request (omega arith)

pub blob_back : PutsThenGets Cas cache before after blob_hash blob (Some blob)
blob_back = conversation Cas blob refl refl (omega arith) put_told get_told

put_is : IsServable (put Cas blob_hash blob)
put_is = record { area = refl; hash = hash_is; fits = omega arith }

get_is : IsServable (get Cas blob_hash)
get_is = record { area = refl; hash = hash_is; fits = tt }

put_cut : Cuts prefix put_request (put_event ∷ []) (Some [])
put_cut = one_cut (put Cas blob_hash blob) put_is

pub serves_put : IsServed prefix cache (alone (put_event ∷ [])) before.flow between.flow
serves_put = served cache (alone (put_event ∷ [])) [] put_request put_reply get_reply put_cut (one_text cache put_event put_reply put_told)

pub serves_get : IsServed prefix (answered cache put_event).1 (alone (get_event ∷ [])) between.flow after.flow
serves_get = served_last (answered cache put_event).1 (alone (get_event ∷ [])) put_request get_request get_reply (one_cut (get Cas blob_hash) get_is) (one_text (answered cache put_event).1 get_event get_reply get_told)

-- ---- of a result

abbrev kept : CacheState
kept = with_results by_messages cache.state ((blob_hash, record { bytes = []; pinned = false }) ∷ [])

result_step : step cache.state (Put Ac blob_hash []) ≡ (bare 200, kept)
unfolding step
result_step = rw empty_read refl

lookup_step : (step kept (Get Ac blob_hash)).0 ≡ found_reply (Some [])
lookup_step =
    let entries : List (List ℕ × Marked) = (blob_hash, record { bytes = []; pinned = false }) ∷ [] in
    let first : under blob_hash entries ≡ Some (record { bytes = []; pinned = false }) = ap (λ t. cond t (Some (record { bytes = []; pinned = false })) None) same_hash in
    let whole : is_complete (found by_messages cache.state) by_messages [] ≡ true = rw empty_read refl in
    get_found kept Ac blob_hash refl ∙ ap found_reply (result_found cache.state blob_hash [] entries false first ∙ ap (λ t. cond {A = Option (List ℕ)} t (Some []) None) whole)

result_told : (answered cache (Asked (Put Ac blob_hash []) false)).0 ≡ put_reply
unfolding answered
result_told = ap (λ (z : ReplyValue × CacheState). reply_text z.0 false) result_step

lookup_told : (answered (answered cache (Asked (Put Ac blob_hash []) false)).1 (Asked (Get Ac blob_hash) false)).0 ≡ put_reply
unfolding answered
lookup_told = ap (λ (z : ReplyValue × CacheState). reply_text (step z.1 (Get Ac blob_hash)).0 false) result_step ∙ ap (λ z. reply_text z false) lookup_step

pub result_back : PutsThenGets Ac cache before_result after_result blob_hash [] (Some [])
result_back = conversation Ac [] refl refl (omega arith) result_told lookup_told

-- ---- a cache without room

full_step : (step tight_cache.state (Put Cas blob_hash blob)).0 ≡ bare 507
unfolding step
full_step = rw (same_hash, other_hash) refl

full_told : (answered tight_cache put_event).0 ≡ full_reply
unfolding answered
full_told = ap (λ z. reply_text z false) full_step

pub serves_full : IsServed prefix tight_cache (alone (put_event ∷ [])) hopeful.flow refused.flow
serves_full = served_last tight_cache (alone (put_event ∷ [])) [] put_request full_reply put_cut (one_text tight_cache put_event full_reply full_told)

pub full_small : AllByRecursion (λ (reply : ReceivedReply). length reply.body ≤ greatest_blob) (own_replies tight_cache (alone (put_event ∷ [])))
unfolding own_replies
full_small = (subst (λ (z : ReplyValue). length z.body ≤ greatest_blob) (sym full_step) (omega arith), tt)

plain_507 : MayHaveBody 507
plain_507 = record { low = omega arith; high = omega arith; other = λ e. omega arith }

full_asked : IsReplied hopeful (client put_request []) (put Cas blob_hash blob) (record { status = 507; body = []; close = false })
full_asked = subst (λ z. IsReplied (client [] z) (client put_request []) (put Cas blob_hash blob) (record { status = 507; body = []; close = false })) (append-nil full_reply)
    (one_reply (put Cas blob_hash blob) [] [] put_request full_reply (record { status = 507; body = []; close = false }) refl (answers_read 507 [] false plain_507 (omega arith)) refl)

pub refuses : RefusesRequest hopeful refused (put Cas blob_hash blob) Failed
refuses = record {
  broken = refl;
  failed = λ e. record {
    count = refl;
    fault = Status 507;
    kept = refl;
    is = record { unbroken = refl; stream = full_asked.stream; next = full_asked.next; reply = record { status = 507; body = []; close = false }; trip = full_asked.trip; is = refl; refused = refl };
  };
  unfailed = λ h. absurd (h refl);
  bounded = omega arith;
  still = λ e. absurd (open_ e);
  sent = record { front = put_request; rest = []; whole = sym (append-nil put_request); sent = refl };
  server = record { host = refl; prefix = refl };
}
  where
    open_ : false ≡ true → ⊥
    open_ e = cc

-- ---- a history

over : (bytes : List ℕ) → stream_of 0 (Piece 0 bytes ∷ []) ≡ bytes
unfolding stream_of until_fail since_end
over bytes = append-nil bytes

none : Cuts prefix (stream_of 0 []) [] (Some [])
unfolding stream_of until_fail since_end
none = nothing_cut prefix

brings : (bytes : List ℕ) (events : List EventValue) → Cuts prefix bytes events (Some []) → Brings prefix [] (Piece 0 bytes) events
brings bytes events cut = ([], Some [], Some [], none, subst (λ z. Cuts prefix z events (Some [])) (sym (over bytes)) cut)

after_piece : (bytes : List ℕ) (events : List EventValue) → Cuts prefix bytes events (Some []) → CacheAfter prefix cache (Piece 0 bytes ∷ []) (answered_all cache events).1
unfolding CacheAfter BringsAll
after_piece bytes events cut = (events, (answered_all cache events).0, (events, [], brings bytes events cut, refl, sym (append-nil events)), refl)

pub after_put : CacheAfter prefix cache put_alone (answered cache put_event).1
unfolding answered_all
after_put = after_piece put_request (put_event ∷ []) put_cut

abbrev out : List ℕ × CacheValue
out = answered_all cache (put_event ∷ get_event ∷ [])

both_cut : Cuts prefix (put_request ++ get_request) (put_event ∷ get_event ∷ []) (Some [])
both_cut = two_cut (put Cas blob_hash blob) (get Cas blob_hash) put_is get_is

pub after_history : CacheAfter prefix cache history out.1
after_history = after_piece (put_request ++ get_request) (put_event ∷ get_event ∷ []) both_cut

answers : AnswersTo prefix cache [] (Piece 0 (put_request ++ get_request)) out.0
unfolding AnswersTo
answers = (put_event ∷ get_event ∷ [], cache, out.1, opened, brings (put_request ++ get_request) (put_event ∷ get_event ∷ []) both_cut, refl)

pub tells : TellsAllOver prefix cache 0 [] history out.0
unfolding TellsAllOver
tells = (out.0, [], inl (refl, answers), refl, sym (append-nil out.0))
