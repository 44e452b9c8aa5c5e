-- A client's exchanges over a stream with a session at its other end.
use Rattle.std.proofs.Common.{◌≡◌, ℕ, true, false, Option, Some, List, [], ◌∷◌, ◌++◌, map, refl, sym, ◌∙◌, ap, subst, append_assoc}
use Rattle.std.proofs.lemmas.List.{append_cancel_left}
use Rattle.sha2.specs.Sha256.{sha256}
use Rattle.http_core.specs.declared.event.Area.{Area}
use Rattle.http_core.specs.declared.event.Area.TheVariants.{Ac, Cas, Pin, Unpin}
use Rattle.http_core.specs.Event.{AskValue, EventValue, Asked, Get, Put, is_served}
use Rattle.http_core.specs.Reply.{ReplyValue, reply_text}
use Rattle.http_core.specs.Stream.{Cuts}
use Rattle.http_core.proofs.Cutting.{cut_once}
use Rattle.action_cache.specs.Machine.{CacheState}
use Rattle.cache_server.specs.Answering.{answered, answered_all}
use Rattle.cache_server.specs.Cache.{CacheValue, applied, found_reply, step, unused_cache}
use Rattle.cache_server.specs.History.{HistoryEntry, CacheAfter}
use Rattle.cache_server.proofs.Hashes.{answers_its_hash}
use Rattle.remote.specs.Line.{ConnectionValue, IsAnswerOf, get, is_taken, put}
use Rattle.remote.specs.Reply.{ReceivedReply}
use Rattle.exchange.specs.Asking.{Exchange, ask_for, event_for, replies_of, requests_of, requests_text}
use Rattle.exchange.specs.Serving.{Other, Own, Work, alone, held, own_events, own_replies, own_text, reply_by}
use Rattle.exchange.specs.Laws.{AloneIsAnswered, ClientsReadTheAnswers, GetsWhatIsHeld, PutsWhatIsTaken, PutsThenGets, WhatIsGotHasTheHash, WhatIsPutIsGot, BlobsHaveTheirHash, ResultsComeBack}
use Rattle.exchange.proofs.Machines.{HasPut, answer_found, get_found, has_put, hashed_held, put_taken, same_held, step_plain, result_held}
use Rattle.exchange.proofs.Streams.{front_read, requests_cut}
use Rattle.exchange.proofs.Tracing.{Reads, all_traced}

pub first_event : (a b : EventValue) (x y : List EventValue) → a ∷ x ≡ b ∷ y → a ≡ b
first_event a b x y e = cc

other_events : (a b : EventValue) (x y : List EventValue) → a ∷ x ≡ b ∷ y → x ≡ y
other_events a b x y e = cc

-- the replies that were read are those of the cache
all_read : (c : CacheValue) (work : List Work) (exchanges : List Exchange) (coming rest later : List ℕ) → own_events work ≡ map event_for (requests_of exchanges)
    → Reads exchanges coming rest → coming ≡ own_text c work ++ later → own_replies c work ≡ replies_of exchanges
unfolding own_text own_replies answered
all_read c [] [] coming rest later e r f = refl
all_read c [] (x ∷ exchanges) coming rest later e r f = absurd cc
all_read c (Other event ∷ work) exchanges coming rest later e r f = all_read (answered c event).1 work exchanges coming rest later e r f
all_read c (Own event ∷ work) [] coming rest later e r f = absurd cc
all_read c (Own event ∷ work) (x ∷ exchanges) coming rest later e (text, more, is, read, others) f =
    let ask : AskValue = ask_for x.request.area x.request.hash x.request.body in
    let reply : ReplyValue = (applied c ask).0 in
    let same : event ≡ Asked ask false = first_event event (event_for x.request) (own_events work) (map event_for (requests_of exchanges)) e in
    let next : CacheValue = (answered c event).1 in
    let behind : List ℕ = own_text next work ++ later in
    let ahead : text ++ more ≡ reply_text reply false ++ behind =
    sym read ∙ f ∙ append_assoc (answered c event).0 (own_text next work) later ∙ ap (λ (z : EventValue). (answered c z).0 ++ behind) same in
    let first = front_read reply.status reply.body false behind text more x.reply (step_plain c.state ask) is ahead in
    let left : more ≡ behind = append_cancel_left (reply_text reply false) more behind (ap (λ z. z ++ more) (sym first.all) ∙ ahead) in
    let told : reply_by c event ≡ x.reply = ap (reply_by c) same ∙ sym first.same in
    let after = all_read next work exchanges more rest later (other_events event (event_for x.request) (own_events work) (map event_for (requests_of exchanges)) e) others left in
    ap (λ z. z ∷ own_replies next work) told ∙ ap (λ z. x.reply ∷ z) after

pub clients_read : ClientsReadTheAnswers
clients_read old new exchanges opening work a all is s =
    let t = all_traced old.prefix old.host old new exchanges s.openings s.earlier (s.earlier ++ s.stream) (own_text opening work ++ s.later) refl refl is s.opened_before s.opened_after s.sent_before s.sent_after s.coming in
    let same : s.stream ≡ requests_text old.prefix old.host (requests_of exchanges) = append_cancel_left s.earlier s.stream (requests_text old.prefix old.host (requests_of exchanges)) t.sent in
    let asked : Cuts old.prefix s.stream (map event_for (requests_of exchanges)) (Some []) =
    subst (λ z. Cuts old.prefix z (map event_for (requests_of exchanges)) (Some [])) (sym same) (requests_cut old.prefix old.host (requests_of exchanges) a all) in
    let events = (cut_once old.prefix s.stream (own_events work) (map event_for (requests_of exchanges)) s.left (Some []) s.cut asked).0 in
    (events, all_read opening work exchanges (own_text opening work ++ s.later) t.rest s.later events t.reads refl)

-- ---- one request

first_reply : (a b : ReceivedReply) (x y : List ReceivedReply) → a ∷ x ≡ b ∷ y → a ≡ b
first_reply a b x y e = cc

second_reply : (a b c d : ReceivedReply) (x y : List ReceivedReply) → a ∷ b ∷ x ≡ c ∷ d ∷ y → b ≡ d
second_reply a b c d x y e = cc

-- a reply to a GET answers what is held
got : (c : CacheValue) (area : Area) (hash : List ℕ) (reply : ReceivedReply) (answer : Option (List ℕ)) → is_served false area ≡ true
    → reply_by c (Asked (Get area hash) false) ≡ reply → IsAnswerOf reply answer → answer ≡ held c.state area hash
got c area hash reply answer served e is =
    let found = get_found c.state area hash served in
    answer_found (held c.state area hash) reply answer
    (ap (λ (r : ReceivedReply). r.status) (sym e) ∙ ap (λ (r : ReplyValue). r.status) found) (ap (λ (r : ReceivedReply). r.body) (sym e) ∙ ap (λ (r : ReplyValue). r.body) found) is

pub gets_held : GetsWhatIsHeld
unfolding own_replies
gets_held old new area hash answer opening a served is g s =
    let x : Exchange = record { request = get area hash; reply = g.reply } in
    let told = (clients_read old new (x ∷ []) opening (alone (Asked (Get area hash) false ∷ [])) a (record { area = served; hash = is; fits = tt }, tt) (new, g.asks, refl) s).1 in
    got opening area hash g.reply answer served (first_reply (reply_by opening (Asked (Get area hash) false)) g.reply [] [] told) g.is

all_served : (area : Area) → is_served true area ≡ true
all_served Ac = refl
all_served Cas = refl
all_served Pin = refl
all_served Unpin = refl

pub puts_taken : PutsWhatIsTaken
unfolding own_replies
puts_taken old new area hash body opening a is small p s =
    let x : Exchange = record { request = put area hash body; reply = p.reply } in
    let told = (clients_read old new (x ∷ []) opening (alone (Asked (Put area hash body) false ∷ [])) a (record { area = all_served area; hash = is; fits = small }, tt) (new, p.asks, refl) s).1 in
    put_taken opening.state area hash body
    (ap (λ (r : ReceivedReply). is_taken r.status) (first_reply (reply_by opening (Asked (Put area hash body) false)) p.reply [] [] told) ∙ p.is)

-- ---- two

-- what a put and a get came to
record HasCome (area : Area) (opening after : CacheValue) (hash body : List ℕ) (answer : Option (List ℕ)) : Type 0 where
  pub taken : is_taken (applied opening (Put area hash body)).0.status ≡ true
  pub stored : after.state ≡ (step opening.state (Put area hash body)).1
  pub found : answer ≡ held after.state area hash

come : (area : Area) (opening : CacheValue) (old new : ConnectionValue) (hash body : List ℕ) (answer : Option (List ℕ)) → PutsThenGets area opening old new hash body answer
    → HasCome area opening (answered opening (Asked (Put area hash body) false)).1 hash body answer
unfolding own_replies answered
come area opening old new hash body answer t =
    let x : Exchange = record { request = put area hash body; reply = t.puts.reply } in
    let y : Exchange = record { request = get area hash; reply = t.gets.reply } in
    let first : EventValue = Asked (Put area hash body) false in
    let second : EventValue = Asked (Get area hash) false in
    let after : CacheValue = (answered opening first).1 in
    let told = (clients_read old new (x ∷ y ∷ []) opening (alone (first ∷ second ∷ [])) t.address
    (record { area = all_served area; hash = t.hash_is; fits = t.fits }, (record { area = t.area_is; hash = t.hash_is; fits = tt }, tt))
    (t.mid, t.puts.asks, (new, t.gets.asks, refl)) t.served).1 in
    record {
      taken = ap (λ (r : ReceivedReply). is_taken r.status) (first_reply (reply_by opening first) t.puts.reply (reply_by after second ∷ []) (t.gets.reply ∷ []) told) ∙ t.puts.is;
      stored = refl;
      found = got after area hash t.gets.reply answer t.area_is (second_reply (reply_by opening first) (reply_by after second) t.puts.reply t.gets.reply [] [] told) t.gets.is;
    }

put_stored : (opening after : CacheValue) (hash body : List ℕ) (answer : Option (List ℕ)) → HasCome Cas opening after hash body answer → HasPut opening.state hash body after.state
unfolding step
put_stored opening after hash body answer h = subst (HasPut opening.state hash body) (sym h.stored) (has_put opening.state hash body h.taken)

pub put_got : WhatIsPutIsGot
put_got opening old new hash body answer none t =
    let h = come Cas opening old new hash body answer t in
    let after : CacheValue = (answered opening (Asked (Put Cas hash body) false)).1 in
    h.found ∙ same_held opening.state hash body after.state (put_stored opening after hash body answer h) none

pub results_back : ResultsComeBack
unfolding step
results_back opening old new hash body answer t =
    let h = come Ac opening old new hash body answer t in
    h.found ∙ ap (λ (z : CacheState). held z Ac hash) h.stored ∙ result_held opening.state hash body h.taken

-- what a cache holds after a history has its hash
held_has : (prefix : List ℕ) (limit result_limit : ℕ) (history : List HistoryEntry) (opening : CacheValue) (hash other : List ℕ)
    → CacheAfter prefix (unused_cache limit result_limit) history opening → held opening.state Cas hash ≡ Some other → sha256 other ≡ hash
held_has prefix limit result_limit history opening hash other after e =
    let out : ReplyValue × CacheValue = applied opening (Get Cas hash) in
    let found : out.0 ≡ found_reply (Some other) = get_found opening.state Cas hash refl ∙ ap found_reply e in
    ap (λ (r : ReplyValue). sha256 r.body) (sym found) ∙ answers_its_hash prefix limit result_limit history opening out.1 hash out.0 after refl (ap (λ (r : ReplyValue). r.status) found)

pub put_got_hash : WhatIsGotHasTheHash
put_got_hash limit result_limit history opening old new hash body answer before t =
    let h = come Cas opening old new hash body answer t in
    let after : CacheValue = (answered opening (Asked (Put Cas hash body) false)).1 in
    let has = put_stored opening after hash body answer h in (
      has.holds.bytes,
      h.found ∙ has.holds.is,
      hashed_held opening.state hash body after.state has (λ other e. held_has old.prefix limit result_limit history opening hash other before e),
    )

pub blobs_hashed : BlobsHaveTheirHash
blobs_hashed limit result_limit history opening old new hash bytes before a is g s =
    held_has old.prefix limit result_limit history opening hash bytes before (sym (gets_held old new Cas hash (Some bytes) opening a refl is g s))

-- ---- a client alone

pub alone_answered : AloneIsAnswered
unfolding own_text answered_all
alone_answered opening [] = refl
alone_answered opening (event ∷ events) = ap (λ z. (answered opening event).0 ++ z) (alone_answered (answered opening event).1 events)
