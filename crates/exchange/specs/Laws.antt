-- What holds of every client and every server.
use Rattle.std.specs.Prelude.{◌≡◌, ◌≢◌, ℕ, ◌≤◌, ◌<◌, Bool, true, false, List, [], ◌∷◌, length}
use Rattle.std.specs.Prelude.{map, Option, Some, None, if◌then◌else◌}
use Rattle.std.specs.List.{AllByRecursion, list_any}
use Rattle.blob_digest.specs.Body.{greatest_blob}
use Rattle.blob_digest.specs.DigestValue.{IsHash}
use Rattle.sha2.specs.Sha256.{sha256}
use Rattle.http_core.specs.declared.event.Area.{Area}
use Rattle.http_core.specs.declared.event.Area.TheVariants.{Ac, Cas}
use Rattle.http_core.specs.Event.{EventValue, Asked, Get, IsValid, Put, is_served}
use Rattle.http_core.specs.Reply.{reply_text}
use Rattle.http_core.specs.Stream.{Cuts}
use Rattle.action_cache.specs.Machine.{found}
use Rattle.action_cache.specs.Reading.{by_messages}
use Rattle.action_cache.specs.References.{is_complete}
use Rattle.cache_server.specs.Answering.{answered_all}
use Rattle.cache_server.specs.Cache.{CacheValue, applied, unused_cache}
use Rattle.cache_server.specs.History.{BringsAll, CacheAfter, HistoryEntry, is_end}
use Rattle.cache_server.specs.History.{stream_of}
use Rattle.blob_source.specs.declared.source.FetchError.TheVariants.{Failed}
use Rattle.remote.specs.declared.fault.Fault.TheVariants.{BadReply, Status}
use Rattle.remote.specs.Line.{ConnectionValue, Gets, Puts, RefusesRequest, Request}
use Rattle.remote.specs.Reply.{IsReply}
use Rattle.exchange.specs.Asking.{Exchange, Exchanges, IsAddress, IsServable, event_for}
use Rattle.exchange.specs.Asking.{replies_of, requests_of, requests_text}
use Rattle.exchange.specs.Connections.{TellsAllOver}
use Rattle.exchange.specs.Serving.{IsServed, Work, alone, event_of, held, own_events}
use Rattle.exchange.specs.Serving.{own_replies, own_text}

-- What a client sends is cut into what it asks for, with nothing left.
abbrev pub RequestsAreUnderstood : Type 0
RequestsAreUnderstood =
    (prefix host : List ℕ) (requests : List Request)
    → IsAddress prefix host → AllByRecursion IsServable requests
    → Cuts prefix (requests_text prefix host requests) (map event_for requests) (Some [])

-- a status of three digits whose replies have a body (RFC 9110, sections 15 and 15.3.5)
pub record MayHaveBody (status : ℕ) : Type 0 where
  pub low : 100 ≤ status
  pub high : status < 1000
  pub other : status ≢ 204

-- The text of an answer is read as the reply that it is of.
abbrev pub AnswersAreRead : Type 0
AnswersAreRead =
    (status : ℕ) (body : List ℕ) (close : Bool)
    → MayHaveBody status → length body ≤ greatest_blob
    → IsReply (reply_text (record { status = status; body = body }) close)
    (record { status = status; body = body; close = close })

-- A session at the other end takes the requests for what they ask, and each reply is that of the
-- cache as it is when the request comes, whatever others ask between.
abbrev pub ClientsReadTheAnswers : Type 0
ClientsReadTheAnswers =
    (old new : ConnectionValue) (exchanges : List Exchange) (opening : CacheValue)
    (work : List Work)
    → IsAddress old.prefix old.host → AllByRecursion IsServable (requests_of exchanges)
    → Exchanges old exchanges new → IsServed old.prefix opening work old.flow new.flow
    → (own_events work ≡ map event_for (requests_of exchanges))
    × (own_replies opening work ≡ replies_of exchanges)

-- A GET answers what the cache holds.
abbrev pub GetsWhatIsHeld : Type 0
GetsWhatIsHeld =
    (old new : ConnectionValue) (area : Area) (hash : List ℕ) (answer : Option (List ℕ))
    (opening : CacheValue)
    → IsAddress old.prefix old.host → is_served false area ≡ true → IsHash hash
    → Gets old new area hash answer
    → IsServed old.prefix opening (alone (Asked (Get area hash) false ∷ [])) old.flow new.flow
    → answer ≡ held opening.state area hash

-- A PUT that a client takes for done is done.
abbrev pub PutsWhatIsTaken : Type 0
PutsWhatIsTaken =
    (old new : ConnectionValue) (area : Area) (hash body : List ℕ) (opening : CacheValue)
    → IsAddress old.prefix old.host → IsHash hash → length body ≤ greatest_blob
    → Puts old new area hash body
    → IsServed old.prefix opening (alone (Asked (Put area hash body) false ∷ []))
    old.flow new.flow
    → (applied opening (Put area hash body)).0.status ≡ 200

-- A client alone puts bytes under a hash, and then gets what stands there.
pub record PutsThenGets
    (area : Area) (opening : CacheValue) (old new : ConnectionValue) (hash body : List ℕ)
    (answer : Option (List ℕ)) : Type 0 where
  pub address : IsAddress old.prefix old.host
  pub area_is : is_served false area ≡ true
  pub hash_is : IsHash hash
  pub fits : length body ≤ greatest_blob
  pub mid : ConnectionValue
  pub puts : Puts old mid area hash body
  pub gets : Gets mid new area hash answer
  pub served : IsServed old.prefix opening
      (alone (Asked (Put area hash body) false ∷ Asked (Get area hash) false ∷ []))
      old.flow new.flow

-- A blob that is put and then got is the same, if nothing else was held under its hash.
abbrev pub WhatIsPutIsGot : Type 0
WhatIsPutIsGot =
    (opening : CacheValue) (old new : ConnectionValue) (hash body : List ℕ)
    (answer : Option (List ℕ))
    → ((other : List ℕ) → held opening.state Cas hash ≡ Some other → other ≡ body)
    → PutsThenGets Cas opening old new hash body answer → answer ≡ Some body

-- After any history of a server the blob that is got has the hash of the one that was put.
abbrev pub WhatIsGotHasTheHash : Type 0
WhatIsGotHasTheHash =
    (limit result_limit : ℕ) (history : List HistoryEntry) (opening : CacheValue)
    (old new : ConnectionValue) (hash body : List ℕ) (answer : Option (List ℕ))
    → CacheAfter old.prefix (unused_cache limit result_limit) history opening
    → PutsThenGets Cas opening old new hash body answer
    → (bytes : List ℕ) × (answer ≡ Some bytes) × (sha256 bytes ≡ sha256 body)

-- After any history of a server a blob that is got has its hash.
abbrev pub BlobsHaveTheirHash : Type 0
BlobsHaveTheirHash =
    (limit result_limit : ℕ) (history : List HistoryEntry) (opening : CacheValue)
    (old new : ConnectionValue) (hash bytes : List ℕ)
    → CacheAfter old.prefix (unused_cache limit result_limit) history opening
    → IsAddress old.prefix old.host → IsHash hash → Gets old new Cas hash (Some bytes)
    → IsServed old.prefix opening (alone (Asked (Get Cas hash) false ∷ [])) old.flow new.flow
    → sha256 bytes ≡ hash

-- A result that is put and then got is the same where all is held to which it refers, and else none
-- is.
abbrev pub ResultsComeBack : Type 0
ResultsComeBack =
    (opening : CacheValue) (old new : ConnectionValue) (hash body : List ℕ)
    (answer : Option (List ℕ))
    → PutsThenGets Ac opening old new hash body answer
    → answer ≡ (if is_complete (found by_messages opening.state) by_messages body then Some body
    else None)

-- A client alone is sent what a run over its connection answers.
abbrev pub AloneIsAnswered : Type 0
AloneIsAnswered =
    (opening : CacheValue) (events : List EventValue)
    → own_text opening (alone events) ≡ (answered_all opening events).0

-- What a server sends over a connection that hasn't ended is what a cache answers to its stream,
-- whatever other connections ask meanwhile: its work is what all of them ask.
abbrev pub ConnectionsAreServed : Type 0
ConnectionsAreServed =
    (prefix : List ℕ) (opening cache : CacheValue) (k : ℕ) (history : List HistoryEntry)
    (text : List ℕ)
    → CacheAfter prefix opening history cache → list_any (is_end k) history ≡ false
    → TellsAllOver prefix opening k [] history text
    → (work : List Work) × (left : Option (List ℕ))
    × BringsAll prefix [] history (map event_of work)
    × Cuts prefix (stream_of k history) (own_events work) left × (own_text opening work ≡ text)

-- A cache that began with nothing, and that answered valid requests alone, replies with no body
-- that is too large.
abbrev pub RepliesAreSmall : Type 0
RepliesAreSmall =
    (limit result_limit : ℕ) (events : List EventValue) (work : List Work)
    → AllByRecursion IsValid events → AllByRecursion IsValid (map event_of work)
    → AllByRecursion (λ reply. length reply.body ≤ greatest_blob)
    (own_replies (answered_all (unused_cache limit result_limit) events).1 work)

-- A request is never refused for a bad reply, and for a status only if the cache replies with that,
-- as long as no body that the cache replies with is too large.
abbrev pub FaultsAreTold : Type 0
FaultsAreTold =
    (old new : ConnectionValue) (request : Request) (opening : CacheValue) (work : List Work)
    → IsAddress old.prefix old.host → IsServable request
    → RefusesRequest old new request Failed
    → IsServed old.prefix opening work old.flow new.flow
    → AllByRecursion (λ reply. length reply.body ≤ greatest_blob) (own_replies opening work)
    → (new.fault ≡ Some BadReply → ⊥)
    × ((status : ℕ) → new.fault ≡ Some (Status status)
    → map (λ reply. reply.status) (own_replies opening work) ≡ status ∷ [])
