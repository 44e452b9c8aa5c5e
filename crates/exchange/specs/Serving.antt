-- A client's stream with a session of a server at its other end.
use Rattle.std.specs.Prelude.{◌≡◌, ℕ, List, [], ◌∷◌, ◌++◌, map, Option, Some, None}
use Rattle.http_core.specs.declared.event.Area.{Area}
use Rattle.http_core.specs.declared.event.Area.TheVariants.{Ac, Cas, Pin, Unpin}
use Rattle.http_core.specs.Event.{EventValue, Asked, Refused}
use Rattle.http_core.specs.Reply.{ReplyValue}
use Rattle.http_core.specs.Stream.{Cuts}
use Rattle.action_cache.specs.Machine.{CacheState}
use Rattle.action_cache.specs.Machine as machine
use Rattle.action_cache.specs.Reading.{by_messages}
use Rattle.action_cache.specs.State.{bytes_given}
use Rattle.cache_server.specs.Answering.{answered}
use Rattle.cache_server.specs.Cache.{CacheValue, applied}
use Rattle.remote.specs.Flow.{Flow}
use Rattle.remote.specs.Reply.{ReceivedReply}

-- An event that a cache answers: of this client's stream, or of another connection.
pub data Work : Type 0 where
  Own : EventValue → Work
  Other : EventValue → Work

-- the event, whoever asks
abbrev pub event_of : Work → EventValue
event_of (Own event) = event
event_of (Other event) = event

-- what the client's stream asks for
abbrev pub own_events : List Work → List EventValue
own_events [] = []
own_events (Own event ∷ work) = event ∷ own_events work
own_events (Other event ∷ work) = own_events work

-- the text that the client is sent by a cache that does this work in turn
unfoldable pub own_text : CacheValue → List Work → List ℕ
own_text c [] = []
own_text c (Own event ∷ work) =
    let out : List ℕ × CacheValue = answered c event in out.0 ++ own_text out.1 work
own_text c (Other event ∷ work) = own_text (answered c event).1 work

-- the reply to an event, as a client reads it
abbrev pub reply_by : CacheValue → EventValue → ReceivedReply
reply_by c (Asked ask close) =
    let reply : ReplyValue = (applied c ask).0 in
    record { status = reply.status; body = reply.body; close = close }
reply_by c (Refused status close) = record { status = status; body = []; close = close }

-- the replies to the client's events, each by the cache as it is then
unfoldable pub own_replies : CacheValue → List Work → List ReceivedReply
own_replies c [] = []
own_replies c (Own event ∷ work) = reply_by c event ∷ own_replies (answered c event).1 work
own_replies c (Other event ∷ work) = own_replies (answered c event).1 work

-- the client's events, and no others
abbrev pub alone : List EventValue → List Work
alone events = map (λ event. Own event) events

-- From the one flow to the other all goes over one stream, at whose other end a session stands that
-- begins a request: what is sent is cut into the client's events, and what is to come begins with
-- the answers to them.
pub record IsServed
    (prefix : List ℕ) (opening : CacheValue) (work : List Work) (old new : Flow) : Type 0 where
  pub openings : ℕ
  pub earlier : List ℕ
  pub stream : List ℕ
  pub left : Option (List ℕ)
  pub later : List ℕ
  pub opened_before : old.openings ≡ Some openings
  pub opened_after : new.openings ≡ Some openings
  pub sent_before : old.sent ≡ Some earlier
  pub sent_after : new.sent ≡ Some (earlier ++ stream)
  pub cut : Cuts prefix stream (own_events work) left
  pub coming : old.coming ≡ Some (own_text opening work ++ later)

-- what a cache holds under the hash: a blob, or a result that is complete
abbrev pub held : CacheState → Area → List ℕ → Option (List ℕ)
held s Cas hash = bytes_given (machine.get_blob by_messages s hash).0
held s Ac hash = bytes_given (machine.get_result by_messages s hash).0
held s Pin hash = None
held s Unpin hash = None
