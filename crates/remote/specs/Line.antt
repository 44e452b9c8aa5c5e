-- A connection: its stream, and what it does with requests.
use Rattle.std.specs.Prelude.{◌≡◌, ◌≢◌, ℕ, ◌+◌, ◌==◌, ◌≤◌, ◌||◌, ◌⊎◌, Bool, true, false, List}
use Rattle.std.specs.Prelude.{Option, Some, None}
use Rattle.http_core.specs.declared.event.Area.{Area}
use Rattle.http_core.specs.Request.{request_text}
use Rattle.blob_source.specs.Source.{greatest_count}
use Rattle.blob_source.specs.declared.source.FetchError.{FetchError}
use Rattle.blob_source.specs.declared.source.FetchError.TheVariants.{Failed, Memory}
use Rattle.remote.specs.declared.fault.Fault.{Fault}
use Rattle.remote.specs.declared.fault.Fault.TheVariants.{Io, BadReply, Status, Broken}
use Rattle.remote.specs.declared.line.Line.{Line}
use Rattle.remote.specs.Flow.{Flow, IsOpenedAnew, SendsFront, SendsPart, StaysClosed}
use Rattle.remote.specs.Reply.{ReceivedReply, RoundTrip, RoundTripForNone, RoundTripForSome}
use Rattle.remote.specs.Reply.{RoundTripInPart}

-- a connection, where its stream stands as this tells
pub record ConnectionValue : Type 0 where
  pub flow : Flow
  pub host : List ℕ
  pub prefix : List ℕ
  -- whether every further request is refused
  pub broken : Bool
  -- whether the last reply closed the stream
  pub shut : Bool
  pub failures : ℕ
  -- the fault of the last failure
  pub fault : Option Fault

abbrev pub line_value : {S A : Type 0} → (S → Flow) → Line S A → ConnectionValue
line_value flow l = record {
  flow = flow l.stream;
  host = l.host;
  prefix = l.prefix;
  broken = l.broken;
  shut = l.shut;
  failures = l.failures;
  fault = l.fault;
}

-- what is asked of the server
pub record Request : Type 0 where
  pub area : Area
  pub hash : List ℕ
  pub body : Option (List ℕ)

abbrev pub request_bytes : ConnectionValue → Request → List ℕ
request_bytes line r = request_text line.prefix line.host r.area r.hash r.body

-- a PUT of the body, or a GET where there is none
abbrev pub request : Area → List ℕ → Option (List ℕ) → Request
request area hash body = record { area = area; hash = hash; body = body }

abbrev pub get : Area → List ℕ → Request
get area hash = request area hash None

abbrev pub put : Area → List ℕ → List ℕ → Request
put area hash body = request area hash (Some body)

-- requests have the same host and prefix
pub record IsSameServer (old new : ConnectionValue) : Type 0 where
  pub host : new.host ≡ old.host
  pub prefix : new.prefix ≡ old.prefix

-- ---- replies

-- the server has closed the stream, or isn't known not to have
abbrev pub MayBeClosed : ConnectionValue → Type 0
MayBeClosed line = (line.shut ≡ true) ⊎ (line.flow.is_open ≢ Some true)

-- no reply closed the stream, and it isn't known that the server has
abbrev pub MayBeOpen : ConnectionValue → Type 0
MayBeOpen line = (line.shut ≡ false) × (line.flow.is_open ≢ Some false)

-- a reply closed the stream, and it isn't known that it can be opened anew
abbrev pub MayStayShut : ConnectionValue → Type 0
MayStayShut line = (line.shut ≡ true) × (line.flow.is_renewable ≢ Some true)

-- no reply closed the stream, or it isn't known that this can't be opened anew
abbrev pub MayBeRenewed : ConnectionValue → Type 0
MayBeRenewed line = (line.shut ≡ false) ⊎ (line.flow.is_renewable ≢ Some false)

-- the stream couldn't be opened anew, where the server may have closed it
pub record IsUnopened (line : ConnectionValue) (stream : Flow) : Type 0 where
  pub closed : MayBeClosed line
  pub tried : MayBeRenewed line
  pub stays : StaysClosed line.flow stream

-- The stream for the next request: the one that there is, where that may be open, or one that was
-- opened anew, where the server may have closed that. Nothing more was sent than before.
pub record IsNextStream (line : ConnectionValue) (stream : Flow) : Type 0 where
  pub is : (MayBeOpen line × (stream ≡ line.flow))
      ⊎ (MayBeClosed line × IsOpenedAnew line.flow stream)
  pub sent : stream.sent ≡ line.flow.sent

-- The one request was sent, and the next reply in its stream is this one, which may have closed it.
pub record IsReplied (old new : ConnectionValue) (request : Request) (reply : ReceivedReply)
    : Type 0 where
  pub unbroken : old.broken ≡ false
  pub stream : Flow
  pub next : IsNextStream old stream
  pub trip : RoundTrip stream new.flow (request_bytes old request) reply
  pub stays : new.broken ≡ false
  pub closes : new.shut ≡ reply.close
  pub failures : new.failures ≡ old.failures
  pub fault : new.fault ≡ old.fault
  pub server : IsSameServer old new

-- the statuses with which a PUT is done
abbrev pub is_taken : ℕ → Bool
is_taken status = status == 200 || status == 201 || status == 202 || status == 204

-- the statuses that answer a GET, with a body or with none, or a PUT
abbrev pub is_answer : Option (List ℕ) → ℕ → Bool
is_answer None status = status == 200 || status == 404
is_answer (Some body) status = is_taken status

-- a reply with a status that is no answer came to the one request
pub record ComesStatus (old new : ConnectionValue) (request : Request) (status : ℕ) : Type 0 where
  pub unbroken : old.broken ≡ false
  pub stream : Flow
  pub next : IsNextStream old stream
  pub reply : ReceivedReply
  pub trip : RoundTrip stream new.flow (request_bytes old request) reply
  pub is : reply.status ≡ status
  pub refused : is_answer request.body status ≡ false

-- what begins no reply came to the one request
pub record ComesBadly (old new : ConnectionValue) (request : Request) : Type 0 where
  pub unbroken : old.broken ≡ false
  pub stream : Flow
  pub next : IsNextStream old stream
  pub trip : RoundTripForNone stream new.flow (request_bytes old request)

-- All of the request and the next reply didn't go over the stream for it: not all was sent, or part
-- of the reply was read.
pub record ComesInPart (old new : ConnectionValue) (request : Request) : Type 0 where
  pub stream : Flow
  pub next : IsNextStream old stream
  pub part : SendsPart stream new.flow (request_bytes old request)
      ⊎ RoundTripInPart stream new.flow (request_bytes old request)

-- the stream failed: it couldn't be opened anew, or ended within the request or the reply
abbrev pub IsStreamFault : ConnectionValue → ConnectionValue → Request → Type 0
IsStreamFault old new request =
    IsUnopened old new.flow ⊎ ComesInPart old new request

-- no request goes out any more: one was refused, or a reply closed a stream that isn't opened anew
abbrev pub AsksNoMore : ConnectionValue → Type 0
AsksNoMore line = (line.broken ≡ true) ⊎ MayStayShut line

-- The fault is Broken where no request goes out any more, and nothing was sent or read then.
abbrev pub IsConnectionFault : ConnectionValue → ConnectionValue → Request → Fault → Type 0
IsConnectionFault old new request Io = (old.broken ≡ false) × IsStreamFault old new request
IsConnectionFault old new request BadReply = ComesBadly old new request
IsConnectionFault old new request (Status status) = ComesStatus old new request status
IsConnectionFault old new request Broken = AsksNoMore old × (new.flow ≡ old.flow)

-- a failure was counted, and its fault is kept
pub record IsCounted (old new : ConnectionValue) (request : Request) : Type 0 where
  pub count : new.failures ≡ old.failures + 1
  pub fault : Fault
  pub kept : new.fault ≡ Some fault
  pub is : IsConnectionFault old new request fault

-- nothing of this kind was counted
pub record IsUncounted (old new : ConnectionValue) : Type 0 where
  pub count : new.failures ≡ old.failures
  pub fault : new.fault ≡ old.fault

-- The refusal leaves the connection broken. A broken one sends and reads nothing, and another sends
-- no more than the one request.
pub record RefusesRequest (old new : ConnectionValue) (request : Request) (e : FetchError)
    : Type 0 where
  pub broken : new.broken ≡ true
  pub failed : e ≡ Failed → IsCounted old new request
  pub unfailed : (e ≡ Failed → ⊥) → IsUncounted old new
  pub bounded : new.failures ≤ greatest_count
  pub still : old.broken ≡ true → new.flow ≡ old.flow
  pub sent : SendsFront old.flow new.flow (request_bytes old request)
  pub server : IsSameServer old new

-- Memory was wanting for the text of the request, before anything of it was sent, or for what was
-- read after it.
pub record LacksMemory (old new : ConnectionValue) (request : Request) : Type 0 where
  pub unbroken : old.broken ≡ false
  pub stream : Flow
  pub next : IsNextStream old stream
  pub is : (new.flow ≡ stream) ⊎ RoundTripForSome stream new.flow (request_bytes old request)

-- A refusal for lack of memory is told for nothing else, but where a failure can't be counted.
pub record ExplainsMemory (old new : ConnectionValue) (request : Request) (e : FetchError)
    : Type 0 where
  pub lacks : e ≡ Memory → (old.failures ≡ greatest_count) ⊎ LacksMemory old new request

-- the answer of a reply: its body with status 200, and none with status 404
abbrev pub IsAnswerOf : ReceivedReply → Option (List ℕ) → Type 0
IsAnswerOf reply answer =
    ((reply.status ≡ 200) × (answer ≡ Some reply.body))
    ⊎ ((reply.status ≡ 404) × (answer ≡ None))

-- the answer to a GET is that of the reply
pub record Gets (old new : ConnectionValue) (area : Area) (hash : List ℕ) (answer : Option (List ℕ))
    : Type 0 where
  pub reply : ReceivedReply
  pub asks : IsReplied old new (get area hash) reply
  pub is : IsAnswerOf reply answer

-- the PUT of these bytes was answered with status 200, 201, 202 or 204
pub record Puts (old new : ConnectionValue) (area : Area) (hash body : List ℕ) : Type 0 where
  pub reply : ReceivedReply
  pub asks : IsReplied old new (put area hash body) reply
  pub is : is_taken reply.status ≡ true
