-- An open connection, one of many.
use Rattle.std.specs.Prelude.{◌≡◌, ◌⊎◌, ℕ, ◌+◌, ◌-◌, ◌<◌, ◌≤◌, min, ⊤, Bool, true, false, List, []}
use Rattle.std.specs.Prelude.{◌++◌, ◌==◌, ◌||◌, ◌/◌, count_by, length, nat_lt, if◌then◌else◌}
use Rattle.std.specs.Prelude.{◌∷◌, drop, Option, Some, None, IsSome, option_map, Result, Ok, Err}
use Rattle.std.specs.Option.{option_map_or, unwrap_or}
use Rattle.std.specs.List.{AllByRecursion}
use Rattle.std.specs.Duration.{as_nanos}
use Rattle.std.specs.IoError.{error_kind}
use Rattle.std.specs.declared.io.Error.{Error}
use Rattle.std.specs.declared.time.Duration.{Duration}
use Rattle.std.specs.declared.io.ErrorKind.TheVariants.{Interrupted, OutOfMemory, WouldBlock}
use Rattle.cache_server.specs.Answer.{AnswerValue, text_of}
use Rattle.cache_server.specs.Cache.{CacheValue}
use Rattle.cache_server.specs.History.{HistoryEntry, Piece}
use Rattle.cache_server.specs.Server.{ServerValue, ServerStands, held_bytes_at, session_at}
use Rattle.service.specs.Sockets.{Cause, Failed, IsBroken, Stays, Why}
use Rattle.cache_server.specs.declared.error.ConnError.{ConnError}
use Rattle.cache_server.specs.declared.error.ConnError.TheVariants.{Memory}
use Rattle.service.specs.Talks.{IsShut, IsReason, Talks, entry_number}
use Rattle.service.specs.declared.lingering.Lingering.{Lingering}
use Rattle.service.specs.declared.load.Leave.{Leave}
use Rattle.service.specs.declared.load.Load.{Load}
use Rattle.service.specs.declared.sockets.Ready.{Ready}
use Rattle.service.specs.declared.turn.Turn.{Turn}
use Rattle.service.specs.declared.turn.Turn.TheVariants.{Again, Waits, Held, Ends}

-- a stream, and when a byte was moved there last, or it was held
pub record WatchedValue (S : Type 0) : Type 0 where
  pub stream : S
  pub moved : ℕ

-- a connection: its stream, what was read and hasn't come to the server, and what of the answers
-- isn't sent
pub record MemberValue (S : Type 0) : Type 0 where
  pub stream : S
  pub left : List ℕ
  pub unsent : List ℕ
  -- how many bytes it holds, and how many of its answer nobody else can hold
  pub load : Load
  pub own : ℕ
  -- when a byte was moved last, or it was held
  pub moved : ℕ
  -- what is left to do after its last answer
  pub lingering : Option Lingering
  -- whether there may be something to read, and whether the system told that the peer sends no more
  pub readable : Bool
  pub closed : Bool
  -- whether the connection waits for others, and whether it is queued for a turn
  pub held : Bool
  pub queued : Bool

-- what isn't sent of an answer, of which so many bytes are
abbrev pub unsent_of : Option AnswerValue → ℕ → List ℕ
unsent_of None sent = []
unsent_of (Some answer) sent = drop sent (text_of answer)

-- of nothing
abbrev pub no_load : Load
no_load = record { answers = 0; requests = 0 }

-- what all hold together, once one holds so much that held so much before
abbrev pub load_after : Load → Load → Load → Load
load_after all before after = record {
  answers = min (all.answers - before.answers + after.answers) 18446744073709551615;
  requests = min (all.requests - before.requests + after.requests) 18446744073709551615;
}

-- how many bytes the body of an answer has
abbrev pub answer_size : Option AnswerValue → ℕ
answer_size None = 0
answer_size (Some answer) = length answer.body

-- how many bytes of the body of an answer nobody else can hold
abbrev pub own_size : Option AnswerValue → ℕ
own_size None = 0
own_size (Some answer) = if answer.shared then 0 else length answer.body

-- A new connection, at this time: nothing is left of what was read, and nothing unsent. It isn't
-- queued yet.
abbrev pub new_member : {S : Type 0} → S → ℕ → MemberValue S
new_member stream now = record {
  stream = stream;
  left = [];
  unsent = [];
  load = no_load;
  own = 0;
  moved = now;
  lingering = None;
  readable = true;
  closed = false;
  held = false;
  queued = false;
}

-- the connection queued for a turn
abbrev pub in_queue : {S : Type 0} → MemberValue S → MemberValue S
in_queue m = record m { queued = true }

-- the event is of the connection with the number
abbrev pub tells_of : ℕ → Ready → Bool
tells_of k event = option_map_or (λ number. number == k) event.number false

-- the connection after an event: as this tells there may be something to read, if only the end
abbrev pub roused : {S : Type 0} → Ready → MemberValue S → MemberValue S
roused event m = record m {
  readable = m.readable || (event.readable || event.read_closed);
  closed = m.closed || event.read_closed;
}

-- the connection once these events are noted: each of its own rouses it, and it is queued
abbrev pub marked_by : {S : Type 0} → List Ready → ℕ → MemberValue S → MemberValue S
marked_by [] k m = m
marked_by (event ∷ events) k m =
    marked_by events k (if tells_of k event then in_queue (roused event m) else m)

-- How many bytes of a connection's answer nobody else holds: all, or none where others can hold
-- them.
abbrev pub HoldsAlone : {S : Type 0} → MemberValue S → ℕ → Type 0
HoldsAlone m count = (count ≡ m.load.answers) ⊎ ((count ≡ 0) × (m.own ≡ 0))

-- a connection that waits for others no more: its silence counts from this time on, and it is
-- queued
abbrev pub let_go : {S : Type 0} → ℕ → S → MemberValue S → MemberValue S
let_go now stream m = record m { stream = stream; moved = now; held = false; queued = true }

-- the connection, if there is one, waits for others no more
abbrev pub IsLetGo :
    {S : Type 0} → (ℕ → S → List ℕ → List ℕ → Type 0) → ℕ
    → Option (MemberValue S) → Option (MemberValue S) → Type 0
IsLetGo spoke now None new = new ≡ None
IsLetGo {S} spoke now (Some m) new =
    (stream : S) × Stays spoke m.stream stream × (new ≡ Some (let_go now stream m))

-- When a connection will have been silent for too long that moved a byte last at this time and may
-- be silent for so long. After the last answer that is 2 seconds, and 10 in all; and never while it
-- waits for others.
abbrev pub deadline_of : Option Lingering → Bool → ℕ → Option ℕ → Option ℕ
deadline_of (Some it) held moved limit =
    Some (min (min (moved + 2000) (it.begun + 10000)) 18446744073709551615)
deadline_of None true moved limit = None
deadline_of None false moved limit =
    option_map (λ time. min (moved + time) 18446744073709551615) limit

abbrev pub deadline_at : {S : Type 0} → MemberValue S → Option ℕ → Option ℕ
deadline_at m limit = deadline_of m.lingering m.held m.moved limit

-- a time in milliseconds, as far as a machine word goes
abbrev pub millis_of : Duration → ℕ
millis_of time = min (as_nanos time / 1000000) 18446744073709551615

-- for how long a connection may be silent that holds much, where others wait for memory: 5 seconds
-- at most
abbrev pub pressed_limit : Option ℕ → ℕ
pressed_limit idle = min (unwrap_or idle 5000) 5000

-- The deadline of a connection: where others wait for memory, a sooner one if it may hold much.
abbrev pub IsDeadline : {S : Type 0} → MemberValue S → Option ℕ → Bool → Option ℕ → Type 0
IsDeadline m idle pressed deadline =
    (deadline ≡ deadline_at m idle)
    ⊎ ((pressed ≡ true) × ((65536 < m.load.answers) ⊎ (65536 < m.load.requests))
    × (deadline ≡ deadline_at m (Some (pressed_limit idle))))

-- when a byte was moved last, after a call at this time that moved so many
abbrev pub moved_by : Result ℕ Error → ℕ → ℕ → ℕ
moved_by (Ok count) moved now = if nat_lt 0 count then now else moved
moved_by (Err e) moved now = moved

-- After the last answer a read that moves a byte is counted, or it was the last of 1,024.
abbrev pub CountsRead :
    {S : Type 0} → Option Why → ℕ → MemberValue S → MemberValue S → Lingering → Lingering → Type 0
CountsRead end now old new before after =
    ((after.reads ≡ before.reads) × (new.moved ≡ old.moved))
    ⊎ (((after.reads ≡ before.reads + 1) × (new.moved ≡ now))
    ⊎ ((1024 ≤ before.reads) × (after.reads ≡ before.reads) × (end ≡ Some (Ok tt))))

-- `full` says of a stream that it takes no more bytes, and `dry` that no byte is at hand there.
module _ {S : Type 0} (full dry : S → Type 0) where
  -- The connection waits for an event: some of an answer isn't sent, and its stream takes no more;
  -- or neither a byte nor the end is at hand there, and what was read has come to the server, up to
  -- its last answer.
  abbrev pub AwaitsEvent : MemberValue S → Type 0
  AwaitsEvent m =
      ((m.unsent ≡ [] → ⊥) × full m.stream)
      ⊎ (dry m.stream × (m.closed ≡ false) × ((m.left ≡ []) ⊎ IsSome m.lingering))

  -- why it goes no further for now: it waits for an event, or is held, for this
  abbrev pub PausesFor : Type 0 → Turn → MemberValue S → Type 0
  PausesFor held Again m = ⊤
  PausesFor held Waits m = AwaitsEvent m
  PausesFor held Held m = held
  PausesFor held (Ends why) m = ⊤

-- a connection has no leave to answer more, or to read more of a request of which it keeps so much
abbrev pub HasNoLeave : Leave → Load → Type 0
HasNoLeave leave load = (leave.answers ≡ false) ⊎ (leave.kept < load.requests)

-- A connection went ahead at this time: a call was made on its stream, or its stream is the same,
-- and less is left of what was read.
abbrev pub GoesAhead :
    {S : Type 0} → (S → ℕ → Type 0) → ℕ → MemberValue S → MemberValue S → Type 0
GoesAhead tried now old new =
    tried new.stream now ⊎ ((new.stream ≡ old.stream) × (length new.left < length old.left))

-- as many bytes count as kept of a request that isn't whole as its session keeps
abbrev pub CountsKept : {S : Type 0} → ServerValue → ℕ → MemberValue S → Type 0
CountsKept server k m = m.load.requests ≡ held_bytes_at (session_at server k)

-- why a connection ends with this turn, if it does
abbrev pub end_of : Turn → Option Why
end_of Again = None
end_of Waits = None
end_of Held = None
end_of (Ends why) = Some why

-- a connection ends only with a fault: memory is wanting, or this holds of the fault
abbrev pub FailsFor : (ConnError → Type 0) → Option Why → Type 0
FailsFor fails None = ⊤
FailsFor fails (Some (Ok done)) = ⊥
FailsFor fails (Some (Err e)) = (e ≡ Memory) ⊎ fails e

-- After a call failed with this fault: it goes on at once where it was interrupted, waits where the
-- system has nothing for it, and ends without memory, or as broken with this error.
abbrev pub GoesAfter : Error → ConnError → Turn → Type 0
GoesAfter fault other Again = error_kind fault ≡ Interrupted
GoesAfter fault other Waits = error_kind fault ≡ WouldBlock
GoesAfter fault other Held = ⊥
GoesAfter fault other (Ends (Ok done)) = ⊥
GoesAfter fault other (Ends (Err e)) =
    ((error_kind fault ≡ OutOfMemory) × (e ≡ Memory)) ⊎ (IsBroken fault × (e ≡ other))

-- a connection ends only without a fault, where this holds
abbrev pub EndsWell : Type 0 → Option Why → Type 0
EndsWell holds None = ⊤
EndsWell holds (Some (Ok done)) = holds
EndsWell holds (Some (Err e)) = ⊥

-- each entry is of the connection
abbrev pub AreOf : ℕ → List HistoryEntry → Type 0
AreOf k entries = AllByRecursion (λ entry. entry_number entry ≡ k) entries

-- some came over a connection: a request, or a part of one
abbrev pub is_piece : HistoryEntry → Bool
is_piece (Piece k bytes) = true
is_piece other = false

-- ---- what came over it, and what was sent

-- `spoke` says of a stream which connection it is, what was read of it, and what was sent to it.
module _
    {S : Type 0} (spoke : ℕ → S → List ℕ → List ℕ → Type 0) (prefix : List ℕ)
    (opening : CacheValue) (history entries : List HistoryEntry) (k : ℕ) where
  -- the connection goes on: what was read and what was sent is as the entries say
  pub record TalksOn (m : MemberValue S) : Type 0 where
    pub read : List ℕ
    pub sent : List ℕ
    pub said : spoke k m.stream read sent
    pub talks : Talks prefix opening history entries k read sent m.left m.unsent

  -- the connection may end, for this reason
  pub record MayEndNow (over : S → Cause → Type 0) (stream : S) (why : Why) : Type 0 where
    pub read : List ℕ
    pub sent : List ℕ
    pub left : List ℕ
    pub unsent : List ℕ
    pub said : spoke k stream read sent
    pub talks : Talks prefix opening history entries k read sent left unsent
    pub may : IsReason (over stream) (IsShut prefix k (history ++ entries)) left unsent why

  -- the connection goes on, or ends for this reason
  abbrev pub TalksOnUnless : (S → Cause → Type 0) → Option Why → MemberValue S → Type 0
  TalksOnUnless over None m = TalksOn m
  TalksOnUnless over (Some why) m = MayEndNow over m.stream why

-- `over` says that it is over, and why.
module _
    {S : Type 0} (spoke : ℕ → S → List ℕ → List ℕ → Type 0) (over : S → Cause → Type 0) where
  -- entries of the connection alone led to the server, of which so many at most are pieces, and it
  -- goes on, or ends
  pub record HasMovedOn
      (most : ℕ) (end : Option Why) (prefix : List ℕ) (opening : CacheValue)
      (history entries : List HistoryEntry) (k : ℕ) (m : MemberValue S) (server : ServerValue)
      : Type 0 where
    pub more : List HistoryEntry
    pub theirs : AreOf k more
    pub few : count_by is_piece more ≤ most
    pub stands : ServerStands opening server (history ++ (entries ++ more))
    pub same : server.prefix ≡ prefix
    pub holds : TalksOnUnless spoke prefix opening history (entries ++ more) k over end m

  -- whatever history had led to the server, entries of the connection alone lead on, and it goes
  -- on, or ends
  pub record MovesOn
      (most : ℕ) (end : Option Why) (k : ℕ) (old : ServerValue) (before : MemberValue S)
      (new : ServerValue) (after : MemberValue S) : Type 0 where
    pub on : (opening : CacheValue) (history entries : List HistoryEntry)
        → ServerStands opening old (history ++ entries)
        → TalksOn spoke old.prefix opening history entries k before
        → HasMovedOn most end old.prefix opening history entries k after new

  -- some was read or sent, and nothing came to the server
  pub record Passes (end : Option Why) (before after : MemberValue S) : Type 0 where
    pub on : (prefix : List ℕ) (opening : CacheValue) (history entries : List HistoryEntry)
        (k : ℕ) → TalksOn spoke prefix opening history entries k before
        → TalksOnUnless spoke prefix opening history entries k over end after

  -- As many bytes as were sent before are taken off what isn't sent; nothing more is read or sent.
  -- It ends only with a fault.
  pub record PassesSent (end : Option Why) (count : ℕ) (before after : MemberValue S)
      : Type 0 where
    pub left : end ≡ None → after.left ≡ before.left
    pub unsent : end ≡ None → after.unsent ≡ drop count before.unsent
    pub stays : Stays spoke before.stream after.stream
    pub fails : FailsFor (λ e. over after.stream (Failed e)) end
