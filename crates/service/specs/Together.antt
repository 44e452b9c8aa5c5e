-- Open connections, each under its number, and a server.
use Rattle.std.specs.Prelude.{◌≡◌, ℕ, ◌+◌, ◌-◌, ◌*◌, ◌<◌, ◌≤◌, ◌⊎◌, ◌&&◌, ◌||◌, ◌==◌, nat_le}
use Rattle.std.specs.Prelude.{nat_lt, min, Bool, true, false, if◌then◌else◌, List, [], ◌∷◌, ◌++◌}
use Rattle.std.specs.Prelude.{length, Option, Some, None, option_map, IfSome, IsTrue}
use Rattle.std.specs.List.{AllByRecursion, Contains}
use Rattle.std.specs.Option.{unwrap_or}
use Rattle.std.specs.Ordering.{nat_cmp}
use Rattle.std.specs.BTreeMap.{is_at}
use Rattle.std.specs.Map.{lookup}
use Rattle.cache_server.specs.Cache.{CacheValue}
use Rattle.cache_server.specs.History.{HistoryEntry, End}
use Rattle.cache_server.specs.Server.{ServerValue, ServerStands, LeadsTo, IsOpenAt, session_at}
use Rattle.service.specs.Talks.{HasEnded, IsReason, AreBelow}
use Rattle.service.specs.Sockets.{Cause, EndsAs, Why}
use Rattle.service.specs.Member.{MemberValue, TalksOn, MovesOn, AwaitsEvent, HoldsAlone, IsDeadline}
use Rattle.service.specs.Member.{IsLetGo, deadline_at, in_queue, marked_by, new_member}
use Rattle.service.specs.Member.{pressed_limit}
use Rattle.service.specs.declared.load.Load.{Load}
use Rattle.service.specs.declared.sockets.Ready.{Ready}
use Rattle.service.specs.declared.together.Together.{Together}

-- the open connections
abbrev pub Members : Type 0 → Type 0
Members S = List (ℕ × MemberValue S)

-- the open connection with the number, if there is one
abbrev pub member_at : {S : Type 0} → Members S → ℕ → Option (MemberValue S)
member_at members k = lookup (is_at (nat_cmp k)) members

-- `spoke` says what was read of a stream and sent to it. `ended` says so of a connection that has
-- ended, and why; `lost` that its stream was over, and why. The whole run may be cut off.
module _
    {S : Type 0} (cut : Bool) (spoke : ℕ → S → List ℕ → List ℕ → Type 0)
    (ended : ℕ → List ℕ → List ℕ → Why → Type 0) (lost : ℕ → Cause → Type 0) where
  -- a connection is open and goes on, or has ended
  abbrev pub TalksOrEnded :
      List ℕ → CacheValue → List HistoryEntry → List HistoryEntry → ℕ → Option (MemberValue S)
      → Type 0
  TalksOrEnded prefix opening history entries k None =
      HasEnded cut ended lost prefix opening history entries k
  TalksOrEnded prefix opening history entries k (Some m) =
      TalksOn spoke prefix opening history entries k m

  -- Each connection that was accepted goes on or has ended, and the entries that led to the server
  -- are of these alone.
  pub record KeepsTogether
      (prefix : List ℕ) (opening : CacheValue) (history : List HistoryEntry)
      (members : Members S) (accepted : ℕ) (server : ServerValue) : Type 0 where
    pub entries : List HistoryEntry
    pub stands : ServerStands opening server (history ++ entries)
    pub same : server.prefix ≡ prefix
    pub theirs : AreBelow accepted entries
    pub each : (k : ℕ) → k < accepted
        → TalksOrEnded prefix opening history entries k (member_at members k)
    pub fresh : (k : ℕ) → accepted ≤ k → member_at members k ≡ None

  -- what `KeepsTogether` says holds afterwards, where it held before
  pub record GoesOnTogether
      (members : Members S) (accepted : ℕ) (server : ServerValue)
      (members' : Members S) (accepted' : ℕ) (server' : ServerValue) : Type 0 where
    pub on : (prefix : List ℕ) (opening : CacheValue) (history : List HistoryEntry)
        → KeepsTogether prefix opening history members accepted server
        → KeepsTogether prefix opening history members' accepted' server'

-- after a call what `KeepsTogether` says holds as before, however many were accepted
abbrev pub LeavesTogether :
    {S : Type 0} → (ℕ → S → List ℕ → List ℕ → Type 0) → (ℕ → List ℕ → List ℕ → Why → Type 0)
    → (ℕ → Cause → Type 0) → (old new : Members S × ServerValue) → Type 0
LeavesTogether spoke ended lost old new =
    (accepted : ℕ) → GoesOnTogether false spoke ended lost old.0 accepted old.1 new.0 accepted new.1

-- `places` says of the sockets how many more connections may be open, and how many were accepted.
module _ {N S : Type 0} (places : N → ℕ → ℕ → Type 0) where
  -- Of all places each is free or a connection's, whose number is below the count of those that
  -- were accepted here; the sockets count with them those that were accepted before.
  pub record ArePlaced (all before : ℕ) (sockets : N) (members : Members S) (accepted : ℕ)
      : Type 0 where
    pub free : ℕ
    pub are : places sockets free (before + accepted)
    pub sum : free + length members ≡ all
    pub fresh : (k : ℕ) → accepted ≤ k → member_at members k ≡ None

  -- what `ArePlaced` says holds afterwards, where it held before
  pub record StaysPlaced
      (all : ℕ) (sockets : N) (members : Members S) (accepted : ℕ)
      (sockets' : N) (members' : Members S) (accepted' : ℕ) : Type 0 where
    pub on : (before : ℕ) → ArePlaced all before sockets members accepted
        → ArePlaced all before sockets' members' accepted'

  -- after a call what `ArePlaced` says holds as before, however many places there are, and however
  -- many connections were accepted
  abbrev pub LeavesPlaced : (old new : N × Members S) → Type 0
  LeavesPlaced old new =
      (all accepted : ℕ) → StaysPlaced all old.0 old.1 accepted new.0 new.1 accepted

-- no connection differs, and as many are open
abbrev pub AreSame : {S : Type 0} → Members S → Members S → Type 0
AreSame old new = ((j : ℕ) → member_at new j ≡ member_at old j) × (length new ≡ length old)

-- no connection differs, but that some wait for others no more
abbrev pub AreSameButHeld :
    {S : Type 0} → (ℕ → S → List ℕ → List ℕ → Type 0) → ℕ → Members S → Members S → Type 0
AreSameButHeld spoke now old new =
    ((j : ℕ) → (member_at new j ≡ member_at old j)
    ⊎ IsLetGo spoke now (member_at old j) (member_at new j))
    × (length new ≡ length old)

-- the connection waits for no others, its silence counts from this time on, and it is queued for a
-- turn
abbrev pub IsFree : {S : Type 0} → ℕ → Option (MemberValue S) → Type 0
IsFree now member = IfSome member (λ m. (m.held ≡ false) × (m.moved ≡ now) × (m.queued ≡ true))

-- no connection differs, but that these events are noted for it
abbrev pub AreMarkedBy : {S : Type 0} → List Ready → Members S → Members S → Type 0
AreMarkedBy events old new =
    ((j : ℕ) → member_at new j ≡ option_map (marked_by events j) (member_at old j))
    × (length new ≡ length old)

-- all but one connection are the same
abbrev pub OthersAreSame : {S : Type 0} → ℕ → Members S → Members S → Type 0
OthersAreSame k old new = (j : ℕ) → (j ≡ k → ⊥) → member_at new j ≡ member_at old j

-- the connection with the number has moved on, by so many pieces at most
pub record MovesOnAt
    {S : Type 0} (spoke : ℕ → S → List ℕ → List ℕ → Type 0) (over : S → Cause → Type 0)
    (most : ℕ) (end : Option Why) (k : ℕ) (old : ServerValue) (members : Members S)
    (new : ServerValue) (members' : Members S) : Type 0 where
  pub before : MemberValue S
  pub after : MemberValue S
  pub held : member_at members k ≡ Some before
  pub at : member_at members' k ≡ Some after
  pub others : OthersAreSame k members members'
  pub many : length members' ≡ length members
  pub moves : MovesOn spoke over most end k old before new after

-- a new connection, at this time, which is queued for a turn
pub record EntersAt {S : Type 0} (k : ℕ) (stream : S) (now : ℕ) (old new : Members S)
    : Type 0 where
  pub at : member_at new k ≡ Some (in_queue (new_member stream now))
  pub others : OthersAreSame k old new
  pub more : member_at old k ≡ None → length new ≡ length old + 1

-- the connection with the number may end for this reason
pub record MayEndAt
    {S : Type 0} (over : S → Cause → Type 0) (k : ℕ) (server : ServerValue)
    (members : Members S) (why : Why) : Type 0 where
  pub m : MemberValue S
  pub held : member_at members k ≡ Some m
  pub may : IsReason (over m.stream) (IsOpenAt (session_at server k) → ⊥) m.left m.unsent why

module _
    {S : Type 0} (spoke : ℕ → S → List ℕ → List ℕ → Type 0) (over : S → Cause → Type 0)
    (ended : ℕ → List ℕ → List ℕ → Why → Type 0) (lost : ℕ → Cause → Type 0) (k : ℕ) (why : Why)
    (old : ServerValue) (members : Members S) (new : ServerValue) (members' : Members S) where
  -- the connection with the number was ended for this reason, and the server was told
  pub record EndsAt : Type 0 where
    pub m : MemberValue S
    pub held : member_at members k ≡ Some m
    pub gone : member_at members' k ≡ None
    pub others : OthersAreSame k members members'
    pub ends : EndsAs spoke over m.stream why ended lost
    pub same : new.prefix ≡ old.prefix
    pub stands : LeadsTo old (End k) new

  -- the connection with the number was ended, or there was none
  abbrev pub EndsIfAny : Type 0
  EndsIfAny = EndsAt ⊎ ((member_at members k ≡ None) × (new ≡ old) × AreSame members members')

-- ---- what they hold, and how long they are silent

-- how many bytes of answers nobody else holds
abbrev pub HoldAlone : {S : Type 0} → Members S → ℕ → Type 0
HoldAlone [] count = count ≡ 0
HoldAlone (member ∷ members) count =
    (own : ℕ) × (others : ℕ) × HoldsAlone member.1 own × HoldAlone members others
    × (count ≡ own + others)

-- whether answers hold too much: 256 MiB together, of which nobody else holds as much
abbrev pub AreFull : {S : Type 0} → Members S → Load → Bool → Type 0
AreFull members load full =
    (alone : ℕ) × HoldAlone members alone
    × (full ≡ (nat_le 268435456 load.answers && nat_le 268435456 alone))

-- when the first of the connections will have been silent for too long
abbrev pub first_deadline : {S : Type 0} → Option ℕ → Members S → ℕ
first_deadline idle [] = 18446744073709551615
first_deadline idle (member ∷ members) =
    min (unwrap_or (deadline_at member.1 idle) 18446744073709551615) (first_deadline idle members)

-- neither answers nor requests that aren't whole hold too much
abbrev pub HoldLittle : Load → Type 0
HoldLittle load = (load.answers < 268435456) × (load.requests < 268435456)

-- None of its deadlines is over at this time: whether others wait for memory or not, or where they
-- don't.
abbrev pub IsInTime : {S : Type 0} → Bool → MemberValue S → Option ℕ → ℕ → Type 0
IsInTime calm m idle now =
    (pressed : Bool) (deadline : ℕ) → (calm ≡ true → pressed ≡ false)
    → IsDeadline m idle pressed (Some deadline) → now < deadline

-- if a connection holds much, its sooner deadline, which counts where others wait for memory, isn't
-- over
abbrev pub IsHeavyInTime : {S : Type 0} → Option ℕ → ℕ → MemberValue S → Type 0
IsHeavyInTime idle now m =
    (65536 < m.own) ⊎ (65536 < m.load.requests)
    → IfSome (deadline_at m (Some (pressed_limit idle))) (λ deadline. now < deadline)

-- each connection that holds much is in time by its sooner deadline
abbrev pub AreHeavyInTime : {S : Type 0} → Option ℕ → ℕ → Members S → Type 0
AreHeavyInTime idle now members = AllByRecursion (λ it. IsHeavyInTime idle now it.1) members

-- connections that are in time stay as they are
abbrev pub SparesInTime : {S : Type 0} → Bool → Option ℕ → ℕ → Members S → Members S → Type 0
SparesInTime calm idle now old new =
    (k : ℕ) → IfSome (member_at old k)
    (λ m. IsInTime calm m idle now → member_at new k ≡ Some m)

-- the next wake comes after this time, if ever
abbrev pub WakesAfter : ℕ → ℕ → Type 0
WakesAfter now wake = (now < wake) ⊎ (wake ≡ 18446744073709551615)

-- the next wake comes after this time, if ever, and no later than the first of the connections'
-- deadlines
abbrev pub WakesInTime : {S : Type 0} → Option ℕ → Members S → ℕ → ℕ → Type 0
WakesInTime idle members now wake = WakesAfter now wake × (wake ≤ first_deadline idle members)

-- ---- who has a turn

-- what comes into the queue with a number: itself, where its connection is open and isn't queued
abbrev pub joining : {S : Type 0} → Option (MemberValue S) → ℕ → List ℕ
joining None k = []
joining (Some m) k = if m.queued then [] else k ∷ []

module _ {S : Type 0} (full dry : S → Type 0) (all : Together S) where
  -- The open connection with the number isn't forgotten. Queued, it stands in the queue, unless
  -- memory was wanting for that; held, it is listed; and else it waits for an event. It is looked
  -- at by its deadline.
  pub record IsSeenTo (k : ℕ) (m : MemberValue S) : Type 0 where
    pub queued : IsTrue m.queued → all.short ≡ false → Contains all.ready.items k
    pub held : IsTrue m.held → Contains all.held.items k
    pub goes : (IsTrue m.queued ⊎ IsTrue m.held) ⊎ AwaitsEvent full dry m
    pub wakes : all.wake ≤ unwrap_or (deadline_at m all.idle) 18446744073709551615

  -- each connection is seen to, and each may be silent for some time
  pub record AreSeenTo : Type 0 where
    pub each : (k : ℕ) → IfSome (member_at all.members.entries k) (IsSeenTo k)
    pub patient : IfSome all.idle (λ time. 0 < time)

-- How many nanoseconds the system may be waited for at this time. Not at all while one is queued,
-- or those that are held may go on, since less is held; else to the next wake, to when the line is
-- due or to the next try to accept, and a millisecond more, as the time is whole milliseconds.
abbrev pub pause_of : {S : Type 0} → Together S → ℕ → Option ℕ
pause_of all now =
    if nat_lt 0 (length all.ready.items) || all.scales.eased then Some 0
    else (let wake = min (min all.wake all.line.due) all.retry in
    if wake == 18446744073709551615 then None else Some ((wake - now + 1) * 1000000))
