-- Where a server stands after a history.
use Rattle.std.specs.Prelude.{◌≡◌, ℕ, ◌⊎◌, Bool, true, false, List, [], ◌∷◌, ◌++◌, Option, Some}
use Rattle.std.specs.Prelude.{None, ⊤}
use Rattle.std.specs.Ordering.{nat_cmp}
use Rattle.std.specs.BTreeMap.{is_at}
use Rattle.std.specs.Map.{lookup}
use Rattle.http_core.specs.Event.{EventValue}
use Rattle.http_core.specs.Session.{SessionValue, IsClosed}
use Rattle.http_core.specs.Session as sessions
use Rattle.http_core.specs.Stream.{Cuts}
use Rattle.cache_server.specs.Cache.{CacheValue}
use Rattle.cache_server.specs.History.{HistoryEntry, Piece, Fail, stream_of, has_failed, CacheAfter}

-- the sessions stand under the numbers of their connections
pub record ServerValue : Type 0 where
  pub cache : CacheValue
  pub prefix : List ℕ
  pub sessions : List (ℕ × SessionValue)

-- the session of the connection, if it has one
abbrev pub session_at : ServerValue → ℕ → Option SessionValue
session_at s k = lookup (is_at (nat_cmp k)) s.sessions

-- the session stands where the stream leaves it, or is closed after a failure
abbrev pub StandsSo : Bool → SessionValue → List ℕ → Type 0
StandsSo false session stream =
    (events : List EventValue) × sessions.Stands session stream events
StandsSo true session stream =
    IsClosed session
    × ((events : List EventValue) × (left : Option (List ℕ))
    × Cuts session.prefix stream events left)

-- what the server keeps for the connection
abbrev pub KeepsSession : List ℕ → Option SessionValue → ℕ → List HistoryEntry → Type 0
KeepsSession prefix None k history = (stream_of k history ≡ []) × (has_failed k history ≡ false)
KeepsSession prefix (Some session) k history =
    (session.prefix ≡ prefix) × StandsSo (has_failed k history) session (stream_of k history)

-- the server stands where the history leaves it, which began with this cache
pub record ServerStands (opening : CacheValue) (s : ServerValue) (history : List HistoryEntry)
    : Type 0 where
  pub cache : CacheAfter s.prefix opening history s.cache
  pub sessions : (k : ℕ) → KeepsSession s.prefix (session_at s k) k history

-- After lack of memory: there was none for a session, and there is none. Else the requests in a
-- beginning of the piece were served, and the connection failed.
abbrev pub StandsOrFails :
    CacheValue → ServerValue → ℕ → List ℕ → ServerValue → List HistoryEntry → Type 0
StandsOrFails opening old k piece new history =
    ((session_at old k ≡ None) × (session_at new k ≡ None) × ServerStands opening new history)
    ⊎ ((front : List ℕ) × (rest : List ℕ) × (piece ≡ front ++ rest)
    × ServerStands opening new (history ++ (Piece k front ∷ Fail k ∷ [])))

-- the entry leads from the one server to the other, whatever history had led to the one
abbrev pub LeadsTo : ServerValue → HistoryEntry → ServerValue → Type 0
LeadsTo old entry new =
    (opening : CacheValue) (history : List HistoryEntry)
    → ServerStands opening old history → ServerStands opening new (history ++ entry ∷ [])

-- lack of memory while the piece was at hand leads from the one server to the other, whatever
-- history had led to the one
abbrev pub LeadsToFailure : ServerValue → ℕ → List ℕ → ServerValue → Type 0
LeadsToFailure old k piece new =
    (opening : CacheValue) (history : List HistoryEntry)
    → ServerStands opening old history → StandsOrFails opening old k piece new history

-- how many bytes are kept of a request that isn't whole
abbrev pub held_bytes_at : Option SessionValue → ℕ
held_bytes_at None = 0
held_bytes_at (Some session) = sessions.held_bytes session.state

-- a connection without a session will have a new one
abbrev pub IsOpenAt : Option SessionValue → Type 0
IsOpenAt None = ⊤
IsOpenAt (Some session) = sessions.IsOpen session

-- ---- one connection

-- a session for a new connection
pub record IsNewSession (prefix : List ℕ) (session : SessionValue) : Type 0 where
  pub prefixed : session.prefix ≡ prefix
  pub stands : sessions.Stands session [] []

-- the session is the held one, or a new one
abbrev pub IsSessionFor : List ℕ → Option SessionValue → SessionValue → Type 0
IsSessionFor prefix None session = IsNewSession prefix session
IsSessionFor prefix (Some held) session = session ≡ held

-- all but the session of the connection is as it was
pub record KeepsOthers (old : ServerValue) (k : ℕ) (new : ServerValue) : Type 0 where
  pub cache : new.cache ≡ old.cache
  pub prefix : new.prefix ≡ old.prefix
  pub others : (j : ℕ) → (j ≡ k → ⊥) → session_at new j ≡ session_at old j

-- the connection has no session any more
pub record Forgets (old : ServerValue) (k : ℕ) (new : ServerValue) : Type 0 where
  pub gone : session_at new k ≡ None
  pub kept : KeepsOthers old k new
