-- What a step of a server does to the session of one connection.
use Rattle.std.specs.Prelude.{◌≡◌, ℕ, List, Option, Some, None}
use Rattle.http_core.specs.Event.{EventValue}
use Rattle.http_core.specs.Session.{SessionValue, IsClosed}
use Rattle.http_core.specs.Session as sessions
use Rattle.cache_server.specs.Server.{ServerValue, session_at, IsSessionFor, KeepsOthers}

-- what was held is closed
abbrev pub IsClosedAt : Option SessionValue → Option SessionValue → Type 0
IsClosedAt None now = now ≡ None
IsClosedAt (Some held) now =
    (after : SessionValue) × (now ≡ Some after) × (after.prefix ≡ held.prefix) × IsClosed after

-- the session of the connection is closed, if it has one
pub record ClosesAt (old : ServerValue) (k : ℕ) (new : ServerValue) : Type 0 where
  pub at : IsClosedAt (session_at old k) (session_at new k)
  pub kept : KeepsOthers old k new

-- the connection has the session that it had, or a fresh one
pub record OpensAt (old : ServerValue) (k : ℕ) (new : ServerValue) : Type 0 where
  pub session : SessionValue
  pub held : IsSessionFor old.prefix (session_at old k) session
  pub at : session_at new k ≡ Some session
  pub kept : KeepsOthers old k new

-- the session of the connection took a front of the piece, to the end of its first event
pub record FeedsFirstAt
    (old : ServerValue) (k : ℕ) (piece : List ℕ) (taken : ℕ) (event : Option EventValue)
    (new : ServerValue) : Type 0 where
  pub before : SessionValue
  pub after : SessionValue
  pub held : session_at old k ≡ Some before
  pub feeds : sessions.FeedsFirst before piece taken event after
  pub at : session_at new k ≡ Some after
  pub kept : KeepsOthers old k new
