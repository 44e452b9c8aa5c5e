-- One request at a time.
use Rattle.std.specs.Prelude.{◌≡◌, ℕ, List, Option, Some, None, option_to_list}
use Rattle.http_core.specs.Event.{EventValue}
use Rattle.http_core.specs.Session.{SessionValue}
use Rattle.http_core.specs.Session as sessions
use Rattle.cache_server.specs.Answering.{answered, answered_all}
use Rattle.cache_server.specs.Cache.{CacheValue}
use Rattle.cache_server.specs.History.{HistoryEntry, CacheAfter, Brings}
use Rattle.cache_server.specs.Server.{ServerValue, session_at, IsSessionFor}

-- the event, if there is one, is answered by the text
abbrev pub AnswersIfAny : CacheValue → Option EventValue → Option (List ℕ) → CacheValue → Type 0
AnswersIfAny old None None new = new ≡ old
AnswersIfAny old None (Some text) new = ⊥
AnswersIfAny old (Some event) None new = ⊥
AnswersIfAny old (Some event) (Some text) new = answered old event ≡ (text, new)

-- the answer to an entry after the history that completes one request, or nothing where it
-- completes none
abbrev pub IsOneAnswerTo :
    List ℕ → CacheValue → List HistoryEntry → HistoryEntry → List ℕ → Type 0
IsOneAnswerTo prefix opening history entry text =
    (event : Option EventValue) × (before : CacheValue) × (cache : CacheValue)
    × CacheAfter prefix opening history before × Brings prefix history entry (option_to_list event)
    × (answered_all before (option_to_list event) ≡ (text, cache))

-- The session of the connection, a new one where it had none, took a front of the piece, to the end
-- of its first request, and that is answered by one reply. All else is as it was.
pub record AnswersOne
    (old : ServerValue) (k : ℕ) (piece : List ℕ) (taken : ℕ) (text : Option (List ℕ))
    (new : ServerValue) : Type 0 where
  pub before : SessionValue
  pub after : SessionValue
  pub event : Option EventValue
  pub held : IsSessionFor old.prefix (session_at old k) before
  pub takes : sessions.FeedsFirst before piece taken event after
  pub at : session_at new k ≡ Some after
  pub others : (j : ℕ) → (j ≡ k → ⊥) → session_at new j ≡ session_at old j
  pub answered : AnswersIfAny old.cache event text new.cache
  pub prefix : new.prefix ≡ old.prefix
