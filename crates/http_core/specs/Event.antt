-- What a session answers, as values without memory.
use Rattle.std.specs.Prelude.{◌≡◌, ◌≤◌, length, ⊤, ℕ, Bool, true, false, List}
use Rattle.blob_digest.specs.Body.{greatest_blob}
use Rattle.http_core.specs.declared.event.Area.{Area}
use Rattle.http_core.specs.declared.event.Area.TheVariants.{Ac, Cas, Pin, Unpin}
use Rattle.http_core.specs.declared.event.Ask.{Ask}
use Rattle.http_core.specs.declared.event.Ask.TheVariants as asks
use Rattle.http_core.specs.declared.event.Event.{Event}
use Rattle.http_core.specs.declared.event.Event.TheVariants as events

-- a GET of what the area has under the hash, or a PUT of this body
pub data AskValue : Type 0 where
  Get : Area → List ℕ → AskValue
  Put : Area → List ℕ → List ℕ → AskValue

-- what a request asks for, or the status that refuses it, and whether its answer closes
pub data EventValue : Type 0 where
  Asked : AskValue → Bool → EventValue
  Refused : ℕ → Bool → EventValue

-- whether a PUT, or else a GET, may name the area: only a PUT pins
abbrev pub is_served : Bool → Area → Bool
is_served put Ac = true
is_served put Cas = true
is_served put Pin = put
is_served put Unpin = put

-- a GET is served, and no body is too large
abbrev pub IsValid : EventValue → Type 0
IsValid (Asked (Get area hash) close) = is_served false area ≡ true
IsValid (Asked (Put area hash body) close) = length body ≤ greatest_blob
IsValid (Refused status close) = ⊤

-- whether the session closes after the answer
abbrev pub closes : EventValue → Bool
closes (Asked ask close) = close
closes (Refused status close) = close

-- what is asked, without the memory that holds a body
abbrev pub ask_of : {A : Type 0} → Ask A → AskValue
ask_of (asks.Get area hash) = Get area hash
ask_of (asks.Put area hash body) = Put area hash body

-- the event, without that memory
abbrev pub event_of : {A : Type 0} → Event A → EventValue
event_of (events.Ask ask close) = Asked (ask_of ask) close
event_of (events.Refuse status close) = Refused status close
