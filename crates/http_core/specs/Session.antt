-- What a session keeps of a stream.
use Rattle.std.specs.Prelude.{◌≡◌, ◌≢◌, ℕ, ◌<◌, ◌≤◌, Bool, true, false, List, [], ◌∷◌, ◌++◌}
use Rattle.std.specs.Prelude.{length, take, Option, Some, None, option_to_list}
use Rattle.http_core.specs.declared.event.Area.{Area}
use Rattle.http_core.specs.declared.judging.Judgement.TheVariants as judgements
use Rattle.http_core.specs.declared.session.Stage.{Stage}
use Rattle.http_core.specs.declared.session.Stage.TheVariants as stages
use Rattle.std.specs.List.{AllByRecursion}
use Rattle.blob_digest.specs.Body.{greatest_blob}
use Rattle.http_core.specs.Block.{HasNoBlock, IsBlock}
use Rattle.http_core.specs.Event.{EventValue, closes, IsValid}
use Rattle.http_core.specs.Judging.{Judges}
use Rattle.http_core.specs.Stream.{Completes, Cuts}

-- the bytes of a block so far, or the body so far of a PUT whose head has come
pub data SessionState : Type 0 where
  Reading : List ℕ → SessionState
  Taking : Area → List ℕ → ℕ → Bool → List ℕ → SessionState
  Closed : SessionState

-- a session: what stands before each target, and what it keeps
pub record SessionValue : Type 0 where
  pub prefix : List ℕ
  pub state : SessionState

-- the state of a session at a stage, with these bytes of a block, or these of a body
abbrev pub session_state : Stage → List ℕ → List ℕ → SessionState
session_state stages.Block block body = Reading block
session_state (stages.Body area hash size close) block body = Taking area hash size close body
session_state stages.Closed block body = Closed

-- how many bytes of a block or of a body came
abbrev pub held_bytes : SessionState → ℕ
held_bytes (Reading bytes) = length bytes
held_bytes (Taking area hash size close body) = length body
held_bytes Closed = 0

-- no further bytes give events
abbrev pub IsClosed : SessionValue → Type 0
IsClosed s = s.state ≡ Closed

abbrev pub IsOpen : SessionValue → Type 0
IsOpen s = s.state ≢ Closed

-- memory may be wanting for a piece: the session is open, and the piece has bytes
pub record MayRunShort (s : SessionValue) (piece : List ℕ) : Type 0 where
  pub opened : IsOpen s
  pub some : 0 < length piece

-- Nothing is kept but the bytes that came of a block, or of a body that isn't whole and will not be
-- too large.
abbrev pub HoldsNoMore : Stage → List ℕ → List ℕ → Type 0
HoldsNoMore stages.Block block body = body ≡ []
HoldsNoMore (stages.Body area hash size close) block body =
    (block ≡ []) × (length body < size) × (size ≤ greatest_blob)
HoldsNoMore stages.Closed block body = (block ≡ []) × (body ≡ [])

-- the state after these bytes of a request that isn't whole
abbrev pub Holds : List ℕ → SessionState → List ℕ → Type 0
Holds prefix (Reading bytes) rest = (rest ≡ bytes) × HasNoBlock bytes × (length bytes < 16384)
Holds prefix (Taking area hash size close body) rest =
    (block : List ℕ) × (rest ≡ block ++ body) × IsBlock block × (length block ≤ 16384)
    × Judges prefix block (judgements.Put area hash size close) × (length body < size)
Holds prefix Closed rest = ⊥

-- the state is that of what a cut leaves
abbrev pub Leaves : List ℕ → SessionState → Option (List ℕ) → Type 0
Leaves prefix state None = state ≡ Closed
Leaves prefix state (Some rest) = Holds prefix state rest

-- the session stands where this stream leaves it, which was cut into these events
unfoldable pub Stands : SessionValue → List ℕ → List EventValue → Type 0
Stands s stream events =
    (left : Option (List ℕ)) × Cuts s.prefix stream events left × Leaves s.prefix s.state left

-- the state after a request
abbrev pub ended : Bool → SessionState
ended true = Closed
ended false = Reading []

-- the state after these bytes of a request, which make the event if there is one
abbrev pub Follows : List ℕ → List ℕ → Option EventValue → SessionState → Type 0
Follows prefix bytes None state = Holds prefix state bytes
Follows prefix bytes (Some event) state =
    Completes prefix bytes event × (state ≡ ended (closes event))

-- a session takes a front of the piece, at most to the end of a request
pub record Takes
    (old : SessionValue) (piece : List ℕ) (taken : ℕ)
    (event : Option EventValue) (new : SessionValue) : Type 0 where
  pub some : 0 < taken
  pub within : taken ≤ length piece
  pub moves : (rest : List ℕ) → Holds old.prefix old.state rest
      → Follows old.prefix (rest ++ take taken piece) event new.state
  pub valid : AllByRecursion IsValid (option_to_list event)

-- The session took the piece, and answered the events which the cut of its stream has with it and
-- didn't have before. A closed one answers nothing and stays closed.
pub record Feeds
    (old : SessionValue) (piece : List ℕ) (events : List EventValue) (new : SessionValue)
    : Type 0 where
  pub stands : (stream : List ℕ) (before : List EventValue)
      → Stands old stream before → Stands new (stream ++ piece) (before ++ events)
  pub closed : IsClosed old → IsClosed new × (events ≡ [])
  pub valid : AllByRecursion IsValid events
  pub prefix : new.prefix ≡ old.prefix

-- The session took a front of the piece: to the end of the first event which the cut of its stream
-- has with it and didn't have before, or the whole piece where there is none.
pub record FeedsFirst
    (old : SessionValue) (piece : List ℕ) (taken : ℕ)
    (event : Option EventValue) (new : SessionValue) : Type 0 where
  pub within : taken ≤ length piece
  pub some : 0 < length piece → 0 < taken
  pub all : event ≡ None → taken ≡ length piece
  pub feeds : Feeds old (take taken piece) (option_to_list event) new
  -- the bytes of the event's request end with those that were taken
  pub moves : (rest : List ℕ) → Holds old.prefix old.state rest
      → Follows old.prefix (rest ++ take taken piece) event new.state

-- the session took the pieces one after another, and answered these events together
abbrev pub FeedsAll : SessionValue → List (List ℕ) → List EventValue → SessionValue → Type 0
FeedsAll old [] events new = (events ≡ []) × (new ≡ old)
FeedsAll old (piece ∷ pieces) events new =
    (first : List EventValue) × (mid : SessionValue) × (others : List EventValue)
    × Feeds old piece first mid × FeedsAll mid pieces others new × (events ≡ first ++ others)
