-- What a stream of both directions gives and takes.
use Rattle.std.specs.Prelude.{◌≡◌, ◌≢◌, ℕ, ◌+◌, ◌<◌, Bool, true, false, List, [], ◌∷◌, ◌++◌, length}
use Rattle.std.specs.Prelude.{Option, Some, None, Result, Ok, Err, ⊤, ◌↔◌, IfSome, IsTrue}
use Rattle.std.specs.declared.io.Error.{Error}
use Rattle.std.specs.Io.KnownBytes.{Appends, Consumes}
use Rattle.http_core.specs.FailStream.{FailStreamValue}

-- Where a stream stands, so far as that is known.
pub record Flow : Type 0 where
  -- the bytes that are to come
  pub coming : Option (List ℕ)
  -- the bytes that are to come over each stream that is opened after this one, in turn
  pub later : Option (List (List ℕ))
  -- all that was sent, also before the stream was opened anew
  pub sent : Option (List ℕ)
  -- whether the other side hasn't closed it
  pub is_open : Option Bool
  -- whether the stream can be opened anew at all
  pub is_renewable : Option Bool
  -- how often the stream was opened anew
  pub openings : Option ℕ
  -- how often the stream couldn't be opened anew
  pub refusals : Option ℕ
  -- whether the last read or write moved no byte
  pub has_stopped : Option Bool

-- the last read or write moved no byte, or that isn't known
abbrev pub MayHaveStopped : Flow → Type 0
MayHaveStopped flow = IfSome flow.has_stopped (λ has. has ≡ true)

-- a read or a write that moved no byte
abbrev pub MovesNone : Result ℕ Error → Type 0
MovesNone (Ok count) = count ≡ 0
MovesNone (Err e) = ⊤

-- the flow tells, where it knows, whether this read or write moved no byte
abbrev pub TellsStop : Result ℕ Error → Flow → Type 0
TellsStop result flow = IfSome flow.has_stopped (λ has. IsTrue has ↔ MovesNone result)

abbrev pub IsOneMore : Option ℕ → Option ℕ → Type 0
IsOneMore None new = new ≡ None
IsOneMore (Some n) new = new ≡ Some (n + 1)

-- the stream is the first of these later ones
abbrev pub IsFirstLater : Option (List (List ℕ)) → Flow → Type 0
IsFirstLater None new = new.later ≡ None
IsFirstLater (Some []) new = ⊥
IsFirstLater (Some (bytes ∷ rest)) new = (new.coming ≡ Some bytes) × (new.later ≡ Some rest)

-- the stream was opened anew, once more than before, and what is to come is what was to come over
-- it
pub record IsOpenedAnew (old new : Flow) : Type 0 where
  pub once : IsOneMore old.openings new.openings
  pub next : IsFirstLater old.later new
  pub refusals : new.refusals ≡ old.refusals
  pub is_renewable : new.is_renewable ≡ old.is_renewable

-- the stream couldn't be opened anew, and all else is as it was
pub record StaysClosed (old new : Flow) : Type 0 where
  pub once : IsOneMore old.refusals new.refusals
  pub others : new ≡ record old { refusals = new.refusals }

-- opening the stream anew wasn't tried
pub record IsSameStream (old new : Flow) : Type 0 where
  pub openings : new.openings ≡ old.openings
  pub refusals : new.refusals ≡ old.refusals
  pub later : new.later ≡ old.later
  pub is_renewable : new.is_renewable ≡ old.is_renewable

-- the bytes were sent over the stream, and nothing was read
pub record Sends (old new : Flow) (bytes : List ℕ) : Type 0 where
  pub sent : Appends old.sent new.sent bytes
  pub coming : new.coming ≡ old.coming
  pub stream : IsSameStream old new

-- what was sent is a beginning of the bytes
pub record SendsFront (old new : Flow) (bytes : List ℕ) : Type 0 where
  pub front : List ℕ
  pub rest : List ℕ
  pub whole : bytes ≡ front ++ rest
  pub sent : Appends old.sent new.sent front

-- the bytes were sent but for some at their end, of which none was taken, and nothing was read
pub record SendsPart (old new : Flow) (bytes : List ℕ) : Type 0 where
  pub front : List ℕ
  pub rest : List ℕ
  pub some : rest ≢ []
  pub whole : bytes ≡ front ++ rest
  pub sends : Sends old new front
  pub stopped : MayHaveStopped new

-- the bytes came over the stream, and nothing was sent
pub record Receives (old new : Flow) (bytes : List ℕ) : Type 0 where
  pub coming : Consumes old.coming new.coming bytes
  pub sent : new.sent ≡ old.sent
  pub stream : IsSameStream old new

-- some bytes came, and nothing was sent
pub record ReceivesSome (old new : Flow) : Type 0 where
  pub bytes : List ℕ
  pub some : 0 < length bytes
  pub read : Receives old new bytes

-- a stream of which nothing is known
abbrev pub unknown_flow : Flow
unknown_flow = record {
  coming = None;
  later = None;
  sent = None;
  is_open = None;
  is_renewable = None;
  openings = None;
  refusals = None;
  has_stopped = None;
}

-- where a stream in memory stands, which isn't opened anew
abbrev pub flow_of : FailStreamValue → Flow
flow_of s = record {
  coming = Some s.coming;
  later = Some [];
  sent = Some s.sent;
  is_open = Some true;
  is_renewable = Some false;
  openings = Some 0;
  refusals = None;
  has_stopped = None;
}
