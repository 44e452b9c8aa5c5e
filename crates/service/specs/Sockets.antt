-- What is said of a stream: which connection it is, what was read of it, and what was sent to it.
use Rattle.std.specs.Prelude.{◌≡◌, ◌⊎◌, ℕ, zero, suc, ◌+◌, min, List, [], ◌++◌, Result, Ok, Err}
use Rattle.std.specs.IoError.{error_kind}
use Rattle.std.specs.declared.io.Error.{Error}
use Rattle.std.specs.declared.io.ErrorKind.TheVariants.{Interrupted, OutOfMemory, WouldBlock}
use Rattle.cache_server.specs.declared.error.ConnError.{ConnError}
use Rattle.cache_server.specs.declared.error.ConnError.TheVariants.{Memory}

-- why a connection ends: without a fault, or for one
abbrev pub Why : Type 0
Why = Result (Unit {0}) ConnError

-- Why a stream is over: its peer has ended it, its writing side was ended, it was silent for too
-- long, or a call on it failed so.
pub data Cause : Type 0 where
  Finished : Cause
  Shut : Cause
  Silent : Cause
  Failed : ConnError → Cause

-- the bytes were read of the stream
abbrev pub ReadsFrom : {S : Type 0} → (ℕ → S → List ℕ → List ℕ → Type 0) → S → List ℕ → S → Type 0
ReadsFrom spoke old bytes new =
    (k : ℕ) (read sent : List ℕ) → spoke k old read sent → spoke k new (read ++ bytes) sent

-- the bytes were sent to the stream
abbrev pub SendsTo : {S : Type 0} → (ℕ → S → List ℕ → List ℕ → Type 0) → S → List ℕ → S → Type 0
SendsTo spoke old bytes new =
    (k : ℕ) (read sent : List ℕ) → spoke k old read sent → spoke k new read (sent ++ bytes)

-- nothing was read of the stream, and nothing sent to it
abbrev pub Stays : {S : Type 0} → (ℕ → S → List ℕ → List ℕ → Type 0) → S → S → Type 0
Stays spoke old new =
    (k : ℕ) (read sent : List ℕ) → spoke k old read sent → spoke k new read sent

-- the stream's writing side stays ended, where it was
abbrev pub StaysShut : {S : Type 0} → (S → Cause → Type 0) → S → S → Type 0
StaysShut over old new = over old Shut → over new Shut

-- as many places are free as were, and as many connections were accepted
abbrev pub KeepsPlaces : {N : Type 0} → (N → ℕ → ℕ → Type 0) → N → N → Type 0
KeepsPlaces places old new = (free given : ℕ) → places old free given → places new free given

-- one connection more was accepted, and one place fewer is free, if one was
abbrev pub TakesPlace : {N : Type 0} → (N → ℕ → ℕ → Type 0) → N → N → Type 0
TakesPlace places old new =
    (free given : ℕ) → places old (free + 1) given → places new free (given + 1)

-- one more place is free
abbrev pub GivesPlace : {N : Type 0} → (N → ℕ → ℕ → Type 0) → N → N → Type 0
GivesPlace places old new =
    (free given : ℕ) → places old free given → places new (free + 1) given

-- one connection more was accepted, which takes no place
abbrev pub CountsOne : {N : Type 0} → (N → ℕ → ℕ → Type 0) → N → N → Type 0
CountsOne places old new =
    (free given : ℕ) → places old free given → places new free (given + 1)

-- the system's sockets have counted what they accepted, as far as a machine word counts
abbrev pub HasGiven : ℕ → ℕ → ℕ → Type 0
HasGiven accepted free given = accepted ≡ min given 18446744073709551615

-- from this state of the sockets to that one so many more were accepted, and all places are free
-- again
abbrev pub ServesPlaces : {N : Type 0} → (N → ℕ → ℕ → Type 0) → ℕ → ℕ → N → N → Type 0
ServesPlaces places all count old new =
    (given : ℕ) → places old all given → places new all (given + count)

-- since when no byte has moved on the stream is as it was
abbrev pub StaysQuiet : {S : Type 0} → (S → ℕ → Type 0) → S → S → Type 0
StaysQuiet quiet old new = (since : ℕ) → quiet old since → quiet new since

-- since when no byte has moved on the stream, after a call at this time that moved so many bytes
abbrev pub IsQuietAfter : {S : Type 0} → (S → ℕ → Type 0) → ℕ → S → S → ℕ → Type 0
IsQuietAfter quiet now old new zero = StaysQuiet quiet old new
IsQuietAfter quiet now old new (suc count) = quiet new now

-- no byte comes to be at hand there
abbrev pub StaysDry : {S : Type 0} → (S → Type 0) → S → S → Type 0
StaysDry dry old new = dry old → dry new

-- a fault of the stream: not that it has nothing yet, was interrupted, or found no memory
pub record IsBroken (e : Error) : Type 0 where
  pub has : error_kind e ≡ WouldBlock → ⊥
  pub was : error_kind e ≡ Interrupted → ⊥
  pub room : error_kind e ≡ OutOfMemory → ⊥

-- The connection with the number has ended as it was accepted, for lack of memory or since a call
-- on its stream failed so: nothing was read of it, and nothing sent to it.
pub record EndsAtOnce
    (ended : ℕ → List ℕ → List ℕ → Why → Type 0) (lost : ℕ → Cause → Type 0) (k : ℕ)
    (why : ConnError) : Type 0 where
  pub is : ended k [] [] (Err why)
  pub may : (why ≡ Memory) ⊎ lost k (Failed why)

-- a connection with the number was accepted at this time: its stream, or why it has ended
abbrev pub IsAccepted :
    {S N : Type 0} → (ℕ → S → List ℕ → List ℕ → Type 0) → (S → ℕ → Type 0)
    → (ℕ → List ℕ → List ℕ → Why → Type 0) → (ℕ → Cause → Type 0) → (N → ℕ → ℕ → Type 0)
    → ℕ → ℕ → N → N → Result S ConnError → Type 0
IsAccepted spoke quiet ended lost places k now old new (Ok stream) =
    spoke k stream [] [] × quiet stream now × TakesPlace places old new
IsAccepted spoke quiet ended lost places k now old new (Err why) =
    EndsAtOnce ended lost k why × CountsOne places old new

-- what was said of the stream is said of a connection that has ended, for this reason
pub record EndsAs
    {S : Type 0} (spoke : ℕ → S → List ℕ → List ℕ → Type 0) (over : S → Cause → Type 0) (stream : S)
    (why : Why)
    (ended : ℕ → List ℕ → List ℕ → Why → Type 0) (lost : ℕ → Cause → Type 0)
    : Type 0 where
  pub said : (k : ℕ) (read sent : List ℕ) → spoke k stream read sent → ended k read sent why
  pub found : (k : ℕ) (read sent : List ℕ) (cause : Cause)
      → spoke k stream read sent → over stream cause → lost k cause
