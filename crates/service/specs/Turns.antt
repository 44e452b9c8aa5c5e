-- What connections do to a cache that are served one after another.
use Rattle.std.specs.Prelude.{◌≡◌, ℕ, zero, suc, ◌+◌, ◌⊎◌, min, List, Option, Err, IfErr}
use Rattle.std.specs.Prelude.{MatchResult}
use Rattle.cache_server.specs.Cache.{CacheValue}
use Rattle.cache_server.specs.Connection.{Runs, BreaksOff, IsAnswered, IsFoundBy}
use Rattle.cache_server.specs.declared.error.ConnError.{ConnError}
use Rattle.cache_server.specs.declared.error.ConnError.TheVariants.{ReadFault, WriteFault}
use Rattle.service.specs.Sockets.{Why}

-- After so many connections so many accepts in a row have failed, and besides them, where there was
-- none, those before.
abbrev pub FailsAfter : {L : Type 0} → (L → ℕ → Type 0) → ℕ → ℕ → L → L → Type 0
FailsAfter failed zero tries old new = (n : ℕ) → failed old n → failed new (n + tries)
FailsAfter failed (suc number) tries old new = failed new tries

-- how many connections of the system's were accepted, and how many of them have ended
pub record ListenerValue : Type 0 where
  pub accepted : ℕ
  pub ended : ℕ

-- the listener has counted these, as far as a machine word counts
abbrev pub HasCounted : ListenerValue → ℕ → ℕ → Type 0
HasCounted it accepted ended =
    (it.accepted ≡ min accepted 18446744073709551615)
    × (it.ended ≡ min ended 18446744073709551615)

-- connections more, of the first count, were accepted, and more, of the second, have ended
abbrev pub CountsOn : {L : Type 0} → (L → ℕ → ℕ → Type 0) → ℕ → ℕ → L → L → Type 0
CountsOn counts more over old new =
    (accepted ended : ℕ) → counts old accepted ended → counts new (accepted + more) (ended + over)

-- a connection of which this reader or this writer failed was lost so
pub record LosesAs (reader writer : Type 0) (lost : ConnError → Type 0) : Type 0 where
  pub reading : reader → lost ReadFault
  pub writing : writer → lost WriteFault

-- The connection with the number has ended as it was accepted, for lack of memory or since its
-- reader failed: nothing was read of it, and nothing written to it.
pub record EndsAtOnce
    (opened : ℕ → Option (List ℕ) → Option (List ℕ) → Type 0)
    (ended : ℕ → Option (List ℕ) → Option (List ℕ) → Why → Type 0) (lost : ℕ → ConnError → Type 0)
    (sent : ℕ → Type 0) (number : ℕ) (why : ConnError) : Type 0 where
  pub input : Option (List ℕ)
  pub before : Option (List ℕ)
  pub opens : opened number input before
  pub ends : ended number input before (Err why)
  pub found : IsFoundBy (lost number ReadFault) ⊥ why
  pub sent_on : sent number

-- The connection with the number was opened, its requests were answered under the prefix, to its
-- end or to a fault that was found, and it has ended.
pub record ServesNext
    (opened : ℕ → Option (List ℕ) → Option (List ℕ) → Type 0)
    (ended : ℕ → Option (List ℕ) → Option (List ℕ) → Why → Type 0) (lost : ℕ → ConnError → Type 0)
    (sent : ℕ → Type 0) (prefix : List ℕ) (number : ℕ) (old new : CacheValue) : Type 0 where
  pub input : Option (List ℕ)
  pub left : Option (List ℕ)
  pub before : Option (List ℕ)
  pub after : Option (List ℕ)
  pub why : Why
  pub opens : opened number input before
  pub ends : ended number left after why
  pub ran : MatchResult why (λ _. Runs prefix old input left before after new)
      (BreaksOff prefix old input left before after new)
  pub found : IfErr why (IsFoundBy (lost number ReadFault) (lost number WriteFault))
  -- unless its writer failed, what was written was sent on
  pub sent_on : lost number WriteFault ⊎ sent number

-- the connections with the numbers below this one were served, each after the one before it
pub data ServesInTurn
    (opened : ℕ → Option (List ℕ) → Option (List ℕ) → Type 0)
    (ended : ℕ → Option (List ℕ) → Option (List ℕ) → Why → Type 0) (lost : ℕ → ConnError → Type 0)
    (sent : ℕ → Type 0) (prefix : List ℕ) (opening : CacheValue) : ℕ → CacheValue → Type 0 where
  none : ServesInTurn opened ended lost sent prefix opening 0 opening
  next : (count : ℕ) (old new : CacheValue)
      → ServesInTurn opened ended lost sent prefix opening count old
      → ServesNext opened ended lost sent prefix count old new
      → ServesInTurn opened ended lost sent prefix opening (count + 1) new

-- the requests in some stream, answered under the prefix, led from the one cache to the other
abbrev pub LedByStream : List ℕ → CacheValue → CacheValue → Type 0
LedByStream prefix old new =
    (stream : List ℕ) × (text : List ℕ) × (left : Option (List ℕ))
    × IsAnswered prefix old stream text left new

-- the requests in as many streams, one after another, led from the opening cache to this one
pub data LedByStreams (prefix : List ℕ) (opening : CacheValue) : ℕ → CacheValue → Type 0 where
  no_stream : LedByStreams prefix opening 0 opening
  next_stream : (count : ℕ) (old new : CacheValue)
      → LedByStreams prefix opening count old → LedByStream prefix old new
      → LedByStreams prefix opening (count + 1) new
