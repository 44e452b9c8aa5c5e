-- What is asked over connections, and what is answered there.
use Rattle.std.specs.Prelude.{◌≡◌, ◌⊎◌, ℕ, ◌<◌, Bool, true, false, List, [], ◌∷◌, ◌++◌, None}
use Rattle.std.specs.Prelude.{Ok, Err}
use Rattle.std.specs.IoError.{error_kind}
use Rattle.std.specs.declared.io.Error.{Error}
use Rattle.std.specs.declared.io.ErrorKind.TheVariants.{OutOfMemory, WouldBlock}
use Rattle.std.specs.List.{AllByRecursion}
use Rattle.http_core.specs.Event.{EventValue}
use Rattle.http_core.specs.Stream.{Cuts}
use Rattle.cache_server.specs.Cache.{CacheValue}
use Rattle.cache_server.specs.History.{HistoryEntry, Piece, Fail, End, stream_of, has_failed}
use Rattle.cache_server.specs.Server.{ServerValue, ServerStands}
use Rattle.cache_server.specs.Turn.{IsOneAnswerTo}
use Rattle.cache_server.specs.declared.error.ConnError.{ConnError}
use Rattle.cache_server.specs.declared.error.ConnError.TheVariants.{Memory, ReadFault, WriteFault}
use Rattle.service.specs.Sockets.{Cause, Failed, Finished, Shut, Silent, Why}
use Rattle.service.specs.Turns.{FailsAfter}

-- the number of the connection that an entry of a history is of
abbrev pub entry_number : HistoryEntry → ℕ
entry_number (Piece k bytes) = k
entry_number (Fail k) = k
entry_number (End k) = k

-- no further byte on the connection can be answered: a request closes it, or memory was wanting
abbrev pub IsShut : List ℕ → ℕ → List HistoryEntry → Type 0
IsShut prefix k history =
    (has_failed k history ≡ true)
    ⊎ ((events : List EventValue) × Cuts prefix (stream_of k history) events None)

-- no entry is of the connection
abbrev pub AreOfOthers : ℕ → List HistoryEntry → Type 0
AreOfOthers k entries = AllByRecursion (λ entry. entry_number entry ≡ k → ⊥) entries

-- What came over the connection in the entries after the history, one request at a time and as long
-- as more could be answered; the answers to all but the last are `earlier`, and `last` is that to
-- the last. What was at hand as memory was wanting has none.
pub data Answered (prefix : List ℕ) (opening : CacheValue) (history : List HistoryEntry) (k : ℕ)
    : List HistoryEntry → List ℕ → List ℕ → List ℕ → Type 0 where
  none : Answered prefix opening history k [] [] [] []
  piece : (entries : List HistoryEntry) (came earlier last bytes answer : List ℕ)
      → Answered prefix opening history k entries came earlier last
      → (IsShut prefix k (history ++ entries) → ⊥)
      → IsOneAnswerTo prefix opening (history ++ entries) (Piece k bytes) answer
      → Answered prefix opening history k
      (entries ++ Piece k bytes ∷ []) (came ++ bytes) (earlier ++ last) answer
  lost : (entries : List HistoryEntry) (came earlier last bytes : List ℕ)
      → Answered prefix opening history k entries came earlier last
      → (IsShut prefix k (history ++ entries) → ⊥)
      → Answered prefix opening history k
      (entries ++ (Piece k bytes ∷ Fail k ∷ [])) (came ++ bytes) earlier last
  other : (entries : List HistoryEntry) (came earlier last : List ℕ) (entry : HistoryEntry)
      → Answered prefix opening history k entries came earlier last
      → (entry_number entry ≡ k → ⊥)
      → Answered prefix opening history k (entries ++ entry ∷ []) came earlier last

-- Of what was read of the connection all but `left` came to the server, and the answers to that
-- were sent but for `unsent`, which is of one answer.
pub record Talks
    (prefix : List ℕ) (opening : CacheValue) (history entries : List HistoryEntry) (k : ℕ)
    (read sent left unsent : List ℕ) : Type 0 where
  pub came : List ℕ
  pub earlier : List ℕ
  pub part : List ℕ
  pub reading : read ≡ came ++ left
  pub sending : sent ≡ earlier ++ part
  pub answered : Answered prefix opening history k entries came earlier (part ++ unsent)

-- the fault of one that was silent: it took nothing of what isn't sent, or sent nothing
abbrev pub fault_of_silence : List ℕ → ConnError
fault_of_silence [] = ReadFault
fault_of_silence (byte ∷ unsent) = WriteFault

-- Why a connection may end. Without a fault its peer has ended it, and all that was read is
-- answered and sent, or no more can be answered, the last answer is sent, and the writing side was
-- ended. With one memory is wanting, a call on its stream failed so, or it was silent for too long.
abbrev pub IsReason : (Cause → Type 0) → Type 0 → List ℕ → List ℕ → Why → Type 0
IsReason over shut left unsent (Ok done) =
    (over Finished × (left ≡ []) × (unsent ≡ [])) ⊎ (shut × over Shut × (unsent ≡ []))
IsReason over shut left unsent (Err e) =
    (e ≡ Memory) ⊎ (over (Failed e) ⊎ (over Silent × (e ≡ fault_of_silence unsent)))

-- a reason is given, or the whole run was cut off, which is told as a fault of reading
abbrev pub OrCutOff : Bool → Why → Type 0 → Type 0
OrCutOff false why P = P
OrCutOff true why P = P ⊎ (why ≡ Err ReadFault)

-- The connection has ended, after these entries, and none of it comes later. Until then a beginning
-- of what was read of it came to the server, and a beginning of the answers to that was sent, to
-- the last one at least.
pub record HasEnded
    (cut : Bool) (ended : ℕ → List ℕ → List ℕ → Why → Type 0)
    (lost : ℕ → Cause → Type 0) (prefix : List ℕ) (opening : CacheValue)
    (history entries : List HistoryEntry) (k : ℕ) : Type 0 where
  pub before : List HistoryEntry
  pub after : List HistoryEntry
  pub whole : entries ≡ before ++ End k ∷ after
  pub last : AreOfOthers k after
  pub read : List ℕ
  pub sent : List ℕ
  pub left : List ℕ
  pub unsent : List ℕ
  pub why : Why
  pub is : ended k read sent why
  pub talks : Talks prefix opening history before k read sent left unsent
  pub may : OrCutOff cut why
      (IsReason (lost k) (IsShut prefix k (history ++ before)) left unsent why)

-- each entry is of a connection with a number below this one
abbrev pub AreBelow : ℕ → List HistoryEntry → Type 0
AreBelow count entries = AllByRecursion (λ entry. entry_number entry < count) entries

-- Of the connections with a number below this one each has ended, and what came over them alone led
-- to the server.
pub record ServesEach
    (cut : Bool) (ended : ℕ → List ℕ → List ℕ → Why → Type 0)
    (lost : ℕ → Cause → Type 0) (prefix : List ℕ) (opening : CacheValue)
    (history : List HistoryEntry) (count : ℕ) (new : ServerValue) : Type 0 where
  pub entries : List HistoryEntry
  pub stands : ServerStands opening new (history ++ entries)
  pub theirs : AreBelow count entries
  pub each : (k : ℕ) → k < count → HasEnded cut ended lost prefix opening history entries k

-- Whatever history had led to the server, each of the connections has ended, and what came over
-- them alone led to the new one.
abbrev pub ServesConnections :
    Bool → (ℕ → List ℕ → List ℕ → Why → Type 0) → (ℕ → Cause → Type 0)
    → ServerValue → ℕ → ServerValue → Type 0
ServesConnections cut ended over old count new =
    (opening : CacheValue) (history : List HistoryEntry)
    → ServerStands opening old history
    → ServesEach cut ended over old.prefix opening history count new

-- The entries have the connection's end, and none of it comes later. Before that these bytes came,
-- one request at a time and as long as more could be answered.
pub record ComesToEnd
    (prefix : List ℕ) (opening : CacheValue) (history entries : List HistoryEntry) (k : ℕ)
    : Type 0 where
  pub before : List HistoryEntry
  pub after : List HistoryEntry
  pub whole : entries ≡ before ++ End k ∷ after
  pub last : AreOfOthers k after
  pub came : List ℕ
  pub earlier : List ℕ
  pub answer : List ℕ
  pub answered : Answered prefix opening history k before came earlier answer

-- What came over some connections, of numbers below this one, and their ends alone led to the
-- server.
pub record ComesOfEach
    (prefix : List ℕ) (opening : CacheValue) (history : List HistoryEntry) (count : ℕ)
    (new : ServerValue) : Type 0 where
  pub entries : List HistoryEntry
  pub stands : ServerStands opening new (history ++ entries)
  pub theirs : AreBelow count entries
  pub each : (k : ℕ) → k < count → ComesToEnd prefix opening history entries k

-- Whatever history had led to the server, what came over the connections and their ends alone led
-- to the new one.
abbrev pub LedByConnections : ServerValue → ℕ → ServerValue → Type 0
LedByConnections old count new =
    (opening : CacheValue) (history : List HistoryEntry)
    → ServerStands opening old history → ComesOfEach old.prefix opening history count new

-- A hundred accepts in a row have failed, the last so.
pub record AcceptsNone
    {N : Type 0} (failed : N → ℕ → Type 0) (refused : N → Error → Type 0) (now : N) (e : Error)
    : Type 0 where
  pub before : N
  pub tried : FailsAfter failed 0 100 before now
  pub last : refused now e

-- no connection waited to be accepted
abbrev pub FindsNone : {N : Type 0} → (N → Error → Type 0) → N → Type 0
FindsNone refused now = (e : Error) × refused now e × (error_kind e ≡ WouldBlock)

-- Why no more connections are served: memory is wanting or a wait failed so; or no more can be
-- accepted, and until then all was served.
abbrev pub Stops :
    {N : Type 0} → (N → ℕ → Type 0) → (N → Error → Type 0) → (Error → Type 0) → Type 0 → N → Error
    → Type 0
Stops failed refused broken served now e =
    ((error_kind e ≡ OutOfMemory) ⊎ broken e) ⊎ (AcceptsNone failed refused now e × served)
