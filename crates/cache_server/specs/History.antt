-- What came over the connections of a server, and what it leads to.
use Rattle.std.specs.Prelude.{◌≡◌, ℕ, ◌==◌, Bool, false, List, [], ◌∷◌, ◌++◌, Option, if◌then◌else◌}
use Rattle.std.specs.List.{flat_map, list_any}
use Rattle.http_core.specs.Event.{EventValue}
use Rattle.http_core.specs.Stream.{Cuts}
use Rattle.cache_server.specs.Cache.{CacheValue}
use Rattle.cache_server.specs.Answering.{answered_all}

-- A piece of the stream of a connection, lack of memory while a piece of it was at hand, or its
-- end. In a history the first stands in front.
pub data HistoryEntry : Type 0 where
  Piece : ℕ → List ℕ → HistoryEntry
  Fail : ℕ → HistoryEntry
  End : ℕ → HistoryEntry

-- the connection ends
abbrev pub is_end : ℕ → HistoryEntry → Bool
is_end k (End j) = k == j
is_end k other = false

-- memory was lacking for the connection
abbrev pub is_fail : ℕ → HistoryEntry → Bool
is_fail k (Fail j) = k == j
is_fail k other = false

-- what came over the connection
abbrev pub bytes_over : ℕ → HistoryEntry → List ℕ
bytes_over k (Piece j bytes) = if k == j then bytes else []
bytes_over k other = []

-- what comes after the last end of the connection
unfoldable pub since_end : ℕ → List HistoryEntry → List HistoryEntry
since_end k [] = []
since_end k (entry ∷ history) =
    if list_any (is_end k) history then since_end k history
    else (if is_end k entry then history else entry ∷ history)

-- what comes before the first failure on the connection
unfoldable pub until_fail : ℕ → List HistoryEntry → List HistoryEntry
until_fail k [] = []
until_fail k (entry ∷ history) =
    if is_fail k entry then [] else entry ∷ until_fail k history

-- the stream of the connection: its pieces since its last end, without those after a failure
unfoldable pub stream_of : ℕ → List HistoryEntry → List ℕ
stream_of k history = flat_map (bytes_over k) (until_fail k (since_end k history))

-- the connection failed since its last end
unfoldable pub has_failed : ℕ → List HistoryEntry → Bool
has_failed k history = list_any (is_fail k) (since_end k history)

-- the events that the stream of the connection has with the entry, and hadn't before it
abbrev pub GainsEvents : List ℕ → ℕ → List HistoryEntry → HistoryEntry → List EventValue → Type 0
GainsEvents prefix k before entry events =
    (earlier : List EventValue) × (a : Option (List ℕ)) × (b : Option (List ℕ))
    × Cuts prefix (stream_of k before) earlier a
    × Cuts prefix (stream_of k (before ++ entry ∷ [])) (earlier ++ events) b

-- the events that the entry completes, after the history before it
abbrev pub Brings : List ℕ → List HistoryEntry → HistoryEntry → List EventValue → Type 0
Brings prefix before (Piece k bytes) events = GainsEvents prefix k before (Piece k bytes) events
Brings prefix before (Fail k) events = events ≡ []
Brings prefix before (End k) events = events ≡ []

-- the events that the entries complete in their order, after the history before them
unfoldable pub BringsAll : List ℕ → List HistoryEntry → List HistoryEntry → List EventValue → Type 0
BringsAll prefix before [] events = events ≡ []
BringsAll prefix before (entry ∷ history) events =
    (first : List EventValue) × (others : List EventValue)
    × Brings prefix before entry first
    × BringsAll prefix (before ++ entry ∷ []) history others × (events ≡ first ++ others)

-- the cache after the history: it did what the requests asked, in the order in which they became
-- whole
unfoldable pub CacheAfter : List ℕ → CacheValue → List HistoryEntry → CacheValue → Type 0
CacheAfter prefix opening history cache =
    (events : List EventValue) × (text : List ℕ)
    × BringsAll prefix [] history events × (answered_all opening events ≡ (text, cache))

-- the answers to an entry after the history
unfoldable pub AnswersTo : List ℕ → CacheValue → List HistoryEntry → HistoryEntry → List ℕ → Type 0
AnswersTo prefix opening history entry text =
    (events : List EventValue) × (before : CacheValue) × (cache : CacheValue)
    × CacheAfter prefix opening history before × Brings prefix history entry events
    × (answered_all before events ≡ (text, cache))
