-- What a server of many connections sends over one of them.
use Rattle.std.specs.Prelude.{◌≡◌, ◌≢◌, ℕ, ◌⊎◌, List, [], ◌∷◌, ◌++◌}
use Rattle.cache_server.specs.Cache.{CacheValue}
use Rattle.cache_server.specs.History.{HistoryEntry, Piece, Fail, End, AnswersTo}

-- the text for one entry after the history before it: the answers to a piece of this connection
abbrev pub TellsOver :
    List ℕ → CacheValue → ℕ → List HistoryEntry → HistoryEntry → List ℕ → Type 0
TellsOver prefix opening k before (Piece j bytes) text =
    ((j ≡ k) × AnswersTo prefix opening before (Piece j bytes) text)
    ⊎ ((j ≢ k) × (text ≡ []))
TellsOver prefix opening k before (Fail j) text = text ≡ []
TellsOver prefix opening k before (End j) text = text ≡ []

-- the text for entries in turn, after the history before them
unfoldable pub TellsAllOver :
    List ℕ → CacheValue → ℕ → List HistoryEntry → List HistoryEntry → List ℕ → Type 0
TellsAllOver prefix opening k before [] text = text ≡ []
TellsAllOver prefix opening k before (entry ∷ history) text =
    (first : List ℕ) × (others : List ℕ) × TellsOver prefix opening k before entry first
    × TellsAllOver prefix opening k (before ++ entry ∷ []) history others
    × (text ≡ first ++ others)
