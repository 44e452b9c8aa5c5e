-- What holds of every history and every run.
use Rattle.std.specs.Prelude.{◌≡◌, ℕ, List, ◌++◌, Option}
use Rattle.sha2.specs.Sha256.{sha256}
use Rattle.http_core.specs.declared.event.Area.TheVariants.{Cas}
use Rattle.http_core.specs.Event.{EventValue, Get}
use Rattle.http_core.specs.Reply.{ReplyValue}
use Rattle.http_core.specs.Stream.{Cuts}
use Rattle.cache_server.specs.Cache.{CacheValue, applied, unused_cache}
use Rattle.cache_server.specs.History.{HistoryEntry, CacheAfter, AnswersTo}
use Rattle.cache_server.specs.Connection.{IsAnswered}

-- a history leads to one cache
abbrev pub LeadsToOneCache : Type 0
LeadsToOneCache =
    (prefix : List ℕ) (opening : CacheValue) (history : List HistoryEntry) (a b : CacheValue)
    → CacheAfter prefix opening history a → CacheAfter prefix opening history b → a ≡ b

-- an entry after a history has one text of answers
abbrev pub HasOneAnswer : Type 0
HasOneAnswer =
    (prefix : List ℕ) (opening : CacheValue)
    (history : List HistoryEntry) (entry : HistoryEntry) (x y : List ℕ)
    → AnswersTo prefix opening history entry x → AnswersTo prefix opening history entry y → x ≡ y

-- After any history a blob that is answered has the hash that was asked for.
abbrev pub AnswersItsHash : Type 0
AnswersItsHash =
    (prefix : List ℕ) (limit result_limit : ℕ) (history : List HistoryEntry)
    (cache new : CacheValue) (hash : List ℕ) (reply : ReplyValue)
    → CacheAfter prefix (unused_cache limit result_limit) history cache
    → applied cache (Get Cas hash) ≡ (reply, new) → reply.status ≡ 200 → sha256 reply.body ≡ hash

-- what a beginning of a stream is answered begins the answers to the whole stream
abbrev pub BeginsTheAnswers : Type 0
BeginsTheAnswers =
    (prefix : List ℕ) (old new : CacheValue) (front rest told lost : List ℕ)
    (left whole_left : Option (List ℕ)) (events : List EventValue)
    → IsAnswered prefix old front (told ++ lost) left new
    → Cuts prefix (front ++ rest) events whole_left
    → (others : List ℕ) × (last : CacheValue)
    × IsAnswered prefix old (front ++ rest) (told ++ others) whole_left last
