-- What a cache answers to the events of a stream.
use Rattle.std.specs.Prelude.{ℕ, List, [], ◌∷◌, ◌++◌}
use Rattle.http_core.specs.Event.{EventValue, Asked, Refused}
use Rattle.http_core.specs.Reply.{ReplyValue, bare, reply_text}
use Rattle.cache_server.specs.Cache.{CacheValue, MayWant, applied}
use Rattle.cache_server.specs.Counts.{with_request}

-- the text that answers the event, and the cache after it; a refused request is counted
unfoldable pub answered : CacheValue → EventValue → List ℕ × CacheValue
answered c (Asked ask close) =
    let out : ReplyValue × CacheValue = applied c ask in (reply_text out.0 close, out.1)
answered c (Refused status close) = (
  reply_text (bare status) close,
  record { state = c.state; counts = with_request c.counts },
)

-- what memory may be wanting for: a refused request is answered without any
abbrev pub MayWantFor : CacheValue → EventValue → Type 0
MayWantFor c (Asked ask close) = MayWant c.state ask
MayWantFor c (Refused status close) = ⊥

-- the texts that answer the events one after another, and the cache after them
unfoldable pub answered_all : CacheValue → List EventValue → List ℕ × CacheValue
answered_all c [] = ([], c)
answered_all c (event ∷ events) =
    let first : List ℕ × CacheValue = answered c event in
    let others : List ℕ × CacheValue = answered_all first.1 events in
    (first.0 ++ others.0, others.1)
