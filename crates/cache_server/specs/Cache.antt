-- What a cache does with a request, and what it replies: a step of the machine of blobs and
-- results.
use Rattle.std.specs.Prelude.{◌≡◌, ℕ, false, List, [], ◌∷◌, Option, Some, None, IsSome, IsSomeAnd}
use Rattle.std.specs.Prelude.{⊤}
use Rattle.http_core.specs.declared.event.Area.TheVariants.{Ac, Cas, Pin, Unpin}
use Rattle.http_core.specs.Event.{AskValue, Get, Put}
use Rattle.http_core.specs.Reply.{ReplyValue, bare}
use Rattle.action_cache.specs.Machine.{CacheState, Answer, done, given, nothing, refused, under}
use Rattle.action_cache.specs.Machine as machine
use Rattle.action_cache.specs.Reading.{by_messages}
use Rattle.action_cache.specs.State.{bytes_given}
use Rattle.cache_server.specs.Counts.{count_ask, no_counts}
use Rattle.cache_server.specs.Status.{status_of}
use Rattle.cache_server.specs.declared.counts.Counts.{Counts}

-- the blobs and results, and the counts of what was answered
pub record CacheValue : Type 0 where
  pub state : CacheState
  pub counts : Counts

-- a cache that holds nothing
abbrev pub unused_cache : ℕ → ℕ → CacheValue
unused_cache limit result_limit =
    record { state = machine.empty_cache limit result_limit; counts = no_counts }

-- the reply to a look-up that found these bytes, or none
abbrev pub found_reply : Option (List ℕ) → ReplyValue
found_reply None = bare 404
found_reply (Some bytes) = record { status = 200; body = bytes }

-- the reply to what the machine answers
abbrev pub reply_to : Answer → ReplyValue
reply_to done = bare 200
reply_to (given bytes) = found_reply (Some bytes)
reply_to nothing = found_reply None
reply_to (refused why) = bare (status_of why)

-- the reply, and the state after it
abbrev pub replied : Answer × CacheState → ReplyValue × CacheState
replied out = (reply_to out.0, out.1)

-- a request to pin or to unpin has no body
abbrev pub without_body : CacheState → List ℕ → Answer × CacheState → ReplyValue × CacheState
without_body s [] out = replied out
without_body s (b ∷ body) out = (bare 400, s)

-- The reply to a request, and the state after it. A session asks to get blobs and results alone.
unfoldable pub step : CacheState → AskValue → ReplyValue × CacheState
step s (Get Ac hash) = replied (machine.get_result by_messages s hash)
step s (Get Cas hash) = replied (machine.get_blob by_messages s hash)
step s (Get Pin hash) = (bare 404, s)
step s (Get Unpin hash) = (bare 404, s)
step s (Put Ac hash body) = replied (machine.put_result by_messages s hash body)
step s (Put Cas hash body) = replied (machine.put_blob by_messages s hash body)
step s (Put Pin hash body) = without_body s body (machine.pin by_messages s hash)
step s (Put Unpin hash body) = without_body s body (machine.unpin by_messages s hash)

-- The reply to a request, and the cache after it, with its counts.
abbrev pub applied : CacheValue → AskValue → ReplyValue × CacheValue
applied c ask =
    let out : ReplyValue × CacheState = step c.state ask in
    (out.0, record { state = out.1; counts = count_ask ask out.0.status c.counts })

-- What memory may be wanting for: a look-up that finds something, a result that has to be read, a
-- new blob with room, and a change of a pin. So a blob that is held, or for which there is no room,
-- is answered whatever memory there is.
abbrev pub MayWant : CacheState → AskValue → Type 0
MayWant s (Get Ac hash) = IsSome (under hash s.results)
MayWant s (Get Cas hash) = IsSome (bytes_given (machine.get_blob by_messages s hash).0)
MayWant s (Get Pin hash) = ⊥
MayWant s (Get Unpin hash) = ⊥
MayWant s (Put Ac hash body) = ⊤
MayWant s (Put Cas hash body) =
    ((machine.put_blob by_messages s hash body).0 ≡ done)
    × ((machine.get_blob by_messages s hash).0 ≡ nothing)
MayWant s (Put Pin hash body) =
    (body ≡ []) × IsSomeAnd (under hash s.results) (λ r. r.pinned ≡ false)
MayWant s (Put Unpin hash body) = (body ≡ []) × ((machine.unpin by_messages s hash).0 ≡ done)
