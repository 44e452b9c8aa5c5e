-- What a run over one connection reads, writes and does.
use Rattle.std.specs.Prelude.{◌≡◌, ℕ, ◌≤◌, ◌<◌, ◌⊎◌, ⊤, List, [], ◌∷◌, ◌++◌, length}
use Rattle.std.specs.Prelude.{Option, Some, None}
use Rattle.std.specs.Io.KnownBytes.{Appends, Consumes, IsAtEnd}
use Rattle.http_core.specs.Event.{EventValue}
use Rattle.http_core.specs.Stream.{Cuts}
use Rattle.cache_server.specs.Answering.{answered_all}
use Rattle.cache_server.specs.Cache.{CacheValue}
use Rattle.cache_server.specs.declared.error.ConnError.{ConnError}
use Rattle.cache_server.specs.declared.error.ConnError.TheVariants.{ReadFault, WriteFault, Memory}

-- the requests in the stream are answered by this text, and lead from the one cache to the other
pub record IsAnswered
    (prefix : List ℕ) (old : CacheValue) (stream text : List ℕ) (left : Option (List ℕ))
    (new : CacheValue)
    : Type 0 where
  pub events : List EventValue
  pub cut : Cuts prefix stream events left
  pub answers : answered_all old events ≡ (text, new)

-- All but the last piece was read while further bytes could be answered.
pub record ReadsNoFurther (prefix read : List ℕ) : Type 0 where
  pub earlier : List ℕ
  pub piece : List ℕ
  pub whole : read ≡ earlier ++ piece
  pub few : length piece ≤ 65536
  pub events : List EventValue
  pub rest : List ℕ
  pub open_before : Cuts prefix earlier events (Some rest)

-- bytes of a request that isn't answered are left of what was read, or nothing was read
abbrev pub StopsShort : List ℕ → List ℕ → Type 0
StopsShort front rest = (0 < length rest) ⊎ (front ≡ [])

-- of the answers to these events the text has all but the last, and a part of that
pub record HasAllButLast (old : CacheValue) (events : List EventValue) (text : List ℕ)
    : Type 0 where
  pub earlier : List EventValue
  pub last : EventValue
  pub part : List ℕ
  pub whole : events ≡ earlier ++ last ∷ []
  pub has : text ≡ (answered_all old earlier).0 ++ part

-- a fault is told where it happened, the reader's or the writer's; memory may run out at any time
abbrev pub IsFoundBy : Type 0 → Type 0 → ConnError → Type 0
IsFoundBy reader writer ReadFault = reader
IsFoundBy reader writer WriteFault = writer
IsFoundBy reader writer Memory = ⊤

module _ (prefix : List ℕ) (old : CacheValue) (input input_left before after : Option (List ℕ))
    (new : CacheValue) where
  -- The requests in what was read did their work, but for the rest of it, of at most one piece, and
  -- their answers are written, but for what is lost.
  pub record RunsBut (rest lost : List ℕ) (left : Option (List ℕ)) : Type 0 where
    pub front : List ℕ
    pub told : List ℕ
    pub consumes : Consumes input input_left (front ++ rest)
    pub appends : Appends before after told
    pub answered : IsAnswered prefix old front (told ++ lost) left new
    pub no_further : ReadsNoFurther prefix (front ++ rest)
    pub few_left : length rest ≤ 65536

  -- all that was read is answered, and the input has ended or an event in it closes
  abbrev pub Runs : Type 0
  Runs = (left : Option (List ℕ)) × RunsBut [] [] left × (IsAtEnd input_left ⊎ (left ≡ None))

  -- Where the reader failed all that was read is answered, and nothing in it closes; without memory
  -- only whole answers are written, of requests that don't close, and not all. The writer fails
  -- at the last request that is answered.
  abbrev pub BreaksOff : ConnError → Type 0
  BreaksOff ReadFault = (begun : List ℕ) × RunsBut [] [] (Some begun)
  BreaksOff Memory =
      (rest : List ℕ) × (begun : List ℕ) × (runs : RunsBut rest [] (Some begun))
      × StopsShort runs.front rest
  BreaksOff WriteFault =
      (rest : List ℕ) × (lost : List ℕ) × (left : Option (List ℕ))
      × (runs : RunsBut rest lost left) × HasAllButLast old runs.answered.events runs.told
