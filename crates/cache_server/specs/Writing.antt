-- Answers on a writer: what it had, and what it has then.
use Rattle.std.specs.Prelude.{◌≡◌, ℕ, List, [], ◌∷◌, ◌++◌, Option}
use Rattle.std.specs.Io.KnownBytes.{Appends, Keeps}
use Rattle.http_core.specs.Event.{EventValue}
use Rattle.cache_server.specs.Answering.{answered, answered_all}
use Rattle.cache_server.specs.Cache.{CacheValue}
use Rattle.cache_server.specs.Connection.{HasAllButLast}
use Rattle.cache_server.specs.declared.error.ConnError.{ConnError}
use Rattle.cache_server.specs.declared.error.ConnError.TheVariants.{ReadFault, WriteFault, Memory}

-- some beginning of the bytes was written
pub record WritesSome (before after : Option (List ℕ)) (bytes : List ℕ) : Type 0 where
  pub written : List ℕ
  pub lost : List ℕ
  pub whole : bytes ≡ written ++ lost
  pub appends : Appends before after written

module _ (old : CacheValue) (event : EventValue) (before after : Option (List ℕ))
    (new : CacheValue) where
  -- the event is answered, and its text is written
  abbrev pub IsTold : Type 0
  IsTold =
      (text : List ℕ) × (answered old event ≡ (text, new)) × Appends before after text

  -- Without memory nothing is done. Where the writer fails the event is answered, and a beginning
  -- of its text is written.
  abbrev pub IsToldInPart : ConnError → Type 0
  IsToldInPart Memory = (new ≡ old) × Keeps before after
  IsToldInPart WriteFault =
      (text : List ℕ) × (answered old event ≡ (text, new)) × WritesSome before after text
  IsToldInPart ReadFault = ⊥

module _ (old : CacheValue) (events : List EventValue) (before after : Option (List ℕ))
    (new : CacheValue) where
  -- the events but the last ones are answered one after another, and their texts are written, but
  -- for what is lost
  pub record TellsBut (others : List EventValue) (lost : List ℕ) : Type 0 where
    pub done : List EventValue
    pub told : List ℕ
    pub whole : events ≡ done ++ others
    pub answers : answered_all old done ≡ (told ++ lost, new)
    pub appends : Appends before after told

  -- Without memory for an answer those before it are written. The writer fails at an answer, after
  -- which nothing is answered.
  abbrev pub StopsTelling : ConnError → Type 0
  StopsTelling Memory =
      (event : EventValue) × (others : List EventValue) × TellsBut (event ∷ others) []
  StopsTelling WriteFault =
      (others : List EventValue) × (lost : List ℕ) × (tells : TellsBut others lost)
      × HasAllButLast old tells.done tells.told
  StopsTelling ReadFault = ⊥
