-- Whole streams, and the events that they are cut into.
use Rattle.std.specs.Prelude.{◌≡◌, ℕ, ◌≤◌, ◌⊎◌, true, false, List, [], ◌∷◌, ◌++◌, length, Option}
use Rattle.std.specs.Prelude.{Some, None}
use Rattle.http_core.specs.declared.judging.Judgement.{Judgement}
use Rattle.http_core.specs.declared.judging.Judgement.TheVariants as judgements
use Rattle.http_core.specs.Block.{HasNoBlock, IsBlock}
use Rattle.http_core.specs.Event.{Get, Put, EventValue, Asked, Refused, closes}
use Rattle.http_core.specs.Judging.{Judges}

-- how many bytes the body has after a block with this judgement
abbrev pub body_length : Judgement → ℕ
body_length (judgements.Refuse status close) = 0
body_length (judgements.Get area hash close) = 0
body_length (judgements.Put area hash length close) = length

-- the event of a block with this judgement, and of its body
abbrev pub outcome : Judgement → List ℕ → EventValue
outcome (judgements.Refuse status close) body = Refused status close
outcome (judgements.Get area hash close) body = Asked (Get area hash) close
outcome (judgements.Put area hash length close) body = Asked (Put area hash body) close

-- no block ends in the first 16,384 bytes
pub record IsTooLong (bytes : List ℕ) (event : EventValue) : Type 0 where
  pub size : length bytes ≡ 16384
  pub none : HasNoBlock bytes
  pub gives : event ≡ Refused 431 true

-- a block and the body that it asks for
pub record IsRequest (prefix bytes : List ℕ) (event : EventValue) : Type 0 where
  pub block : List ℕ
  pub body : List ℕ
  pub judgement : Judgement
  pub whole : bytes ≡ block ++ body
  pub ends : IsBlock block
  pub fits : length block ≤ 16384
  pub judged : Judges prefix block judgement
  pub full : length body ≡ body_length judgement
  pub gives : event ≡ outcome judgement body

-- the bytes, and none of them too many, make the event
abbrev pub Completes : List ℕ → List ℕ → EventValue → Type 0
Completes prefix bytes event = IsTooLong bytes event ⊎ IsRequest prefix bytes event

-- no beginning of the bytes makes an event
abbrev pub IsPartial : List ℕ → List ℕ → Type 0
IsPartial prefix bytes =
    (front rest : List ℕ) (event : EventValue)
    → bytes ≡ front ++ rest → Completes prefix front event → ⊥

-- The stream is cut into these events, and what is left is the beginning of a request, or nothing
-- after an event that closes: bytes after it don't count.
unfoldable pub Cuts : List ℕ → List ℕ → List EventValue → Option (List ℕ) → Type 0
Cuts prefix stream [] left = IsPartial prefix stream × (left ≡ Some stream)
Cuts prefix stream (event ∷ events) left =
    (front : List ℕ) × (rest : List ℕ) × (stream ≡ front ++ rest) × Completes prefix front event
    × (((closes event ≡ true) × (events ≡ []) × (left ≡ None))
    ⊎ ((closes event ≡ false) × Cuts prefix rest events left))
