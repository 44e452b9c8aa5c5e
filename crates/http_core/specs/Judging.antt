-- What a block asks for.
use Rattle.std.specs.Prelude.{◌≡◌, ℕ, ◌+◌, ◌<◌, ◌≤◌, ◌==◌, ◌⊎◌, true, List, []}
use Rattle.std.specs.Prelude.{◌∷◌, length, if◌then◌else◌}
use Rattle.std.specs.List.{starts_with}
use Rattle.httparse.specs.Grammar.{RequestHead, ReadsRequest}
use Rattle.http_core.specs.declared.judging.Judgement.{Judgement}
use Rattle.http_core.specs.declared.judging.Judgement.TheVariants.{Refuse}
use Rattle.http_core.specs.Rules.{JudgesHead}

-- how often CR LF stands in the bytes
abbrev pub pairs : List ℕ → ℕ
pairs [] = 0
pairs (b ∷ bytes) =
    (if starts_with (λ x y. y == x) (b ∷ bytes) (13 ∷ 10 ∷ []) then 1 else 0) + pairs bytes

-- the block is the whole of this request head, which has at most 64 fields
abbrev pub IsHeadOf : List ℕ → RequestHead → Type 0
IsHeadOf block h = ReadsRequest block h [] × (length h.fields ≤ 64)

-- The block has the judgement: too many lines are 431, and what isn't a head of at most 64 fields
-- is 400; else the rules decide.
unfoldable pub Judges : List ℕ → List ℕ → Judgement → Type 0
Judges prefix block j =
    ((66 < pairs block) × (j ≡ Refuse 431 true))
    ⊎ ((pairs block ≤ 66) × ((h : RequestHead) → IsHeadOf block h → ⊥) × (j ≡ Refuse 400 true))
    ⊎ ((pairs block ≤ 66) × (h : RequestHead) × IsHeadOf block h × JudgesHead prefix h j)
