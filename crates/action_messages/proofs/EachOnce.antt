-- No texts spell two lists of records, each cut by itself.
use Rattle.std.proofs.Common.{◌≡◌, ℕ, List, [], ◌∷◌, ◌++◌, sym, ◌∙◌}
use Rattle.canonical.specs.Known.{SpellsEach}
use Rattle.wire.specs.Record.{Record}
use Rattle.wire.proofs.AnyOnce.{any_once}

pub each_once : (texts : List (List ℕ)) (rs ss : List Record) → SpellsEach texts rs → SpellsEach texts ss → rs ≡ ss
each_once [] rs ss h k = h ∙ sym k
each_once (text ∷ texts) rs ss (front, others, is, spelled, rest) (begin, more, also, same, end) =
    let heads = any_once text front begin spelled same in
    let tails = each_once texts others more rest end in
    is ∙ (λ i. heads i ++ tails i) ∙ sym also
