-- Messages that are read tolerantly, by the texts of their occurrences: the records of all of them,
-- each cut by itself, one after another.
use Rattle.std.specs.Prelude.{ℕ, List, [], ◌∷◌, Option, Some, None, Result, Ok}
use Rattle.wire.specs.Record.{Record}
use Rattle.wire.specs.Steps.{◌>>=◌}
use Rattle.canonical.specs.declared.shape.Entry.{Entry}
use Rattle.canonical.specs.Known.{any_fields_checked}
use Rattle.canonical.specs.Told.{or_told}
use Rattle.messages.specs.declared.error.MessageError.{MessageError}
use Rattle.messages.specs.DigestMessage.{digest_shape, digest_in}
use Rattle.messages.specs.Told.{told}
use Rattle.blob_digest.specs.DigestValue.{DigestValue}

-- the records of a message of the shape, in which some numbers are skipped
abbrev pub known_checked : List Entry → List ℕ → List (List ℕ)
    → Result (List Record) MessageError
known_checked entries skipped texts = or_told told (any_fields_checked entries skipped texts)

-- a single message, which is there where a record is
abbrev pub in_occurrences : {A : Type 0} → (List (List ℕ) → Result A MessageError)
    → List (List ℕ) → Result (Option A) MessageError
in_occurrences says [] = Ok None
in_occurrences says (text ∷ texts) = says (text ∷ texts) >>= λ x. Ok (Some x)

-- a message of one text
abbrev pub alone : {A : Type 0} → (List (List ℕ) → Result A MessageError)
    → List ℕ → Result A MessageError
alone says text = says (text ∷ [])

unfoldable pub any_digest : List (List ℕ) → Result DigestValue MessageError
any_digest texts = known_checked digest_shape [] texts >>= digest_in
