-- What a function of this crate returned, seen by view, is what the definition gives, unless memory
-- ran out.
use Rattle.std.specs.Prelude.{◌≡◌, Result, Ok, Err}
use Rattle.messages.specs.declared.error.MessageError.{MessageError}
use Rattle.messages.specs.declared.error.MessageError.TheVariants.{Memory}

abbrev pub FailsUnlessMemory : {Y : Type 0} → MessageError → Result Y MessageError → Type 0
FailsUnlessMemory Memory read = Unit {0}
FailsUnlessMemory e read = read ≡ Err e

abbrev pub GivesUnlessMemory : {X Y : Type 0} → (X → Y) → Result X MessageError
    → Result Y MessageError → Type 0
GivesUnlessMemory view (Ok x) read = read ≡ Ok (view x)
GivesUnlessMemory view (Err e) read = FailsUnlessMemory e read

-- a refusal is told before lack of memory
abbrev pub RefusesBeforeMemory : {X Y : Type 0} → Result X MessageError → Result Y MessageError
    → Type 0
RefusesBeforeMemory result read = (e : MessageError) → read ≡ Err e → result ≡ Err e
