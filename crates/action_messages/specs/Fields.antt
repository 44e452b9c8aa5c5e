-- Fields of a message: strings, and refusals by a test.
use Rattle.std.specs.Prelude.{ℕ, Bool, List, Result, Ok, Err, if◌then◌else◌}
use Rattle.std.specs.Str.{is_utf8}
use Rattle.wire.specs.Record.{Record}
use Rattle.canonical.specs.declared.error.CanonError.TheVariants.{BadUtf8}
use Rattle.canonical.specs.Fields.{string_at}
use Rattle.canonical.specs.Told.{or_told}
use Rattle.messages.specs.declared.error.MessageError.{MessageError}
use Rattle.messages.specs.declared.error.MessageError.TheVariants.{Wire}
use Rattle.messages.specs.Told.{told}

-- the string of a single field
abbrev pub text_at : ℕ → List Record → Result (List ℕ) MessageError
text_at number rs = or_told told (string_at number rs)

-- an element of a repeated field of strings
abbrev pub string_of : List ℕ → Result (List ℕ) MessageError
string_of text = if is_utf8 text then Ok text else Err (Wire BadUtf8)

abbrev pub refused_unless : Bool → MessageError → Result (Unit {0}) MessageError
refused_unless valid e = if valid then Ok tt else Err e
