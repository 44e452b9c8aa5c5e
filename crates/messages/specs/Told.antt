-- How a message tells the refusals of its shape: an unknown field is one that isn't supported. And
-- fields that have to be there.
use Rattle.std.specs.Prelude.{ℕ, List, Option, Result}
use Rattle.std.specs.Option.{ok_or}
use Rattle.wire.specs.Record.{Record}
use Rattle.canonical.specs.declared.error.CanonError.{CanonError}
use Rattle.canonical.specs.declared.error.CanonError.TheVariants as canon
use Rattle.canonical.specs.declared.shape.Entry.{Entry}
use Rattle.canonical.specs.Told.{shape_told}
use Rattle.messages.specs.declared.error.MessageError.{MessageError}
use Rattle.messages.specs.declared.error.MessageError.TheVariants.{Wire, Unsupported, Memory}
use Rattle.messages.specs.declared.error.MessageError.TheVariants.{MissingField}

abbrev pub told : CanonError → MessageError
told (canon.UnknownField number) = Unsupported number
told canon.Memory = Memory
told e = Wire e

-- the records of a message of the shape
abbrev pub shape_checked : List Entry → List ℕ → Result (List Record) MessageError
shape_checked entries bytes = shape_told told entries bytes

-- the value of the field of this number, which has to be there
abbrev pub required : {X : Type 0} → ℕ → Option X → Result X MessageError
required number value = ok_or value (MissingField number)
