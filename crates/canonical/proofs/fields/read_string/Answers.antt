use Rattle.std.proofs.Common.{◌∙◌, subst}
use Rattle.std.specs.Str.{IsUtf8}
use Rattle.wire.specs.Record.{records_of}
use Rattle.canonical.proofs.FieldKinds.{string_read, string_refused}
use Rattle.canonical.proofs.fields.read_string.Goals as goal

pub returns-in-Ok : goal.returns-in-Ok
returns-in-Ok c = string_read c.args.number (records_of c.args.fields.now) c.in-Ok.text.now (c.in-Ok.ensures.cases.0 ∙ c.read_bytes.ensures) (subst IsUtf8 c.read_bytes.ensures c.in-Ok.ensures.cases.1)

pub returns-in-Err : goal.returns-in-Err
returns-in-Err c = string_refused c.args.number (records_of c.args.fields.now) (subst (λ l. IsUtf8 l → ⊥) c.read_bytes.ensures c.in-Err.ensures.cases.0)
