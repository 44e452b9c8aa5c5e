use Rattle.canonical.proofs.FieldKinds.{none_comes}
use Rattle.canonical.proofs.fields.read_elements.Goals as goal

pub returns-in_err-push-clause-none : goal.returns-in_err-push-clause-none
returns-in_err-push-clause-none g c = λ none. absurd (none_comes c.args.number c.loop-field.field-index c.args.fields.now _ _ c.in-Bytes.bytes c.loop-field-test.true c.if-field-number.true c.in-Bytes.is c.loop-field.invariant none)
