use Rattle.std.proofs.Common.{take}
use Rattle.wire.specs.Record.{records_of}
use Rattle.action_messages.proofs.NestedOrder.{IsSoFar}
use Rattle.action_messages.proofs.tolerant.check_nested.Given as goal

abbrev pub invariant-loop-field : goal.invariant-loop-field
invariant-loop-field g l = IsSoFar (records_of l.fields) (records_of (take l.field-index l.fields)) l.stdout_came l.stderr_came
