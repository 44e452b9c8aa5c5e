use Rattle.std.proofs.Common.{inl}
use Rattle.wire.specs.Record.{records_of}
use Rattle.messages.specs.Gives.{FailsUnlessMemory}
use Rattle.action_messages.specs.Refused.{NoneRefused}
use Rattle.action_messages.specs.Unordered.{unordered_in}
use Rattle.action_messages.proofs.Decoding.{unread_only}
use Rattle.action_messages.proofs.tolerant.read_unordered.Goals as goal

pub returns-clause-refused : goal.returns-clause-refused
returns-clause-refused g c =
    let rs = records_of c.in_ok-fields.fields.items in
    let none : NoneRefused rs rs = rw c.deref-in-Err.ensures.value at c.in_ok-check_nested-in-Err.ensures.none in
    let fails : FailsUnlessMemory c.in-Err.error (unordered_in rs) = rw c.deref.ensures.value at c.in-Err.ensures in
    inl (unread_only rs c.in-Err.error none fails)
