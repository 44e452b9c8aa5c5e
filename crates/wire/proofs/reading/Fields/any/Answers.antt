use Rattle.std.proofs.Common.{arith}
use Rattle.wire.proofs.AnyLists.{spelled_fields, fields_spelled, fields_faulty}
use Rattle.wire.proofs.reading.Fields.any.Goals as goal

pub returns-clause-found : goal.returns-clause-found
returns-clause-found c = λ rs e. spelled_fields rs c.args.bytes.now (λ i. omega (arith, c.type_inv.bytes i)) e

pub returns-clause-only : goal.returns-clause-only
returns-clause-only c = λ rs s. fields_spelled c.args.bytes.now rs (λ i. omega (arith, c.type_inv.bytes i)) s

pub returns-clause-fault : goal.returns-clause-fault
returns-clause-fault c = λ rs front rest e spelled is some fault. fields_faulty rs c.args.bytes.now front rest e (λ i. omega (arith, c.type_inv.bytes i)) spelled is some fault
