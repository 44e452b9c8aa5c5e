use Rattle.wire.proofs.AnyOnce.{any_once}
use Rattle.wire.proofs.AnyWritten.{spelled_any}
use Rattle.wire.proofs.laws.any_spelling.Goals as goal

pub returns-clause-one_list : goal.returns-clause-one_list
returns-clause-one_list c = λ bytes rs ss h k. any_once bytes rs ss h k

pub returns-clause-written : goal.returns-clause-written
returns-clause-written c = λ bytes rs s. spelled_any bytes rs s
