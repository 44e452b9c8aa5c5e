use Rattle.action_messages.proofs.Decoding.{not_refused, refused_once}
use Rattle.action_messages.proofs.ReadOnce.{reads_once}
use Rattle.action_messages.proofs.Reordered.{reads_reordered}
use Rattle.action_messages.proofs.Written.{canon_reads}
use Rattle.action_messages.proofs.laws.results_are_read_as_one_value.Goals as goal

pub returns-clause-once : goal.returns-clause-once
returns-clause-once c = λ m n bytes h k. reads_once m n bytes h k

pub returns-clause-canonical : goal.returns-clause-canonical
returns-clause-canonical c = λ m bytes fits k e. canon_reads bytes m fits k e

pub returns-clause-refused_once : goal.returns-clause-refused_once
returns-clause-refused_once c = λ d e bytes h k. refused_once d e bytes h k

pub returns-clause-excluded : goal.returns-clause-excluded
returns-clause-excluded c = λ m e bytes fits reads h. not_refused m bytes e fits reads h

pub returns-clause-reordered : goal.returns-clause-reordered
returns-clause-reordered c = λ m bytes other rs ss spelled also same reads. reads_reordered m bytes other rs ss spelled also same reads
