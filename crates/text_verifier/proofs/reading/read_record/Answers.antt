-- The record's answer is handed on.
use Rattle.text_verifier.proofs.reading.read_record.Goals as goal

pub returns-in-Err-Faulty-clause-early : goal.returns-in-Err-Faulty-clause-early
returns-in-Err-Faulty-clause-early g c e fault few = let early = c.in-Err-Faulty.ensures.early e fault few in cc
