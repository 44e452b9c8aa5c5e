-- The plan's answer is handed on.
use Rattle.text_verifier.proofs.reading.read_plan.Goals as goal

pub returns-in-Ok-clause-early : goal.returns-in-Ok-clause-early
returns-in-Ok-clause-early g c e fault few = absurd (let early = c.in-Ok.ensures.early e fault few in cc)

pub returns-in-Err-Faulty-clause-early : goal.returns-in-Err-Faulty-clause-early
returns-in-Err-Faulty-clause-early g c e fault few = let early = c.in-Err-Faulty.ensures.early e fault few in cc
