use Rattle.action_cache.proofs.Said.{outputs_read, outputs_only, outputs_refused}
use Rattle.action_cache.proofs.laws.results_refer_to_what_is_read.Goals as goal

pub returns-clause-read : goal.returns-clause-read
returns-clause-read c = λ r bytes fits reads. outputs_read r bytes fits reads

pub returns-clause-only : goal.returns-clause-only
returns-clause-only c = outputs_only

pub returns-clause-refused : goal.returns-clause-refused
returns-clause-refused c = λ e bytes fits refused. outputs_refused bytes e fits refused
