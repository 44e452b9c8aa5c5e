use Rattle.verifier.proofs.InStages.{ends_in_last, starts, never_stuck, is_made}
use Rattle.verifier.proofs.laws.stages_end_in_the_last_claim.Goals as goal

pub returns-clause-ends : goal.returns-clause-ends
returns-clause-ends g c = λ sources stages runs t end yes ordered same run.
    (ends_in_last g.row.A.Denot sources stages runs t end yes (starts g.row.A.Denot sources t ordered same) run).same

pub returns-clause-unstuck : goal.returns-clause-unstuck
returns-clause-unstuck g c = λ sources stages runs t between stage run yes ordered same before now.
    never_stuck g.row.A.Denot sources stages runs t between stage run yes (starts g.row.A.Denot sources t ordered same) before now

pub returns-clause-made : goal.returns-clause-made
returns-clause-made g c = λ sources stages runs t between stage run yes ordered same before now all.
    is_made g.row.A.Denot sources stages runs t between stage run yes (starts g.row.A.Denot sources t ordered same) before now all
