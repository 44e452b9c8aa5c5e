-- What a check answers: its value, or why it fails.
use Rattle.std.specs.Prelude.{Result, Ok, Err}
use Rattle.tree.specs.Stage.{Stage}
use Rattle.verifier.specs.declared.fault.Fault.{Fault}
use Rattle.verifier.specs.declared.fault.Fault.TheVariants as faults
use Rattle.verifier.specs.declared.verdict.Cause.{Cause}

-- a cause that holds so, unless the source failed or memory ran out
abbrev pub ExplainsFault : {A : Type 0} → (Cause A → Type 0) → Fault A → Type 0
ExplainsFault P (faults.Cause c) = P c
ExplainsFault P faults.Fetch = Unit {0}
ExplainsFault P faults.Memory = Unit {0}

-- an answer is what a check comes to, unless the source failed or memory ran out
abbrev pub Answers : {A V : Type 0} → Stage (Cause A) V → Result V (Fault A) → Type 0
Answers check (Ok v) = check.passes v
Answers check (Err fault) = ExplainsFault check.fails fault
