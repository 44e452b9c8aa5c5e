-- The build of two steps as calls: each step is started, and takes what the store has for it.
use Rattle.std.specs.Prelude.{List, [], ◌∷◌, None}
use Rattle.runs.specs.Engine.{EngineValue}
use Rattle.runs.specs.TwoSteps as example
use Rattle.verifier.specs.TwoSteps as two
use Rattle.worker.specs.Calls.{Call, started, taken}

-- nothing has finished, and nothing runs
abbrev pub first : EngineValue
first = record example.engine { finished = None ∷ None ∷ [] }

abbrev pub last : EngineValue
last = record example.engine { jobs = None ∷ [] }

abbrev pub calls : List Call
calls =
    started 0 0 ∷
    taken 0 two.gen_action_digest example.gen_outcome ∷
    started 1 0 ∷
    taken 0 two.use_action_digest example.use_outcome ∷
    []
