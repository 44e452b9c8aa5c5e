-- The engine in which the build of two steps has finished: `gen` made a directory `out` with a file
-- `a`, and `use` a file `res`.
use Rattle.std.specs.Prelude.{pos, false, [], ◌∷◌, codes, Some}
use Rattle.actions.specs.declared.outcome.Output.TheVariants as outputs
use Rattle.actions.specs.Outcome.{OutcomeValue}
use Rattle.verifier.specs.TwoSteps as two
use Rattle.runs.specs.Engine.{FinishedValue, EngineValue}
use Rattle.runs.specs.Mirrors.{EngineRun}

abbrev pub gen_outcome : OutcomeValue
gen_outcome = record {
  exit_code = pos 0;
  outputs = (codes "out" ∷ [], outputs.Tree two.gen_tree) ∷ [];
}

abbrev pub use_outcome : OutcomeValue
use_outcome = record {
  exit_code = pos 0;
  outputs = (codes "res" ∷ [], outputs.File two.newline_digest false) ∷ [];
}

abbrev pub gen_finished : FinishedValue
gen_finished = record { action = two.gen_action_digest; outcome = gen_outcome }

abbrev pub use_finished : FinishedValue
use_finished = record { action = two.use_action_digest; outcome = use_outcome }

abbrev pub engine : EngineValue
engine = record {
  plan = two.plan;
  sources = two.sources;
  frames = two.meaning.frames;
  commands = two.meaning.commands;
  finished = Some gen_finished ∷ Some use_finished ∷ [];
  jobs = [];
}

-- the run that the engine mirrors
abbrev pub run : EngineRun
run = record {
  tree = two.tree;
  meaning = two.meaning;
  table = two.table;
  events = two.events;
  now = two.end;
}
