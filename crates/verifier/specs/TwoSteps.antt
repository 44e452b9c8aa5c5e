-- A build of two steps, and a run of it. The step `gen` makes a directory `out` with a file `a`;
-- the step `use` has that file at `data/x` and makes a file `res`, which is the plan's `result`.
-- The source tree is empty.
use Rattle.std.specs.Prelude.{ℕ, pos, false, List, [], ◌∷◌, codes, Some, None, Result, Ok, Err}
use Rattle.std.specs.Prelude.{true, if◌then◌else◌}
use Rattle.std.specs.Option.{unwrap_or}
use Rattle.std.specs.Ordering.{is_eq}
use Rattle.hex.specs.declared.error.FromHexError.{FromHexError}
use Rattle.hex.specs.Hex.{decode_of}
use Rattle.blob_digest.specs.Digest.{DigestValue, digest_cmp}
use Rattle.messages.specs.Tree.{TreeValue, tree_bytes}
use Rattle.action_messages.specs.Action.{with_input, action_bytes}
use Rattle.action_messages.specs.ActionResult.{ActionResultValue, action_result_bytes}
use Rattle.action_messages.specs.Command.{CommandValue, command_bytes}
use Rattle.action_messages.specs.Frame.{FrameValue}
use Rattle.plan.specs.declared.version.Version.TheVariants.{One, Two}
use Rattle.plan.specs.Values.{source, output, LineValue, PlanValue}
use Rattle.tree.specs.Tree.{Tree, empty, leaf, folder, Leaf, file, single, whole}
use Rattle.tree.specs.Form.{form, directory_of, top}
use Rattle.blob_source.specs.Source.{Blobs, Telling}
use Rattle.verifier.specs.Build.{Meaning, ActionMeaning, Outcome, Event, start, finish, lose, State}
use Rattle.verifier.specs.BuildStages.{BuildStage}
use Rattle.verifier.specs.Headline.{PlanRun}
use Rattle.verifier.specs.Holding.{no_stream}

-- ---- digests, by their texts

abbrev pub decoded_bytes : Result (List ℕ) FromHexError → List ℕ
decoded_bytes (Ok bytes) = bytes
decoded_bytes (Err e) = []

abbrev pub digest_named : List ℕ → ℕ → DigestValue
digest_named text size = record { hash = decoded_bytes (decode_of text); size = size }

unfoldable pub sources : DigestValue
sources = digest_named (codes "e3b0c44298fc1c149afbf4c8996fb92427ae41e4649b934ca495991b7852b855") 0

unfoldable pub gen_command_digest : DigestValue
gen_command_digest = digest_named
    (codes "43b5603d8c920492eedab636629490a50d40f11971c950797c0d1711f10c1a39") 16

unfoldable pub use_command_digest : DigestValue
use_command_digest = digest_named
    (codes "ce8a8059ab7ecd0520ec188764d4c3c8e56d0c35205b8058ddf3853ec7395e87") 16

unfoldable pub gen_frame_digest : DigestValue
gen_frame_digest = digest_named
    (codes "bd339d8d91c018e516e108e168b9d93805d002156c0a4b5c9217902e870e003b") 70

unfoldable pub use_frame_digest : DigestValue
use_frame_digest = digest_named
    (codes "f7fd538a1a558788f2635e15ec55bc303b4d3cf08cd0b1e4294be8071203942b") 70

unfoldable pub gen_action_digest : DigestValue
gen_action_digest = digest_named
    (codes "5a185e72d4310898344d5ab18f8496f6a1d13cf7743b074da01eda5ebd541fb5") 138

unfoldable pub use_action_digest : DigestValue
use_action_digest = digest_named
    (codes "c6dea7f262ab600975ab975663137f6b0e75599de4257077560190bf9ebcac59") 140

unfoldable pub input_digest : DigestValue
input_digest = digest_named
    (codes "7b70ba397f62d1c448897c06501b8d8e1f61634a5b619836c14d439f0160ac8b") 78

unfoldable pub tree_digest : DigestValue
tree_digest = digest_named
    (codes "b702720dfa91251d7827a7c362e98aec2fbb92800b4cd6d796eb0b8b84a40cb7") 77

unfoldable pub newline_digest : DigestValue
newline_digest = digest_named
    (codes "01ba4719c80b6fe911b091a7c05124b64eeece964e09c058ef8f9805daca546b") 1

unfoldable pub claim : DigestValue
claim = digest_named (codes "e52456cc01aac4a9837dfa56d8c8ee186aa901ffd00cdd1fec2296d728042cf9") 80

-- ---- the source tree, the plan and its meaning

abbrev pub tree : Tree Leaf
tree = empty

abbrev pub plan : PlanValue
plan = record {
  version = One;
  steps =
      record { name = codes "gen"; frame = gen_frame_digest; lines = [] } ∷
      record {
        name = codes "use";
        frame = use_frame_digest;
        lines =
            record {
              target = codes "data" ∷ codes "x" ∷ [];
              origin = output 0 (codes "out" ∷ codes "a" ∷ []);
            } ∷ [];
      } ∷
      [];
  root_lines = record { target = codes "result" ∷ []; origin = output 1 (codes "res" ∷ []) } ∷ [];
}

-- a command that makes one output
abbrev pub making : List ℕ → CommandValue
making path = record {
  arguments = codes "/bin/true" ∷ [];
  environment = [];
  working_directory = None;
  output_paths = (path ∷ []) ∷ [];
}

-- a frame with nothing but a command
abbrev pub framing : DigestValue → FrameValue
framing digest = record {
  command = digest;
  do_not_cache = false;
  salt = [];
  platform = record { properties = [] };
}

abbrev pub meaning : Meaning
meaning = record {
  frames = framing gen_command_digest ∷ framing use_command_digest ∷ [];
  commands = making (codes "out") ∷ making (codes "res") ∷ [];
}

-- ---- what the steps come to

-- the file that the first step makes, alone in its directory
abbrev pub first_output : Tree Leaf
first_output = leaf (codes "a") (file (codes "123456789") false) empty

abbrev pub gen : ActionMeaning × Outcome
gen = (
  record { frame = framing gen_command_digest; command = making (codes "out"); input = empty },
  record { exit_code = pos 0; outputs = (codes "out" ∷ [], whole first_output) ∷ [] },
)

abbrev pub data_input : Tree Leaf
data_input = folder (codes "data") (leaf (codes "x") (file (codes "123456789") false) empty) empty

abbrev pub uses : ActionMeaning × Outcome
uses = (
  record { frame = framing use_command_digest; command = making (codes "res"); input = data_input },
  record { exit_code = pos 0; outputs = (codes "res" ∷ [], single (file (10 ∷ []) false)) ∷ [] },
)

abbrev pub table : List (ActionMeaning × Outcome)
table = gen ∷ uses ∷ []

-- ---- what was recorded, and what a source has of it

abbrev pub recorded : List DigestValue
recorded = gen_action_digest ∷ use_action_digest ∷ []

abbrev pub gen_tree : TreeValue
gen_tree = record { root = directory_of (form first_output); children = [] }

abbrev pub gen_result : ActionResultValue
gen_result = record {
  files = [];
  directories = record { path = codes "out" ∷ []; tree = tree_digest } ∷ [];
  symlinks = [];
  exit_code = pos 0;
  stdout = no_stream;
  stderr = no_stream;
}

abbrev pub use_result : ActionResultValue
use_result = record {
  files = record { path = codes "res" ∷ []; digest = newline_digest; executable = false } ∷ [];
  directories = [];
  symlinks = [];
  exit_code = pos 0;
  stdout = no_stream;
  stderr = no_stream;
}

-- what is kept under some digests, and nothing else
abbrev pub keeping : List (DigestValue × List ℕ) → Blobs
keeping [] d = None
keeping (e ∷ es) d = if is_eq (digest_cmp d e.0) then Some e.1 else keeping es d

abbrev pub kept_blobs : List (DigestValue × List ℕ)
kept_blobs =
    (gen_action_digest, action_bytes (with_input gen.0.frame sources)) ∷
    (use_action_digest, action_bytes (with_input uses.0.frame input_digest)) ∷
    (gen_command_digest, command_bytes gen.0.command) ∷
    (use_command_digest, command_bytes uses.0.command) ∷
    (tree_digest, tree_bytes gen_tree) ∷
    []

abbrev pub kept_results : List (DigestValue × List ℕ)
kept_results = (gen_action_digest, action_result_bytes gen_result) ∷
    (use_action_digest, action_result_bytes use_result) ∷ []

abbrev pub blobs : Blobs
blobs = keeping kept_blobs

abbrev pub results : Blobs
results = keeping kept_results

-- ---- a run: `gen` is started twice, one of the jobs is lost, and the other finishes; `use` and,
-- once more, `gen` are started, and both finish

abbrev pub events : List Event
events = start 0 0 ∷ start 0 1 ∷ lose 0 ∷ finish 1 gen.1 ∷ start 1 0 ∷ start 0 1 ∷ finish 1 gen.1 ∷
    finish 0 uses.1 ∷ []

abbrev pub end : State
end = record { done = (1, uses.1) ∷ (0, gen.1) ∷ (0, gen.1) ∷ []; jobs = [] }

abbrev pub run : PlanRun
run = record {
  tree = tree;
  meaning = meaning;
  table = table;
  chosen = table;
  events = events;
  now = end;
}

-- ---- stages: the build, and then the same from what it made

abbrev pub built : Tree Leaf
built = leaf (codes "result") (file (10 ∷ []) false) empty

abbrev pub telling : Telling
telling = record { blobs = blobs; results = results; failures = 0; calls = 0; puts = [] }

abbrev pub stage : BuildStage
stage = record { tells = telling; plan = plan; recorded = recorded; claim = claim }

-- ---- the same steps in a plan of version 2, in whose root lines meet: `res` is put into `out`

abbrev pub meeting_plan : PlanValue
meeting_plan = record plan {
  version = Two;
  root_lines =
      record { target = codes "all" ∷ []; origin = output 0 (codes "out" ∷ []) } ∷
      record { target = codes "all" ∷ codes "b" ∷ []; origin = output 1 (codes "res" ∷ []) } ∷
      [];
}

unfoldable pub meeting_claim : DigestValue
meeting_claim = digest_named
    (codes "e0f51345ffb335d15094256a20d45361d24b19b42e07f685950ae43ed5e4ee3f") 78

-- ---- a build of one step that reads the sources: `use` has their directory `data`, with its file

abbrev pub reading_plan : PlanValue
reading_plan = record {
  version = One;
  steps =
      record {
        name = codes "use";
        frame = use_frame_digest;
        lines = record { target = codes "data" ∷ []; origin = source (codes "data" ∷ []) } ∷ [];
      } ∷
      [];
  root_lines = record { target = codes "result" ∷ []; origin = output 0 (codes "res" ∷ []) } ∷ [];
}

abbrev pub reading_kept : List (DigestValue × List ℕ)
reading_kept =
    (use_action_digest, action_bytes (with_input uses.0.frame input_digest)) ∷
    (use_command_digest, command_bytes uses.0.command) ∷
    (input_digest, top (form data_input)) ∷
    []

abbrev pub reading_blobs : Blobs
reading_blobs = keeping reading_kept

-- one of two jobs is lost
abbrev pub reading_run : PlanRun
reading_run = record {
  tree = data_input;
  meaning = record {
    frames = framing use_command_digest ∷ [];
    commands = making (codes "res") ∷ [];
  };
  table = uses ∷ [];
  chosen = uses ∷ [];
  events = start 0 0 ∷ start 0 1 ∷ lose 0 ∷ finish 1 uses.1 ∷ [];
  now = record { done = (0, uses.1) ∷ []; jobs = [] };
}

-- ---- the same steps where lines put nothing together: `use` has one file at `data` and below it,
-- and the root of another plan reads what `use` doesn't make

abbrev pub clashing_lines : List LineValue
clashing_lines =
    record { target = codes "data" ∷ []; origin = output 0 (codes "out" ∷ codes "a" ∷ []) } ∷
    record {
      target = codes "data" ∷ codes "x" ∷ [];
      origin = output 0 (codes "out" ∷ codes "a" ∷ []);
    } ∷
    []

abbrev pub clashing_plan : PlanValue
clashing_plan = record plan {
  version = Two;
  steps =
      record { name = codes "gen"; frame = gen_frame_digest; lines = [] } ∷
      record { name = codes "use"; frame = use_frame_digest; lines = clashing_lines } ∷
      [];
}

-- `gen` has finished
abbrev pub clashing_run : PlanRun
clashing_run = record {
  tree = tree;
  meaning = meaning;
  table = table;
  chosen = gen ∷ [];
  events = start 0 0 ∷ finish 0 gen.1 ∷ [];
  now = record { done = (0, gen.1) ∷ []; jobs = [] };
}

abbrev pub rootless_plan : PlanValue
rootless_plan = record plan {
  root_lines = record { target = codes "result" ∷ []; origin = output 1 (codes "out" ∷ []) } ∷ [];
}

-- ---- the same steps where `use` has the frame of `gen`, and no input: so both run one action

abbrev pub other_plan : PlanValue
other_plan = record plan {
  steps =
      record { name = codes "gen"; frame = gen_frame_digest; lines = [] } ∷
      record { name = codes "use"; frame = gen_frame_digest; lines = [] } ∷
      [];
}

abbrev pub other_run : PlanRun
other_run = record {
  tree = tree;
  meaning = record {
    frames = framing gen_command_digest ∷ framing gen_command_digest ∷ [];
    commands = making (codes "out") ∷ making (codes "out") ∷ [];
  };
  table = table;
  chosen = gen ∷ [];
  events = start 0 0 ∷ start 1 1 ∷ [];
  now = record { done = []; jobs = (1, (1, gen.0)) ∷ (0, (0, gen.0)) ∷ [] };
}

-- ---- the same build where `gen` came to something else: it failed, or made what `use` does, which
-- its command doesn't list

abbrev pub failed_result : ActionResultValue
failed_result = record gen_result { directories = []; exit_code = pos 1 }

abbrev pub failed : Outcome
failed = record { exit_code = pos 1; outputs = [] }

-- what is told where this was recorded of `gen`, and nothing of `use`
abbrev pub recording : ActionResultValue → Telling
recording result =
    record telling { results = keeping ((gen_action_digest, action_result_bytes result) ∷ []) }

-- the run in which `gen` has finished with the outcome
abbrev pub ended_run : Outcome → PlanRun
ended_run outcome = record {
  tree = tree;
  meaning = meaning;
  table = (gen.0, outcome) ∷ [];
  chosen = (gen.0, outcome) ∷ [];
  events = start 0 0 ∷ finish 0 outcome ∷ [];
  now = record { done = (0, outcome) ∷ []; jobs = [] };
}

-- ---- the same build once more, where `use` made an executable file

abbrev pub rerun_result : ActionResultValue
rerun_result = record use_result {
  files = record { path = codes "res" ∷ []; digest = newline_digest; executable = true } ∷ [];
}

abbrev pub rerun_results : List (DigestValue × List ℕ)
rerun_results = (gen_action_digest, action_result_bytes gen_result) ∷
    (use_action_digest, action_result_bytes rerun_result) ∷ []

abbrev pub rerun : Telling
rerun = record telling { results = keeping rerun_results }

unfoldable pub rerun_claim : DigestValue
rerun_claim = digest_named
    (codes "e78203ab2a5df074a85a07c372fea54189e5950d49da8adc6eb850c03e56a615") 82

-- ---- a source that has told nothing

abbrev pub silent : Telling
silent = record { blobs = λ d. None; results = λ d. None; failures = 0; calls = 0; puts = [] }

-- ---- a source that tells more: the empty bytes wherever else it would tell nothing

abbrev pub filled : Blobs → Blobs
filled told d = Some (unwrap_or (told d) [])

abbrev pub lavish : Telling
lavish = record telling { blobs = filled blobs; results = filled results }
