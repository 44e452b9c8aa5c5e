-- The result that is kept of an outcome.
use Rattle.std.specs.Prelude.{ℕ, List, map}
use Rattle.blob_digest.specs.Digest.{digest_of}
use Rattle.messages.specs.Tree.{tree_bytes}
use Rattle.actions.specs.declared.outcome.Output.TheVariants as outputs
use Rattle.action_messages.specs.ActionResult.{ActionResultValue}
use Rattle.actions.specs.Outcome.{OutputValue, OutcomeValue}
use Rattle.action_messages.specs.Outputs.{RecordedValue, file, directory, link, files_among}
use Rattle.action_messages.specs.Outputs.{directories_among, links_among}
use Rattle.verifier.specs.Holding.{no_stream}

-- an output as a result has it: a whole directory by the digest of its Tree
abbrev pub recorded_output : List (List ℕ) → OutputValue → RecordedValue
recorded_output p (outputs.File digest executable) =
    file (record { path = p; digest = digest; executable = executable })
recorded_output p (outputs.Link target) = link (record { path = p; target = target })
recorded_output p (outputs.Tree t) =
    directory (record { path = p; tree = digest_of (tree_bytes t) })

abbrev pub recorded_outputs : List (List (List ℕ) × OutputValue) → List RecordedValue
recorded_outputs outputs = map (λ e. recorded_output e.0 e.1) outputs

-- The result of an outcome: its exit code and its outputs, and nothing of what was written.
abbrev pub result_of : OutcomeValue → ActionResultValue
result_of o = record {
  files = files_among (recorded_outputs o.outputs);
  directories = directories_among (recorded_outputs o.outputs);
  symlinks = links_among (recorded_outputs o.outputs);
  exit_code = o.exit_code;
  stdout = no_stream;
  stderr = no_stream;
}
