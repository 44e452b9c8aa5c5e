-- What lines put together over the steps that have finished in an engine, and refusals of that.
use Rattle.std.specs.Prelude.{◌≡◌, List, Option, option_map}
use Rattle.plan.specs.Values.{LineValue}
use Rattle.tree.specs.Form.{NodeValue}
use Rattle.tree.specs.Tree.{Tree}
use Rattle.tree.specs.Stage.{Stage}
use Rattle.tree.specs.declared.error.TreeError.{TreeError}
use Rattle.tree.specs.declared.error.TreeError.TheVariants as tree
use Rattle.blob_source.specs.Source.{Blobs}
use Rattle.blob_source.specs.Told.{missing, wrong, malformed, FailsDirectory}
use Rattle.verifier.specs.Together.{Earlier, LinesFault, ExplainsLines, put_together}
use Rattle.runs.specs.declared.error.RunsError.{RunsError}
use Rattle.runs.specs.declared.error.RunsError.TheVariants as errors
use Rattle.runs.specs.Engine.{FinishedValue, EngineValue, at_number}

-- what steps came to, of those that have finished
abbrev pub outcomes_in : List (Option FinishedValue) → Earlier
outcomes_in fs i = option_map (λ f. f.outcome) (at_number fs i)

-- the tree that lines put together
abbrev pub together_in : Blobs → EngineValue → List LineValue → Stage LinesFault (Tree NodeValue)
together_in B e lines = put_together B e.sources (outcomes_in e.finished) lines

-- ---- refusals

-- the refusal that an error is
abbrev pub of_tree_error : {A : Type 0} → TreeError A → RunsError A
of_tree_error (tree.Absent path) = errors.Origin path
of_tree_error (tree.Conflict path) = errors.Conflict path
of_tree_error tree.Memory = errors.Memory
of_tree_error error = errors.Source error

-- A refusal is explained by a fault of lines, unless the source failed or memory ran out.
abbrev pub ExplainsRefusal : {A : Type 0} → (LinesFault → Type 0) → RunsError A → Type 0
ExplainsRefusal {A} Fails why =
    (e : TreeError A) × ExplainsLines Fails e × (why ≡ of_tree_error e)

-- A refusal that tells of a Directory is a fault that stands under the digest it names, unless the
-- source failed.
abbrev pub StandsIn : {A : Type 0} → Blobs → RunsError A → Type 0
StandsIn B (errors.Source (tree.BlobMissing d)) = FailsDirectory B d (missing d)
StandsIn B (errors.Source (tree.BlobWrong d)) = FailsDirectory B d (wrong d)
StandsIn B (errors.Source (tree.BlobMalformed d)) = FailsDirectory B d (malformed d)
StandsIn B (errors.Source tree.Fetch) = Unit {0}
StandsIn B (errors.Source why) = ⊥
StandsIn B why = Unit {0}
