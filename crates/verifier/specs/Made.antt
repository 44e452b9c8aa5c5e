-- The tree that builds of a plan end in, where that isn't the claim: its root, and the Directories
-- that are known of it.
use Rattle.std.specs.Prelude.{◌≡◌, ℕ, List, [], ◌∷◌, ◌++◌, Option, None, Some, map, slice_get}
use Rattle.blob_digest.specs.Digest.{DigestValue}
use Rattle.messages.specs.Directory.{directory_bytes}
use Rattle.messages.specs.DirectoryRules.{DirectoryValue}
use Rattle.actions.specs.Outcome.{OutcomeValue, OutputValue}
use Rattle.actions.specs.declared.outcome.Output.TheVariants as outputs
use Rattle.plan.specs.Values.{LineValue, PlanValue}
use Rattle.tree.specs.Folded.{first_visits, items_of}
use Rattle.tree.specs.Form.{NodeValue, root}
use Rattle.tree.specs.Tree.{Tree}
use Rattle.blob_source.specs.Source.{Telling}
use Rattle.verifier.specs.Together.{put_together}
use Rattle.verifier.specs.Verdict.{steps_check}
use Rattle.verifier.specs.declared.made.Made.{Made}
use Rattle.verifier.specs.declared.verdict.Cause.TheVariants.{RootDiffers}
use Rattle.verifier.specs.declared.verdict.Place.TheVariants.{Root}
use Rattle.verifier.specs.declared.verdict.Verdict.{Verdict}
use Rattle.verifier.specs.declared.verdict.Verdict.TheVariants.{No}

-- the encodings of Directories
abbrev pub encodings_of : List DirectoryValue → List (List ℕ)
encodings_of directories = map directory_bytes directories

-- the Directories of the whole directories among outputs, the top of each first
abbrev pub output_directories : OutputValue → List (List ℕ)
output_directories (outputs.Tree t) = encodings_of (t.root ∷ t.children)
output_directories output = []

abbrev pub outputs_directories : List (List (List ℕ) × OutputValue) → List (List ℕ)
outputs_directories [] = []
outputs_directories (e ∷ es) = output_directories e.1 ++ outputs_directories es

abbrev pub outcomes_directories : List OutcomeValue → List (List ℕ)
outcomes_directories [] = []
outcomes_directories (o ∷ os) = outputs_directories o.outputs ++ outcomes_directories os

-- What steps came to by their recorded results, and the tree that the lines of the root put
-- together of that: its root is the one that is made, and known are the Directories that were put
-- together, and those that the steps' outputs have.
pub record IsMade {A : Type 0} (tells : Telling) (sources : DigestValue) (plan : PlanValue)
    (recorded : List DigestValue) (made : Made A) : Type 0 where
  pub outcomes : List OutcomeValue
  pub steps : (steps_check {A = A} tells sources [] plan.steps recorded).passes outcomes
  pub tree : Tree NodeValue
  pub together : (put_together tells.blobs sources (slice_get outcomes) plan.root_lines).passes tree
  pub root : made.root ≡ root tree
  pub directories : items_of made.directories.items
      ≡ first_visits tree ++ outcomes_directories outcomes

-- what builds make is handed out exactly where the verdict is that it isn't the claim
abbrev pub HandsOut : {A : Type 0} → Telling → DigestValue → PlanValue → List DigestValue
    → Verdict A → Option (Made A) → Type 0
HandsOut tells sources plan recorded verdict None =
    (root : DigestValue) → verdict ≡ No Root (RootDiffers root) → ⊥
HandsOut tells sources plan recorded verdict (Some made) =
    (verdict ≡ No Root (RootDiffers made.root)) × IsMade tells sources plan recorded made
