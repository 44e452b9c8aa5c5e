-- What a yes on a build in stages says of every build of its stages.
use Rattle.std.specs.Prelude.{◌≡◌, List, [], ◌∷◌, ◌++◌, ℕ}
use Rattle.std.specs.declared.alloc.Global.{Global}
use Rattle.blob_source.specs.Source.{Telling}
use Rattle.clap.specs.Words.{Row}
use Rattle.text_verifier.specs.Texts.{Question}
use Rattle.tree.specs.Form.{form, root}
use Rattle.tree.specs.Tree.{IsOrdered, Leaf, Tree}
use Rattle.verifier.specs.BuildStages.{AreYes, BuildStage, RunInTurn, last_claim}
use Rattle.verifier.specs.Headline.{PlanRun}
use Rattle.commands.specs.Printed.{AsksQuestion, IsOfPlace}
use Rattle.commands.specs.Stages.{IsClaimOf, StagesAsked, stage_options}
use Rattle.commands.specs.World.{Sight}

-- a stage of a build, as a question asks it, by what a source told
abbrev pub build_stage : Telling → Question → BuildStage
build_stage told question = record {
  tells = told;
  plan = question.plan;
  recorded = question.noted.digests;
  claim = question.claim;
}

-- the stage is what these options ask, by what a source over the place that they name told
pub record IsAskedBy (sees : Sight) (options : List Row) (stage : BuildStage) : Type 0 where
  pub question : Question
  pub asks : AsksQuestion sees options question
  pub told : Telling
  pub source : ∥ IsOfPlace sees options told ∥₁
  pub is : stage ≡ build_stage told question

-- The stages of a build are those that evidence lists, up to those that are left: each by the plan
-- and the record in its folder, from the claim of the one before to its own.
pub data AreListed (sees : Sight) (asked : StagesAsked) : List ℕ → List BuildStage → Type 0 where
  none : AreListed sees asked asked.stages []
  more : (stage : ℕ) (left : List ℕ) (builds : List BuildStage) (build : BuildStage)
      → AreListed sees asked (stage ∷ left) builds
      → IsClaimOf sees asked.evidence asked.claim stage left build.claim
      → IsAskedBy sees (stage_options asked.options asked.evidence stage
      (last_claim asked.sources builds) build.claim) build
      → AreListed sees asked left (builds ++ build ∷ [])

-- The stages of a build that evidence lists have a yes each, from its sources to its claim. Whoever
-- runs them one after another, from any tree with the sources' digest, ends in a tree with the
-- claim.
pub record EndInClaim (sees : Sight) (asked : StagesAsked) : Type 0 where
  pub builds : List BuildStage
  pub are : AreListed sees asked [] builds
  pub yes : AreYes Global asked.sources builds
  pub last : last_claim asked.sources builds ≡ asked.claim
  pub ends : (runs : List PlanRun) (t end : Tree Leaf) → IsOrdered t
      → root (form t) ≡ asked.sources → RunInTurn t builds runs end
      → root (form end) ≡ asked.claim
