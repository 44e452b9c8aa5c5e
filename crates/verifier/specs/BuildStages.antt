-- Builds in stages: plans that are built one after another, each from the tree in which the one
-- before ended.
use Rattle.std.specs.Prelude.{◌≡◌, List, [], ◌∷◌, Some}
use Rattle.blob_digest.specs.Digest.{DigestValue}
use Rattle.blob_source.specs.Source.{Telling}
use Rattle.plan.specs.Plan.{IsPlan}
use Rattle.plan.specs.Values.{PlanValue}
use Rattle.tree.specs.Tree.{Tree, Leaf}
use Rattle.verifier.specs.declared.verdict.Verdict.{Verdict}
use Rattle.verifier.specs.Build.{HasFinishedAll, merge_of}
use Rattle.verifier.specs.Headline.{PlanRun, IsRunOf}
use Rattle.verifier.specs.Verdict.{IsVerdict, IsYes}

-- a plan, the recorded digests of its actions, the root that is claimed of it, and what a source
-- told when it was verified
pub record BuildStage : Type 0 where
  pub tells : Telling
  pub plan : PlanValue
  pub recorded : List DigestValue
  pub claim : DigestValue

-- the verdict on a stage is yes, from sources with this digest
pub record IsYesFrom (A : Type 0) (sources : DigestValue) (stage : BuildStage) : Type 0 where
  pub planned : IsPlan stage.plan
  pub verdict : Verdict A
  pub given : IsVerdict stage.tells sources stage.plan stage.recorded stage.claim verdict
  pub yes : IsYes verdict

-- each stage has a yes, the first from these sources, and each other from the claim before it
abbrev pub AreYes : Type 0 → DigestValue → List BuildStage → Type 0
AreYes A sources [] = Unit {0}
AreYes A sources (stage ∷ stages) = IsYesFrom A sources stage × AreYes A stage.claim stages

-- the claim of the last stage; without stages the sources
abbrev pub last_claim : DigestValue → List BuildStage → DigestValue
last_claim sources [] = sources
last_claim sources (stage ∷ stages) = last_claim stage.claim stages

-- a run of the stage from this tree, which keeps the premises of a yes about all else
abbrev pub RunsStage : Tree Leaf → BuildStage → PlanRun → Type 0
RunsStage t stage run = (run.tree ≡ t)
    × IsRunOf stage.tells.blobs stage.tells.results stage.plan stage.recorded run

-- a complete run of the stage from one tree, and what it made is the other
pub record EndsIn (t : Tree Leaf) (stage : BuildStage) (run : PlanRun) (end : Tree Leaf)
    : Type 0 where
  pub runs : RunsStage t stage run
  pub finished : HasFinishedAll stage.plan run.now
  pub made : merge_of run.tree run.now stage.plan.root_lines ≡ Some end

-- The runs are of the stages in their order, complete, each from the tree in which the one before
-- ended; the last ends in the last tree.
abbrev pub RunInTurn : Tree Leaf → List BuildStage → List PlanRun → Tree Leaf → Type 0
RunInTurn t [] [] end = end ≡ t
RunInTurn t (stage ∷ stages) (run ∷ runs) end =
    (between : Tree Leaf) × EndsIn t stage run between × RunInTurn between stages runs end
RunInTurn t stages runs end = ⊥
