-- Builds in stages: evidence of several plans, each of which goes on from the claim of the one
-- before.
use Rattle.std.specs.Prelude.{◌≡◌, ◌≢◌, ◌⊎◌, ◌↔◌, ℕ, ◌+◌, ◌<◌, List, [], ◌∷◌, ◌++◌, Option, None}
use Rattle.std.specs.Prelude.{Some, IsTrue, codes, decimal, length, string_bytes}
use Rattle.std.specs.List.{All}
use Rattle.std.specs.declared.alloc.Global.{Global}
use Rattle.blob_digest.specs.Digest.{DigestValue}
use Rattle.blob_digest.specs.Text.{digest_text}
use Rattle.clap.specs.Words.{Row}
use Rattle.command_lines.specs.CommandLine.{option_text}
use Rattle.remote.specs.Folder.{IsNotThere, IsNothingAt}
use Rattle.remote.specs.declared.files.FileError.{FileError}
use Rattle.report.specs.Line.{IsYesOfStages, stages_line}
use Rattle.report.specs.declared.stages.StagesVerdict.{StagesVerdict}
use Rattle.report.specs.declared.stages.StagesVerdict.TheVariants as composed
use Rattle.text_verifier.specs.Texts.{IsDigestText}
use Rattle.verifier.specs.declared.verdict.Verdict.TheVariants.{No, Yes}
use Rattle.commands.specs.Ended.{is_done}
use Rattle.commands.specs.Evidence.{FailsDigestLine, HasDigestLine, StatesDigests, evidence_options}
use Rattle.commands.specs.Evidence.{in_evidence}
use Rattle.commands.specs.Faults.{error_of_file}
use Rattle.commands.specs.Printed.{JudgesAsked, NotesFolder}
use Rattle.commands.specs.Refusal.{FailsToJudge}
use Rattle.commands.specs.World.{FoundValue, Sight}
use Rattle.commands.specs.declared.ended.Ended.{Ended}
use Rattle.commands.specs.declared.error.CommandError.{CommandError}
use Rattle.commands.specs.declared.error.CommandError.TheVariants.{Stages}
use Rattle.commands.specs.declared.stages.StagesFault.{StagesFault}
use Rattle.commands.specs.declared.stages.StagesFault.TheVariants.{Line, PlanBeside}

-- ---- the list of stages

-- the number of a stage: of 1 to 9 digits, and not 0
abbrev pub IsStage : ℕ → Type 0
IsStage stage = (0 < stage) × (stage < 1000000000)

-- a line for each stage: its number and a newline
abbrev pub stages_text : List ℕ → List ℕ
stages_text [] = []
stages_text (stage ∷ stages) = decimal stage ++ 10 ∷ stages_text stages

-- the text of these stages, of which there is one at least
pub record IsStagesText (text stages : List ℕ) : Type 0 where
  pub some : 0 < length stages
  pub valid : All IsStage stages
  pub text_is : text ≡ stages_text stages

-- the first line of a text that is none of a stage's; where the text has no line, its first
pub record IsNoStage (text : List ℕ) (line : ℕ) : Type 0 where
  pub before : List ℕ
  pub valid : All IsStage before
  pub rest : List ℕ
  pub cut : text ≡ stages_text before ++ rest
  pub line_is : line ≡ length before + 1
  pub faulty : (stage : ℕ) (behind : List ℕ) → IsStage stage → rest ≢ decimal stage ++ 10 ∷ behind
  pub ended : rest ≡ [] → before ≡ []

abbrev pub stages_path : List ℕ → List ℕ
stages_path evidence = in_evidence evidence (codes "stages")

abbrev pub plan_path : List ℕ → List ℕ
plan_path evidence = in_evidence evidence (codes "plan")

-- the evidence lists these stages, and no plan stands beside them
pub record ListsStages (sees : Sight) (evidence stages : List ℕ) : Type 0 where
  pub text : List ℕ
  pub read : sees.reads (stages_path evidence) text
  pub alone : IsNothingAt sees.fails (plan_path evidence)
  pub is_text : IsStagesText text stages

-- nothing is where stages would be listed, or these are
abbrev pub IsListed : Sight → List ℕ → Option (List ℕ) → Type 0
IsListed sees evidence None = IsNothingAt sees.fails (stages_path evidence)
IsListed sees evidence (Some stages) = ListsStages sees evidence stages

-- ---- what is asked of them

-- what is asked of stages: of evidence at a path, beside these options, from the sources to the
-- claim
pub record StagesAsked : Type 0 where
  pub options : List Row
  pub evidence : List ℕ
  pub stages : List ℕ
  pub sources : DigestValue
  pub claim : DigestValue

abbrev pub stages_asked : List Row → List ℕ → List ℕ → DigestValue → DigestValue → StagesAsked
stages_asked options evidence stages sources claim = record {
  options = options;
  evidence = evidence;
  stages = stages;
  sources = sources;
  claim = claim;
}

-- the options spell these digests
pub record SpellsDigests (options : List Row) (sources claim : DigestValue) : Type 0 where
  pub sources_are : IsDigestText (option_text options (codes "sources")) sources
  pub claim_is : IsDigestText (option_text options (codes "claim")) claim

-- the evidence lists the stages, and states the digests
pub record AsksStages (outside sees : Sight) (asked : StagesAsked) : Type 0 where
  pub lists : ListsStages sees asked.evidence asked.stages
  pub states : StatesDigests outside sees asked.options asked.evidence
      (λ o. SpellsDigests o asked.sources asked.claim)

-- the folder of a stage in evidence, and the file of its claim
abbrev pub stage_folder : List ℕ → ℕ → List ℕ
stage_folder evidence stage = in_evidence evidence (decimal stage)

abbrev pub claim_path : List ℕ → ℕ → List ℕ
claim_path evidence stage = in_evidence (stage_folder evidence stage) (codes "claim")

-- the options that say what a stage asks, from these sources to this claim
abbrev pub stage_options : List Row → List ℕ → ℕ → DigestValue → DigestValue → List Row
stage_options options evidence stage sources claim = evidence_options options evidence
    (stage_folder evidence stage) (digest_text sources) (digest_text claim)

-- the claim of a stage is the line of its own file, and of the last one this
abbrev pub IsClaimOf : Sight → List ℕ → DigestValue → ℕ → List ℕ → DigestValue → Type 0
IsClaimOf sees evidence last stage [] claim = claim ≡ last
IsClaimOf sees evidence last stage (next ∷ left) claim =
    HasDigestLine sees (claim_path evidence stage) claim

-- the claim of a stage that isn't the last can't be read, or is no digest
abbrev pub FailsClaimOf : Sight → List ℕ → ℕ → List ℕ → CommandError → Type 0
FailsClaimOf sees evidence stage [] e = ⊥
FailsClaimOf sees evidence stage (next ∷ left) e =
    FailsDigestLine sees (claim_path evidence stage) e

-- ---- how they are judged

-- The first stages have a yes each, from the evidence's sources on, and each other from the claim
-- of the one before. The list is of those that are left, the digest is the last claim, and the
-- number that of the steps so far.
pub data LeadsTo (sees : Sight) (asked : StagesAsked) : List ℕ → DigestValue → ℕ → Type 0 where
  begin : LeadsTo sees asked asked.stages asked.sources 0
  next : (stage : ℕ) (left : List ℕ) (sources claim root : DigestValue) (before steps : ℕ)
      → LeadsTo sees asked (stage ∷ left) sources before
      → IsClaimOf sees asked.evidence asked.claim stage left claim
      → JudgesAsked sees (stage_options asked.options asked.evidence stage sources claim)
      (Yes root steps)
      → LeadsTo sees asked left claim (before + steps)

-- said of the options by which a stage is judged, where each before it has a yes
pub record OnStage (sees : Sight) (asked : StagesAsked) (stage : ℕ) (Says : List Row → Type 0)
    : Type 0 where
  pub left : List ℕ
  pub sources : DigestValue
  pub before : ℕ
  pub reached : LeadsTo sees asked (stage ∷ left) sources before
  pub claim : DigestValue
  pub claim_is : IsClaimOf sees asked.evidence asked.claim stage left claim
  pub says : Says (stage_options asked.options asked.evidence stage sources claim)

-- Each stage has a yes, as many steps are in all, and the root is the claim; or this stage has this
-- no, and each before it a yes.
abbrev pub JudgesStages : Sight → StagesAsked → StagesVerdict Global → Type 0
JudgesStages sees asked (composed.Yes root stages steps) = (root ≡ asked.claim)
    × (stages ≡ length asked.stages) × LeadsTo sees asked [] asked.claim steps
JudgesStages sees asked (composed.No stage place cause) =
    OnStage sees asked stage (λ o. JudgesAsked sees o (No place cause))

-- The verdict on stages has this line, and comes to done where it is a yes. A no has a note exactly
-- where the folder of the entries isn't there.
pub record AnswersStages (sees : Sight) (asked : StagesAsked) (line : List ℕ) (ended : Ended)
    : Type 0 where
  pub verdict : StagesVerdict Global
  pub judged : JudgesStages sees asked verdict
  pub line_is : line ≡ stages_line verdict
  pub done : IsTrue (is_done ended) ↔ IsYesOfStages verdict
  pub noted : NotesFolder sees (Some (in_evidence asked.evidence (codes "store"))) ended

-- ---- faults

-- the error tells this fault of the list of stages at the path
abbrev pub TellsOfStages : List ℕ → StagesFault → CommandError → Type 0
TellsOfStages path fault (Stages p f) = (string_bytes p ≡ path) × (f ≡ fault)
TellsOfStages path fault _ = ⊥

-- what stands at the path can't be read, and that isn't for nothing being there
abbrev pub FailsThere : Sight → List ℕ → CommandError → Type 0
FailsThere sees path e =
    (f : FileError Global) × sees.fails path f × ¬ IsNotThere f × (e ≡ error_of_file f)

-- the first fault of the list of stages: that it can't be read, a plan beside it, then its text
pub data FailsListed (sees : Sight) (evidence : List ℕ) (e : CommandError) : Type 0 where
  unread : FailsThere sees (stages_path evidence) e → FailsListed sees evidence e
  beside : (text : List ℕ) (found : FoundValue) → sees.reads (stages_path evidence) text
      → sees.stands (plan_path evidence) found → TellsOfStages (stages_path evidence) PlanBeside e
      → FailsListed sees evidence e
  unseen : (text : List ℕ) → sees.reads (stages_path evidence) text
      → FailsThere sees (plan_path evidence) e → FailsListed sees evidence e
  in_line : (text : List ℕ) (line : ℕ) → sees.reads (stages_path evidence) text
      → IsNothingAt sees.fails (plan_path evidence) → IsNoStage text line
      → TellsOfStages (stages_path evidence) (Line line) e → FailsListed sees evidence e

-- the first fault of the stages themselves: each before the one at fault has a yes
pub data FailsStages (sees : Sight) (asked : StagesAsked) (e : CommandError) : Type 0 where
  in_claim : (stage : ℕ) (left : List ℕ) (sources : DigestValue) (steps : ℕ)
      → LeadsTo sees asked (stage ∷ left) sources steps
      → FailsClaimOf sees asked.evidence stage left e → FailsStages sees asked e
  in_stage : (stage : ℕ) → OnStage sees asked stage (λ o. FailsToJudge sees o e)
      → FailsStages sees asked e
