-- What `verify` answers, of one plan or of a build in stages, and why it doesn't.
use Rattle.std.specs.Prelude.{◌≡◌, ◌≢◌, ◌⊎◌, ◌↔◌, ℕ, List, [], ◌∷◌, Option, None, Some, IfSome}
use Rattle.std.specs.Prelude.{codes}
use Rattle.std.specs.Io.KnownBytes.{Appends}
use Rattle.std.specs.declared.alloc.Global.{Global}
use Rattle.blob_digest.specs.Digest.{DigestValue}
use Rattle.clap.specs.Words.{Row, first_of}
use Rattle.command_lines.specs.CommandLine.{option_text}
use Rattle.remote.specs.declared.files.FileError.{FileError}
use Rattle.text_verifier.specs.Answered.{IsMadeFor}
use Rattle.text_verifier.specs.Refused.{IsSpelled}
use Rattle.verifier.specs.declared.made.Made.{Made}
use Rattle.commands.specs.Digested.{reads_bits}
use Rattle.commands.specs.Evidence.{FailsEvidence, FailsStated, InEvidence, IsFolderClaim}
use Rattle.commands.specs.Evidence.{StatesDigests, asked_words, given}
use Rattle.commands.specs.Faults.{IsDigestFault, IsFaultAtPath, TellsOfEntry, error_of_file}
use Rattle.commands.specs.FolderRead.{IsArtifact, ReadValue}
use Rattle.commands.specs.Kept.{not_kept}
use Rattle.commands.specs.Memory.{files_of, replies_of, sees_in}
use Rattle.commands.specs.Noted.{NotesOn}
use Rattle.commands.specs.Printed.{AnswersVerdict}
use Rattle.commands.specs.ReadRefused.{FailsReading}
use Rattle.commands.specs.Refusal.{FailsDigests, FailsToJudge, IsPrintFault}
use Rattle.commands.specs.Stages.{AnswersStages, AsksStages, FailsListed, FailsStages}
use Rattle.commands.specs.Stages.{IsListed, ListsStages, StagesAsked, stages_asked}
use Rattle.commands.specs.Told.{AppendsBeginning}
use Rattle.commands.specs.Words.{AllValid, Check, FailsFirst, place_words}
use Rattle.commands.specs.World.{Sight}
use Rattle.commands.specs.declared.ended.Ended.{Ended}
use Rattle.commands.specs.declared.error.CommandError.{CommandError}
use Rattle.commands.specs.declared.error.CommandError.TheVariants.{Memory}
use Rattle.commands.specs.declared.memory_world.MemoryWorld.{MemoryWorld}

-- ---- what is asked

-- said of the options of the one plan that evidence has, or of the stages that it lists
pub data OnPlans (outside sees : Sight) (options : List Row) (evidence : List ℕ)
    (Says : List Row → Type 0) (OfStages : StagesAsked → Type 0) : Type 0 where
  of_one : IsListed sees evidence None → StatesDigests outside sees options evidence Says
      → OnPlans outside sees options evidence Says OfStages
  of_stages : (stages : List ℕ) (sources claim : DigestValue)
      → AsksStages outside sees (stages_asked options evidence stages sources claim)
      → OfStages (stages_asked options evidence stages sources claim)
      → OnPlans outside sees options evidence Says OfStages

-- said of the options with the claim of a folder that they name, and else of these
abbrev pub OnClaim : Option (List ℕ) → Sight → List Row → (List Row → Type 0) → Type 0
OnClaim None sees options Says = Says options
OnClaim (Some place) sees options Says = (claim : List ℕ)
    × IsFolderClaim sees options place claim × Says (given (codes "claim") claim ∷ options)

-- said of the sight and the options by which is judged, or of stages: those of the evidence that
-- the options name, and else the world's and these
abbrev pub OnNamed : Option (List ℕ) → Sight → List Row → (Sight → List Row → Type 0)
    → (Sight → StagesAsked → Type 0) → Type 0
OnNamed None sees options Says OfStages =
    OnClaim (first_of (codes "artifact") options) sees options (Says sees)
OnNamed (Some evidence) sees options Says OfStages =
    InEvidence sees evidence (λ s. OnPlans sees s options evidence (Says s) (OfStages s))

-- said of what valid words ask for
pub record OnAsked (sees : Sight) (options : List Row) (Says : Sight → List Row → Type 0)
    (OfStages : Sight → StagesAsked → Type 0) : Type 0 where
  pub valid : AllValid (asked_words options)
  pub says : OnNamed (first_of (codes "evidence") options) sees options Says OfStages

-- ---- what is answered

-- The verdict has this line, and comes to this; a no says where the folder that was read isn't what
-- builds make.
pub record AnswersOn (sees : Sight) (options : List Row) (read : Option ReadValue) (line : List ℕ)
    (ended : Ended) : Type 0 where
  pub answers : AnswersVerdict sees options line ended
  pub made : Option (Made Global)
  pub is_made : IsMadeFor answers.judged.told answers.judged.question answers.verdict made
  pub differs : NotesOn made read ended

-- what is answered where the folder that these words name, if any, stands for the claim
pub record AnswersClaim (outside : Sight) (said : List Row) (sees : Sight) (options : List Row)
    (line : List ℕ) (ended : Ended) : Type 0 where
  pub read : Option ReadValue
  pub is_read : IsArtifact (first_of (codes "artifact") said) outside said
      (option_text options (codes "claim")) read
  pub on : AnswersOn sees options read line ended

-- on what is asked, by this evidence or without it, the verdict has this line, and comes to this
abbrev pub AnswersNamed : Option (List ℕ) → Sight → List Row → List ℕ → Ended → Type 0
AnswersNamed evidence sees options line ended = OnNamed evidence sees options
    (λ s o. AnswersClaim sees options s o line ended) (λ s asked. AnswersStages s asked line ended)

abbrev pub AnswersSaid : Sight → List Row → List ℕ → Ended → Type 0
AnswersSaid sees options = AnswersNamed (first_of (codes "evidence") options) sees options

-- the words are valid, and on what they ask for the verdict has this line, and comes to this
abbrev pub AnswersAsked : Sight → List Row → List ℕ → Ended → Type 0
AnswersAsked sees options line ended = OnAsked sees options
    (λ s o. AnswersClaim sees options s o line ended) (λ s asked. AnswersStages s asked line ended)

-- in the world stands this one file, and no server
pub record HoldsAlone (world : MemoryWorld) (path bytes : List ℕ) : Type 0 where
  pub file : files_of world path ≡ Some bytes
  pub alone : (other : List ℕ) → other ≢ path → files_of world other ≡ None
  pub no_server : (address : List ℕ) → replies_of world address ≡ None

-- What was written to the file is evidence by itself: where nothing but this file is, the answer on
-- it has this line.
pub record KeepsEvidence (sees : Sight) (line path : List ℕ) : Type 0 where
  pub bytes : List ℕ
  pub wrote : sees.wrote path bytes
  pub world : MemoryWorld
  pub holds : HoldsAlone world path bytes
  pub ended : Ended
  pub answers : AnswersAsked (sees_in world) (given (codes "evidence") path ∷ []) line ended

-- the verdict has this line, and what it looked at was kept, where the options say so
pub record AnswersAndKeeps (sees : Sight) (options : List Row) (line : List ℕ) (ended : Ended)
    : Type 0 where
  pub answers : AnswersAsked sees options line ended
  pub kept : IfSome (first_of (codes "keep") options) (KeepsEvidence sees line)

-- a verdict is answered, on what the options ask for: its line was printed
pub record VerifiesAsked (sees : Sight) (options : List Row) (old new : Option (List ℕ))
    (ended : Ended) : Type 0 where
  pub line : List ℕ
  pub is : AnswersAndKeeps sees options line ended
  pub printed : Appends old new line

-- nothing was printed, or a beginning of the line of such a verdict
abbrev pub BeginsAnswer : Sight → List Row → Option (List ℕ) → Option (List ℕ) → Type 0
BeginsAnswer sees options old new = (new ≡ old) ⊎ ((line : List ℕ) × (ended : Ended)
    × AnswersAndKeeps sees options line ended × AppendsBeginning old new line)

-- ---- faults

-- the digests of evidence aren't stated, or else a text that is stated for one is none
abbrev pub FailsSpelled : Sight → Sight → List Row → List ℕ → CommandError → Type 0
FailsSpelled outside sees options evidence e = FailsStated outside sees options evidence e
    ⊎ StatesDigests outside sees options evidence (λ o. FailsDigests o e)

-- The first fault of evidence: of its list of stages, then of its digests, and then of what it
-- asks. That memory is wanting may come anywhere.
pub data FailsInside (outside sees : Sight) (options : List Row) (evidence : List ℕ)
    (e : CommandError) : Type 0 where
  in_memory : e ≡ Memory → FailsInside outside sees options evidence e
  in_list : FailsListed sees evidence e → FailsInside outside sees options evidence e
  in_digests : IsListed sees evidence None → FailsStated outside sees options evidence e
      → FailsInside outside sees options evidence e
  in_spelled : (stages : List ℕ) → ListsStages sees evidence stages
      → FailsSpelled outside sees options evidence e → FailsInside outside sees options evidence e
  in_plans : OnPlans outside sees options evidence (λ o. FailsToJudge sees o e)
      (λ asked. FailsStages sees asked e) → FailsInside outside sees options evidence e

-- the place, or else the digest of the sources is at fault, or the folder that stands for the claim
-- can't be read, or else what is asked has a fault
pub data FailsFolder (sees : Sight) (options : List Row) (folder : List ℕ) (e : CommandError)
    : Type 0 where
  in_memory : e ≡ Memory → FailsFolder sees options folder e
  in_place : FailsFirst (place_words options) e → FailsFolder sees options folder e
  in_sources : AllValid (place_words options)
      → IsDigestFault (codes "sources") (option_text options (codes "sources")) e
      → FailsFolder sees options folder e
  in_folder : AllValid (place_words options) → IsSpelled (option_text options (codes "sources"))
      → FailsReading sees (reads_bits options) 64 folder e → FailsFolder sees options folder e
  in_verdict : (claim : List ℕ) → IsFolderClaim sees options folder claim
      → FailsToJudge sees (given (codes "claim") claim ∷ options) e
      → FailsFolder sees options folder e

abbrev pub FailsClaimed : Option (List ℕ) → Sight → List Row → CommandError → Type 0
FailsClaimed None sees options e = FailsToJudge sees options e
FailsClaimed (Some place) sees options e = FailsFolder sees options place e

abbrev pub FailsNamed : Option (List ℕ) → Sight → List Row → CommandError → Type 0
FailsNamed None sees options e = FailsClaimed (first_of (codes "artifact") options) sees options e
FailsNamed (Some evidence) sees options e = FailsEvidence sees evidence e
    ⊎ InEvidence sees evidence (λ s. FailsInside sees s options evidence e)

-- the first fault: of the words, or else this; that memory is wanting may come anywhere
pub data FailsBehind (checks : List Check) (fails : CommandError → Type 0) (e : CommandError)
    : Type 0 where
  in_memory : e ≡ Memory → FailsBehind checks fails e
  in_words : FailsFirst checks e → FailsBehind checks fails e
  behind : AllValid checks → fails e → FailsBehind checks fails e

-- the first fault of what is asked, behind its words: of the evidence, of its digests, and so on
abbrev pub FailsToAnswer : Sight → List Row → CommandError → Type 0
FailsToAnswer sees options = FailsNamed (first_of (codes "evidence") options) sees options

-- Behind its words the first fault where what is looked at is kept: no file can be put at the path;
-- there is no answer; what it looked at is no archive by which the answer is the same; or that
-- isn't written.
pub data FailsToKeep (sees : Sight) (options : List Row) (path : List ℕ) (e : CommandError)
    : Type 0 where
  in_memory : e ≡ Memory → FailsToKeep sees options path e
  in_place : (f : FileError Global) → sees.fails path f → e ≡ error_of_file f
      → FailsToKeep sees options path e
  in_answer : sees.takes path → FailsToAnswer sees options e → FailsToKeep sees options path e
  in_archive : (line : List ℕ) (ended : Ended) → AnswersSaid sees options line ended
      → TellsOfEntry path not_kept e → FailsToKeep sees options path e
  in_writing : (line : List ℕ) (ended : Ended) → AnswersSaid sees options line ended
      → IsFaultAtPath path (sees.unwritten path) e → FailsToKeep sees options path e

abbrev pub FailsFor : Option (List ℕ) → Sight → List Row → CommandError → Type 0
FailsFor None sees options e = FailsToAnswer sees options e
FailsFor (Some path) sees options e = FailsToKeep sees options path e

-- the first fault: of the words, then of what is asked, and last that the output takes no more
pub data FailsAsked (sees : Sight) (options : List Row) (e : CommandError) : Type 0 where
  in_asking : FailsBehind (asked_words options) (FailsFor (first_of (codes "keep") options) sees
      options) e → FailsAsked sees options e
  in_output : (line : List ℕ) (ended : Ended) → AnswersAndKeeps sees options line ended
      → IsPrintFault e → FailsAsked sees options e
