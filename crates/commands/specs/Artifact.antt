-- What a yes says of a folder that stands for the claim, and a note after a no.
use Rattle.std.specs.Prelude.{◌≡◌, ◌⊎◌, ℕ, List, [], ◌++◌, Some, codes}
use Rattle.std.specs.declared.alloc.Global.{Global}
use Rattle.blob_digest.specs.Digest.{NoClash}
use Rattle.blob_digest.specs.Text.{digest_text}
use Rattle.blob_source.specs.Source.{Telling}
use Rattle.clap.specs.Words.{Row}
use Rattle.command_lines.specs.CommandLine.{option_text}
use Rattle.text_verifier.specs.Answered.{IsMadeFor}
use Rattle.text_verifier.specs.Texts.{Question}
use Rattle.tree.specs.Folded.{items_of}
use Rattle.tree.specs.Form.{IsBlobOf, form, root}
use Rattle.tree.specs.Mismatch.{FirstMismatch, IsTrueMismatch, MismatchValue}
use Rattle.tree.specs.Tree.{IsOrdered, Leaf, Tree}
use Rattle.verifier.specs.Build.{HasFinishedAll, merge_of}
use Rattle.verifier.specs.BuildStages.{RunInTurn}
use Rattle.verifier.specs.Headline.{PlanRun, RunsFrom}
use Rattle.verifier.specs.Verdict.{IsYes}
use Rattle.verifier.specs.declared.made.Made.{Made}
use Rattle.verifier.specs.declared.verdict.Verdict.{Verdict}
use Rattle.commands.specs.Composed.{EndInClaim}
use Rattle.commands.specs.Digested.{reads_bits}
use Rattle.commands.specs.Printed.{JudgesAsked}
use Rattle.commands.specs.Read.{IsTreeReadAt, blobs_of, directories_in}
use Rattle.commands.specs.Stages.{StagesAsked}
use Rattle.commands.specs.Verified.{OnAsked}
use Rattle.commands.specs.World.{Sight}

-- The run ends in a tree with the digest of this one, and in this one itself, with its names, links,
-- executable bits and contents, where no two different blobs of both share a digest.
pub record EndsInTree (q : Question) (run : PlanRun) (t : Tree Leaf) : Type 0 where
  pub end : Tree Leaf
  pub made : merge_of run.tree run.now q.plan.root_lines ≡ Some end
  pub named : root (form end) ≡ root (form t)
  pub same : NoClash (λ b. IsBlobOf end b ⊎ IsBlobOf t b) → end ≡ t

-- Each run of the question's plan, under the premises of a yes, by what a source told, and after
-- which every step has finished, ends in this tree.
pub record EveryRunEndsInTree (told : Telling) (q : Question) (t : Tree Leaf) : Type 0 where
  pub of_run : (run : PlanRun)
      → RunsFrom told.blobs told.results q.sources q.plan q.noted.digests run
      → HasFinishedAll q.plan run.now → EndsInTree q run t

-- The verdict on the one plan that these options ask for is yes, of a claim that is the digest of
-- this tree, and every complete run of the plan ends in the tree.
pub record IsYesOfTree (t : Tree Leaf) (sees : Sight) (options : List Row) : Type 0 where
  pub claim : option_text options (codes "claim") ≡ digest_text (root (form t))
  pub verdict : Verdict Global
  pub judged : JudgesAsked sees options verdict
  pub is_yes : IsYes verdict
  pub ends : EveryRunEndsInTree judged.told judged.question t

-- The claim of stages is the digest of this tree, and whoever runs them, one after another, ends in
-- a tree with that digest, and in this one itself, where no two different blobs of both share one.
pub record AreYesOfTree (t : Tree Leaf) (sees : Sight) (asked : StagesAsked) : Type 0 where
  pub claim : asked.claim ≡ root (form t)
  pub stages : EndInClaim sees asked
  pub same : (runs : List PlanRun) (begin end : Tree Leaf) → IsOrdered begin
      → root (form begin) ≡ asked.sources → RunInTurn begin stages.builds runs end
      → NoClash (λ b. IsBlobOf end b ⊎ IsBlobOf t b) → end ≡ t

-- a tree was read at the folder, and what is asked has such a yes of that tree
pub record IsYesOfFolder (sees : Sight) (options : List Row) (place : List ℕ) : Type 0 where
  pub tree : Tree Leaf
  pub read : IsTreeReadAt sees (reads_bits options) place tree
  pub says : OnAsked sees options (IsYesOfTree tree) (AreYesOfTree tree)

-- ---- where a folder differs

-- The verdict on the one plan that these options ask for is that builds make another root than this
-- tree's. By the Directories that are known of both, this is the first path at which they differ,
-- and what each has there.
pub record IsNoOfTree (t : Tree Leaf) (x : MismatchValue) (sees : Sight) (options : List Row)
    : Type 0 where
  pub verdict : Verdict Global
  pub judged : JudgesAsked sees options verdict
  pub made : Made Global
  pub is_made : IsMadeFor judged.told judged.question verdict (Some made)
  pub first : FirstMismatch (items_of made.directories.items ++ directories_in (blobs_of t)) 64 []
      made.root (root (form t)) (Some x)
  pub is_true : IsTrueMismatch (items_of made.directories.items ++ directories_in (blobs_of t))
      made.root (root (form t)) x

-- a tree was read at the folder, and what is asked, which is no build in stages, has such a no of it
pub record IsNoOfFolder (sees : Sight) (options : List Row) (place : List ℕ) (x : MismatchValue)
    : Type 0 where
  pub tree : Tree Leaf
  pub read : IsTreeReadAt sees (reads_bits options) place tree
  pub says : OnAsked sees options (IsNoOfTree tree x) (λ s asked. ⊥)
