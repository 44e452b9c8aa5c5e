-- The outcome that a result stands for, and why there is none.
use Rattle.std.specs.Prelude.{◌≡◌, ◌≤◌, ◌⊎◌, ℕ, ◌+◌, List, [], ◌∷◌, ◌++◌, length}
use Rattle.messages.specs.Tree.{TreeValue, IsTree, tree_bytes}
use Rattle.action_messages.specs.OutputDirectory.{OutputDirectoryValue}
use Rattle.action_messages.specs.ActionResult.{ActionResultValue}
use Rattle.action_messages.specs.Outputs.{RecordedValue, file, directory, link, recorded_path}
use Rattle.action_messages.specs.Outputs.{AreOutputs}
use Rattle.blob_source.specs.Source.{Blobs, Telling}
use Rattle.blob_source.specs.Told.{IsTold, Fault, IsFault}
use Rattle.actions.specs.declared.outcome.Output.TheVariants.{File, Link, Tree}
use Rattle.actions.specs.Outcome.{OutputValue, OutcomeValue, IsOutcome}

-- An output of a result stands for one of an outcome: a directory for the Tree that is told under
-- its digest.
abbrev pub StandsFor : Blobs → RecordedValue → OutputValue → Type 0
StandsFor blobs (file f) x = x ≡ File f.digest f.executable
StandsFor blobs (directory d) x =
    (t : TreeValue) × IsTold IsTree tree_bytes blobs d.tree t × (x ≡ Tree t)
StandsFor blobs (link l) x = x ≡ Link l.target

-- the outputs of a result stand for those of an outcome, each at its path, in the same order
abbrev pub StandForAll : Blobs → List RecordedValue → List (List (List ℕ) × OutputValue) → Type 0
StandForAll blobs [] outputs = outputs ≡ []
StandForAll blobs (x ∷ xs) [] = ⊥
StandForAll blobs (x ∷ xs) (e ∷ outputs) =
    (e.0 ≡ recorded_path x) × StandsFor blobs x e.1 × StandForAll blobs xs outputs

-- The outcome that a result stands for, by what a source tells: the same exit code, and what its
-- outputs stand for.
pub record IsRecorded (blobs : Blobs) (r : ActionResultValue) (o : OutcomeValue) : Type 0 where
  pub valid : IsOutcome o
  pub exit_code : o.exit_code ≡ r.exit_code
  pub recorded : List RecordedValue
  pub ordered : AreOutputs r recorded
  pub outputs : StandForAll blobs recorded o.outputs

-- ---- why there is none

-- The first of the directories whose Tree isn't told, and why; those before it are told.
abbrev pub IsFirstTreeFault : Blobs → List OutputDirectoryValue → Fault → Type 0
IsFirstTreeFault blobs [] f = ⊥
IsFirstTreeFault blobs (d ∷ ds) f =
    IsFault IsTree tree_bytes blobs d.tree f
    ⊎ ((t : TreeValue) × IsTold IsTree tree_bytes blobs d.tree t × IsFirstTreeFault blobs ds f)

-- a directory whose Tree isn't told is the last that is asked for
pub record StopsAtFault (ds : List OutputDirectoryValue) (old new : Telling) : Type 0 where
  pub few : (before behind : List OutputDirectoryValue) (d : OutputDirectoryValue) (f : Fault)
      → ds ≡ before ++ d ∷ behind → IsFault IsTree tree_bytes new.blobs d.tree f
      → new.calls ≤ old.calls + (length before + 1)

-- why an output of a result can't be read: its Tree isn't told
abbrev pub IsOutputFault : Blobs → RecordedValue → Fault → Type 0
IsOutputFault blobs (file x) f = ⊥
IsOutputFault blobs (directory d) f = IsFault IsTree tree_bytes blobs d.tree f
IsOutputFault blobs (link l) f = ⊥

-- a file or a link, for which no source is asked
abbrev pub IsWithoutTree : RecordedValue → Type 0
IsWithoutTree (file f) = Unit {0}
IsWithoutTree (directory d) = ⊥
IsWithoutTree (link l) = Unit {0}
