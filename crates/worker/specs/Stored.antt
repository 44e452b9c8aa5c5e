-- What a store has of the steps that a build has finished.
use Rattle.std.specs.Prelude.{◌≡◌, ◌≢◌, ◌⊎◌, ℕ, List, Some, None, Contains}
use Rattle.std.specs.List.{AllByRecursion}
use Rattle.blob_digest.specs.Digest.{DigestValue, digest_of, NoClash}
use Rattle.messages.specs.Tree.{TreeValue, tree_bytes}
use Rattle.actions.specs.declared.outcome.Output.TheVariants as outputs
use Rattle.actions.specs.Outcome.{OutcomeValue}
use Rattle.blob_source.specs.Source.{Blobs, Telling, Grows}
use Rattle.blob_source.specs.Sink.{HasRight, KeepsRight}
use Rattle.tree.specs.Tree.{Name}
use Rattle.runs.specs.Engine.{FinishedValue, EngineValue, finished_in}
use Rattle.runs.specs.Served.{Keeps}
use Rattle.worker.specs.Outcomes.{HasTrees}

-- the encoding of a Tree among the outputs of an outcome
abbrev pub IsTreeOf : OutcomeValue → List ℕ → Type 0
IsTreeOf o b =
    (p : List Name) × (t : TreeValue) × Contains o.outputs (p, outputs.Tree t) × (b ≡ tree_bytes t)

-- a blob that is told, or the encoding of a Tree of a step that has finished
abbrev pub IsToldOrTree : Blobs → EngineValue → List ℕ → Type 0
IsToldOrTree B e b = ((d : DigestValue) × (B d ≡ Some b))
    ⊎ ((i : ℕ) × (f : FinishedValue) × (finished_in i e ≡ Some f) × IsTreeOf f.outcome b)

-- A store has what an engine has finished. Bytes with the digest of each step's action stand under
-- it, and with those of its Trees and of their Directories. Under the action stands a result too,
-- which is for an outcome of the step's form, where no two different ones of the blobs that are
-- told and the engine's Trees share a digest.
pub record IsStored (t : Telling) (e : EngineValue) : Type 0 where
  pub actions : (i : ℕ) (f : FinishedValue) → finished_in i e ≡ Some f → HasRight t.blobs f.action
  pub trees : (i : ℕ) (f : FinishedValue) → finished_in i e ≡ Some f → HasTrees t.blobs f.outcome
  pub results : NoClash (IsToldOrTree t.blobs e) → (i : ℕ) (f : FinishedValue)
      → finished_in i e ≡ Some f → Keeps t.blobs t.results f

-- no step has finished
abbrev pub HasNoneFinished : EngineValue → Type 0
HasNoneFinished e = (i : ℕ) → finished_in i e ≡ None

-- No other blobs are put than these: what stands under other digests is as it was.
pub record PutsNoOther (bs : List (List ℕ)) (old new : Blobs) : Type 0 where
  pub same : (d : DigestValue) → AllByRecursion (λ b. digest_of b ≢ d) bs → new d ≡ old d

-- what stands under other digests than those of such blobs stays
pub record KeepsAllBut (Is : List ℕ → Type 0) (old new : Blobs) : Type 0 where
  pub stays : (d : DigestValue) (b : List ℕ) → old d ≡ Some b
      → ((c : List ℕ) → Is c → digest_of c ≢ d) → new d ≡ Some b

-- calls that put no result: results stay, and blobs that have their digests
pub record IsKept (old new : Telling) : Type 0 where
  pub blobs : KeepsRight old.blobs new.blobs
  pub results : Grows old.results new.results
  pub puts : new.puts ≡ old.puts
