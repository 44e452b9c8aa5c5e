-- What is told of a layout and of a result stays told where right bytes stay.
use Rattle.std.proofs.Common.{◌≡◌, ℕ, List, [], ◌∷◌, Some, ap, ◌∙◌, sym, inl, inr}
use Rattle.std.specs.Prelude.{slice_get}
use Rattle.blob_digest.specs.Digest.{DigestValue}
use Rattle.messages.specs.declared.node.Node.TheVariants as nodes
use Rattle.blob_source.specs.Source.{Blobs, Telling, IsUnder, IsBlobUnder}
use Rattle.blob_source.specs.Sink.{KeepsRight}
use Rattle.blob_source.specs.Told.{IsTold}
use Rattle.action_messages.specs.ActionResult.{ActionResultValue}
use Rattle.action_messages.specs.Outputs.{RecordedValue, file, directory, link}
use Rattle.std.specs.List.{AllByRecursion}
use Rattle.actions.specs.declared.outcome.Output.TheVariants as outputs
use Rattle.actions.specs.Outcome.{OutputValue, OutcomeValue}
use Rattle.actions.specs.Recorded.{StandsFor, StandForAll, IsRecorded}
use Rattle.tree.specs.Tree.{Name, Tree, empty, leaf, folder, Standing, nothing, a_leaf, a_directory, stands_at}
use Rattle.tree.specs.Form.{NodeValue}
use Rattle.tree.specs.Unfolded.{TellsBelow, TellsTree}
use Rattle.runs.specs.Engine.{JobValue, EngineValue}
use Rattle.worker.specs.Values.{LayoutValue, EndValue, made}
use Rattle.worker.specs.Stored.{IsKept}
use Rattle.worker.specs.Outcomes.{Yields, YieldsNoMore, HasOwnAction, MayComeTo, directories_of, HasTree, IsYielded}
use Rattle.worker.specs.Going.{IsOwed}
use Rattle.worker.proofs.Keeping.{right_still, all_right_still}
use Rattle.worker.specs.Layout.{IsFileWith, IsLayoutOf}
use Rattle.verifier.specs.Recorded.{IsHeld}

module _ {B C : Blobs} (keeps : KeepsRight B C) where
  pub blob_still : {d : DigestValue} {b : List ℕ} → IsBlobUnder B d b → IsBlobUnder C d b
  blob_still {d} {b} h = record { held = by h.held; right = h.right }
    where
      by : IsUnder B d (Some b) → IsUnder C d (Some b)
      by (inl e) = inl e
      by (inr (n, at)) = inr (n, sym (keeps d b (sym at) h.right))

  pub told_still : {M : Type 0} {rules : M → Type 0} {spells : M → List ℕ} {d : DigestValue} {m : M} → IsTold rules spells B d m → IsTold rules spells C d m
  told_still t = record { valid = t.valid; blob = blob_still t.blob }

  below_still : (t : Tree NodeValue) → TellsBelow B t → TellsBelow C t
  below_still empty h = tt
  below_still (leaf n x rest) h = below_still rest h
  below_still (folder n below rest) h = ((told_still h.0.0, below_still below h.0.1), below_still rest h.1)

  tells_still : {d : DigestValue} {t : Tree NodeValue} → TellsTree B d t → TellsTree C d t
  tells_still {d} {t} h = record { root = h.root; top = told_still h.top; below = below_still t h.below }

  file_still : (b : List ℕ) (s : Standing NodeValue) → IsFileWith B b s → IsFileWith C b s
  file_still b nothing h = h
  file_still b a_directory h = h
  file_still b (a_leaf (nodes.Link t)) h = h
  file_still b (a_leaf (nodes.Dir d)) h = h
  file_still b (a_leaf (nodes.File d x)) h = blob_still h

  pub layout_still : {d : DigestValue} {l : LayoutValue} → IsLayoutOf B d l → IsLayoutOf C d l
  layout_still h = record {
    tree = h.tree;
    ordered = h.ordered;
    told = tells_still h.told;
    folders = h.folders;
    files = λ p b at. file_still b (stands_at h.tree p) (h.files p b at);
    each_leaf = h.each_leaf;
    folders_ascend = h.folders_ascend;
    files_ascend = h.files_ascend;
  }

  stands_still : (x : RecordedValue) (v : OutputValue) → StandsFor B x v → StandsFor C x v
  stands_still (file f) v h = h
  stands_still (link l) v h = h
  stands_still (directory d) v (t, told, is) = (t, told_still told, is)

  stand_still : (xs : List RecordedValue) (es : List (List (List ℕ) × OutputValue)) → StandForAll B xs es → StandForAll C xs es
  stand_still [] es h = h
  stand_still (x ∷ xs) [] h = h
  stand_still (x ∷ xs) (e ∷ es) h = (h.0, stands_still x e.1 h.1, stand_still xs es h.2)

  pub recorded_still : (r : ActionResultValue) (o : OutcomeValue) → IsRecorded B r o → IsRecorded C r o
  recorded_still r o h = record { valid = h.valid; exit_code = h.exit_code; recorded = h.recorded; ordered = h.ordered; outputs = stand_still h.recorded o.outputs h.outputs }

pub held_kept : {t u : Telling} {d : DigestValue} {v : OutcomeValue} → IsKept t u → IsHeld t d v → IsHeld u d v
held_kept {t} {u} {d} {v} k h = record {
  result = h.result;
  held = (h.held.0, k.results d h.held.0 h.held.1, h.held.2);
  recorded = recorded_still k.blobs h.result v h.recorded;
}

pub trees_still : (B C : Blobs) (es : List (List Name × OutputValue)) → KeepsRight B C → AllByRecursion (HasTree B) es → AllByRecursion (HasTree C) es
trees_still B C [] keeps h = tt
trees_still B C ((p, outputs.File d x) ∷ es) keeps h = (tt, trees_still B C es keeps h.1)
trees_still B C ((p, outputs.Link t) ∷ es) keeps h = (tt, trees_still B C es keeps h.1)
trees_still B C ((p, outputs.Tree t) ∷ es) keeps h = ((right_still keeps h.0.0, all_right_still B C (directories_of t) keeps h.0.1), trees_still B C es keeps h.1)

-- ---- how a child may end

-- the same commands and frames
abbrev pub SameSteps : EngineValue → EngineValue → Type 0
SameSteps old new = (new.commands ≡ old.commands) × (new.frames ≡ old.frames)

-- a runner that yields more, a store that keeps right bytes, and an engine with the same commands
-- and frames
module _ {y z : Yields} {B C : Blobs} (old new : EngineValue) (within : YieldsNoMore y z) (keeps : KeepsRight B C) (same : SameSteps old new) (j : JobValue) where
  own_still : HasOwnAction old j → HasOwnAction new j
  own_still h = (h.0, ap (λ fs. slice_get fs j.step) same.1 ∙ h.1, h.2)

  pub end_still : (end : EndValue) → MayComeTo y B old j end → MayComeTo z C new j end
  end_still end h = record {
    layout = h.layout;
    laid = layout_still keeps h.laid;
    command = h.command;
    of_step = ap (λ cs. slice_get cs j.step) same.0 ∙ h.of_step;
    may = (within h.layout h.command end h.may.0, h.may.1);
    own = own_still h.own;
    action = right_still keeps h.action;
  }

  pub yielded_still : {v : OutcomeValue} → IsYielded y B old j v → IsYielded z C new j v
  yielded_still {v} h = record {
    produced = h.produced;
    outcome = h.outcome;
    may = end_still (made h.produced) h.may;
    blobs = all_right_still B C h.produced.blobs keeps h.blobs;
    trees = trees_still B C v.outputs keeps h.trees;
  }

  pub owed_still : {may : EndValue → Type 0} → IsOwed y may B old j → IsOwed z may C new j
  owed_still h = record {
    layout = h.layout;
    laid = layout_still keeps h.laid;
    command = h.command;
    of_step = ap (λ cs. slice_get cs j.step) same.0 ∙ h.of_step;
    may_come = λ end may_end. let comes = h.may_come end may_end in (within h.layout h.command end comes.0, comes.1);
    own = own_still h.own;
    action = right_still keeps h.action;
  }

pub owed_ends : {y : Yields} {may : EndValue → Type 0} {B : Blobs} {e : EngineValue} {j : JobValue} → IsOwed y may B e j → (end : EndValue) → may end → MayComeTo y B e j end
owed_ends h end may_end = record { layout = h.layout; laid = h.laid; command = h.command; of_step = h.of_step; may = h.may_come end may_end; own = h.own; action = h.action }
