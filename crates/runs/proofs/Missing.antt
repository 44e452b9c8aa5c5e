-- A line whose origin a look-up doesn't find has none in each run that the engine mirrors.
use Rattle.std.proofs.Common.{◌≡◌, ℕ, List, [], ◌∷◌, length, Option, Some, None, refl, sym, subst, arith, inl, inr}
use Rattle.std.specs.Prelude.{option_map, slice_get}
use Rattle.actions.proofs.TreeLookups.{behind}
use Rattle.plan.specs.Plan.{IsPlan}
use Rattle.plan.specs.Values.{LineValue, StepValue}
use Rattle.tree.specs.Tree.{Name, Leaf, Entry}
use Rattle.tree.specs.Form.{entry_node}
use Rattle.blob_source.specs.Source.{Blobs}
use Rattle.blob_source.specs.Told.{missing, wrong, malformed}
use Rattle.tree.specs.Lookup.{Looked, fault, nothing, found}
use Rattle.tree.specs.Merging.{MergeFault, conflict, unreadable, merged}
use Rattle.tree.specs.Stage.{◌and_then◌}
use Rattle.tree.specs.declared.error.TreeError.{TreeError}
use Rattle.tree.specs.declared.error.TreeError.TheVariants as tree
use Rattle.verifier.proofs.Targets.{ArePaths, paths_of}
use Rattle.verifier.specs.Build.{origin_at}
use Rattle.verifier.specs.Together.{LooksUpOrigin, no_origin, in_conflict, of_merge, origin_path, IsFaultOfLook, FirstFault, ExplainsLines}
use Rattle.runs.specs.declared.error.RunsError.{RunsError}
use Rattle.runs.specs.Calls.{IsReady, HasRoomForJob, IsStartFault, HaveAllFinished, IsRootFault}
use Rattle.runs.specs.Engine.{EngineValue, IsEngine}
use Rattle.runs.specs.Looking.{outcomes_in, together_in, of_tree_error, ExplainsRefusal, StandsIn}
use Rattle.runs.specs.Ties.{IsWithoutOrigin, IsWithoutMerge, TellsMissing, TellsConflict}
use Rattle.runs.proofs.Resolved.{origin_agrees, no_graft}
use Rattle.runs.proofs.Standing.{unread_stands}

no_entry : (o : Option (Entry Leaf)) → option_map entry_node o ≡ None → o ≡ None
no_entry None h = refl
no_entry (Some x) h = cc

module _ (B : Blobs) (e : EngineValue) (engine : IsEngine e) where
  line_missing : (l : LineValue) (ls : List LineValue) (p : List Name) (r : Looked) → LooksUpOrigin B e.sources (outcomes_in e.finished) l.origin r → IsFaultOfLook l.origin r (no_origin p) → IsWithoutOrigin B e (l ∷ ls) p
  line_missing l ls p (fault f) look gives = cc
  line_missing l ls p (found x) look gives = elim gives [ ]
  line_missing l ls p nothing look gives = record {
    line = l;
    inside = (0, omega arith, refl);
    path = (let same : p ≡ origin_path l.origin = cc in same);
    of_run = λ run k. no_entry (origin_at run.tree run.now l.origin) (origin_agrees B e run.tree run.meaning run.table run.events run.now engine k l.origin nothing look);
  }

  pub first_missing : (ls : List LineValue) (p : List Name) → FirstFault B e.sources (outcomes_in e.finished) ls (no_origin p) → IsWithoutOrigin B e ls p
  first_missing [] p h = elim h [ ]
  first_missing (l ∷ ls) p (inl h) = line_missing l ls p h.0 h.1 h.2
  first_missing (l ∷ ls) p (inr h) =
      let rest = first_missing ls p h.2 in
      record { line = rest.line; inside = behind l ls rest.line rest.inside; path = rest.path; of_run = rest.of_run }

  -- what doesn't merge isn't a line without its origin
  tree_missing : (ls : List LineValue) (p : List Name) → (together_in B e ls).fails (no_origin p) → IsWithoutOrigin B e ls p
  unfolding ◌and_then◌
  tree_missing ls p (inl h) = first_missing ls p h
  tree_missing ls p (inr (xs, origins, (f, fails, is))) = absurd (none f is)
    where
      none : (f : MergeFault) → no_origin p ≡ of_merge f → ⊥
      none (conflict q) is = cc
      none (unreadable g) is = cc

  -- and a line without its origin is no conflict
  first_no_conflict : (ls : List LineValue) (p : List Name) → FirstFault B e.sources (outcomes_in e.finished) ls (in_conflict p) → ⊥
  first_no_conflict [] p h = h
  first_no_conflict (l ∷ ls) p (inl (r, look, gives)) = by r gives
    where
      by : (r : Looked) → IsFaultOfLook l.origin r (in_conflict p) → ⊥
      by (fault f) is = cc
      by nothing is = cc
      by (found x) is = is
  first_no_conflict (l ∷ ls) p (inr h) = first_no_conflict ls p h.2

  tree_conflict : (ls : List LineValue) → ArePaths ls → (p : List Name) → (together_in B e ls).fails (in_conflict p) → IsWithoutMerge B e ls
  unfolding ◌and_then◌
  tree_conflict ls paths p (inl h) = absurd (first_no_conflict ls p h)
  tree_conflict ls paths p (inr (xs, origins, (f, fails, is))) = by f fails is
    where
      by : (f : MergeFault) → (merged B xs).fails f → in_conflict p ≡ of_merge f → IsWithoutMerge B e ls
      by (conflict q) fails is = record { of_run = λ run k. no_graft B e run.tree run.meaning run.table run.events run.now engine k ls paths xs origins q fails }
      by (unreadable g) fails is = absurd cc

  -- what a refusal tells
  module _ {A : Type 0} (ls : List LineValue) (paths : ArePaths ls) where
    pub tells : (why : RunsError A) → ExplainsRefusal (together_in B e ls).fails why → TellsMissing B e ls why × TellsConflict B e ls why × StandsIn B why
    tells why (error, h, is) = subst (λ w. TellsMissing B e ls w × TellsConflict B e ls w × StandsIn B w) (sym is) (by error h)
      where
        by : (error : TreeError A) → ExplainsLines (together_in B e ls).fails error → TellsMissing B e ls (of_tree_error error) × TellsConflict B e ls (of_tree_error error) × StandsIn B (of_tree_error error)
        by (tree.Absent p) h = (tree_missing ls p h, tt, tt)
        by (tree.BlobMissing d) h = (tt, tt, unread_stands B e ls (missing d) h)
        by (tree.BlobWrong d) h = (tt, tt, unread_stands B e ls (wrong d) h)
        by (tree.BlobMalformed d) h = (tt, tt, unread_stands B e ls (malformed d) h)
        by (tree.TooDeep p) h = elim h [ ]
        by (tree.Conflict p) h = (tt, tree_conflict ls paths p h, tt)
        by tree.Fetch h = (tt, tt, tt)
        by tree.Memory h = (tt, tt, tt)

-- ---- why a step isn't started, and why there is no root

pub start_fault : {A : Type 0} (B : Blobs) (e : EngineValue) (i : ℕ) → IsReady e i → HasRoomForJob e → (why : RunsError A) → ((step : StepValue) → slice_get e.plan.steps i ≡ Some step → ExplainsRefusal (together_in B e step.lines).fails why)
    → (step : StepValue) → slice_get e.plan.steps i ≡ Some step → IsStartFault B e i why
start_fault {A} B e i ready room why h step at =
    let x = h step at in
    subst (IsStartFault B e i) (sym x.2) (by x.0 (λ s here. subst (ExplainsRefusal (together_in B e s.lines).fails) x.2 (h s here)))
  where
    by : (error : TreeError A) → ((step : StepValue) → slice_get e.plan.steps i ≡ Some step → ExplainsRefusal (together_in B e step.lines).fails (of_tree_error error)) → IsStartFault B e i (of_tree_error error)
    by (tree.Absent p) h = (ready, room, h)
    by (tree.BlobMissing d) h = (ready, room, h)
    by (tree.BlobWrong d) h = (ready, room, h)
    by (tree.BlobMalformed d) h = (ready, room, h)
    by (tree.TooDeep p) h = (ready, room, h)
    by (tree.Conflict p) h = (ready, room, h)
    by tree.Fetch h = (ready, room, h)
    by tree.Memory h = (ready, room, h)

-- what a refusal of the root tells
pub root_tells : {A : Type 0} {inside e : EngineValue} → inside ≡ e → IsEngine inside → IsPlan inside.plan → (B : Blobs) (why : RunsError A) → ExplainsRefusal (together_in B e e.plan.root_lines).fails why
    → TellsMissing B e e.plan.root_lines why × TellsConflict B e e.plan.root_lines why × StandsIn B why
root_tells {A} {inside} {e} same engine valid B why h =
    let plan : IsPlan e.plan = subst (λ (e : EngineValue). IsPlan e.plan) same valid in
    tells B e (subst IsEngine same engine) e.plan.root_lines (paths_of (length e.plan.steps) e.plan.root_lines plan.root_lines.each) why h

pub root_fault : {A : Type 0} (B : Blobs) (e : EngineValue) → HaveAllFinished e → (why : RunsError A) → ExplainsRefusal (together_in B e e.plan.root_lines).fails why → IsRootFault B e why
root_fault {A} B e all why h = subst (IsRootFault B e) (sym h.2) (by h.0 (subst (ExplainsRefusal (together_in B e e.plan.root_lines).fails) h.2 h))
  where
    by : (error : TreeError A) → ExplainsRefusal (together_in B e e.plan.root_lines).fails (of_tree_error error) → IsRootFault B e (of_tree_error error)
    by (tree.Absent p) h = (all, h)
    by (tree.BlobMissing d) h = (all, h)
    by (tree.BlobWrong d) h = (all, h)
    by (tree.BlobMalformed d) h = (all, h)
    by (tree.TooDeep p) h = (all, h)
    by (tree.Conflict p) h = (all, h)
    by tree.Fetch h = (all, h)
    by tree.Memory h = (all, h)
