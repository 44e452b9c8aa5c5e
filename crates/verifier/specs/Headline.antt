-- What a yes says: every complete run of the plan ends in exactly the claimed root, and no run is
-- ever stuck.
use Rattle.std.specs.Prelude.{◌≡◌, ◌⊎◌, ℕ, pos, List, [], ◌∷◌, Some, None, IsSomeAnd, slice_get}
use Rattle.std.specs.Prelude.{Contains}
use Rattle.std.specs.List.{AllByRecursion}
use Rattle.blob_digest.specs.Digest.{DigestValue, NoClash}
use Rattle.messages.specs.DirectoryRules.{DirectoryValue}
use Rattle.messages.specs.Directory.{directory_bytes}
use Rattle.messages.specs.Tree.{TreeValue, IsTree, tree_bytes}
use Rattle.action_messages.specs.Command.{command_bytes}
use Rattle.action_messages.specs.Frame.{frame_bytes}
use Rattle.action_messages.specs.Action.{with_input, action_bytes}
use Rattle.plan.specs.Values.{OriginValue, source, output, StepValue, PlanValue}
use Rattle.tree.specs.Tree.{Name, Tree, Leaf, Entry, single, whole, IsOrdered}
use Rattle.tree.specs.Form.{form, root, IsContent, IsBlobOf}
use Rattle.blob_source.specs.Source.{Blobs}
use Rattle.tree.specs.Lookup.{IsValue}
use Rattle.verifier.specs.Build.{Meaning, ActionMeaning, Outcome, Event, start, finish, lose, State}
use Rattle.verifier.specs.Build.{opening, outcome_of, job_of, happens, action_of, merge_of}
use Rattle.verifier.specs.Build.{MeaningFits, IsTable, IsRun, HasFinishedAll}
use Rattle.verifier.specs.Recorded.{Agrees}

-- ---- the blobs that a run is about

-- the encoding of a Directory of a Tree that the source has
abbrev pub IsDirectoryInTree : Blobs → List ℕ → Type 0
IsDirectoryInTree blobs b = (t : TreeValue) × IsTree t × IsValue blobs (tree_bytes t)
    × (m : DirectoryValue) × Contains (t.root ∷ t.children) m × (b ≡ directory_bytes m)

-- an action's encoding, its frame's, its command's, and the blobs of its inputs
abbrev pub IsBlobOfAction : ActionMeaning → List ℕ → Type 0
IsBlobOfAction a b =
    ((b ≡ action_bytes (with_input a.frame (root (form a.input)))) ⊎ (b ≡ frame_bytes a.frame))
    ⊎ ((b ≡ command_bytes a.command) ⊎ IsBlobOf a.input b)

abbrev pub IsBlobOfEntry : Entry Leaf → List ℕ → Type 0
IsBlobOfEntry (single x) b = IsContent x b
IsBlobOfEntry (whole t) b = IsBlobOf t b

-- the blobs of an outcome's outputs
abbrev pub IsBlobOfOutcome : Outcome → List ℕ → Type 0
IsBlobOfOutcome o b = (e : List Name × Entry Leaf) × Contains o.outputs e × IsBlobOfEntry e.1 b

-- the blobs of the action that an event starts
abbrev pub IsBlobOfStart : PlanValue → Meaning → Tree Leaf → State → Event → List ℕ → Type 0
IsBlobOfStart plan meaning t s (start i w) b = (a : ActionMeaning)
    × (action_of plan meaning t s i ≡ Some a) × IsBlobOfAction a b
IsBlobOfStart plan meaning t s (finish w o) b = ⊥
IsBlobOfStart plan meaning t s (lose w) b = ⊥

-- the blobs of each action that is started
abbrev pub IsBlobOfStarts : PlanValue → Meaning → Tree Leaf → State → List Event → List ℕ → Type 0
IsBlobOfStarts plan meaning t s [] b = ⊥
IsBlobOfStarts plan meaning t s (e ∷ es) b = IsBlobOfStart plan meaning t s e b
    ⊎ ((mid : State) × (happens plan meaning t s e ≡ Some mid)
    × IsBlobOfStarts plan meaning t mid es b)

-- the blobs of the chosen actions and outcomes
abbrev pub IsBlobOfChosen : List (ActionMeaning × Outcome) → List ℕ → Type 0
IsBlobOfChosen chosen b = (pair : ActionMeaning × Outcome) × Contains chosen pair
    × (IsBlobOfAction pair.0 b ⊎ IsBlobOfOutcome pair.1 b)

-- The blobs concerned: what the source has, with the Directories of its Trees; those of the source
-- tree, of the chosen pairs, and of the actions that the run starts.
abbrev pub IsConcerned : Blobs → PlanValue → Meaning → Tree Leaf → List (ActionMeaning × Outcome)
    → List Event → List ℕ → Type 0
IsConcerned blobs plan meaning t chosen es b =
    (IsValue blobs b ⊎ IsDirectoryInTree blobs b)
    ⊎ (IsBlobOf t b
    ⊎ (IsBlobOfChosen chosen b ⊎ IsBlobOfStarts plan meaning t opening es b))

-- ---- the premises

-- a run of a plan: its sources, what its steps mean, what actions come to, those that were
-- recorded, what happened, and where it led
pub record PlanRun : Type 0 where
  pub tree : Tree Leaf
  pub meaning : Meaning
  pub table : List (ActionMeaning × Outcome)
  pub chosen : List (ActionMeaning × Outcome)
  pub events : List Event
  pub now : State

-- A run of the plan from its tree, under the premises of a yes that aren't about its sources: the
-- meaning fits the plan, equal actions come to the same, the recorded ones to what was recorded, no
-- two different blobs concerned share a digest, and the events happened in this order. Steps may
-- overlap, be lost and be repeated.
pub record IsRunOf (blobs results : Blobs) (plan : PlanValue) (recorded : List DigestValue)
    (run : PlanRun) : Type 0 where
  pub fits : MeaningFits plan run.meaning
  pub table : IsTable run.table
  pub agrees : Agrees blobs results run.table run.chosen recorded
  pub apart : NoClash (IsConcerned blobs plan run.meaning run.tree run.chosen run.events)
  pub happened : IsRun run.table plan run.meaning run.tree opening run.events run.now

-- A run under all premises of a yes: its tree is any one in order with the digest of the sources.
pub record RunsFrom (blobs results : Blobs) (sources : DigestValue) (plan : PlanValue)
    (recorded : List DigestValue) (run : PlanRun) : Type 0 where
  pub ordered : IsOrdered run.tree
  pub from : root (form run.tree) ≡ sources
  pub keeps : IsRunOf blobs results plan recorded run

-- ---- the headline

-- A run that keeps the premises, and after which every step has finished, ends in a tree with
-- exactly the claimed root.
pub record EveryRunEndsIn (blobs results : Blobs) (sources : DigestValue) (plan : PlanValue)
    (recorded : List DigestValue) (claim : DigestValue) : Type 0 where
  pub of_run : (run : PlanRun) → RunsFrom blobs results sources plan recorded run
      → HasFinishedAll plan run.now
      → IsSomeAnd (merge_of run.tree run.now plan.root_lines) (λ g. root (form g) ≡ claim)

-- ---- runs do what was recorded

-- In a state each job runs the action that was chosen for its step, and each step that has finished
-- came to the outcome that was chosen for it. By the record these have the recorded digests.
pub record IsAsChosen (chosen : List (ActionMeaning × Outcome)) (s : State) : Type 0 where
  pub jobs : (w : ℕ) (job : ℕ × ActionMeaning) → job_of w s ≡ Some job
      → (pair : ActionMeaning × Outcome) × (slice_get chosen job.0 ≡ Some pair) × (job.1 ≡ pair.0)
  pub outcomes : (i : ℕ) (o : Outcome) → outcome_of i s ≡ Some o → (pair : ActionMeaning × Outcome)
      × (slice_get chosen i ≡ Some pair) × (o ≡ pair.1)

-- Every run is as chosen, complete or not: that the recorded actions are run isn't a premise, but
-- holds under the same premises.
pub record EveryRunIsAsChosen (blobs results : Blobs) (sources : DigestValue) (plan : PlanValue)
    (recorded : List DigestValue) : Type 0 where
  pub of_run : (run : PlanRun) → RunsFrom blobs results sources plan recorded run
      → IsAsChosen run.chosen run.now

-- ---- no run is stuck

-- the step that a line reads has finished
abbrev pub HasFinished : State → OriginValue → Type 0
HasFinished s (source p) = Unit {0}
HasFinished s (output j p) = (o : Outcome) × (outcome_of j s ≡ Some o)

-- In a state nothing is stuck:
pub record IsNotStuck (X : List (ActionMeaning × Outcome)) (plan : PlanValue) (meaning : Meaning)
    (t : Tree Leaf) (s : State) : Type 0 where
  -- a step may start, as a job of any number that isn't in use, where the steps that its lines read
  -- have finished: each origin is there, and what stands there merges
  pub starts : (i w : ℕ) (step : StepValue) → slice_get plan.steps i ≡ Some step
      → AllByRecursion (λ l. HasFinished s l.origin) step.lines → job_of w s ≡ None
      → (next : State) × (happens plan meaning t s (start i w) ≡ Some next)
  -- a job that runs may finish: its action comes to an outcome, with exit code 0
  pub finishes : (w : ℕ) (job : ℕ × ActionMeaning) → job_of w s ≡ Some job → (o : Outcome)
      × Contains X (job.1, o) × (o.exit_code ≡ pos 0)

-- the blobs of the actions that are started in each run that may follow a state
abbrev pub IsBlobAhead : List (ActionMeaning × Outcome) → PlanValue → Meaning → Tree Leaf → State
    → List ℕ → Type 0
IsBlobAhead X plan meaning t s b = (es : List Event) × (end : State)
    × IsRun X plan meaning t s es end × IsBlobOfStarts plan meaning t s es b

-- Under the same premises no run is stuck, complete or not.
pub record NoRunIsStuck (blobs results : Blobs) (sources : DigestValue) (plan : PlanValue)
    (recorded : List DigestValue) : Type 0 where
  pub of_run : (run : PlanRun) → RunsFrom blobs results sources plan recorded run
      → IsNotStuck run.table plan run.meaning run.tree run.now
  -- Events can follow after which every step has finished, if no two different blobs share a digest
  -- of those concerned and of those of what may still happen.
  pub can_end : (run : PlanRun) → RunsFrom blobs results sources plan recorded run
      → NoClash (λ b. IsConcerned blobs plan run.meaning run.tree run.chosen run.events b
      ⊎ IsBlobAhead run.table plan run.meaning run.tree run.now b)
      → (more : List Event) × (end : State)
      × IsRun run.table plan run.meaning run.tree run.now more end × HasFinishedAll plan end
