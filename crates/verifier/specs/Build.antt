-- What a build is: the meaning of a plan's steps, their actions and outcomes, and runs of the plan.
use Rattle.std.specs.Prelude.{◌≡◌, ◌⊎◌, ◌==◌, ℕ, ℤ, bytes_eq, if◌then◌else◌, List, [], ◌∷◌, Option}
use Rattle.std.specs.Prelude.{Some, None, option_map, option_and_then, slice_get, Contains}
use Rattle.std.specs.List.{AllByRecursion}
use Rattle.std.specs.Map.{lookup, remove_entry}
use Rattle.blob_digest.specs.Digest.{DigestValue, digest_of}
use Rattle.action_messages.specs.Command.{CommandValue, IsCommand, command_bytes}
use Rattle.action_messages.specs.Frame.{FrameValue, IsFrame, frame_bytes}
use Rattle.action_messages.specs.Action.{with_input, action_bytes}
use Rattle.plan.specs.Values.{OriginValue, source, output, LineValue, StepValue, PlanValue}
use Rattle.tree.specs.Tree.{Name, Tree, Leaf, Entry, tree_at, below_entry, IsOrdered}
use Rattle.tree.specs.Tree.{IsOrderedEntry}
use Rattle.tree.specs.Form.{form, root}
use Rattle.tree.specs.Graft.{HaveApartTargets}
use Rattle.tree.specs.Merge.{merge}

-- ---- actions and outcomes

-- what the steps of a plan mean: a frame and a command for each
pub record Meaning : Type 0 where
  pub frames : List FrameValue
  pub commands : List CommandValue

-- what is run: a frame, its command, and the tree of its inputs
pub record ActionMeaning : Type 0 where
  pub frame : FrameValue
  pub command : CommandValue
  pub input : Tree Leaf

-- The digest of an action: that of the message Action of its frame and the digest of its inputs.
abbrev pub action_digest : ActionMeaning → DigestValue
action_digest a = digest_of (action_bytes (with_input a.frame (root (form a.input))))

-- the frame names the command
pub record IsActionMeaning (a : ActionMeaning) : Type 0 where
  pub frame : IsFrame a.frame
  pub command : IsCommand a.command
  pub named : a.frame.command ≡ digest_of (command_bytes a.command)
  pub input : IsOrdered a.input

-- what an action comes to: an exit code, and at each output path a file, a link or a whole tree
pub record Outcome : Type 0 where
  pub exit_code : ℤ
  pub outputs : List (List Name × Entry Leaf)

-- no output equals another or lies under it
pub record IsTreeOutcome (o : Outcome) : Type 0 where
  pub apart : HaveApartTargets o.outputs
  pub outputs : AllByRecursion (λ (e : List Name × Entry Leaf). IsOrderedEntry e.1) o.outputs

-- what is left of a path below another
abbrev pub below_path : List Name → List Name → Option (List Name)
below_path [] p = Some p
below_path (n ∷ q) [] = None
below_path (n ∷ q) (m ∷ p) = if bytes_eq n m then below_path q p else None

abbrev pub output_from : Option (List Name) → Entry Leaf → Option (Entry Leaf) → Option (Entry Leaf)
output_from None e rest = rest
output_from (Some q) e rest = below_entry q (Some e)

-- what an outcome has at a path: an output, or what stands inside a tree that is one
abbrev pub output_at : List (List Name × Entry Leaf) → List Name → Option (Entry Leaf)
output_at [] p = None
output_at (o ∷ os) p = output_from (below_path o.0 p) o.1 (output_at os p)

-- ---- a meaning of a plan

pub record StepFits (planned : DigestValue) (frame : FrameValue)
    (command : CommandValue) : Type 0 where
  pub frame_valid : IsFrame frame
  pub command_valid : IsCommand command
  pub frame_digest : digest_of (frame_bytes frame) ≡ planned
  pub command_digest : frame.command ≡ digest_of (command_bytes command)

-- each step has a frame with its digest, and a command with the frame's
pub record MeaningFits (plan : PlanValue) (meaning : Meaning) : Type 0 where
  pub steps : (i : ℕ) (step : StepValue) → slice_get plan.steps i ≡ Some step
      → (frame : FrameValue) × (command : CommandValue) × (slice_get meaning.frames i ≡ Some frame)
      × (slice_get meaning.commands i ≡ Some command) × StepFits step.frame frame command

-- the lines of the root, or of a step
abbrev pub AreLinesOf : PlanValue → List LineValue → Type 0
AreLinesOf plan lines = (lines ≡ plan.root_lines) ⊎ ((i : ℕ) × (step : StepValue)
    × (slice_get plan.steps i ≡ Some step) × (lines ≡ step.lines))

-- ---- runs

-- A step is started as a job, a job finishes with its outcome, or a job is lost.
pub data Event : Type 0 where
  start : (step job : ℕ) → Event
  finish : (job : ℕ) (outcome : Outcome) → Event
  lose : (job : ℕ) → Event

-- the outcomes of the steps that have finished, the latest first, and the jobs that run: each its
-- step and its action
pub record State : Type 0 where
  pub done : List (ℕ × Outcome)
  pub jobs : List (ℕ × (ℕ × ActionMeaning))

-- nothing runs, and nothing has finished
abbrev pub opening : State
opening = record { done = []; jobs = [] }

abbrev pub outcome_of : ℕ → State → Option Outcome
outcome_of step s = lookup (λ k. k == step) s.done

abbrev pub job_of : ℕ → State → Option (ℕ × ActionMeaning)
job_of job s = lookup (λ k. k == job) s.jobs

-- what stands at an origin: in the sources, or in an outcome of a step that has finished
abbrev pub origin_at : Tree Leaf → State → OriginValue → Option (Entry Leaf)
origin_at t s (source p) = tree_at t p
origin_at t s (output j p) = option_and_then (λ o. output_at o.outputs p) (outcome_of j s)

abbrev pub origins : Tree Leaf → State → List LineValue → Option (List (List Name × Entry Leaf))
origins t s [] = Some []
origins t s (l ∷ ls) =
    option_and_then (λ e. option_map (λ es. (l.target, e) ∷ es) (origins t s ls))
    (origin_at t s l.origin)

-- the tree that lines put together, if each origin is there and they merge
abbrev pub merge_of : Tree Leaf → State → List LineValue → Option (Tree Leaf)
merge_of t s ls = option_and_then merge (origins t s ls)

-- the action of a step with this number: its frame, its command and what its lines put together
abbrev pub step_action : Meaning → Tree Leaf → State → ℕ → StepValue → Option ActionMeaning
step_action meaning t s i step =
    option_and_then (λ frame. option_and_then (λ command.
    option_map (λ input. record { frame = frame; command = command; input = input })
    (merge_of t s step.lines))
    (slice_get meaning.commands i)) (slice_get meaning.frames i)

abbrev pub action_of : PlanValue → Meaning → Tree Leaf → State → ℕ → Option ActionMeaning
action_of plan meaning t s i = option_and_then (step_action meaning t s i) (slice_get plan.steps i)

abbrev pub started : State → ℕ → ℕ → Option (ℕ × ActionMeaning) → Option ActionMeaning
    → Option State
started s i w (Some busy) a = None
started s i w None None = None
started s i w None (Some a) = Some (record s { jobs = (w, (i, a)) ∷ s.jobs })

abbrev pub finished : State → ℕ → Outcome → Option (ℕ × ActionMeaning) → Option State
finished s w o None = None
finished s w o (Some job) =
    Some (record { done = (job.0, o) ∷ s.done; jobs = remove_entry (λ k. k == w) s.jobs })

abbrev pub lost : State → ℕ → Option (ℕ × ActionMeaning) → Option State
lost s w None = None
lost s w (Some job) = Some (record s { jobs = remove_entry (λ k. k == w) s.jobs })

-- The state after an event, if the event can happen: a start's number isn't in use, each origin is
-- there, and what stands there merges.
abbrev pub happens : PlanValue → Meaning → Tree Leaf → State → Event → Option State
happens plan meaning t s (start i w) = started s i w (job_of w s) (action_of plan meaning t s i)
happens plan meaning t s (finish w o) = finished s w o (job_of w s)
happens plan meaning t s (lose w) = lost s w (job_of w s)

-- An execution table says what each action comes to: equal actions have equal outcomes.
pub record IsTable (X : List (ActionMeaning × Outcome)) : Type 0 where
  pub same : (a : ActionMeaning) (o p : Outcome) → Contains X (a, o) → Contains X (a, p) → o ≡ p
  pub actions : (a : ActionMeaning) (o : Outcome) → Contains X (a, o)
      → IsActionMeaning a × IsTreeOutcome o

-- a job that finishes has the outcome of its action in the table
abbrev pub Obeys : List (ActionMeaning × Outcome) → State → Event → Type 0
Obeys X s (start i w) = Unit {0}
Obeys X s (finish w o) = (job : ℕ × ActionMeaning) → job_of w s ≡ Some job → Contains X (job.1, o)
Obeys X s (lose w) = Unit {0}

-- The events can happen one after another and obey the table, and lead from one state to the other.
abbrev pub IsRun : List (ActionMeaning × Outcome) → PlanValue → Meaning → Tree Leaf → State
    → List Event → State → Type 0
IsRun X plan meaning t s [] end = end ≡ s
IsRun X plan meaning t s (e ∷ es) end = Obeys X s e × (mid : State)
    × (happens plan meaning t s e ≡ Some mid) × IsRun X plan meaning t mid es end

-- every step has finished
abbrev pub HasFinishedAll : PlanValue → State → Type 0
HasFinishedAll plan s = (j : ℕ) (step : StepValue) → slice_get plan.steps j ≡ Some step
    → (o : Outcome) × (outcome_of j s ≡ Some o)
