-- Each step has one action throughout a run.
use Rattle.std.specs.Prelude.{◌≡◌, ℕ, List, Some, Contains}
use Rattle.plan.specs.Values.{PlanValue}
use Rattle.tree.specs.Tree.{Tree, Leaf}
use Rattle.verifier.specs.Build.{Meaning, ActionMeaning, Outcome, Event, State, opening, outcome_of}
use Rattle.verifier.specs.Build.{job_of, action_of, IsRun}

-- In a state each job runs the action that its step has there, and a step that has finished came to
-- the table's outcome for it.
pub record RunsItsActions (X : List (ActionMeaning × Outcome)) (plan : PlanValue)
    (meaning : Meaning) (t : Tree Leaf) (s : State) : Type 0 where
  pub jobs : (w : ℕ) (job : ℕ × ActionMeaning) → job_of w s ≡ Some job
      → action_of plan meaning t s job.0 ≡ Some job.1
  pub outcomes : (i : ℕ) (o : Outcome) → outcome_of i s ≡ Some o → (a : ActionMeaning)
      × (action_of plan meaning t s i ≡ Some a) × Contains X (a, o)

-- In the state after every run each job runs the action that its step has there, and events that
-- follow change neither the action of a step that has one nor what a step came to. So the action
-- that a step has in a state is the one that each of its jobs ran, finished ones too.
pub record StepsHaveOneAction (X : List (ActionMeaning × Outcome)) (plan : PlanValue)
    (meaning : Meaning) (t : Tree Leaf) : Type 0 where
  pub after : (es : List Event) (s : State) → IsRun X plan meaning t opening es s
      → RunsItsActions X plan meaning t s
  pub actions_stay : (es later : List Event) (s r : State) → IsRun X plan meaning t opening es s
      → IsRun X plan meaning t s later r
      → (i : ℕ) (a : ActionMeaning) → action_of plan meaning t s i ≡ Some a
      → action_of plan meaning t r i ≡ Some a
  pub outcomes_stay : (es later : List Event) (s r : State) → IsRun X plan meaning t opening es s
      → IsRun X plan meaning t s later r
      → (i : ℕ) (o : Outcome) → outcome_of i s ≡ Some o → outcome_of i r ≡ Some o
