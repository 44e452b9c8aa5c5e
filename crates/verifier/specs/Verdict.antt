-- The verdict on a plan: yes, or the first fault. The steps are checked in their order, and then
-- the lines of the root.
use Rattle.std.specs.Prelude.{◌≡◌, List, [], ◌∷◌, ◌++◌, length}
use Rattle.blob_digest.specs.Digest.{DigestValue}
use Rattle.actions.specs.Outcome.{OutcomeValue}
use Rattle.plan.specs.Values.{LineValue, StepValue, PlanValue}
use Rattle.tree.specs.Form.{root}
use Rattle.tree.specs.Stage.{Stage, ◌and_then◌, demands, comes_to}
use Rattle.blob_source.specs.Source.{Telling}
use Rattle.verifier.specs.declared.verdict.Verdict.{Verdict}
use Rattle.verifier.specs.declared.verdict.Verdict.TheVariants.{Yes, No}
use Rattle.verifier.specs.declared.verdict.Place.{Place}
use Rattle.verifier.specs.declared.verdict.Place.TheVariants.{Step, Root}
use Rattle.verifier.specs.declared.verdict.Cause.{Cause}
use Rattle.verifier.specs.declared.verdict.Cause.TheVariants.{RootDiffers}
use Rattle.verifier.specs.StepChecks.{together, step_check}

-- the check of the root: its lines put a tree together, which is the claim
abbrev pub root_check : {A : Type 0} → Telling → DigestValue → List OutcomeValue → List LineValue
    → DigestValue → Stage (Cause A) (Unit {0})
root_check tells sources outcomes lines claim =
    together tells.blobs sources outcomes lines and_then λ t.
    demands (root t ≡ claim) (RootDiffers (root t))

-- a check, which fails with its place
abbrev pub located : {A V : Type 0} → Place A → Stage (Cause A) V → Stage (Place A × Cause A) V
located place check = record {
  passes = check.passes;
  fails = λ why. (why.0 ≡ place) × check.fails why.1;
}

-- The check of the steps that are left, each with its recorded digest, where those before them came
-- to these outcomes. It passes with the outcomes of all. A step without a digest has no check, and
-- digests behind the last step say nothing; `verify` takes one for each step (`Fits`).
abbrev pub steps_check : {A : Type 0} → Telling → DigestValue → List OutcomeValue → List StepValue
    → List DigestValue → Stage (Place A × Cause A) (List OutcomeValue)
steps_check tells sources outcomes [] ds = comes_to outcomes
steps_check tells sources outcomes (s ∷ ss) [] = record { passes = λ _. ⊥; fails = λ _. ⊥ }
steps_check tells sources outcomes (s ∷ ss) (d ∷ ds) =
    located (Step s.name) (step_check tells sources outcomes s d) and_then λ outcome.
    steps_check tells sources (outcomes ++ outcome ∷ []) ss ds

-- the check of a plan with the recorded digests of its steps
abbrev pub plan_check : {A : Type 0} → Telling → DigestValue → PlanValue → List DigestValue
    → DigestValue → Stage (Place A × Cause A) (Unit {0})
plan_check tells sources plan recorded claim =
    steps_check tells sources [] plan.steps recorded and_then λ outcomes.
    located Root (root_check tells sources outcomes plan.root_lines claim)

-- the verdict on a plan: yes where its check passes, and else where and why it fails
abbrev pub IsVerdict : {A : Type 0} → Telling → DigestValue → PlanValue → List DigestValue
    → DigestValue → Verdict A → Type 0
IsVerdict {A} tells sources plan recorded claim (Yes root steps) =
    (root ≡ claim) × (steps ≡ length plan.steps)
    × (plan_check {A = A} tells sources plan recorded claim).passes tt
IsVerdict tells sources plan recorded claim (No place cause) =
    (plan_check tells sources plan recorded claim).fails (place, cause)

abbrev pub IsYes : {A : Type 0} → Verdict A → Type 0
IsYes (Yes r steps) = Unit {0}
IsYes (No place c) = ⊥
