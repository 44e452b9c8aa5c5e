-- What builds make is handed out where the root isn't the claim.
use Rattle.std.proofs.Common.{◌≡◌, ◌∙◌, ◌++◌, ℕ, List, [], ap, refl, subst, sym}
use Rattle.std.specs.Prelude.{MatchOption, Option, None, Some, Result, Err, slice_get}
use Rattle.blob_digest.specs.Digest.{DigestValue}
use Rattle.actions.specs.Outcome.{OutcomeValue}
use Rattle.blob_source.specs.Source.{Grows, Telling}
use Rattle.blob_source.specs.Told.{missing, wrong, malformed}
use Rattle.plan.specs.Values.{PlanValue}
use Rattle.tree.specs.Folded.{IsFoldOfPassed}
use Rattle.tree.specs.declared.folding.Folded.{Folded}
use Rattle.verifier.specs.Answers.{IsMadeOther, IsNoOther}
use Rattle.verifier.specs.Faults.{cause_of_lines}
use Rattle.verifier.specs.Made.{HandsOut, IsMade, outcomes_directories}
use Rattle.verifier.specs.Stage.{ExplainsFault}
use Rattle.verifier.specs.Together.{LinesFault, in_conflict, no_origin, not_read, put_together}
use Rattle.verifier.specs.Verdict.{steps_check}
use Rattle.verifier.specs.declared.fault.Fault.{Fault}
use Rattle.verifier.specs.declared.fault.Fault.TheVariants as faults
use Rattle.verifier.specs.declared.made.Made.{Made}
use Rattle.verifier.specs.declared.verdict.Cause.{Cause}
use Rattle.verifier.specs.declared.verdict.Cause.TheVariants.{RootDiffers}
use Rattle.verifier.specs.declared.verdict.Place.TheVariants.{Root}
use Rattle.verifier.specs.declared.verdict.Verdict.{Verdict}
use Rattle.verifier.specs.declared.verdict.Verdict.TheVariants.{No}
use Rattle.verifier.proofs.ChecksThen.{stable_steps}

-- lines that put no tree together don't say that theirs isn't the claim
other_cause : {A : Type 0} (e : LinesFault) (root : DigestValue) → cause_of_lines {A = A} e ≡ RootDiffers root → ⊥
other_cause (no_origin path) root is = cc
other_cause (in_conflict path) root is = cc
other_cause (not_read (missing d)) root is = cc
other_cause (not_read (wrong d)) root is = cc
other_cause (not_read (malformed d)) root is = cc

err_cause : {A : Type 0} {c d : Cause A} → ◌≡◌ {A = Result (Unit {0}) (Fault A)} (Err (faults.Cause c)) (Err (faults.Cause d)) → c ≡ d
err_cause is = cc

pub no_other_of_lines : {A : Type 0} (fails : LinesFault → Type 0) (fault : Fault A) → ExplainsFault (λ why. (e : LinesFault) × fails e × (why ≡ cause_of_lines e)) fault → IsNoOther (Err fault)
no_other_of_lines fails (faults.Cause c) h root is = other_cause h.0 root (sym h.2 ∙ err_cause is)
no_other_of_lines fails faults.Fetch h root is = cc
no_other_of_lines fails faults.Memory h root is = cc

no_cause : {A : Type 0} {c d : Cause A} → No Root c ≡ No Root d → c ≡ d
no_cause is = cc

module _ {A : Type 0} (told later : Telling) (g : Grows told.blobs later.blobs) (k : Grows told.results later.results) (src : DigestValue) (plan : PlanValue) (ds : List DigestValue) (os : List OutcomeValue)
    (passes : (steps_check {A = A} told src [] plan.steps ds).passes os) where
  pub handed_out : (check : Result (Unit {0}) (Fault A)) (other : Option (Folded A)) (made : Option (Made A)) (cause : Cause A) → check ≡ Err (faults.Cause cause)
      → MatchOption other (IsNoOther check) (λ f. IsFoldOfPassed (put_together later.blobs src (slice_get os) plan.root_lines) f × (check ≡ Err (faults.Cause (RootDiffers f.root))))
      → IsMadeOther other os made → HandsOut later src plan ds (No Root cause) made
  handed_out check None None cause is none m = λ root no. none root (is ∙ ap (λ c. Err (faults.Cause c)) (no_cause no))
  handed_out check None (Some made) cause is none m = absurd (let never : Some made ≡ None = m in cc)
  handed_out check (Some f) None cause is h m = absurd m
  handed_out check (Some f) (Some made) cause is h m = (
    ap (No Root) (err_cause (sym is ∙ h.1) ∙ ap RootDiffers (sym m.0)),
    record {
      outcomes = os;
      steps = (stable_steps {A = A} src [] plan.steps ds).still told later g k os passes;
      tree = h.0.0;
      together = h.0.1;
      root = m.0 ∙ h.0.2.fold.root;
      directories = m.1 ∙ ap (λ ds. ds ++ outcomes_directories os) h.0.2.fold.directories;
    },
  )
