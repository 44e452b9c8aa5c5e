-- What the private functions that check a plan answer.
use Rattle.std.specs.Prelude.{◌≡◌, ◌++◌, ℕ, List, [], Option, None, Some, Result, Ok, Err}
use Rattle.blob_digest.specs.Digest.{DigestValue}
use Rattle.actions.specs.Outcome.{OutcomeValue}
use Rattle.plan.specs.Values.{StepValue}
use Rattle.blob_source.specs.Source.{Blobs, Telling}
use Rattle.blob_source.specs.declared.source.FetchError.{FetchError}
use Rattle.blob_source.specs.declared.source.FetchError.TheVariants as fetching
use Rattle.tree.specs.declared.difference.Difference.{Difference}
use Rattle.tree.specs.declared.error.TreeError.{TreeError}
use Rattle.tree.specs.declared.error.TreeError.TheVariants as tree
use Rattle.tree.specs.Difference.{Differing, FindsFirst, differing}
use Rattle.tree.specs.Folded.{items_of}
use Rattle.tree.specs.declared.folding.Folded.{Folded}
use Rattle.verifier.specs.declared.error.VerifyError.{VerifyError}
use Rattle.verifier.specs.declared.error.VerifyError.TheVariants as errors
use Rattle.verifier.specs.declared.fault.Fault.{Fault}
use Rattle.verifier.specs.declared.fault.Fault.TheVariants as faults
use Rattle.verifier.specs.declared.verdict.Cause.{Cause}
use Rattle.verifier.specs.declared.verdict.Cause.TheVariants.{BlobMissing, BlobWrong, BlobMalformed}
use Rattle.verifier.specs.declared.verdict.Cause.TheVariants.{OriginMissing, InputConflict}
use Rattle.verifier.specs.declared.verdict.Cause.TheVariants.{RootDiffers}
use Rattle.verifier.specs.declared.verdict.Place.TheVariants.{Step}
use Rattle.verifier.specs.declared.verifying.Checked.{Checked}
use Rattle.verifier.specs.declared.verifying.Checked.TheVariants.{Outcomes, First}
use Rattle.verifier.specs.Made.{outcomes_directories}
use Rattle.verifier.specs.StepChecks.{difference_cause}
use Rattle.verifier.specs.declared.made.Made.{Made}
use Rattle.verifier.specs.Verdict.{steps_check}

-- An unfolding has gone as deep as it may. No check unfolds.
abbrev pub IsTooDeep : {A : Type 0} → TreeError A → Type 0
IsTooDeep (tree.Absent path) = ⊥
IsTooDeep (tree.BlobMissing d) = ⊥
IsTooDeep (tree.BlobWrong d) = ⊥
IsTooDeep (tree.BlobMalformed d) = ⊥
IsTooDeep (tree.TooDeep path) = Unit {0}
IsTooDeep (tree.Conflict path) = ⊥
IsTooDeep tree.Fetch = ⊥
IsTooDeep tree.Memory = ⊥

-- the fault that an error of a call on trees is
abbrev pub IsFaultOf : {A : Type 0} → TreeError A → Fault A → Type 0
IsFaultOf (tree.Absent path) f = f ≡ faults.Cause (OriginMissing path)
IsFaultOf (tree.BlobMissing d) f = f ≡ faults.Cause (BlobMissing d)
IsFaultOf (tree.BlobWrong d) f = f ≡ faults.Cause (BlobWrong d)
IsFaultOf (tree.BlobMalformed d) f = f ≡ faults.Cause (BlobMalformed d)
IsFaultOf (tree.TooDeep path) f = ⊥
IsFaultOf (tree.Conflict path) f = f ≡ faults.Cause (InputConflict path)
IsFaultOf tree.Fetch f = f ≡ faults.Fetch
IsFaultOf tree.Memory f = f ≡ faults.Memory

abbrev pub fault_of_fetch : {A : Type 0} → FetchError → Fault A
fault_of_fetch fetching.Failed = faults.Fetch
fault_of_fetch fetching.Memory = faults.Memory

abbrev pub error_of_fetch : FetchError → VerifyError
error_of_fetch fetching.Failed = errors.Fetch
error_of_fetch fetching.Memory = errors.Memory

-- the cause that a tree with these Directories isn't the recorded input
abbrev pub IsDifference : {A : Type 0} → List (List ℕ) → Blobs → DigestValue → DigestValue
    → Cause A → Type 0
IsDifference own B g r c = (x : Differing) × FindsFirst own B g r x × (c ≡ difference_cause x)

abbrev pub IsDifferenceCause : {A : Type 0} → Difference A → Cause A → Type 0
IsDifferenceCause d c = c ≡ difference_cause (differing d)

-- what the check of the steps came to: the outcomes of all, or the first that fails and why
abbrev pub IsChecked : {A : Type 0} → Telling → DigestValue → List StepValue → List DigestValue
    → Checked A → Type 0
IsChecked {A} tells sources steps ds (Outcomes outcomes) =
    (steps_check {A = A} tells sources [] steps ds).passes outcomes.items
IsChecked tells sources steps ds (First name c) =
    (steps_check tells sources [] steps ds).fails (Step name, c)

-- the steps weren't all checked
abbrev pub IsStopped : {A E : Type 0} → Result (Checked A) E → Type 0
IsStopped (Ok (Outcomes outcomes)) = ⊥
IsStopped (Ok (First name c)) = Unit {0}
IsStopped (Err e) = Unit {0}

-- the check of the root doesn't say that its tree isn't the claim
abbrev pub IsNoOther : {A : Type 0} → Result (Unit {0}) (Fault A) → Type 0
IsNoOther check = (root : DigestValue) → check ≡ Err (faults.Cause (RootDiffers root)) → ⊥

-- what builds make is of this tree and these outcomes, where there is such a tree
abbrev pub IsMadeOther : {A : Type 0} → Option (Folded A) → List OutcomeValue → Option (Made A)
    → Type 0
IsMadeOther None outcomes made = made ≡ None
IsMadeOther (Some f) outcomes None = ⊥
IsMadeOther (Some f) outcomes (Some made) = (made.root ≡ f.root)
    × (items_of made.directories.items ≡ items_of f.directories.items
    ++ outcomes_directories outcomes)
