-- A message is told once, and one output is the first that is refused.
use Rattle.std.proofs.Common.{◌≡◌, ℕ, List, [], ◌∷◌, Option, Some, None, ap, sym, ◌∙◌, subst, inl, inr}
use Rattle.std.specs.List.{AllByRecursion, Contains}
use Rattle.blob_digest.specs.Digest.{DigestValue}
use Rattle.action_messages.specs.Command.{CommandValue}
use Rattle.actions.specs.Outcome.{OutputValue, paths_of_outputs}
use Rattle.action_messages.specs.Outputs.{RecordedValue, recorded_path}
use Rattle.actions.specs.Recorded.{StandsFor, StandForAll}
use Rattle.actions.proofs.Once.{output_fault_once, stands_or_fault}
use Rattle.blob_source.specs.Source.{Blobs, IsUnder}
use Rattle.blob_source.specs.Told.{IsTold}
use Rattle.verifier.specs.declared.verdict.Cause.{Cause}
use Rattle.verifier.specs.Faults.{cause_of_fault}
use Rattle.verifier.specs.StepChecks.{IsRefusedOutput, OutputFault}

-- ---- one message is told

under_once : (B : Blobs) (d : DigestValue) (x y : Option (List ℕ)) → IsUnder B d x → IsUnder B d y → x ≡ y
under_once B d x y (inl h) (inl k) = h.1 ∙ sym k.1
under_once B d x y (inl h) (inr k) = absurd (k.0 h.0)
under_once B d x y (inr h) (inl k) = absurd (h.0 k.0)
under_once B d x y (inr h) (inr k) = h.1 ∙ sym k.1

pub bytes_are : (x y : List ℕ) → ◌≡◌ {A = Option (List ℕ)} (Some x) (Some y) → x ≡ y
bytes_are x y e = cc

pub none_some : (x : List ℕ) → ◌≡◌ {A = Option (List ℕ)} None (Some x) → ⊥
none_some x e = cc

-- a message has one encoding
abbrev pub IsSpelledOnce : {M : Type 0} → (M → Type 0) → (M → List ℕ) → Type 0
IsSpelledOnce {M} keeps spells = (m n : M) → keeps m → keeps n → spells m ≡ spells n → m ≡ n

pub told_once : {M : Type 0} (keeps : M → Type 0) (spells : M → List ℕ) → IsSpelledOnce keeps spells → (B : Blobs) (d : DigestValue) (m n : M) → IsTold keeps spells B d m → IsTold keeps spells B d n → m ≡ n
told_once keeps spells once B d m n h k =
    once m n h.valid k.valid (bytes_are (spells m) (spells n) (under_once B d (Some (spells m)) (Some (spells n)) h.blob.held k.blob.held))

-- ---- outputs

module _ {A : Type 0} (B : Blobs) (c : CommandValue) where
  refused_once : (x : RecordedValue) (e f : Cause A) → IsRefusedOutput B c x e → IsRefusedOutput B c x f → e ≡ f
  refused_once x e f (inl h) (inl k) = h.1 ∙ sym k.1
  refused_once x e f (inl h) (inr k) = absurd (h.0 k.0)
  refused_once x e f (inr h) (inl k) = absurd (k.0 h.0)
  refused_once x e f (inr h) (inr k) = h.3 ∙ ap cause_of_fault (output_fault_once B x h.1 k.1 h.2 k.2) ∙ sym k.3

  refused_or_stands : (x : RecordedValue) (e : Cause A) (y : OutputValue) → IsRefusedOutput B c x e → Contains c.output_paths (recorded_path x) → StandsFor B x y → ⊥
  refused_or_stands x e y (inl h) listed k = h.0 listed
  refused_or_stands x e y (inr h) listed k = stands_or_fault B x y h.1 k h.2

  pub output_fault_is_one : (xs : List RecordedValue) (e f : Cause A) → OutputFault B c xs e → OutputFault B c xs f → e ≡ f
  output_fault_is_one [] e f h k = elim h [ ]
  output_fault_is_one (x ∷ xs) e f (inl h) (inl k) = refused_once x e f h k
  output_fault_is_one (x ∷ xs) e f (inl h) (inr k) = absurd (refused_or_stands x e k.1 h k.0 k.2)
  output_fault_is_one (x ∷ xs) e f (inr h) (inl k) = absurd (refused_or_stands x f h.1 k h.0 h.2)
  output_fault_is_one (x ∷ xs) e f (inr h) (inr k) = output_fault_is_one xs e f h.3 k.3

  pub fault_or_all : (xs : List RecordedValue) (os : List (List (List ℕ) × OutputValue)) (e : Cause A) → OutputFault B c xs e → StandForAll B xs os → AllByRecursion (Contains c.output_paths) (paths_of_outputs os) → ⊥
  fault_or_all [] os e h k listed = h
  fault_or_all (x ∷ xs) [] e h k listed = k
  fault_or_all (x ∷ xs) (o ∷ os) e (inl h) k listed = refused_or_stands x e o.1 h (subst (Contains c.output_paths) k.0 listed.0) k.1
  fault_or_all (x ∷ xs) (o ∷ os) e (inr h) k listed = fault_or_all xs os e h.3 k.2 listed.1
