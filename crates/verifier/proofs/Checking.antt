-- The check of a step, from one thing to the next, while the source tells more and more.
use Rattle.std.proofs.Common.{◌≡◌, ◌≢◌, ℕ, suc, ◌+◌, ◌<◌, ◌≤◌, List, [], ◌∷◌, ◌++◌, length, drop, get_or, refl, ap, sym, ◌∙◌, subst, inl, inr, add-one, drop-cons, append_assoc}
use Rattle.std.specs.Prelude.{Result, Ok, Err, IfOk, IfErr, Some}
use Rattle.action_messages.specs.ActionResult.{ActionResultValue}
use Rattle.action_messages.specs.Reads.{Reads}
use Rattle.verifier.specs.declared.verdict.Cause.TheVariants.{ResultMalformed}
use Rattle.std.specs.List.{AllByRecursion, Contains}
use Rattle.std.proofs.lemmas.List.{drop_all}
use Rattle.blob_digest.specs.Digest.{DigestValue}
use Rattle.action_messages.specs.Action.{ActionValue}
use Rattle.messages.specs.declared.error.MessageError.{MessageError}
use Rattle.messages.specs.declared.error.MessageError.TheVariants.{Memory}
use Rattle.messages.specs.Gives.{FailsUnlessMemory}
use Rattle.action_messages.specs.Command.{CommandValue}
use Rattle.actions.specs.Outcome.{OutputValue, paths_of_outputs}
use Rattle.action_messages.specs.Outputs.{RecordedValue, recorded_path, recorded_value, recorded_values}
use Rattle.actions.specs.Recorded.{StandsFor, StandForAll}
use Rattle.action_messages.specs.declared.recorded_output.RecordedOutput.{RecordedOutput}
use Rattle.actions.proofs.Reading.{stands_still}
use Rattle.plan.specs.Values.{LineValue}
use Rattle.tree.specs.Tree.{Tree}
use Rattle.tree.specs.Form.{NodeValue, root}
use Rattle.tree.specs.Merging.{MergeLines}
use Rattle.tree.specs.Folded.{IsFoldOf}
use Rattle.tree.specs.declared.folding.Folded.{Folded}
use Rattle.tree.specs.Difference.{FindsFirst, made_by}
use Rattle.tree.specs.LooksAt.{Compares}
use Rattle.tree.specs.Memo.{Asked}
use Rattle.verifier.specs.LooksAt.{DifferenceLooksAt}
use Rattle.blob_source.specs.Source.{Blobs, Grows}
use Rattle.verifier.specs.declared.verdict.Cause.{Cause}
use Rattle.verifier.specs.declared.fault.Fault as faults_type
use Rattle.verifier.specs.Together.{Earlier, Resolves}
use Rattle.verifier.specs.Answers.{IsDifference}
use Rattle.verifier.specs.Stage.{ExplainsFault, Answers}
use Rattle.verifier.specs.StepChecks.{IsRefusedOutput, OutputFault, same_input, result_held}
use Rattle.verifier.proofs.Explained.{explains_map}
use Rattle.verifier.proofs.Lines.{origin_still}

-- ---- answers

-- ---- what passed stays so

pub resolves_still : (B C : Blobs) (d : DigestValue) (os : Earlier) (ls : List LineValue) (xs : MergeLines) → Grows B C → Resolves B d os ls xs → Resolves C d os ls xs
resolves_still B C d os [] xs g h = h
resolves_still B C d os (l ∷ ls) xs g h = (h.0, origin_still B C d os l.origin h.0 g h.1, h.2, resolves_still B C d os ls h.2 g h.3, h.4)

-- ---- outputs one after another

pub record OutputsGoOn (A : Type 0) (B : Blobs) (c : CommandValue) (xs : List RecordedValue) (es : List (List (List ℕ) × OutputValue)) (rest : List RecordedValue) : Type 0 where
  pub stand : (later : Blobs) → Grows B later → (fs : List (List (List ℕ) × OutputValue)) → StandForAll later rest fs → StandForAll later xs (es ++ fs)
  pub listed : AllByRecursion (Contains c.output_paths) (paths_of_outputs es)
  pub faults : (later : Blobs) → Grows B later → (cause : Cause A) → OutputFault later c rest cause → OutputFault later c xs cause

list_more : (P : List (List ℕ) → Type 0) (es : List (List (List ℕ) × OutputValue)) (e : List (List ℕ) × OutputValue) → AllByRecursion P (paths_of_outputs es) → P e.0 → AllByRecursion P (paths_of_outputs (es ++ e ∷ []))
list_more P [] e h p = (p, tt)
list_more P (x ∷ es) e h p = (h.0, list_more P es e h.1 p)

pub recorded_next : {A : Type 0} (ys : List (RecordedOutput A)) (i : ℕ) (y : RecordedOutput A) → i < length ys → y ≡ get_or ys i y → recorded_values (drop i ys) ≡ recorded_value y ∷ recorded_values (drop (i + 1) ys)
recorded_next ys i y lt is =
    let split : drop i ys ≡ y ∷ drop (i + 1) ys = rw (add-one, drop-cons ys i y lt) (ap (λ k. k ∷ drop (suc i) ys) (sym is)) in
    ap recorded_values split

module _ {A : Type 0} where
  pub outputs_first : (B : Blobs) (c : CommandValue) (xs : List RecordedValue) → OutputsGoOn A B c xs [] xs
  outputs_first B c xs = record { stand = λ later g fs h. h; listed = tt; faults = λ later g cause h. h }

  pub outputs_next : {A' : Type 0} (B C : Blobs) (c : CommandValue) (xs : List RecordedValue) (es : List (List (List ℕ) × OutputValue)) (ys : List (RecordedOutput A')) (i : ℕ) (y : RecordedOutput A') (path : List (List ℕ)) (v : OutputValue)
      → i < length ys → y ≡ get_or ys i y → OutputsGoOn A B c xs es (recorded_values (drop i ys)) → Grows B C → path ≡ recorded_path (recorded_value y) → Contains c.output_paths (recorded_path (recorded_value y)) → StandsFor C (recorded_value y) v
      → OutputsGoOn A C c xs (es ++ (path, v) ∷ []) (recorded_values (drop (i + 1) ys))
  outputs_next B C c xs es ys i y path v lt is goes grows at listed stands =
      let split = recorded_next ys i y lt is in
      let both : (later : Blobs) → Grows C later → Grows B later = λ later g e b q. g e b (grows e b q) in
      record {
        stand = λ later g fs h. rw append_assoc (goes.stand later (both later g) ((path, v) ∷ fs) (subst (λ q. StandForAll later q ((path, v) ∷ fs)) (sym split) (at, stands_still C later (recorded_value y) v g stands, h)));
        listed = list_more (Contains c.output_paths) es (path, v) goes.listed (subst (Contains c.output_paths) (sym at) listed);
        faults = λ later g cause h. goes.faults later (both later g) cause (subst (λ q. OutputFault later c q cause) (sym split) (inr (listed, v, stands_still C later (recorded_value y) v g stands, h)));
      }

  pub outputs_fault : {A' : Type 0} (B C : Blobs) (c : CommandValue) (xs : List RecordedValue) (es : List (List (List ℕ) × OutputValue)) (ys : List (RecordedOutput A')) (i : ℕ) (y : RecordedOutput A') (cause : Cause A)
      → i < length ys → y ≡ get_or ys i y → OutputsGoOn A B c xs es (recorded_values (drop i ys)) → Grows B C → IsRefusedOutput C c (recorded_value y) cause → OutputFault C c xs cause
  outputs_fault B C c xs es ys i y cause lt is goes grows h = goes.faults C grows cause (subst (λ q. OutputFault C c q cause) (sym (recorded_next ys i y lt is)) (inl h))

  pub outputs_end : {A' : Type 0} (B : Blobs) (c : CommandValue) (xs : List RecordedValue) (es : List (List (List ℕ) × OutputValue)) (ys : List (RecordedOutput A')) (i : ℕ) → length ys ≤ i → OutputsGoOn A B c xs es (recorded_values (drop i ys)) → StandForAll B xs es
  outputs_end B c xs es ys i le goes =
      let all = goes.stand B (λ e b h. h) [] (subst (λ q. StandForAll B (recorded_values q) []) (sym (drop_all i ys le)) refl) in
      subst (StandForAll B xs) (none_more es) all
    where
      none_more : (fs : List (List (List ℕ) × OutputValue)) → fs ++ [] ≡ fs
      none_more [] = refl
      none_more (f ∷ fs) = ap (λ q. f ∷ q) (none_more fs)

-- the comparison with the recorded input looks at what the check of it does
pub input_looked : {A' : Type 0} (B : Blobs) (act : ActionValue) (t : Tree NodeValue) (f : Folded A') (input : DigestValue) → IsFoldOf t f → input ≡ act.input → f.root ≢ input
    → (a : Asked) → Compares (made_by f) B 64 f.root input a → DifferenceLooksAt B act t a
input_looked B act t f input fold is other a h = (
  (λ same. other (fold.root ∙ same ∙ sym is)),
  subst (λ own. Compares own B 64 (root t) act.input a) fold.directories (subst (λ g. Compares (made_by f) B 64 g act.input a) fold.root (subst (λ r. Compares (made_by f) B 64 f.root r a) is h)),
)

module _ {A : Type 0} where
  -- why the graft isn't the recorded input
  pub input_explained : {A' : Type 0} (B : Blobs) (a : ActionValue) (t : Tree NodeValue) (f : Folded A') (input : DigestValue) (fault : faults_type.Fault A) → IsFoldOf t f → input ≡ a.input → f.root ≢ input
      → ExplainsFault (IsDifference (made_by f) B f.root input) fault → ExplainsFault (same_input {A = A} B a t).fails fault
  input_explained B a t f input fault fold is other h = explains_map (IsDifference (made_by f) B f.root input) (same_input {A = A} B a t).fails fault
      (λ cause k. (
        (λ same. other (fold.root ∙ same ∙ sym is)),
        k.0,
        subst (λ own. FindsFirst own B (root t) a.input k.0) fold.directories (subst (λ g. FindsFirst (made_by f) B g a.input k.0) fold.root (subst (λ r. FindsFirst (made_by f) B f.root r k.0) is k.1)),
        k.2,
      )) h

-- a refusal other than lack of memory isn't told of what is read
pub not_read : {X : Type 0} (e : MessageError) (x : X) → (e ≡ Memory → ⊥) → FailsUnlessMemory {Y = X} e (Ok x) → ⊥
not_read {X} e x other h = elim e as (λ d. (d ≡ Memory → ⊥) → FailsUnlessMemory {Y = X} d (Ok x) → ⊥) [ Memory ↦ λ k t. k refl | _ ↦ λ k t. cc ] other h

-- the result under a digest, or why the bytes there are none
pub held_answer : {A : Type 0} (C : Blobs) (d : DigestValue) (bytes : List ℕ) (r : Result ActionResultValue (faults_type.Fault A)) → C d ≡ Some bytes → IfOk r (λ x. Reads x bytes)
    → IfErr r (ExplainsFault (λ c. ((x : ActionResultValue) → Reads x bytes → ⊥) × (c ≡ ResultMalformed))) → Answers (result_held {A = A} C d) r
held_answer C d bytes (Ok x) e h k = (bytes, e, h)
held_answer {A} C d bytes (Err f) e h k = explains_map (λ c. ((x : ActionResultValue) → Reads x bytes → ⊥) × (c ≡ ResultMalformed)) (result_held {A = A} C d).fails f (λ c q. inr (bytes, e, q.0, q.1)) k
