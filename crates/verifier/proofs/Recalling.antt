-- What is held under a digest is held when more is told, and can be read.
use Rattle.std.proofs.Common.{◌≡◌, ℕ, zero, suc, ◌+◌, List, [], ◌∷◌, ◌++◌, take, Some, refl, ap, sym, ◌∙◌, subst, inl, inr, add-one}
use Rattle.std.specs.Prelude.{◌⊎◌, slice_get}
use Rattle.blob_digest.specs.Digest.{DigestValue}
use Rattle.action_messages.specs.ActionResult.{ActionResultValue}
use Rattle.action_messages.specs.Reads.{Reads}
use Rattle.actions.specs.Outcome.{OutcomeValue}
use Rattle.actions.specs.Recorded.{IsRecorded, IsFirstTreeFault}
use Rattle.actions.proofs.Once.{recorded_or_fault}
use Rattle.actions.proofs.Reading.{recorded_still}
use Rattle.blob_source.specs.Source.{AsksSome, Telling}
use Rattle.blob_source.specs.Called.{Called}
use Rattle.blob_source.proofs.Calling.{called_none, called_on}
use Rattle.blob_source.specs.Told.{Fault, missing, wrong, malformed}
use Rattle.tree.specs.TreeError.{Explains}
use Rattle.tree.specs.declared.error.TreeError.{TreeError}
use Rattle.tree.specs.declared.error.TreeError.TheVariants as tree
use Rattle.verifier.specs.Holding.{HoldsResult}
use Rattle.verifier.specs.Recorded.{IsHeld}
use Rattle.verifier.specs.Compared.{RecordedStepValue, HoldsOutcome, HoldsSteps, HasOutcome, HasOutcomes, actions_of}
use Rattle.verifier.proofs.FreshRuns.{one_answer, one_result}

-- ---- when more is told

module _ {t u : Telling} (asks : AsksSome t u) where
  pub holds_still : (d : DigestValue) (v : OutcomeValue) → HoldsOutcome t d v → HoldsOutcome u d v
  holds_still d v (h, code) = (
    record {
      result = h.result;
      held = (h.held.0, asks.results d h.held.0 h.held.1, h.held.2);
      recorded = recorded_still t.blobs u.blobs h.result v asks.blobs h.recorded;
    },
    code,
  )

  pub has_still : (d : DigestValue) → HasOutcome t d → HasOutcome u d
  has_still d (v, h) = (v, holds_still d v h)

  pub steps_still : (steps : List RecordedStepValue) → HoldsSteps t steps → HoldsSteps u steps
  steps_still [] h = tt
  steps_still (s ∷ steps) h = (holds_still s.action s.outcome h.0, steps_still steps h.1)

  pub outcomes_still : (ds : List DigestValue) → HasOutcomes t ds → HasOutcomes u ds
  outcomes_still [] h = tt
  outcomes_still (d ∷ ds) h = (has_still d h.0, outcomes_still ds h.1)

-- ---- what is there is read

-- the bytes there are read as a result
pub reads_there : (t : Telling) (d : DigestValue) (bytes : List ℕ) → t.results d ≡ Some bytes → HasOutcome t d → (r : ActionResultValue) × Reads r bytes
reads_there t d bytes there (v, (h, code)) = (h.result, subst (Reads h.result) (one_answer (t.results d) h.held.0 bytes h.held.1 there) h.held.2)

module _ (t : Telling) (d : DigestValue) (r : ActionResultValue) (held : HoldsResult t.results d r) where
  recorded_there : (v : OutcomeValue) → IsHeld t d v → IsRecorded t.blobs r v
  recorded_there v h = subst (λ q. IsRecorded t.blobs q v) (one_result t.results d h.result r h.held held) h.recorded

  pub outcome_there : (o : OutcomeValue) → IsRecorded t.blobs r o → HasOutcome t d → HoldsOutcome t d o
  outcome_there o recorded (v, (h, code)) =
      (record { result = r; held = held; recorded = recorded }, recorded.exit_code ∙ sym (recorded_there v h).exit_code ∙ code)

  none_told : (f : Fault) → IsFirstTreeFault t.blobs r.directories f → HasOutcome t d → ⊥
  none_told f fault (v, (h, code)) = recorded_or_fault t.blobs r v f (recorded_there v h) fault

  pub call_error : {A : Type 0} (e : TreeError A) → Explains (IsFirstTreeFault t.blobs r.directories) e → HasOutcome t d → (e ≡ tree.Fetch) ⊎ (e ≡ tree.Memory)
  call_error (tree.Absent p) h has = absurd h
  call_error (tree.BlobMissing x) h has = absurd (none_told (missing x) h has)
  call_error (tree.BlobWrong x) h has = absurd (none_told (wrong x) h has)
  call_error (tree.BlobMalformed x) h has = absurd (none_told (malformed x) h has)
  call_error (tree.TooDeep p) h has = absurd h
  call_error (tree.Conflict p) h has = absurd h
  call_error tree.Fetch h has = inl refl
  call_error tree.Memory h has = inr refl

-- ---- all of them

-- what was recalled of the first actions, when these calls had been made
pub record AreRecalled (before now : Telling) (ds : List DigestValue) (steps : List RecordedStepValue) (i : ℕ) : Type 0 where
  pub actions : actions_of steps ≡ take i ds
  pub held : HoldsSteps now steps
  pub has : HasOutcomes now ds
  pub called : Called before now ⊥

has_at : (t : Telling) (ds : List DigestValue) (i : ℕ) (d : DigestValue) → slice_get ds i ≡ Some d → HasOutcomes t ds → HasOutcome t d
has_at t [] i d at h = absurd cc
has_at t (e ∷ ds) zero d at h = let same : e ≡ d = cc in subst (HasOutcome t) same h.0
has_at t (e ∷ ds) (suc i) d at h = has_at t ds i d at h.1

holds_more : (t : Telling) (steps : List RecordedStepValue) (s : RecordedStepValue) → HoldsSteps t steps → HoldsOutcome t s.action s.outcome → HoldsSteps t (steps ++ s ∷ [])
holds_more t [] s h k = (k, tt)
holds_more t (x ∷ steps) s h k = (h.0, holds_more t steps s h.1 k)

take_next : {X : Type 0} (xs : List X) (i : ℕ) (x : X) → slice_get xs i ≡ Some x → take (suc i) xs ≡ take i xs ++ x ∷ []
take_next [] i x at = absurd cc
take_next (y ∷ xs) zero x at = let same : y ≡ x = cc in λ k. same k ∷ []
take_next (y ∷ xs) (suc i) x at = ap (λ ys. y ∷ ys) (take_next xs i x at)

actions_more : (steps : List RecordedStepValue) (s : RecordedStepValue) → actions_of (steps ++ s ∷ []) ≡ actions_of steps ++ s.action ∷ []
actions_more [] s = refl
actions_more (x ∷ steps) s = ap (λ ds. x.action ∷ ds) (actions_more steps s)

pub none_recalled : (t : Telling) (ds : List DigestValue) → HasOutcomes t ds → AreRecalled t t ds [] 0
none_recalled t ds h = record { actions = refl; held = tt; has = h; called = called_none (λ f. f) }

pub recalls_next : (before now later : Telling) (ds : List DigestValue) (steps : List RecordedStepValue) (i : ℕ) (s : RecordedStepValue) → slice_get ds i ≡ Some s.action → AreRecalled before now ds steps i
    → Called now later ⊥ → HoldsOutcome later s.action s.outcome → AreRecalled before later ds (steps ++ s ∷ []) (i + 1)
recalls_next before now later ds steps i s at h calls holds = record {
  actions = actions_more steps s ∙ ap (λ es. es ++ s.action ∷ []) h.actions ∙ sym (ap (λ n. take n ds) (add-one i) ∙ take_next ds i s.action at);
  held = holds_more later steps s (steps_still calls.asked steps h.held) holds;
  has = outcomes_still calls.asked ds h.has;
  called = called_on h.called calls;
}

pub has_next : (before now : Telling) (ds : List DigestValue) (steps : List RecordedStepValue) (i : ℕ) (d : DigestValue) → slice_get ds i ≡ Some d → AreRecalled before now ds steps i → HasOutcome now d
has_next before now ds steps i d at h = has_at now ds i d at h.has
