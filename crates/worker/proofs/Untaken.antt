-- Why a store has no result that a build takes.
use Rattle.std.proofs.Common.{◌≡◌, ℕ, List, length, Option, Some, None, arith, refl, sym, ap, subst, ◌∙◌}
use Rattle.std.specs.Prelude.{Result, Ok, Err, IfOk}
use Rattle.blob_digest.specs.Digest.{DigestValue}
use Rattle.std.specs.declared.vec.Vec.{Vec}
use Rattle.blob_source.specs.Source.{Asks, CountsCall, Telling, bytes_of}
use Rattle.blob_source.specs.Told.{Fault, missing, wrong, malformed}
use Rattle.messages.specs.declared.error.MessageError.{MessageError}
use Rattle.messages.specs.declared.error.MessageError.TheVariants as messages
use Rattle.messages.specs.Gives.{FailsUnlessMemory}
use Rattle.action_messages.specs.ActionResult.{ActionResultValue}
use Rattle.action_messages.specs.Command.{CommandValue}
use Rattle.action_messages.specs.Reads.{Reads}
use Rattle.action_messages.proofs.ReadOnce.{reads_once}
use Rattle.actions.specs.Outcome.{OutcomeValue}
use Rattle.actions.specs.Recorded.{IsRecorded, IsFirstTreeFault}
use Rattle.actions.proofs.Once.{recorded_once, recorded_or_fault}
use Rattle.tree.specs.TreeError.{Explains}
use Rattle.tree.specs.declared.error.TreeError.{TreeError}
use Rattle.tree.specs.declared.error.TreeError.TheVariants as tree
use Rattle.verifier.proofs.FreshRuns.{one_answer}
use Rattle.verifier.specs.Recorded.{IsHeld}
use Rattle.worker.specs.Outcomes.{CanBeTaken}
use Rattle.worker.specs.Going.{HasNoneToTake}
use Rattle.worker.specs.Storing.{AsksResultOnce}
use Rattle.worker.proofs.PutOnce.{call_counts}

-- bytes that aren't read as a result
pub unread : (e : MessageError) (r : ActionResultValue) → (e ≡ messages.Memory → ⊥) → FailsUnlessMemory e (Ok r) → ⊥
unread messages.Memory r other fails = other refl
unread e r other fails = cc

-- what is said of an answer of nothing
pub if_ok : {T E X : Type 0} (r : Result (Option T) E) → X → IfOk r (λ found. found ≡ None → X)
if_ok (Ok x) h = λ same. h
if_ok (Err e) h = tt

pub if_err : {T E : Type 0} (X : Type 0) (r : Result (Option T) E) (e : E) → r ≡ Err e → IfOk r (λ found. found ≡ None → X)
if_err X (Ok x) e is = absurd cc
if_err X (Err f) e is = tt

module _ (t : Telling) (d : DigestValue) (c : CommandValue) where
  module _ (bytes : List ℕ) (there : t.results d ≡ Some bytes) where
    reads_there : (v : OutcomeValue) → (h : IsHeld t d v) → Reads h.result bytes
    reads_there v h = subst (Reads h.result) (one_answer (t.results d) h.held.0 bytes h.held.1 there) h.held.2

    pub none_reads : ((r : ActionResultValue) → Reads r bytes → ⊥) → HasNoneToTake t d c
    none_reads none v h fits = none h.result (reads_there v h)

    module _ (r : ActionResultValue) (reads : Reads r bytes) where
      recorded_there : (v : OutcomeValue) → IsHeld t d v → IsRecorded t.blobs r v
      recorded_there v h = subst (λ q. IsRecorded t.blobs q v) (reads_once h.result r bytes (reads_there v h) reads) h.recorded

      none_told : (f : Fault) → IsFirstTreeFault t.blobs r.directories f → HasNoneToTake t d c
      none_told f fault v h fits = recorded_or_fault t.blobs r v f (recorded_there v h) fault

      pub none_explained : {A : Type 0} (e : TreeError A) → Explains (IsFirstTreeFault t.blobs r.directories) e → (e ≡ tree.Fetch → ⊥) → (e ≡ tree.Memory → ⊥) → HasNoneToTake t d c
      none_explained (tree.Absent p) h fetch memory = absurd h
      none_explained (tree.BlobMissing x) h fetch memory = none_told (missing x) h
      none_explained (tree.BlobWrong x) h fetch memory = none_told (wrong x) h
      none_explained (tree.BlobMalformed x) h fetch memory = none_told (malformed x) h
      none_explained (tree.TooDeep p) h fetch memory = absurd h
      none_explained (tree.Conflict p) h fetch memory = absurd h
      none_explained tree.Fetch h fetch memory = absurd (fetch refl)
      none_explained tree.Memory h fetch memory = absurd (memory refl)

      pub none_fits : (o : OutcomeValue) → IsRecorded t.blobs r o → (CanBeTaken c o → ⊥) → HasNoneToTake t d c
      none_fits o recorded not v h fits = not (subst (CanBeTaken c) (recorded_once t.blobs r v o (recorded_there v h) recorded) fits)

-- ---- how often the store is asked

module _ {old mid : Telling} (d : DigestValue) (counts : CountsCall old mid) where
  pub asked_once : AsksResultOnce d old mid
  asked_once most each = let one = call_counts counts in omega (arith, one)

  -- what was found is a result whose Trees are asked for
  pub asked_trees : {A : Type 0} (new : Telling) (r : ActionResultValue) {found : Option (Vec ℕ A)} {v : Vec ℕ A} {read : List ℕ} → Asks (length r.directories) mid new
      → bytes_of found ≡ mid.results d → found ≡ Some v → read ≡ v.items → Reads r read → AsksResultOnce d old new
  asked_trees new r {v} asks told is same reads most each =
      let one = call_counts counts in
      let trees = asks.most_calls in
      let few = each v.items r (asks.some.results d v.items (sym told ∙ ap bytes_of is)) (subst (Reads r) same reads) in
      omega (arith, one, trees, few)
