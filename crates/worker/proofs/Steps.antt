-- Where what each step of a build came to is from.
use Rattle.std.proofs.Common.{◌≡◌, ◌≢◌, ℕ, zero, suc, List, [], ◌∷◌, Option, Some, None, refl, ap, sym, ◌∙◌, subst, arith, inl, inr}
use Rattle.std.specs.Prelude.{◌⊎◌, Contains}
use Rattle.std.specs.List.{AllByRecursion}
use Rattle.blob_digest.specs.Digest.{DigestValue}
use Rattle.blob_source.specs.Source.{Telling}
use Rattle.action_messages.specs.ActionResult.{ActionResultValue}
use Rattle.action_messages.specs.Reads.{Reads}
use Rattle.actions.specs.Outcome.{OutcomeValue}
use Rattle.actions.specs.Recorded.{IsRecorded}
use Rattle.actions.proofs.TreeLookups.{all_at}
use Rattle.runs.specs.Calls.{IsFinished}
use Rattle.runs.specs.Engine.{FinishedValue, JobValue, EngineValue, at_number, finished_in}
use Rattle.verifier.specs.Recorded.{HaveOneForm}
use Rattle.verifier.proofs.SameForms.{same_digest}
use Rattle.worker.specs.Calls.{Call, started, launched, ran, taken, lost, CameTo, HasChildsResult, FinishedByChild, FinishedAsRecorded, Does, Leads, IsBuiltBy}
use Rattle.worker.specs.Outcomes.{Yields}
use Rattle.worker.specs.Steps.{CameOfChild, WasTaken}
use Rattle.worker.specs.Stored.{HasNoneFinished}
use Rattle.worker.proofs.Acts.{calls_same}
use Rattle.worker.proofs.Joins.{came_behind, came_none}
use Rattle.worker.proofs.Storing.{form_back, of_form, which}
use Rattle.worker.proofs.Telling.{yielded_still}

-- ---- one form

-- steps that finished with the same action came to outcomes of one form
abbrev AreAlike : EngineValue → Type 0
AreAlike e = (i k : ℕ) (f g : FinishedValue) → finished_in i e ≡ Some f → finished_in k e ≡ Some g → f.action ≡ g.action → HaveOneForm f.outcome g.outcome

never : (o : Option FinishedValue) (f : FinishedValue) → o ≡ None → o ≡ Some f → ⊥
never o f e h = cc

alike_stay : (old new : EngineValue) → new.finished ≡ old.finished → AreAlike old → AreAlike new
alike_stay old new still alike i k f g at also same = alike i k f g (sym (ap (λ fs. at_number fs i) still) ∙ at) (sym (ap (λ fs. at_number fs k) still) ∙ also) same

-- it had finished with that, or has now
abbrev IsNowOrWas : JobValue → OutcomeValue → EngineValue → ℕ → FinishedValue → Type 0
IsNowOrWas j v old i f = (finished_in i old ≡ Some f) ⊎ ((i ≡ j.step) × (f ≡ record { action = j.action; outcome = v }))

alike_finish : (id : ℕ) (v : OutcomeValue) (old new : EngineValue) → IsFinished id v old new → AreAlike old → AreAlike new
alike_finish id v old new h alike i k f g at also same = by (which h i f at) (which h k g also)
  where
    by : IsNowOrWas h.job v old i f → IsNowOrWas h.job v old k g → HaveOneForm f.outcome g.outcome
    by (inl one) (inl two) = alike i k f g one two same
    by (inl one) (inr two) = subst (λ (x : FinishedValue). HaveOneForm f.outcome x.outcome) (sym two.1) (of_form h i f at (inr (same ∙ ap (λ (x : FinishedValue). x.action) two.1)))
    by (inr one) two = subst (λ (x : FinishedValue). HaveOneForm x.outcome g.outcome) (sym one.1) (form_back (of_form h k g also (inr (sym same ∙ ap (λ (x : FinishedValue). x.action) one.1))))

-- ---- whether a child of an action came to something

abbrev IsRun : Call → DigestValue → OutcomeValue → Type 0
IsRun c d v = (id : ℕ) × (c ≡ ran id d v)

ran_or_not : (c : Call) (d : DigestValue) → ((v : OutcomeValue) × IsRun c d v) ⊎ ((v : OutcomeValue) → IsRun c d v → ⊥)
ran_or_not (started i id) d = inr (λ v run. let is = run.1 in cc)
ran_or_not (launched id e x) d = inr (λ v run. let is = run.1 in cc)
ran_or_not (taken id e v) d = inr (λ w run. let is = run.1 in cc)
ran_or_not (lost id) d = inr (λ v run. let is = run.1 in cc)
ran_or_not (ran id e v) d = by (same_digest e d)
  where
    by : (e ≡ d) ⊎ (e ≢ d) → ((w : OutcomeValue) × IsRun (ran id e v) d w) ⊎ ((w : OutcomeValue) → IsRun (ran id e v) d w → ⊥)
    by (inl same) = inl (v, (id, ap (λ x. ran id x v) same))
    by (inr other) = inr (λ w run. other (let is = run.1 in cc))

came_or_not : (cs : List Call) (d : DigestValue) → ((v : OutcomeValue) × CameTo cs d v) ⊎ ((v : OutcomeValue) → CameTo cs d v → ⊥)
came_or_not [] d = inr (λ v came. came_none d v came)
came_or_not (c ∷ cs) d = by (ran_or_not c d) (came_or_not cs d)
  where
    by : ((v : OutcomeValue) × IsRun c d v) ⊎ ((v : OutcomeValue) → IsRun c d v → ⊥) → ((v : OutcomeValue) × CameTo cs d v) ⊎ ((v : OutcomeValue) → CameTo cs d v → ⊥)
        → ((v : OutcomeValue) × CameTo (c ∷ cs) d v) ⊎ ((v : OutcomeValue) → CameTo (c ∷ cs) d v → ⊥)
    by (inl (v, (id, is))) rest = inl (v, (id, (0, omega arith, is)))
    by (inr not) (inl (v, came)) = inl (v, came_behind d v (c ∷ []) cs came)
    by (inr not) (inr none) = inr either
      where
        either : (v : OutcomeValue) → CameTo (c ∷ cs) d v → ⊥
        either v (id, (zero, lt, is)) = not v (id, is)
        either v (id, (suc k, lt, is)) = none v (id, (k, omega (arith, lt), is))

-- ---- where what a step came to is from

module _ (A : Type 0) (y : Yields) (t : Telling) (most : ℕ) where
  module _ (all : List Call) (last : EngineValue) where
    abbrev Came : DigestValue → OutcomeValue → Type 0
    Came d v = CameOfChild y all t.blobs last d v

    -- the store's result for the step's action was taken
    record WasHeld (f : FinishedValue) : Type 0 where
      bytes : List ℕ
      result : ActionResultValue
      reads : Reads result bytes
      recorded : IsRecorded t.blobs result f.outcome
      held : (t.results f.action ≡ Some bytes) ⊎ ((v : OutcomeValue) × CameTo all f.action v)

    abbrev IsFrom : FinishedValue → Type 0
    IsFrom f = CameTo all f.action f.outcome ⊎ WasHeld f

    abbrev AreFrom : EngineValue → Type 0
    AreFrom e = (i : ℕ) (f : FinishedValue) → finished_in i e ≡ Some f → IsFrom f

    -- what a child came to among the last calls, one did among all
    abbrev Last : List Call → Type 0
    Last cs = (d : DigestValue) (v : OutcomeValue) → CameTo cs d v → CameTo all d v

    behind : (c : Call) (cs : List Call) → Last (c ∷ cs) → Last cs
    behind c cs up d v came = up d v (came_behind d v (c ∷ []) cs came)

    -- each child's job yielded what it came to, and its step has that
    all_came : (cs : List Call) → Last cs → (old : EngineValue) → Leads A y t most cs old last → (d : DigestValue) (v : OutcomeValue) → CameTo cs d v → Came d v
    all_came [] up old same d v came = absurd (came_none d v came)
    all_came (c ∷ cs) up old (mid, does, few, rest) d v (id, (suc k, lt, is)) = all_came cs (behind c cs up) mid rest d v (id, (k, omega (arith, lt), is))
    all_came (c ∷ cs) up old (mid, does, few, rest) d v (id, (zero, lt, is)) =
        let ended : FinishedByChild y t id d v old mid = subst (λ c. Does A y t cs c old mid) is does in
        let whole = calls_same A y t most (c ∷ cs) old last (mid, does, few, rest) in
        let later = calls_same A y t most cs mid last rest in
        record {
          came = up d v (id, (zero, lt, is));
          job = ended.finished.job;
          action = ended.action;
          finished = later.finished ended.finished.job.step (record { action = d; outcome = v }) ended.kept;
          yielded = yielded_still old last (λ l c e h. h) (λ e b at right. at) (whole.commands, whole.frames) ended.finished.job ended.yielded;
        }

    of_taken : (later : List Call) → Last later → (id : ℕ) (d : DigestValue) (v : OutcomeValue) (old new : EngineValue) → (w : FinishedAsRecorded t later id d v old new) → WasHeld (record { action = d; outcome = v })
    of_taken later up id d v old new w = record { bytes = w.bytes; result = w.result; reads = w.reads; recorded = w.recorded; held = by w.held }
      where
        by : (t.results d ≡ Some w.bytes) ⊎ HasChildsResult later t.results d → (t.results d ≡ Some w.bytes) ⊎ ((u : OutcomeValue) × CameTo all d u)
        by (inl at) = inl at
        by (inr h) = inr (h.outcome, up d h.outcome h.came)

    finishes_from : (id : ℕ) (d : DigestValue) (v : OutcomeValue) (old new : EngineValue) → (h : IsFinished id v old new) → h.job.action ≡ d → IsFrom (record { action = d; outcome = v }) → AreFrom old → AreFrom new
    finishes_from id d v old new h action from before i f at = by (which h i f at)
      where
        by : IsNowOrWas h.job v old i f → IsFrom f
        by (inl was) = before i f was
        by (inr is) = subst IsFrom (sym is.1) (subst (λ e. IsFrom (record { action = e; outcome = v })) (sym action) from)

    stay_from : (old new : EngineValue) → new.finished ≡ old.finished → AreFrom old → AreFrom new
    stay_from old new same before i f at = before i f (sym (ap (λ fs. at_number fs i) same) ∙ at)

    -- what is so of the steps that have finished
    abbrev AreRight : EngineValue → Type 0
    AreRight e = AreFrom e × AreAlike e

    does_right : (later : List Call) (c : Call) → Last (c ∷ later) → (old new : EngineValue) → Does A y t later c old new → AreRight old → AreRight new
    does_right later (started i id) up old new w h = let still = ap (λ (e : EngineValue). e.finished) w.is.after in (stay_from old new still h.0, alike_stay old new still h.1)
    does_right later (launched id d x) up old new w h = let still = ap (λ (e : EngineValue). e.finished) w.same in (stay_from old new still h.0, alike_stay old new still h.1)
    does_right later (ran id d v) up old new w h =
        (finishes_from id d v old new w.finished w.action (inl (up d v (id, (0, omega arith, refl)))) h.0, alike_finish id v old new w.finished h.1)
    does_right later (taken id d v) up old new w h =
        (finishes_from id d v old new w.finished w.action (inr (of_taken later (behind (taken id d v) later up) id d v old new w)) h.0, alike_finish id v old new w.finished h.1)
    does_right later (lost id) up old new (j, at, gone) h = let still = ap (λ (e : EngineValue). e.finished) gone in (stay_from old new still h.0, alike_stay old new still h.1)

    leads_right : (cs : List Call) → Last cs → (old : EngineValue) → Leads A y t most cs old last → AreRight old → AreRight last
    leads_right [] up old same h = subst AreRight (sym same) h
    leads_right (c ∷ cs) up old (mid, does, few, rest) h = leads_right cs (behind c cs up) mid rest (does_right cs c up old mid does h)

    module _ (put : List DigestValue) (each : AllByRecursion (HasChildsResult all t.results) put) (first : EngineValue) (leads : Leads A y t most all first last) where
      abbrev IsSo : FinishedValue → Type 0
      IsSo f = Came f.action f.outcome ⊎ WasTaken y all put t last f

      came_so : (d : DigestValue) (v : OutcomeValue) → CameTo all d v → Came d v
      came_so d v came = all_came all (λ e w there. there) first leads d v came

      -- a result was put for no other action than that of a child
      unput : (d : DigestValue) → ((v : OutcomeValue) → CameTo all d v → ⊥) → Contains put d → ⊥
      unput d none there = let h = all_at (HasChildsResult all t.results) put d each there in none h.outcome h.came

      held_so : AreAlike last → (i : ℕ) (f : FinishedValue) → finished_in i last ≡ Some f → WasHeld f → ((v : OutcomeValue) × CameTo all f.action v) ⊎ ((v : OutcomeValue) → CameTo all f.action v → ⊥) → WasTaken y all put t last f
      held_so alike i f at h (inl (v, came)) =
          let child = came_so f.action v came in
          let form = alike child.job.step i (record { action = f.action; outcome = v }) f child.finished at refl in
          record { bytes = h.bytes; result = h.result; reads = h.reads; recorded = h.recorded; stands = inr (v, child, form) }
      held_so alike i f at h (inr not) = record { bytes = h.bytes; result = h.result; reads = h.reads; recorded = h.recorded; stands = inl (stands h.held, unput f.action not) }
        where
          stands : (t.results f.action ≡ Some h.bytes) ⊎ ((v : OutcomeValue) × CameTo all f.action v) → t.results f.action ≡ Some h.bytes
          stands (inl is) = is
          stands (inr (v, came)) = absurd (not v came)

      are_so : AreRight last → (i : ℕ) (f : FinishedValue) → finished_in i last ≡ Some f → IsSo f
      are_so right i f at = by (right.0 i f at)
        where
          by : IsFrom f → IsSo f
          by (inl came) = inl (came_so f.action f.outcome came)
          by (inr held) = inr (held_so right.1 i f at held (came_or_not all f.action))

      none_so : HasNoneFinished first → AreRight first
      none_so none = ((λ i f at. absurd (never (finished_in i first) f (none i) at)), (λ i k f g at also same. absurd (never (finished_in i first) f (none i) at)))

      pub steps_so : HasNoneFinished first → (i : ℕ) (f : FinishedValue) → finished_in i last ≡ Some f → IsSo f
      steps_so none = are_so (leads_right all (λ d v came. came) first leads (none_so none))

pub steps_told : (A : Type 0) (y : Yields) (before t : Telling) (most : ℕ) (first last : EngineValue) → (built : IsBuiltBy A y before t most first last) → HasNoneFinished first
    → (i : ℕ) (f : FinishedValue) → finished_in i last ≡ Some f → CameOfChild y built.led.calls t.blobs last f.action f.outcome ⊎ WasTaken y built.led.calls built.puts.put t last f
steps_told A y before t most first last built = steps_so A y t most built.led.calls last built.puts.put built.puts.each first built.led.leads
