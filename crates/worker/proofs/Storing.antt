-- A store has what a build has finished, whatever else is put.
use Rattle.std.proofs.Common.{◌≡◌, ◌≢◌, ℕ, zero, suc, ◌<◌, List, [], ◌∷◌, ◌++◌, ◌+◌, take, get_or, length, length-append, append_assoc, set, Option, Some, None, refl, ap, sym, ◌∙◌, subst, arith, inl, inr}
use Rattle.std.specs.Prelude.{◌⊎◌, Result, Ok, Err, OnOk, IsSome, slice_get}
use Rattle.std.specs.List.{AllByRecursion}
use Rattle.std.proofs.lemmas.List.{map-append, take_more}
use Rattle.blob_digest.specs.Digest.{DigestValue, digest_of, empty_digest, NoClash}
use Rattle.messages.specs.Tree.{TreeValue, tree_bytes}
use Rattle.action_messages.specs.ActionResult.{ActionResultValue}
use Rattle.action_messages.specs.Reads.{Reads}
use Rattle.actions.specs.declared.outcome.Output.TheVariants as outputs
use Rattle.actions.specs.declared.outcome.Output.{Output}
use Rattle.actions.specs.Outcome.{OutputValue, OutcomeValue, output_value, outputs_in}
use Rattle.actions.proofs.TreeLookups.{all_at}
use Rattle.blob_source.specs.Source.{Blobs, Telling, Grows, IsUnder, IsBlobUnder}
use Rattle.blob_source.specs.Sink.{HasRight, KeepsRight}
use Rattle.tree.specs.Tree.{Name}
use Rattle.runs.specs.Calls.{IsFinished, Disagrees, first_kept}
use Rattle.runs.specs.Engine.{FinishedValue, EngineValue, at_number, finished_in}
use Rattle.runs.specs.Results.{result_of}
use Rattle.runs.specs.Served.{Keeps, HoldsTrees, IsKeptOf}
use Rattle.runs.proofs.Places.{set_other}
use Rattle.verifier.proofs.FreshRuns.{one_answer}
use Rattle.verifier.proofs.SameForms.{same_digest, same_form}
use Rattle.verifier.specs.Recorded.{HaveOneForm}
use Rattle.worker.specs.Storing.{HasAt, IsKeptBut, HasResultOf, IsResultOfStep, IsForForm, StoresStep, StoresSteps, IsHeldWhole}
use Rattle.worker.specs.Calls.{IsResultFor}
use Rattle.worker.specs.Outcomes.{HasTree, HasTrees, directories_of, tree_blobs}
use Rattle.worker.specs.Stored.{IsKept, IsToldOrTree, IsStored}
use Rattle.worker.proofs.Keeping.{all_split, right_still}
use Rattle.worker.proofs.Telling.{recorded_still, trees_still}

-- ---- one form

pub form_back : {v w : OutcomeValue} → HaveOneForm v w → HaveOneForm w v
form_back h = record { exit_code = sym h.exit_code; outputs = sym h.outputs }

form_then : {u v w : OutcomeValue} → HaveOneForm u v → HaveOneForm v w → HaveOneForm u w
form_then h k = record { exit_code = h.exit_code ∙ k.exit_code; outputs = h.outputs ∙ k.outputs }

form_same : (v : OutcomeValue) → HaveOneForm v v
form_same v = record { exit_code = refl; outputs = refl }

-- ---- what has finished

pub there : {X : Type 0} {o : Option X} → IsSome o → (x : X) × (o ≡ Some x)
there {X} {o} h = by o refl h
  where
    by : (q : Option X) → o ≡ q → IsSome q → (x : X) × (o ≡ Some x)
    by None is some = absurd cc
    by (Some x) is some = (x, is)

place : (fs : List (Option FinishedValue)) (k : ℕ) (f : FinishedValue) → at_number fs k ≡ Some f → slice_get fs k ≡ Some (Some f)
place [] k f at = absurd cc
place (o ∷ fs) zero f at = ap (λ q. Some q) at
place (o ∷ fs) (suc k) f at = place fs k f at

-- what a step came to, that finished with the same action or as the same step, has the form
agreed : (fs : List (Option FinishedValue)) (i : ℕ) (d : DigestValue) (v : OutcomeValue) → (Disagrees fs i d v → ⊥) → (k : ℕ) (f : FinishedValue) → at_number fs k ≡ Some f → (k ≡ i) ⊎ (f.action ≡ d) → HaveOneForm f.outcome v
agreed fs i d v none k f at why = by (same_form f.outcome v)
  where
    by : HaveOneForm f.outcome v ⊎ (HaveOneForm f.outcome v → ⊥) → HaveOneForm f.outcome v
    by (inl h) = h
    by (inr n) = absurd (none (k, Some f, place fs k f at, (why, n)))

kept_some : (fs : List (Option FinishedValue)) (o : Option FinishedValue) (i k : ℕ) (g f : FinishedValue) → at_number fs i ≡ o → at_number fs k ≡ Some f → at_number (first_kept o fs i g) k ≡ Some f
kept_some fs (Some before) i k g f is at = at
kept_some fs None i k g f is at = set_other fs i k (Some g) (λ e. let there = ap (at_number fs) e in cc) ∙ at

either_set : (fs : List (Option FinishedValue)) (i k : ℕ) (g f : FinishedValue) → at_number (set fs i (Some g)) k ≡ Some f → (at_number fs k ≡ Some f) ⊎ ((k ≡ i) × (f ≡ g))
either_set [] i k g f at = inl at
either_set (o ∷ fs) zero zero g f at = inr (refl, cc)
either_set (o ∷ fs) zero (suc k) g f at = inl at
either_set (o ∷ fs) (suc i) zero g f at = inl at
either_set (o ∷ fs) (suc i) (suc k) g f at = by (either_set fs i k g f at)
  where
    by : (at_number fs k ≡ Some f) ⊎ ((k ≡ i) × (f ≡ g)) → (at_number fs k ≡ Some f) ⊎ ((suc k ≡ suc i) × (f ≡ g))
    by (inl h) = inl h
    by (inr h) = inr (ap suc h.0, h.1)

either_some : (fs : List (Option FinishedValue)) (o : Option FinishedValue) (i k : ℕ) (g f : FinishedValue) → at_number (first_kept o fs i g) k ≡ Some f → (at_number fs k ≡ Some f) ⊎ ((k ≡ i) × (f ≡ g))
either_some fs (Some before) i k g f at = inl at
either_some fs None i k g f at = either_set fs i k g f at

module _ {w : ℕ} {v : OutcomeValue} {old new : EngineValue} (h : IsFinished w v old new) where
  abbrev came : FinishedValue
  came = record { action = h.job.action; outcome = v }

  finished_after : new.finished ≡ first_kept (finished_in h.job.step old) old.finished h.job.step came
  finished_after = ap (λ (e : EngineValue). e.finished) h.after

  pub grows : (k : ℕ) (f : FinishedValue) → finished_in k old ≡ Some f → finished_in k new ≡ Some f
  grows k f at = ap (λ fs. at_number fs k) finished_after ∙ kept_some old.finished (finished_in h.job.step old) h.job.step k came f refl at

  pub which : (k : ℕ) (f : FinishedValue) → finished_in k new ≡ Some f → (finished_in k old ≡ Some f) ⊎ ((k ≡ h.job.step) × (f ≡ came))
  which k f at = either_some old.finished (finished_in h.job.step old) h.job.step k came f (sym (ap (λ fs. at_number fs k) finished_after) ∙ at)

  -- what a step came to, that finished with the same action or as the same step, has the form
  pub of_form : (k : ℕ) (f : FinishedValue) → finished_in k new ≡ Some f → (k ≡ h.job.step) ⊎ (f.action ≡ h.job.action) → HaveOneForm f.outcome v
  of_form k f at why = by (which k f at)
    where
      by : (finished_in k old ≡ Some f) ⊎ ((k ≡ h.job.step) × (f ≡ came)) → HaveOneForm f.outcome v
      by (inl before) = agreed old.finished h.job.step h.job.action v h.agrees k f before why
      by (inr is) = subst (λ (g : FinishedValue). HaveOneForm g.outcome v) (sym is.1) (form_same v)

  -- bytes that read as the result of its step
  pub result_for : (i : ℕ) → i ≡ h.job.step → (b : List ℕ) → IsResultOfStep new i b → IsResultFor v b
  result_for i is b (f, at, reads) = record { outcome = f.outcome; form = of_form i f at (inl is); reads = reads }

-- ---- what stays

-- one output more
trees_more : (B : Blobs) (es : List (List Name × OutputValue)) (e : List Name × OutputValue) → AllByRecursion (HasTree B) es → HasTree B e → AllByRecursion (HasTree B) (es ++ e ∷ [])
trees_more B [] e h one = (one, tt)
trees_more B (x ∷ es) e h one = (h.0, trees_more B es e h.1 one)

pub trees_taken : {A : Type 0} (B C : Blobs) (es : List (List Name × Output A)) (i : ℕ) (e : List Name × Output A) → i < length es → e ≡ get_or es i e → KeepsRight B C
    → AllByRecursion (HasTree B) (outputs_in (take i es)) → HasTree C (e.0, output_value e.1) → AllByRecursion (HasTree C) (outputs_in (take (i + 1) es))
trees_taken {A} B C es i e lt is keeps held one =
    let value : List Name × Output A → List Name × OutputValue = λ x. (x.0, output_value x.1) in
    let taken : take (i + 1) es ≡ take i es ++ e ∷ [] = take_more es i e lt ∙ ap (λ y. take i es ++ y ∷ []) (sym is) in
    let values : outputs_in (take (i + 1) es) ≡ outputs_in (take i es) ++ value e ∷ [] = ap outputs_in taken ∙ map-append value (take i es) (e ∷ []) in
    subst (AllByRecursion (HasTree C)) (sym values) (trees_more C (outputs_in (take i es)) (value e) (trees_still B C (outputs_in (take i es)) keeps held) one)

-- the blobs of their Trees are those of the first ones, and its own
tree_blobs_join : (es fs : List (List Name × OutputValue)) → tree_blobs (es ++ fs) ≡ tree_blobs es ++ tree_blobs fs
tree_blobs_join [] fs = refl
tree_blobs_join ((p, outputs.File d x) ∷ es) fs = tree_blobs_join es fs
tree_blobs_join ((p, outputs.Link t) ∷ es) fs = tree_blobs_join es fs
tree_blobs_join ((p, outputs.Tree t) ∷ es) fs = ap (λ bs. (tree_bytes t ∷ directories_of t) ++ bs) (tree_blobs_join es fs) ∙ sym (append_assoc (tree_bytes t ∷ directories_of t) (tree_blobs es) (tree_blobs fs))

pub tree_blobs_more : {A : Type 0} (es : List (List Name × Output A)) (i : ℕ) (e : List Name × Output A) → i < length es → e ≡ get_or es i e
    → length (tree_blobs (outputs_in (take (i + 1) es))) ≡ length (tree_blobs (outputs_in (take i es))) + length (tree_blobs ((e.0, output_value e.1) ∷ []))
tree_blobs_more {A} es i e lt is =
    let value : List Name × Output A → List Name × OutputValue = λ x. (x.0, output_value x.1) in
    let taken : take (i + 1) es ≡ take i es ++ e ∷ [] = take_more es i e lt ∙ ap (λ y. take i es ++ y ∷ []) (sym is) in
    ap length (ap tree_blobs (ap outputs_in taken ∙ map-append value (take i es) (e ∷ [])) ∙ tree_blobs_join (outputs_in (take i es)) (value e ∷ []))
    ∙ length-append (tree_blobs (outputs_in (take i es))) (tree_blobs (value e ∷ []))

-- of those of one output too
pub tree_blobs_so : {A : Type 0} (P : List ℕ → Type 0) (es : List (List Name × Output A)) (i : ℕ) (e : List Name × Output A) → i < length es → e ≡ get_or es i e → AllByRecursion P (tree_blobs (outputs_in es)) → AllByRecursion P (tree_blobs ((e.0, output_value e.1) ∷ []))
tree_blobs_so P [] i e lt is h = absurd (omega (arith, lt))
tree_blobs_so {A} P (x ∷ es) zero e lt is h = subst (λ (y : List Name × Output A). AllByRecursion P (tree_blobs ((y.0, output_value y.1) ∷ []))) (sym is) (all_split P (tree_blobs ((x.0, output_value x.1) ∷ [])) (tree_blobs (outputs_in es)) (subst (AllByRecursion P) (tree_blobs_join ((x.0, output_value x.1) ∷ []) (outputs_in es)) h)).0
tree_blobs_so P (x ∷ es) (suc i) e lt is h = tree_blobs_so P es i e (omega (arith, lt)) is (all_split P (tree_blobs ((x.0, output_value x.1) ∷ [])) (tree_blobs (outputs_in es)) (subst (AllByRecursion P) (tree_blobs_join ((x.0, output_value x.1) ∷ []) (outputs_in es)) h)).1

pub tree_so : {A : Type 0} (P : List ℕ → Type 0) (es : List (List Name × Output A)) (i : ℕ) (e : List Name × Output A) (t : TreeValue) → i < length es → e ≡ get_or es i e → e.1 ≡ outputs.Tree t → AllByRecursion P (tree_blobs (outputs_in es)) → P (tree_bytes t) × AllByRecursion P (directories_of t)
tree_so P es i e t lt is tree h =
    let own = subst (λ o. AllByRecursion P (tree_blobs ((e.0, output_value o) ∷ []))) tree (tree_blobs_so P es i e lt is h) in
    (own.0, (all_split P (directories_of t) [] own.1).0)

pub no_tree : {A : Type 0} (B : Blobs) (p : List Name) (o : Output A) → ((t : TreeValue) → o ≡ outputs.Tree t → ⊥) → HasTree B (p, output_value o)
no_tree B p (outputs.File d x) not = tt
no_tree B p (outputs.Link t) not = tt
no_tree B p (outputs.Tree t) not = absurd (not t refl)

module _ {old new : EngineValue} (more : (k : ℕ) (f : FinishedValue) → finished_in k old ≡ Some f → finished_in k new ≡ Some f) where
  kept_later : {r : ActionResultValue} {i : ℕ} {f : FinishedValue} → finished_in i old ≡ Some f → IsKeptOf old i r → IsKeptOf new i r
  kept_later {r} {i} {f} at kept = record {
    held = λ B C g there. kept.held B C g (subst (λ h. finished_in i old ≡ Some h) (one_answer (finished_in i new) f g (more i f at) there) at);
  }

  stands_later : (B C : Blobs) (r : ActionResultValue) (o : OutcomeValue) → KeepsRight B C → IsForForm B old r o → IsForForm C new r o
  stands_later B C r o keeps (inl (v, recorded, form)) = inl (v, recorded_still keeps r v recorded, form)
  stands_later B C r o keeps (inr (i, f, at, form, kept)) = inr (i, f, more i f at, form, kept_later at kept)

  step_later : (s t : Telling) (f : FinishedValue) → KeepsRight s.blobs t.blobs → (h : StoresStep s old f) → t.results f.action ≡ Some h.held.0 → StoresStep t new f
  step_later s t f keeps h at = record {
    action = right_still keeps h.action;
    trees = trees_still s.blobs t.blobs f.outcome.outputs keeps h.trees;
    result = h.result;
    held = (h.held.0, at, h.held.2);
    stands = stands_later s.blobs t.blobs h.result f.outcome keeps h.stands;
  }

-- nothing more has finished
pub steps_kept : {s t : Telling} {old new : EngineValue} → IsKept s t → new.finished ≡ old.finished → StoresSteps s old → StoresSteps t new
steps_kept {s} {t} {old} {new} k same h i f at =
    let was : finished_in i old ≡ Some f = sym (ap (λ fs. at_number fs i) same) ∙ at in
    let step = h i f was in
    step_later {old = old} {new = new} (λ n g there. ap (λ fs. at_number fs n) same ∙ there) s t f k.blobs step (k.results f.action step.held.0 step.held.1)

-- a job finished as the store had recorded
pub steps_taken : {t : Telling} {w : ℕ} {v : OutcomeValue} {old new : EngineValue} → (h : IsFinished w v old new) → IsHeldWhole t h.job.action v → StoresSteps t old → StoresSteps t new
steps_taken {t} {w} {v} {old} {new} h whole all i f at = by (which h i f at)
  where
    by : (finished_in i old ≡ Some f) ⊎ ((i ≡ h.job.step) × (f ≡ came h)) → StoresStep t new f
    by (inl before) = let step = all i f before in step_later {old = old} {new = new} (grows h) t t f (λ e b at right. at) step step.held.1
    by (inr is) = subst (StoresStep t new) (sym is.1) (record {
      action = whole.action;
      trees = whole.trees;
      result = whole.held.result;
      held = whole.held.held;
      stands = inl (v, whole.held.recorded, form_same v);
    })

-- a job finished with what its child came to, and its result was put
pub steps_ran : {s t : Telling} {w : ℕ} {v : OutcomeValue} {old new : EngineValue} {Is : List ℕ → Type 0} → (h : IsFinished w v old new) → IsKeptBut h.job.action Is s t → HasRight t.blobs h.job.action → HasTrees t.blobs v
    → HasResultOf t new h.job.step h.job.action → StoresSteps s old → StoresSteps t new
steps_ran {s} {t} {w} {v} {old} {new} {Is} h kept action trees put all i f at = by (which h i f at)
  where
    -- a step of the same action has what was put
    stands : (f : FinishedValue) → HaveOneForm f.outcome v → IsForForm t.blobs new put.result f.outcome
    stands f form = inr (h.job.step, put.step, put.at, form_then (of_form h h.job.step put.step put.at (inl refl)) (form_back form), put.kept)

    by : (finished_in i old ≡ Some f) ⊎ ((i ≡ h.job.step) × (f ≡ came h)) → StoresStep t new f
    by (inr is) = subst (StoresStep t new) (sym is.1) (record {
      action = action;
      trees = trees;
      result = put.result;
      held = put.held;
      stands = stands (came h) (form_same v);
    })
    by (inl before) = next (kept.results f.action step.held.0 step.held.1)
      where
        step : StoresStep s old f
        step = all i f before

        next : (t.results f.action ≡ Some step.held.0) ⊎ ((f.action ≡ h.job.action) × HasAt Is t.results h.job.action) → StoresStep t new f
        next (inl there) = step_later {old = old} {new = new} (grows h) s t f kept.blobs step there
        next (inr (same, stands_there)) = record {
          action = right_still kept.blobs step.action;
          trees = trees_still s.blobs t.blobs f.outcome.outputs kept.blobs step.trees;
          result = put.result;
          held = (put.held.0, ap t.results same ∙ put.held.1, put.held.2);
          stands = stands f (of_form h i f at (inr same));
        }

pub steps_none : {t : Telling} {e : EngineValue} → ((i : ℕ) → finished_in i e ≡ None) → StoresSteps t e
steps_none {t} {e} none i f at = absurd (never (finished_in i e) (none i) at)
  where
    never : (o : Option FinishedValue) → o ≡ None → o ≡ Some f → ⊥
    never o e h = cc

-- ---- what is stored

no_bytes : (b : List ℕ) → digest_of b ≡ empty_digest → b ≡ []
unfolding digest_of
no_bytes [] e = refl
no_bytes (x ∷ b) e = absurd (let size = ap (λ (d : DigestValue). d.size) e in omega (arith, size))

-- right bytes under a blob's digest are the blob
pub right_blob : (B : Blobs) (b : List ℕ) → (h : HasRight B (digest_of b)) → h.0 ≡ b → IsBlobUnder B (digest_of b) b
right_blob B b h same = record { held = by (same_digest (digest_of b) empty_digest); right = refl }
  where
    by : (digest_of b ≡ empty_digest) ⊎ (digest_of b ≢ empty_digest) → IsUnder B (digest_of b) (Some b)
    by (inl empty) = inl (empty, ap (λ (x : List ℕ). Some x) (no_bytes b empty))
    by (inr n) = inr (n, ap (λ (x : List ℕ). Some x) (sym same) ∙ sym h.1)

pub all_stored : (t : Telling) (e : EngineValue) → StoresSteps t e → IsStored t e
all_stored t e h = record {
  actions = λ i f at. (h i f at).action;
  trees = λ i f at. (h i f at).trees;
  results = λ apart i f at. keeps apart f (h i f at) (h i f at).stands;
}
  where
    holds : NoClash (IsToldOrTree t.blobs e) → (i : ℕ) (f : FinishedValue) → finished_in i e ≡ Some f → HoldsTrees t.blobs f.outcome
    holds apart i f at p m there =
        let right : HasRight t.blobs (digest_of (tree_bytes m)) = (all_at (HasTree t.blobs) f.outcome.outputs ((p, outputs.Tree m)) (h i f at).trees there).0 in
        right_blob t.blobs (tree_bytes m) right (apart right.0 (tree_bytes m) (inl (digest_of (tree_bytes m), right.1)) (inr (i, f, at, (p, m, there, refl))) right.2)

    keeps : NoClash (IsToldOrTree t.blobs e) → (f : FinishedValue) → (s : StoresStep t e f) → IsForForm t.blobs e s.result f.outcome → Keeps t.blobs t.results f
    keeps apart f s (inl (v, recorded, form)) = (s.result, s.held, v, recorded, form)
    keeps apart f s (inr (k, g, at, form, kept)) =
        let here : Keeps t.blobs (λ d. Some s.held.0) g = kept.held t.blobs (λ d. Some s.held.0) g at (s.held.0, refl, s.held.2) (holds apart k g at) in
        let reads : Reads here.0 s.held.0 = subst (Reads here.0) (let is = here.1.1 in cc) here.1.2 in
        (here.0, (s.held.0, s.held.1, reads), here.2, here.3, form_then here.4 form)

-- what is stored is, when more is told
pub stored_grown : {s t : Telling} {e : EngineValue} → Grows s.blobs t.blobs → Grows s.results t.results → IsStored s e → IsStored t e
stored_grown {s} {t} {e} blobs results h = record {
  actions = λ i f at. let was = h.actions i f at in (was.0, blobs f.action was.0 was.1, was.2);
  trees = λ i f at. trees_still s.blobs t.blobs f.outcome.outputs (λ d b there right. blobs d b there) (h.trees i f at);
  results = λ apart i f at. keeps f (h.results (λ x y one other same. apart x y (more x one) (more y other) same) i f at);
}
  where
    more : (b : List ℕ) → IsToldOrTree s.blobs e b → IsToldOrTree t.blobs e b
    more b (inl (d, at)) = inl (d, blobs d b at)
    more b (inr tree) = inr tree

    keeps : (f : FinishedValue) → Keeps s.blobs s.results f → Keeps t.blobs t.results f
    keeps f (r, (bytes, held, reads), v, recorded, form) =
        (r, (bytes, results f.action bytes held, reads), v, recorded_still (λ d b at right. blobs d b at) r v recorded, form)

-- a result that was put is there
pub put_result_of : {T E : Type 0} (t : Telling) (answer : Result T E) (e : EngineValue) (i : ℕ) (d : DigestValue) (bytes : List ℕ) (r : ActionResultValue) → (f : FinishedValue) × (finished_in i e ≡ Some f)
    → OnOk answer (t.results d ≡ Some bytes) → Reads r bytes → IsKeptOf e i r → OnOk answer (HasResultOf t e i d)
put_result_of t (Ok x) e i d bytes r step held reads kept = record { step = step.0; at = step.1; result = r; held = (bytes, held, reads); kept = kept }
put_result_of t (Err x) e i d bytes r step held reads kept = tt

-- what was put reads as the result of its step
pub result_of_step : (e : EngineValue) (i : ℕ) (bytes : List ℕ) (r : ActionResultValue) → Reads r bytes → (f : FinishedValue) × (finished_in i e ≡ Some f) → ((f : FinishedValue) → finished_in i e ≡ Some f → r ≡ result_of f.outcome)
    → (b : List ℕ) → b ≡ bytes → IsResultOfStep e i b
result_of_step e i bytes r reads step value b is = (step.0, step.1, subst (Reads (result_of step.0.outcome)) (sym is) (subst (λ q. Reads q bytes) (value step.0 step.1) reads))
