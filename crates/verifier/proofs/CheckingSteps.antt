-- The steps one after another, while the source tells more and more.
use Rattle.std.proofs.Common.{◌≡◌, ℕ, zero, suc, ◌+◌, ◌<◌, ◌≤◌, List, [], ◌∷◌, ◌++◌, length, drop, get_or, refl, ap, sym, ◌∙◌, subst, inl, inr, arith, add-one, drop-cons}
use Rattle.std.proofs.lemmas.List.{drop_all, length-append}
use Rattle.blob_digest.specs.Digest.{DigestValue}
use Rattle.actions.specs.Outcome.{OutcomeValue}
use Rattle.plan.specs.Values.{LineValue, StepValue, PlanValue}
use Rattle.plan.specs.Plan.{AreLines, AreSteps}
use Rattle.blob_source.specs.Source.{Blobs, Telling, Grows}
use Rattle.verifier.specs.declared.verdict.Cause.{Cause}
use Rattle.verifier.specs.declared.verdict.Place.{Place}
use Rattle.verifier.specs.declared.verdict.Place.TheVariants.{Step, Root}
use Rattle.verifier.specs.declared.verdict.Verdict.TheVariants.{Yes, No}
use Rattle.tree.specs.Stage.{◌and_then◌}
use Rattle.tree.specs.MergeLooks.{looks}
use Rattle.verifier.specs.StepChecks.{step_check}
use Rattle.tree.specs.Memo.{Asked, Known, Learns}
use Rattle.tree.proofs.Learning.{learns_then, learns_refused}
use Rattle.verifier.specs.LooksAt.{StepLooksAt, StepsLookAt, RootLooksAt, PlanLooksAt}
use Rattle.verifier.specs.Verdict.{root_check, steps_check, IsVerdict}
use Rattle.verifier.proofs.ChecksThen.{stable_step, stable_steps, steady_steps}

-- whatever is told later, what the rest of the steps come to is what all steps come to
pub record StepsGoOn (A : Type 0) (told : Telling) (src : DigestValue) (steps : List StepValue) (ds : List DigestValue) (os : List OutcomeValue) (rest : List StepValue) (left : List DigestValue) : Type 0 where
  pub pass : (later : Telling) → Grows told.blobs later.blobs → Grows told.results later.results → (outcomes : List OutcomeValue)
      → (steps_check {A = A} later src os rest left).passes outcomes → (steps_check {A = A} later src [] steps ds).passes outcomes
  pub fail : (later : Telling) → Grows told.blobs later.blobs → Grows told.results later.results → (why : Place A × Cause A)
      → (steps_check later src os rest left).fails why → (steps_check later src [] steps ds).fails why
  pub look : (later : Telling) → Grows told.blobs later.blobs → Grows told.results later.results → (a : Asked)
      → StepsLookAt A later src os rest left a → StepsLookAt A later src [] steps ds a

split_at : {A : Type 0} (xs : List A) (i : ℕ) (x : A) → i < length xs → x ≡ get_or xs i x → drop i xs ≡ x ∷ drop (i + 1) xs
split_at xs i x lt is = rw (add-one, drop-cons xs i x lt) (ap (λ k. k ∷ drop (suc i) xs) (sym is))

both_grow : {B C D : Blobs} → Grows B C → Grows C D → Grows B D
both_grow g k = λ e b h. k e b (g e b h)

module _ {A : Type 0} where
  pub steps_first : (told : Telling) (src : DigestValue) (steps : List StepValue) (ds : List DigestValue) → StepsGoOn A told src steps ds [] steps ds
  steps_first told src steps ds = record { pass = λ later g k outcomes h. h; fail = λ later g k why h. h; look = λ later g k a h. h }

  module _ (old new : Telling) (src : DigestValue) (steps : List StepValue) (ds : List DigestValue) (os : List OutcomeValue) (i : ℕ) (s : StepValue) (d : DigestValue) (lt : i < length steps) (is : s ≡ get_or steps i s) (lt' : i < length ds)
      (is' : d ≡ get_or ds i d) (goes : StepsGoOn A old src steps ds os (drop i steps) (drop i ds)) (g : Grows old.blobs new.blobs) (k : Grows old.results new.results) where
    -- the steps that are left begin with this one
    all_pass : (later : Telling) → Grows new.blobs later.blobs → Grows new.results later.results → (outcomes : List OutcomeValue)
        → (steps_check {A = A} later src os (s ∷ drop (i + 1) steps) (d ∷ drop (i + 1) ds)).passes outcomes → (steps_check {A = A} later src [] steps ds).passes outcomes
    all_pass later m n outcomes h =
        goes.pass later (both_grow g m) (both_grow k n) outcomes (subst (λ xs. (steps_check {A = A} later src os xs (drop i ds)).passes outcomes) (sym (split_at steps i s lt is))
        (subst (λ ys. (steps_check {A = A} later src os (s ∷ drop (i + 1) steps) ys).passes outcomes) (sym (split_at ds i d lt' is')) h))

    all_fail : (later : Telling) → Grows new.blobs later.blobs → Grows new.results later.results → (why : Place A × Cause A)
        → (steps_check later src os (s ∷ drop (i + 1) steps) (d ∷ drop (i + 1) ds)).fails why → (steps_check later src [] steps ds).fails why
    all_fail later m n why h =
        goes.fail later (both_grow g m) (both_grow k n) why (subst (λ xs. (steps_check later src os xs (drop i ds)).fails why) (sym (split_at steps i s lt is))
        (subst (λ ys. (steps_check later src os (s ∷ drop (i + 1) steps) ys).fails why) (sym (split_at ds i d lt' is')) h))

    all_look : (later : Telling) → Grows new.blobs later.blobs → Grows new.results later.results → (a : Asked)
        → StepsLookAt A later src os (s ∷ drop (i + 1) steps) (d ∷ drop (i + 1) ds) a → StepsLookAt A later src [] steps ds a
    all_look later m n a h =
        goes.look later (both_grow g m) (both_grow k n) a (subst (λ xs. StepsLookAt A later src os xs (drop i ds) a) (sym (split_at steps i s lt is))
        (subst (λ ys. StepsLookAt A later src os (s ∷ drop (i + 1) steps) ys a) (sym (split_at ds i d lt' is')) h))

    steps_look_here : (a : Asked) → StepLooksAt A new src os s d a → StepsLookAt A new src [] steps ds a
    unfolding looks
    steps_look_here a h = all_look new (λ e b q. q) (λ e b q. q) a (inl h)

    -- the steps before have learned, and so has this one
    pub learns_step : (before : List OutcomeValue) → before ≡ os → {refused : Type 0} {k0 k1 k2 : Known} {t0 : Telling}
        → Learns (StepsLookAt A old src [] steps ds) ⊥ k0 k1 t0 old → Learns (StepLooksAt A new src before s d) refused k1 k2 old new → Learns (StepsLookAt A new src [] steps ds) refused k0 k2 t0 new
    learns_step before same h here =
        learns_then {t1 = old} ((steady_steps A src [] steps ds).still old new g k) (λ a at. steps_look_here a (subst (λ os. StepLooksAt A new src os s d a) same at)) (λ none. none) h here

    pub steps_next : (o : OutcomeValue) → (step_check {A = A} new src os s d).passes o → StepsGoOn A new src steps ds (os ++ o ∷ []) (drop (i + 1) steps) (drop (i + 1) ds)
    unfolding ◌and_then◌ looks
    steps_next o h = record {
      pass = λ later m n outcomes rest. all_pass later m n outcomes (o, (stable_step {A = A} src os s d).still new later m n o h, rest);
      fail = λ later m n why rest. all_fail later m n why (inr (o, (stable_step {A = A} src os s d).still new later m n o h, rest));
      look = λ later m n a rest. all_look later m n a (inr (o, (stable_step {A = A} src os s d).still new later m n o h, rest));
    }

    pub steps_fail : (name : List ℕ) (c : Cause A) → name ≡ s.name → (step_check new src os s d).fails c → (steps_check new src [] steps ds).fails (Step name, c)
    unfolding ◌and_then◌
    steps_fail name c same h = all_fail new (λ e b q. q) (λ e b q. q) (Step name, c) (inl (ap Step same, h))

  pub steps_end : (told : Telling) (src : DigestValue) (steps : List StepValue) (ds : List DigestValue) (os : List OutcomeValue) (i : ℕ) → length steps ≤ i → StepsGoOn A told src steps ds os (drop i steps) (drop i ds)
      → (steps_check {A = A} told src [] steps ds).passes os
  steps_end told src steps ds os i le goes =
      goes.pass told (λ e b h. h) (λ e b h. h) os (subst (λ xs. (steps_check {A = A} told src os xs (drop i ds)).passes os) (sym (drop_all i steps le)) refl)

-- the lines of a step, by the steps before it
pub step_lines : (before steps : List StepValue) (i : ℕ) (s : StepValue) → i < length steps → s ≡ get_or steps i s → AreSteps before steps → AreLines (length before + i) s.lines
step_lines before [] i s lt is h = absurd (omega arith)
step_lines before (x ∷ steps) zero s lt is h =
    let none : length before ≡ length before + 0 = omega arith in
    subst (λ n. AreLines n s.lines) none (subst (λ y. AreLines (length before) y.lines) (sym is) h.0.lines)
step_lines before (x ∷ steps) (suc i) s lt is h =
    let rest = step_lines (before ++ x ∷ []) steps i s (omega arith) is h.1 in
    let one : length (before ++ x ∷ []) ≡ length before + 1 = length-append before (x ∷ []) in
    let count : length (before ++ x ∷ []) + i ≡ length before + suc i = omega (arith, one) in
    subst (λ n. AreLines n s.lines) count rest

-- those of a plan's step, by its number
pub numbered_lines : (steps : List StepValue) (i : ℕ) (s : StepValue) → i < length steps → s ≡ get_or steps i s → AreSteps [] steps → AreLines i s.lines
numbered_lines steps i s lt is h =
    let none : length {A = StepValue} [] + i ≡ i = omega arith in
    subst (λ n. AreLines n s.lines) none (step_lines [] steps i s lt is h)

-- ---- the outcomes of the steps

pub passes_count : (A : Type 0) (told : Telling) (src : DigestValue) (before : List OutcomeValue) (steps : List StepValue) (ds : List DigestValue) (os : List OutcomeValue)
    → (steps_check {A = A} told src before steps ds).passes os → length os ≡ length before + length steps
unfolding ◌and_then◌
passes_count A told src before [] ds os h = let same = ap length h in omega (arith, same)
passes_count A told src before (s ∷ steps) [] os h = elim h [ ]
passes_count A told src before (s ∷ steps) (d ∷ ds) os h =
    let rest = passes_count A told src (before ++ h.0 ∷ []) steps ds os h.2 in
    let one : length (before ++ h.0 ∷ []) ≡ length before + 1 = length-append before (h.0 ∷ []) in
    omega (arith, rest, one)

-- ---- the verdict after the steps

module _ (A : Type 0) (told : Telling) (src : DigestValue) (plan : PlanValue) (ds : List DigestValue) (claim : DigestValue) where
  pub steps_decide : (name : List ℕ) (c : Cause A) → (steps_check told src [] plan.steps ds).fails (Step name, c) → IsVerdict told src plan ds claim (No (Step name) c)
  unfolding ◌and_then◌
  steps_decide name c h = inl h

  module _ (later : Telling) (g : Grows told.blobs later.blobs) (k : Grows told.results later.results) (os : List OutcomeValue) (h : (steps_check {A = A} told src [] plan.steps ds).passes os) where
    pub root_decides : (c : Cause A) → (root_check later src os plan.root_lines claim).fails c → IsVerdict later src plan ds claim (No Root c)
    unfolding ◌and_then◌
    root_decides c root = inr (os, (stable_steps {A = A} src [] plan.steps ds).still told later g k os h, (refl, root))

    pub all_pass_decides : (r : DigestValue) (n : ℕ) → r ≡ claim → n ≡ length os → (root_check {A = A} later src os plan.root_lines claim).passes tt → IsVerdict {A = A} later src plan ds claim (Yes r n)
    unfolding ◌and_then◌
    all_pass_decides r n is count root =
        let all = passes_count A told src [] plan.steps ds os h in
        let none : length {A = OutcomeValue} [] + length plan.steps ≡ length plan.steps = omega arith in
        (is, count ∙ all ∙ none, (os, (stable_steps {A = A} src [] plan.steps ds).still told later g k os h, root))

-- ---- what the checks of a plan look at

module _ (A : Type 0) (told : Telling) (src : DigestValue) (plan : PlanValue) (ds : List DigestValue) where
  pub plan_look_steps : (a : Asked) → StepsLookAt A told src [] plan.steps ds a → PlanLooksAt A told src plan ds a
  unfolding looks
  plan_look_steps a h = inl h

  module _ (later : Telling) (g : Grows told.blobs later.blobs) (k : Grows told.results later.results) where
    plan_look_still : (a : Asked) → StepsLookAt A told src [] plan.steps ds a → PlanLooksAt A later src plan ds a
    unfolding looks
    plan_look_still a h = inl ((steady_steps A src [] plan.steps ds).still told later g k a h)

    plan_look_root : (os : List OutcomeValue) → (steps_check {A = A} told src [] plan.steps ds).passes os → (a : Asked) → RootLooksAt A later src os plan.root_lines a → PlanLooksAt A later src plan ds a
    unfolding looks
    plan_look_root os h a at = inr (os, (stable_steps {A = A} src [] plan.steps ds).still told later g k os h, at)

    -- the steps have learned, which all pass, and so has the root
    pub learns_root : (steps : List StepValue) (lines : List LineValue) (before os : List OutcomeValue) → steps ≡ plan.steps → lines ≡ plan.root_lines → before ≡ os
        → (steps_check {A = A} told src [] steps ds).passes os → {rejected refused : Type 0} {k0 k1 k2 : Known} {t0 : Telling} → (rejected → ⊥)
        → Learns (StepsLookAt A told src [] steps ds) rejected k0 k1 t0 told → Learns (RootLooksAt A later src before lines) refused k1 k2 told later → Learns (PlanLooksAt A later src plan ds) (Unit {0}) k0 k2 t0 later
    learns_root steps lines before os these those same passes none h root =
        let all = subst (λ ss. (steps_check {A = A} told src [] ss ds).passes os) these passes in
        learns_refused (λ a at. at) tt (learns_then {both = PlanLooksAt A later src plan ds} {t1 = told} (λ a at. plan_look_still a (subst (λ ss. StepsLookAt A told src [] ss ds a) these at))
        (λ a at. plan_look_root os all a (subst (λ os. RootLooksAt A later src os plan.root_lines a) same (subst (λ ls. RootLooksAt A later src before ls a) those at)))
        none h root)
