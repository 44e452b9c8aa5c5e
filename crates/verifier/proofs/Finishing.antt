-- Each run can be finished: the steps start and finish once more, one after another.
use Rattle.std.proofs.Common.{◌≡◌, ℕ, zero, suc, Bool, true, false, cond, List, [], ◌∷◌, ◌++◌, Some, None, length, refl, ap, sym, ◌∙◌, subst, arith, inl, inr}
use Rattle.std.specs.Prelude.{◌==◌, ◌<◌, ◌≤◌, ◌+◌, ◌⊎◌, slice_get, get_or, Contains}
use Rattle.std.specs.List.{AllByRecursion}
use Rattle.std.specs.Map.{lookup, remove_entry}
use Rattle.std.proofs.lemmas.Bool.Decides.{Decides-eqb}
use Rattle.std.proofs.lemmas.List.{length-append}
use Rattle.std.proofs.lemmas.Option.{slice_get_within, slice_get_cases}
use Rattle.blob_digest.specs.Digest.{DigestValue}
use Rattle.action_messages.proofs.Apart.{weaker}
use Rattle.plan.specs.Plan.{AreSteps}
use Rattle.plan.specs.Values.{OriginValue, source, output, LineValue, StepValue, PlanValue, IsOrigin, IsLine}
use Rattle.tree.specs.Tree.{Tree, Leaf}
use Rattle.blob_source.specs.Source.{Blobs}
use Rattle.verifier.specs.Build.{Meaning, ActionMeaning, Outcome, Event, start, finish, State, job_of, action_of, started, finished, happens, Obeys, IsRun, HasFinishedAll}
use Rattle.verifier.specs.Headline.{PlanRun, IsBlobOfStart, IsBlobOfStarts, IsBlobAhead, HasFinished}
use Rattle.verifier.proofs.FreshRuns.{one_answer, IsGiven, Keeps}
use Rattle.verifier.proofs.KeptRuns.{keeps_event, runs_keep, may_start, nothing_is_stuck}

-- ---- a number that no job has

above_all : {A : Type 0} (js : List (ℕ × A)) → (w : ℕ) × AllByRecursion (λ (j : ℕ × A). j.0 < w) js
above_all [] = (0, tt)
above_all {A} (j ∷ js) =
    let rest = above_all js in
    (j.0 + 1 + rest.0, (omega arith, weaker (λ (k : ℕ × A). k.0 < rest.0) (λ (k : ℕ × A). k.0 < j.0 + 1 + rest.0) (λ k lt. omega (arith, lt)) js rest.1))

none_above : {A : Type 0} (w : ℕ) (js : List (ℕ × A)) → AllByRecursion (λ (j : ℕ × A). j.0 < w) js → lookup (λ k. k == w) js ≡ None
none_above w [] h = refl
none_above {A} w (j ∷ js) h = at (j.0 == w) refl (none_above w js h.1)
  where
    at : (q : Bool) → (j.0 == w) ≡ q → lookup (λ k. k == w) js ≡ None → cond q (Some j.1) (lookup (λ k. k == w) js) ≡ None
    at true is rest = let same : j.0 ≡ w = (Decides-eqb j.0 w).0 is in let lt : j.0 < w = h.0 in absurd (omega (arith, same, lt))
    at false is rest = rest

own_entry : {A : Type 0} (w : ℕ) (x : A) (js : List (ℕ × A)) → lookup (λ k. k == w) ((w, x) ∷ js) ≡ Some x
own_entry w x js = ap (λ q. cond q (Some x) (lookup (λ k. k == w) js)) ((Decides-eqb w w).1 refl)

-- ---- the first steps have finished

abbrev AreFirstDone : ℕ → List (ℕ × Outcome) → Type 0
AreFirstDone n done = (j : ℕ) → j < n → (o : Outcome) × (lookup (λ k. k == j) done ≡ Some o)

one_more_done : (n : ℕ) (o : Outcome) (done : List (ℕ × Outcome)) → AreFirstDone n done → AreFirstDone (suc n) ((n, o) ∷ done)
one_more_done n o done before j lt = at (n == j) refl
  where
    at : (q : Bool) → (n == j) ≡ q → (p : Outcome) × (cond q (Some o) (lookup (λ k. k == j) done) ≡ Some p)
    at true is = (o, refl)
    at false is = before j (omega (arith, lt, unlike))
      where
        unlike : n ≡ j → ⊥
        unlike e = let clash : true ≡ false = sym ((Decides-eqb n j).1 e) ∙ is in absurd cc

-- the lines of a step read earlier ones
step_lines : (before steps : List StepValue) → AreSteps before steps → (i : ℕ) (s : StepValue) → slice_get steps i ≡ Some s → AllByRecursion (IsLine (length before + i)) s.lines
step_lines before [] h i s e = absurd cc
step_lines before (x ∷ steps) h zero s e =
    let same : x ≡ s = cc in
    let place : length before ≡ length before + 0 = omega arith in
    subst (λ n. AllByRecursion (IsLine n) s.lines) place (subst (λ (y : StepValue). AllByRecursion (IsLine (length before)) y.lines) same h.0.lines.each)
step_lines before (x ∷ steps) h (suc i) s e =
    let one : length (before ++ x ∷ []) ≡ length before + 1 = length-append before (x ∷ []) in
    let place : length (before ++ x ∷ []) + i ≡ length before + suc i = omega (arith, one) in
    subst (λ n. AllByRecursion (IsLine n) s.lines) place (step_lines (before ++ x ∷ []) steps h.1 i s e)

lines_done : (n : ℕ) (s : State) → AreFirstDone n s.done → (ls : List LineValue) → AllByRecursion (IsLine n) ls → AllByRecursion (λ (l : LineValue). HasFinished s l.origin) ls
lines_done n s first [] h = tt
lines_done n s first (l ∷ ls) h = (one l.origin h.0.origin, lines_done n s first ls h.1)
  where
    one : (o : OriginValue) → IsOrigin n o → HasFinished s o
    one (source p) k = tt
    one (output j p) k = first j k.0

-- ---- one event more

module _ (X : List (ActionMeaning × Outcome)) (plan : PlanValue) (meaning : Meaning) (t : Tree Leaf) where
  pub run_more : (s : State) (es : List Event) (mid : State) (e : Event) (end : State)
      → IsRun X plan meaning t s es mid → Obeys X mid e → happens plan meaning t mid e ≡ Some end → IsRun X plan meaning t s (es ++ e ∷ []) end
  run_more s [] mid e end same obeys next = (subst (λ r. Obeys X r e) same obeys, end, subst (λ r. happens plan meaning t r e ≡ Some end) same next, refl)
  run_more s (f ∷ es) mid e end (ob, u, hap, rest) obeys next = (ob, u, hap, run_more u es mid e end rest obeys next)

  blobs_more : (s : State) (es : List Event) (mid : State) (e : Event) (b : List ℕ)
      → IsRun X plan meaning t s es mid → IsBlobOfStart plan meaning t mid e b → IsBlobOfStarts plan meaning t s (es ++ e ∷ []) b
  blobs_more s [] mid e b same h = inl (subst (λ r. IsBlobOfStart plan meaning t r e b) same h)
  blobs_more s (f ∷ es) mid e b (ob, u, hap, rest) h = inr (u, hap, blobs_more u es mid e b rest h)

-- ---- all steps

module _ {S : List ℕ → Type 0} {B C : Blobs} {src : DigestValue} {plan : PlanValue} {ds : List DigestValue} {run : PlanRun} (given : IsGiven S B C src plan ds run)
    (all_first : (i : ℕ) (s : StepValue) → slice_get plan.steps i ≡ Some s → slice_get given.recorded.first i ≡ Some s) (ahead : (b : List ℕ) → IsBlobAhead run.table plan run.meaning run.tree run.now b → S b) where
  abbrev IsRunTo : List Event → State → Type 0
  IsRunTo = IsRun run.table plan run.meaning run.tree run.now

  -- what can be reached with the first steps finished
  record Reached (n : ℕ) : Type 0 where
    events : List Event
    end : State
    happened : IsRunTo events end
    kept : Keeps given end
    first : AreFirstDone n end.done

  -- one event more is of the set
  event_ahead : (es : List Event) (mid : State) (e : Event) (end : State) → IsRunTo es mid → Obeys run.table mid e → happens plan run.meaning run.tree mid e ≡ Some end
      → (b : List ℕ) → IsBlobOfStart plan run.meaning run.tree mid e b → S b
  event_ahead es mid e end led obeys next b k =
      ahead b (es ++ e ∷ [], end, run_more run.table plan run.meaning run.tree run.now es mid e end led obeys next, blobs_more run.table plan run.meaning run.tree run.now es mid e b led k)

  one_step : (n : ℕ) (step : StepValue) → slice_get plan.steps n ≡ Some step → Reached n → Reached (suc n)
  one_step n step at r =
      let s = r.end in
      let above = above_all s.jobs in
      let w = above.0 in
      let free : job_of w s ≡ None = none_above w s.jobs above.1 in
      let none : length {A = StepValue} [] + n ≡ n = omega arith in
      let lines = subst (λ n. AllByRecursion (IsLine n) step.lines) none (step_lines [] plan.steps given.rules.steps n step at) in
      let a = may_start given all_first s r.kept n step at (lines_done n s r.first step.lines lines) in
      let mid : State = record s { jobs = (w, (n, a.0)) ∷ s.jobs } in
      let starts : happens plan run.meaning run.tree s (start n w) ≡ Some mid = ap (λ q. started s n w q (action_of plan run.meaning run.tree s n)) free ∙ ap (started s n w None) a.1 in
      let started_kept : Keeps given mid = keeps_event given s mid (start n w) r.kept tt (event_ahead r.events s (start n w) mid r.happened tt starts) starts in
      let led = run_more run.table plan run.meaning run.tree run.now r.events s (start n w) mid r.happened tt starts in
      let busy : job_of w mid ≡ Some (n, a.0) = own_entry w (n, a.0) s.jobs in
      let comes = (nothing_is_stuck given all_first mid started_kept).finishes w (n, a.0) busy in
      let o = comes.0 in
      let obeys : Obeys run.table mid (finish w o) = λ job is. let same : (n, a.0) ≡ job = one_answer (job_of w mid) (n, a.0) job busy is in subst (λ (j : ℕ × ActionMeaning). Contains run.table (j.1, o)) same comes.1 in
      let end : State = record { done = (n, o) ∷ mid.done; jobs = remove_entry (λ k. k == w) mid.jobs } in
      let finishes : happens plan run.meaning run.tree mid (finish w o) ≡ Some end = ap (finished mid w o) busy in
      record {
        events = (r.events ++ start n w ∷ []) ++ finish w o ∷ [];
        end = end;
        happened = run_more run.table plan run.meaning run.tree run.now (r.events ++ start n w ∷ []) mid (finish w o) end led obeys finishes;
        kept = keeps_event given mid end (finish w o) started_kept obeys (event_ahead (r.events ++ start n w ∷ []) mid (finish w o) end led obeys finishes) finishes;
        first = one_more_done n o s.done r.first;
      }

  all_steps : (n : ℕ) → n ≤ length plan.steps → Reached n
  all_steps zero le = record { events = []; end = run.now; happened = refl; kept = runs_keep given; first = λ j lt. absurd (omega (arith, lt)) }
  all_steps (suc n) le = by (slice_get_cases plan.steps n).1 (all_steps n (omega (arith, le)))
    where
      by : ((x : StepValue) × (n < length plan.steps) × (slice_get plan.steps n ≡ Some x) × (get_or plan.steps n x ≡ x)) ⊎ ((length plan.steps ≤ n) × (slice_get plan.steps n ≡ None)) → Reached n → Reached (suc n)
      by (inl (step, lt, at, own)) r = one_step n step at r
      by (inr (past, none)) r = absurd (omega (arith, le, past))

  pub can_be_finished : (more : List Event) × (end : State) × IsRunTo more end × HasFinishedAll plan end
  can_be_finished =
      let r = all_steps (length plan.steps) (omega arith) in
      (r.events, r.end, r.happened, λ j step at. r.first j (slice_get_within plan.steps j step at))
