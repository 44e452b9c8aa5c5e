-- The steps that have finished, counted from turn to turn.
use Rattle.std.proofs.Common.{◌≡◌, ◌≢◌, ℕ, zero, suc, ◌+◌, ◌<◌, ◌≤◌, List, [], ◌∷◌, length, length-set, take, Option, Some, None, refl, ap, sym, ◌∙◌, subst, arith, add-one, inl, inr}
use Rattle.std.specs.Prelude.{◌⊎◌, ◌↔◌, Bool, true, false, not, if◌then◌else◌, IsTrue, Result, Ok, Err, OnOk, IsSome}
use Rattle.actions.specs.Outcome.{OutcomeValue}
use Rattle.blob_source.specs.Source.{Telling}
use Rattle.runs.specs.Engine.{FinishedValue, JobValue, EngineValue, at_number, finished_in, job_in}
use Rattle.runs.specs.Calls.{IsFinished, first_kept}
use Rattle.runs.proofs.Places.{set_other}
use Rattle.verifier.proofs.FreshRuns.{one_answer}
use Rattle.worker.specs.declared.child.Child.{Child}
use Rattle.worker.specs.declared.turns.Turn.TheVariants as turns
use Rattle.worker.specs.Values.{EndValue, Starts}
use Rattle.worker.specs.Outcomes.{Yields}
use Rattle.worker.specs.Calls.{WasStarted}
use Rattle.worker.specs.Going.{IsJobOf, AreJobsOf, IsLaunched, IsBegun, EndedWell, HasEndedFirst, FinishesOnly, one_if, step_of, taken_in}
use Rattle.worker.specs.Watching.{finished_count}
use Rattle.worker.proofs.Lefts.{one_there}
use Rattle.worker.proofs.Started.{job_of, job_is, after}

-- ---- the count

count_front : (o : Option FinishedValue) (fs : List (Option FinishedValue)) → finished_count (o ∷ fs) ≡ one_if o + finished_count fs
count_front None fs = omega arith
count_front (Some f) fs = omega arith

pub count_le : (fs : List (Option FinishedValue)) → finished_count fs ≤ length fs
count_le [] = omega arith
count_le (None ∷ fs) = let rest = count_le fs in omega (arith, rest)
count_le (Some f ∷ fs) = let rest = count_le fs in omega (arith, rest)

pub count_more : (fs : List (Option FinishedValue)) (i : ℕ) → i < length fs → finished_count (take (suc i) fs) ≡ finished_count (take i fs) + one_if (at_number fs i)
count_more [] i lt = absurd (omega (arith, lt))
count_more (None ∷ fs) zero lt = refl
count_more (Some f ∷ fs) zero lt = refl
count_more (None ∷ fs) (suc i) lt = count_more fs i (omega (arith, lt))
count_more (Some f ∷ fs) (suc i) lt = let rest = count_more fs i (omega (arith, lt)) in omega (arith, rest)

count_same : (fs gs : List (Option FinishedValue)) → length gs ≡ length fs → ((k : ℕ) → at_number gs k ≡ at_number fs k) → finished_count gs ≡ finished_count fs
count_same [] [] len same = refl
count_same [] (g ∷ gs) len same = absurd (omega (arith, len))
count_same (f ∷ fs) [] len same = absurd (omega (arith, len))
count_same (f ∷ fs) (g ∷ gs) len same =
    let rest = count_same fs gs (omega (arith, len)) (λ k. same (suc k)) in
    let here : one_if g ≡ one_if f = ap one_if (same 0) in
    let a = count_front f fs in
    let b = count_front g gs in
    omega (arith, rest, here, a, b)

-- one place alone is another
pub count_changed : (fs gs : List (Option FinishedValue)) (i : ℕ) → i < length fs → length gs ≡ length fs → ((k : ℕ) → k ≢ i → at_number gs k ≡ at_number fs k)
    → finished_count gs + one_if (at_number fs i) ≡ finished_count fs + one_if (at_number gs i)
count_changed [] gs i lt len others = absurd (omega (arith, lt))
count_changed (f ∷ fs) [] i lt len others = absurd (omega (arith, len))
count_changed (f ∷ fs) (g ∷ gs) zero lt len others =
    let rest = count_same fs gs (omega (arith, len)) (λ k. others (suc k) (λ e. cc)) in
    let a = count_front f fs in
    let b = count_front g gs in
    omega (arith, rest, a, b)
count_changed (f ∷ fs) (g ∷ gs) (suc i) lt len others =
    let rest = count_changed fs gs i (omega (arith, lt)) (omega (arith, len)) (λ k other. others (suc k) (λ e. other cc)) in
    let here : one_if g ≡ one_if f = ap one_if (others 0 (λ e. cc)) in
    let a = count_front f fs in
    let b = count_front g gs in
    omega (arith, rest, here, a, b)

none_there : (o : Option FinishedValue) → (IsSome o → ⊥) → one_if o ≡ 0
none_there None none = refl
none_there (Some f) none = absurd (none refl)

-- one more, or as many as before
module _ (fs gs : List (Option FinishedValue)) (i : ℕ) (lt : i < length fs) (len : length gs ≡ length fs) (others : (k : ℕ) → k ≢ i → at_number gs k ≡ at_number fs k) where
  as_many : (o q : Option FinishedValue) → (IsSome o → IsSome q) → (IsSome q → IsSome o) → one_if o ≡ one_if q
  as_many None None f g = refl
  as_many None (Some x) f g = absurd (let h = g refl in cc)
  as_many (Some x) None f g = absurd (let h = f refl in cc)
  as_many (Some x) (Some y) f g = refl

  pub count_next : (comes : Bool) → (comes ≡ true → IsSome (at_number gs i) × (IsSome (at_number fs i) → ⊥)) → (comes ≡ false → IsSome (at_number gs i) → IsSome (at_number fs i)) → (IsSome (at_number fs i) → IsSome (at_number gs i))
      → finished_count gs ≡ finished_count fs + (if comes then 1 else 0)
  count_next true new old still =
      let is = new refl in
      let a = one_there (at_number gs i) is.0 in
      let b = none_there (at_number fs i) is.1 in
      let both = count_changed fs gs i lt len others in
      omega (arith, a, b, both)
  count_next false new old still =
      let same = as_many (at_number gs i) (at_number fs i) (old refl) still in
      let both = count_changed fs gs i lt len others in
      omega (arith, same, both)

-- what is found before and after a turn
pub comes_of : {P Q : Type 0} (fin had comes : Bool) → IsTrue fin ↔ P → IsTrue had ↔ Q → ((fin ≡ true) × (comes ≡ not had)) ⊎ ((fin ≡ false) × (comes ≡ fin)) → (comes ≡ true → P × (Q → ⊥)) × (comes ≡ false → P → Q)
comes_of fin true comes p q (inl (f, c)) = (λ t. absurd cc, λ n x. q.0 refl)
comes_of fin false comes p q (inl (f, c)) = (λ t. (p.0 f, λ y. let h : false ≡ true = q.1 y in cc), λ n x. absurd cc)
comes_of fin had comes p q (inr (f, c)) = (λ t. absurd cc, λ n x. let h : fin ≡ true = p.1 x in absurd cc)

-- one step more is looked at
module _ (o : Option FinishedValue) (count : ℕ) (is : Bool) (next : ℕ) (found : IsTrue is ↔ IsSome o) where
  count_plus : ((is ≡ true) × (next ≡ count + 1)) ⊎ ((is ≡ false) × (next ≡ count)) → next ≡ count + one_if o
  count_plus (inl (t, e)) = let one = one_there o (found.0 t) in omega (arith, e, one)
  count_plus (inr (n, e)) = let none = none_there o (λ h. let t : is ≡ true = found.1 h in cc) in omega (arith, e, none)

pub counted_next : (fs : List (Option FinishedValue)) (i count next : ℕ) (is : Bool) → i < length fs → IsTrue is ↔ IsSome (at_number fs i) → ((is ≡ true) × (next ≡ count + 1)) ⊎ ((is ≡ false) × (next ≡ count))
    → count ≡ finished_count (take i fs) → next ≡ finished_count (take (i + 1) fs)
counted_next fs i count next is lt found by counted =
    rw add-one (let plus = count_plus (at_number fs i) count is next found by in let more = count_more fs i lt in omega (arith, plus, more, counted))

pub next_le : (count next : ℕ) (is : Bool) → ((is ≡ true) × (next ≡ count + 1)) ⊎ ((is ≡ false) × (next ≡ count)) → next ≤ count + 1
next_le count next is (inl (t, e)) = omega (arith, e)
next_le count next is (inr (n, e)) = omega (arith, e)

one_le : (o q : Option FinishedValue) → (IsSome q → IsSome o) → one_if q ≤ one_if o
one_le o None f = omega arith
one_le o (Some x) f = let one = one_there o (f refl) in omega (arith, one)

-- what is taken from the store, as the code counts it
pub taken_of : (start comes is : Bool) (i : ℕ) (old new : EngineValue) → ((comes ≡ true) × (is ≡ start)) ⊎ ((comes ≡ false) × (is ≡ comes))
    → (comes ≡ true → IsSome (finished_in i new) × (IsSome (finished_in i old) → ⊥)) → (comes ≡ false → IsSome (finished_in i new) → IsSome (finished_in i old)) → (if is then 1 else 0) ≡ taken_in start i old new
taken_of true comes is i old new (inl (t, same)) more none =
    let one = one_there (finished_in i new) (more t).0 in
    let zero_before = none_there (finished_in i old) (more t).1 in
    ap (λ b. if b then 1 else 0) same ∙ omega (arith, one, zero_before)
taken_of false comes is i old new (inl (t, same)) more none = ap (λ b. if b then 1 else 0) same
taken_of true comes is i old new (inr (f, same)) more none =
    let le = one_le (finished_in i old) (finished_in i new) (none f) in
    ap (λ b. if b then 1 else 0) (same ∙ f) ∙ omega (arith, le)
taken_of false comes is i old new (inr (f, same)) more none = ap (λ b. if b then 1 else 0) (same ∙ f)

pub bit_le : (a b : Bool) → (a ≡ true → b ≡ true) → (if a then 1 else 0) ≤ (if b then 1 else 0)
bit_le false b follows = omega arith
bit_le true true follows = omega arith
bit_le true false follows = absurd (let h = follows refl in cc)

-- ---- what a turn changes

kept_length : (fs : List (Option FinishedValue)) (o : Option FinishedValue) (i : ℕ) (f : FinishedValue) → length (first_kept o fs i f) ≡ length fs
kept_length fs None i f = length-set fs i (Some f)
kept_length fs (Some before) i f = refl

kept_other : (fs : List (Option FinishedValue)) (o : Option FinishedValue) (i k : ℕ) (f : FinishedValue) → k ≢ i → at_number (first_kept o fs i f) k ≡ at_number fs k
kept_other fs (Some before) i k f other = refl
kept_other fs None i k f other = set_other fs i k (Some f) other

kept_still : (fs : List (Option FinishedValue)) (o : Option FinishedValue) (i : ℕ) (f : FinishedValue) → at_number fs i ≡ o → IsSome o → IsSome (at_number (first_kept o fs i f) i)
kept_still fs None i f is some = absurd cc
kept_still fs (Some before) i f is some = subst IsSome (sym is) some

finishes_only : {w : ℕ} {v : OutcomeValue} {old new : EngineValue} → (h : IsFinished w v old new) → FinishesOnly h.job.step old new
finishes_only {w} {v} {old} {new} h =
    let i = h.job.step in
    let f : FinishedValue = record { action = h.job.action; outcome = v } in
    let o = finished_in i old in record {
      plan = ap (λ (e : EngineValue). e.plan) h.after;
      count = ap (λ (e : EngineValue). length e.finished) h.after ∙ kept_length old.finished o i f;
      others = λ k other. ap (λ (e : EngineValue). finished_in k e) h.after ∙ kept_other old.finished o i k f other;
      still = λ some. subst (λ (e : EngineValue). IsSome (finished_in i e)) (sym h.after) (kept_still old.finished o i f refl some);
    }

none_finishes : (i : ℕ) (old new : EngineValue) → new.plan ≡ old.plan → new.finished ≡ old.finished → FinishesOnly i old new
none_finishes i old new plan same = record {
  plan = plan;
  count = ap length same;
  others = λ k other. ap (λ fs. at_number fs k) same;
  still = λ some. subst (λ fs. IsSome (at_number fs i)) (sym same) some;
}

only_then : {i : ℕ} {old mid new : EngineValue} → FinishesOnly i old mid → FinishesOnly i mid new → FinishesOnly i old new
only_then f g = record {
  plan = g.plan ∙ f.plan;
  count = g.count ∙ f.count;
  others = λ k other. g.others k other ∙ f.others k other;
  still = λ some. g.still (f.still some);
}

module _ (A J : Type 0) (y : Yields) (may : J → EndValue → Type 0) (from to : Starts) (t u : Telling) (now new : EngineValue) where
  begun_only : (i : ℕ) (cs ds : List (Child J)) → IsBegun A y may from to t u i now new cs ds → FinishesOnly i now new
  begun_only i cs ds b = only_then started (by b.goes)
    where
      w : WasStarted A u.blobs i b.id now b.mid
      w = b.started

      started : FinishesOnly i now b.mid
      started = none_finishes i now b.mid (ap (λ (e : EngineValue). e.plan) (after w)) (ap (λ (e : EngineValue). e.finished) (after w))

      by : IsLaunched y may from to t u b.id b.job b.mid new cs ds → FinishesOnly i b.mid new
      by (inl (c, id, own, same, grown)) = none_finishes i b.mid new (ap (λ (e : EngineValue). e.plan) same) (ap (λ (e : EngineValue). e.finished) same)
      by (inr (v, f, whole, same, quiet)) =
          let of_job : f.job ≡ job_of w = one_answer (job_in b.id b.mid) f.job (job_of w) f.is (job_is w) in
          subst (λ n. FinishesOnly n b.mid new) (ap (λ (j : JobValue). j.step) of_job) (finishes_only f)

  pub start_only : {T E : Type 0} (r : Result T E) (i : ℕ) (cs ds : List (Child J)) → OnOk r (IsBegun A y may from to t u i now new cs ds) → OnOk r (FinishesOnly i now new)
  start_only (Ok x) i cs ds b = begun_only i cs ds b
  start_only (Err x) i cs ds b = tt

  ended_only : (c : Child J) (ds : List (Child J)) → AreJobsOf IsJobOf now.jobs (c ∷ ds) → EndedWell may t u c now new → FinishesOnly c.step now new
  ended_only c ds jobs e =
      let f = e.finished in
      let same : f.job ≡ jobs.0 = one_answer (job_in c.id now) f.job jobs.0 f.is jobs.1 in
      subst (λ n. FinishesOnly n now new) (ap (λ (j : JobValue). j.step) same ∙ jobs.2.step) (finishes_only f)

  pub finish_only : {T E : Type 0} (r : Result T E) (cs ds : List (Child J)) → AreJobsOf IsJobOf now.jobs cs → OnOk r (HasEndedFirst (EndedWell may t u) now new cs ds) → OnOk r (FinishesOnly (step_of turns.Finish cs) now new)
  finish_only (Ok x) cs ds jobs h =
      subst (λ xs. FinishesOnly (step_of turns.Finish xs) now new) (sym h.is) (ended_only h.child ds (subst (AreJobsOf IsJobOf now.jobs) h.is jobs) h.end)
  finish_only (Err x) cs ds jobs h = tt
