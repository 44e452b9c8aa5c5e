-- Whatever happens in a run of the build of two steps: its jobs run the two actions, and no two different blobs concerned share a digest.
use Rattle.std.proofs.Common.{◌≡◌, ℕ, zero, suc, List, [], ◌∷◌, Option, Some, None, refl, ap, sym, ◌∙◌, subst, arith, inl, inr}
use Rattle.std.specs.Prelude.{◌==◌, ◌⊎◌, Contains, codes, option_map, option_and_then}
use Rattle.std.specs.List.{AllByRecursion}
use Rattle.std.specs.Map.{remove_entry}
use Rattle.blob_digest.specs.Digest.{NoClash}
use Rattle.tree.specs.Merge.{merge}
use Rattle.verifier.specs.Build.{ActionMeaning, Outcome, Event, start, finish, lose, State, opening, outcome_of, job_of, output_at, action_of, happens, Obeys, IsRun, started, finished, lost}
use Rattle.verifier.specs.Headline.{IsConcerned, IsBlobAhead, IsBlobOfAction, IsBlobOfStart, IsBlobOfStarts}
use Rattle.verifier.specs.TwoSteps as two
use Rattle.verifier.proofs.FreshRuns.{found_one, kept_rest, one_answer}
use Rattle.verifier.proofs.TwoSteps.{table_valid}
use Rattle.verifier.proofs.TwoStepsRun.{is_run}
use Rattle.verifier.proofs.TwoStepsBlobs.{all_blobs, none_clash, of_nothing, of_gen, of_uses, concerned_one}

-- ---- what holds in each state

-- a job runs one of the two actions
abbrev pub IsOwnJob : ℕ × (ℕ × ActionMeaning) → Type 0
IsOwnJob j = (j.1 ≡ (0, two.gen.0)) ⊎ (j.1 ≡ (1, two.uses.0))

-- the first step came to what the table says
abbrev pub IsOwnEnd : ℕ × Outcome → Type 0
IsOwnEnd d = d.0 ≡ 0 → d.1 ≡ two.gen.1

pub record IsOwn (s : State) : Type 0 where
  pub jobs : AllByRecursion IsOwnJob s.jobs
  pub done : AllByRecursion IsOwnEnd s.done

-- ---- the actions of the steps

-- the action of the second step, by what the first came to
abbrev use_after : Option Outcome → Option ActionMeaning
use_after q = option_map (λ input. record { frame = two.uses.0.frame; command = two.uses.0.command; input = input })
    (option_and_then merge (option_and_then (λ e. option_map (λ es. (codes "data" ∷ codes "x" ∷ [], e) ∷ es) (Some []))
    (option_and_then (λ o. output_at o.outputs (codes "out" ∷ codes "a" ∷ [])) q)))

gen_action : (s : State) → action_of two.plan two.meaning two.tree s 0 ≡ Some two.gen.0
unfolding merge
gen_action s = refl

use_action : (s : State) → action_of two.plan two.meaning two.tree s 1 ≡ use_after (outcome_of 0 s)
use_action s = refl

use_made : use_after (Some two.gen.1) ≡ Some two.uses.0
unfolding merge
use_made = refl

own_action : (s : State) → IsOwn s → (i : ℕ) (a : ActionMeaning) → action_of two.plan two.meaning two.tree s i ≡ Some a → (w : ℕ) → IsOwnJob (w, (i, a))
own_action s own zero a at w = let same : two.gen.0 ≡ a = one_answer (action_of two.plan two.meaning two.tree s 0) two.gen.0 a (gen_action s) at in inl (ap (λ (a : ActionMeaning). (0, a)) (sym same))
own_action s own (suc zero) a at w = by (outcome_of 0 s) refl
  where
    by : (q : Option Outcome) → outcome_of 0 s ≡ q → IsOwnJob (w, (1, a))
    by None none =
        let nothing : use_after None ≡ Some a = ap use_after (sym none) ∙ sym (use_action s) ∙ at in
        absurd cc
    by (Some o) some =
        let first : o ≡ two.gen.1 = found_one IsOwnEnd 0 s.done o own.done some refl in
        let made : use_after (outcome_of 0 s) ≡ Some two.uses.0 = ap use_after (some ∙ ap Some first) ∙ use_made in
        let same : two.uses.0 ≡ a = one_answer (action_of two.plan two.meaning two.tree s 1) two.uses.0 a (use_action s ∙ made) at in
        inr (ap (λ (a : ActionMeaning). (1, a)) (sym same))
own_action s own (suc (suc i)) a at w = absurd cc

-- ---- from state to state

own_mid : (s mid : State) (e : Event) → IsOwn s → Obeys two.table s e → happens two.plan two.meaning two.tree s e ≡ Some mid → IsOwn mid
own_mid s mid (start i w) own obeys is = by (job_of w s) (action_of two.plan two.meaning two.tree s i) refl is
  where
    by : (busy : Option (ℕ × ActionMeaning)) (q : Option ActionMeaning) → action_of two.plan two.meaning two.tree s i ≡ q → started s i w busy q ≡ Some mid → IsOwn mid
    by (Some job) q at is = absurd cc
    by None None at is = absurd cc
    by None (Some a) at is =
        let same : ◌≡◌ {A = State} (record s { jobs = (w, (i, a)) ∷ s.jobs }) mid = cc in
        subst IsOwn same (record { jobs = (own_action s own i a at w, own.jobs); done = own.done })
own_mid s mid (finish w o) own obeys is = by (job_of w s) refl is
  where
    by : (q : Option (ℕ × ActionMeaning)) → job_of w s ≡ q → finished s w o q ≡ Some mid → IsOwn mid
    by None none is = absurd cc
    by (Some job) at is =
        let same : ◌≡◌ {A = State} (record { done = (job.0, o) ∷ s.done; jobs = remove_entry (λ k. k == w) s.jobs }) mid = cc in
        subst IsOwn same (record { jobs = kept_rest IsOwnJob w s.jobs own.jobs; done = (first (found_one IsOwnJob w s.jobs job own.jobs at), own.done) })
      where
        first : IsOwnJob (w, job) → job.0 ≡ 0 → o ≡ two.gen.1
        first (inl is) none = table_valid.same two.gen.0 o two.gen.1 (subst (λ (j : ℕ × ActionMeaning). Contains two.table (j.1, o)) is (obeys job at)) (0, omega arith, refl)
        first (inr is) none = let number : 1 ≡ 0 = ap (λ (j : ℕ × ActionMeaning). j.0) (sym is) ∙ none in absurd (omega (arith, number))
own_mid s mid (lose w) own obeys is = by (job_of w s) is
  where
    by : (q : Option (ℕ × ActionMeaning)) → lost s w q ≡ Some mid → IsOwn mid
    by None is = absurd cc
    by (Some job) is =
        let same : ◌≡◌ {A = State} (record s { jobs = remove_entry (λ k. k == w) s.jobs }) mid = cc in
        subst IsOwn same (record { jobs = kept_rest IsOwnJob w s.jobs own.jobs; done = own.done })

pub own_end : (s : State) (es : List Event) (end : State) → IsOwn s → IsRun two.table two.plan two.meaning two.tree s es end → IsOwn end
own_end s [] end own is = subst IsOwn (sym is) own
own_end s (e ∷ es) end own (obeys, mid, at, rest) = own_end mid es end (own_mid s mid e own obeys at) rest

pub own_opening : IsOwn opening
own_opening = record { jobs = tt; done = tt }

-- ---- the blobs of the actions that a run starts

of_start : (b : List ℕ) (s : State) (e : Event) → IsOwn s → IsBlobOfStart two.plan two.meaning two.tree s e b → Contains all_blobs b
of_start b s (start i w) own (a, at, h) = by (own_action s own i a at w)
  where
    by : IsOwnJob (w, (i, a)) → Contains all_blobs b
    by (inl is) = of_gen b (subst (λ (j : ℕ × ActionMeaning). IsBlobOfAction j.1 b) is h)
    by (inr is) = of_uses b (subst (λ (j : ℕ × ActionMeaning). IsBlobOfAction j.1 b) is h)
of_start b s (finish w o) own h = absurd h
of_start b s (lose w) own h = absurd h

pub of_starts : (b : List ℕ) (s : State) (es : List Event) (end : State) → IsOwn s → IsRun two.table two.plan two.meaning two.tree s es end → IsBlobOfStarts two.plan two.meaning two.tree s es b → Contains all_blobs b
of_starts b s [] end own is h = absurd h
of_starts b s (e ∷ es) end own (obeys, mid, at, rest) (inl h) = of_start b s e own h
of_starts b s (e ∷ es) end own (obeys, mid, at, rest) (inr (next, is, h)) =
    let both : ◌≡◌ {A = Option State} (Some next) (Some mid) = sym is ∙ at in
    let same : next ≡ mid = cc in
    of_starts b mid es end (own_mid s mid e own obeys at) rest (subst (λ (s : State). IsBlobOfStarts two.plan two.meaning two.tree s es b) same h)

-- ---- the run that is given, and whatever may follow it

of_all : (b : List ℕ) → IsConcerned two.blobs two.plan two.meaning two.tree two.table two.events b ⊎ IsBlobAhead two.table two.plan two.meaning two.tree two.end b → Contains all_blobs b
of_all b (inl h) = concerned_one two.tree of_nothing b h
of_all b (inr (es, end, run, h)) = of_starts b two.end es end (own_end opening two.events two.end own_opening is_run) run h

pub no_clash_ahead : NoClash (λ b. IsConcerned two.blobs two.plan two.meaning two.tree two.table two.events b ⊎ IsBlobAhead two.table two.plan two.meaning two.tree two.end b)
no_clash_ahead x y c d e = none_clash x y (of_all x c) (of_all y d) e

-- ---- the run in which nothing has happened, and whatever may follow it

of_fresh : (b : List ℕ) → IsConcerned two.blobs two.plan two.meaning two.tree two.table [] b ⊎ IsBlobAhead two.table two.plan two.meaning two.tree opening b → Contains all_blobs b
of_fresh b (inl (inl h)) = concerned_one two.tree of_nothing b (inl h)
of_fresh b (inl (inr (inl h))) = concerned_one two.tree of_nothing b (inr (inl h))
of_fresh b (inl (inr (inr (inl h)))) = concerned_one two.tree of_nothing b (inr (inr (inl h)))
of_fresh b (inl (inr (inr (inr h)))) = absurd h
of_fresh b (inr (es, end, run, h)) = of_starts b opening es end own_opening run h

pub no_clash_fresh : NoClash (λ b. IsConcerned two.blobs two.plan two.meaning two.tree two.table [] b ⊎ IsBlobAhead two.table two.plan two.meaning two.tree opening b)
no_clash_fresh x y c d e = none_clash x y (of_fresh x c) (of_fresh y d) e
