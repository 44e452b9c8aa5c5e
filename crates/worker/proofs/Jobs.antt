-- The jobs of an engine and the children that run.
use Rattle.std.proofs.Common.{◌≡◌, ◌≢◌, ℕ, zero, suc, ◌<◌, ◌≤◌, true, false, cond, List, [], ◌∷◌, ◌++◌, length, set, Option, Some, None, refl, ap, sym, ◌∙◌, subst, arith, inl, inr}
use Rattle.std.specs.Prelude.{◌⊎◌, ◌==◌, not}
use Rattle.std.specs.List.{AllByRecursion}
use Rattle.std.proofs.lemmas.Bool.Decides.{eqb_tells, Decides-eqb}
use Rattle.runs.specs.Engine.{JobValue, at_number}
use Rattle.runs.specs.Calls.{IsLeastIn, placed}
use Rattle.runs.proofs.Places.{taken_within, set_same, set_other, some_none}
use Rattle.worker.specs.declared.child.Child.{Child}
use Rattle.worker.specs.Calls.{running}
use Rattle.worker.specs.Going.{AreJobsOf, jobs_with}
use Rattle.worker.specs.Watching.{without_number}

pub least_within : (js : List (Option JobValue)) (w : ℕ) → IsLeastIn js w → w ≤ length js
least_within js zero k = omega arith
least_within js (suc w) k = let j = k.lower w (omega arith) in let lt = taken_within js w j.0 j.1 in omega (arith, lt)

pub placed_same : (js : List (Option JobValue)) (w : ℕ) (j : JobValue) → w ≤ length js → at_number (placed js w j) w ≡ Some j
placed_same [] zero j le = refl
placed_same [] (suc w) j le = absurd (omega arith)
placed_same (o ∷ js) zero j le = refl
placed_same (o ∷ js) (suc w) j le = placed_same js w j (omega arith)

pub placed_other : (js : List (Option JobValue)) (w v : ℕ) (j : JobValue) → w ≤ length js → v ≢ w → at_number (placed js w j) v ≡ at_number js v
placed_other [] zero zero j le other = absurd (other refl)
placed_other [] zero (suc v) j le other = refl
placed_other [] (suc w) v j le other = absurd (omega arith)
placed_other (o ∷ js) zero zero j le other = absurd (other refl)
placed_other (o ∷ js) zero (suc v) j le other = refl
placed_other (o ∷ js) (suc w) zero j le other = refl
placed_other (o ∷ js) (suc w) (suc v) j le other = placed_other js w v j (omega arith) (λ e. other (ap suc e))

-- one more job runs
pub running_placed : (js : List (Option JobValue)) (w : ℕ) (j : JobValue) → w ≤ length js → at_number js w ≡ None → running (placed js w j) ≡ suc (running js)
running_placed [] zero j le free = refl
running_placed [] (suc w) j le free = absurd (omega arith)
running_placed (None ∷ js) zero j le free = refl
running_placed (Some i ∷ js) zero j le free = absurd cc
running_placed (None ∷ js) (suc w) j le free = running_placed js w j (omega arith) free
running_placed (Some i ∷ js) (suc w) j le free = ap suc (running_placed js w j (omega arith) free)

-- one less
pub running_set : (js : List (Option JobValue)) (w : ℕ) (j : JobValue) → at_number js w ≡ Some j → suc (running (set js w None)) ≡ running js
running_set [] w j at = absurd cc
running_set (None ∷ js) zero j at = absurd cc
running_set (Some i ∷ js) zero j at = refl
running_set (None ∷ js) (suc w) j at = running_set js w j at
running_set (Some i ∷ js) (suc w) j at = ap suc (running_set js w j at)

set_placed : (js : List (Option JobValue)) (w v : ℕ) (j : JobValue) → w ≤ length js → v < length js → v ≢ w → set (placed js w j) v None ≡ placed (set js v None) w j
set_placed [] w v j le lt other = absurd (omega arith)
set_placed (o ∷ js) zero zero j le lt other = absurd (other refl)
set_placed (o ∷ js) zero (suc v) j le lt other = refl
set_placed (o ∷ js) (suc w) zero j le lt other = refl
set_placed (o ∷ js) (suc w) (suc v) j le lt other = ap (λ ks. o ∷ ks) (set_placed js w v j (omega arith) (omega arith) (λ e. other (ap suc e)))

set_length : (js : List (Option JobValue)) (v : ℕ) → length (set js v None) ≡ length js
set_length [] v = refl
set_length (o ∷ js) zero = refl
set_length (o ∷ js) (suc v) = ap suc (set_length js v)

set_both : (js : List (Option JobValue)) (v w : ℕ) → v ≢ w → set (set js w None) v None ≡ set (set js v None) w None
set_both [] v w other = refl
set_both (o ∷ js) zero zero other = absurd (other refl)
set_both (o ∷ js) zero (suc w) other = refl
set_both (o ∷ js) (suc v) zero other = refl
set_both (o ∷ js) (suc v) (suc w) other = ap (λ ks. o ∷ ks) (set_both js v w (λ e. other (ap suc e)))

module _ {J : Type 0} (Is : Child J → JobValue → Type 0) where
  -- a job is placed, and its child is the last
  pub jobs_added : (cs : List (Child J)) (js : List (Option JobValue)) (w : ℕ) (c : Child J) (j : JobValue) → w ≤ length js → at_number js w ≡ None → c.id ≡ w → Is c j
      → AreJobsOf Is js cs → AreJobsOf Is (placed js w j) (cs ++ c ∷ [])
  jobs_added [] js w c j le free id is none =
      let at = placed_same js w j le in
      let one = running_placed js w j le free in
      let less = running_set (placed js w j) w j at in (
        j,
        subst (λ n. at_number (placed js w j) n ≡ Some j) (sym id) at,
        is,
        subst (λ n. running (set (placed js w j) n None) ≡ 0) (sym id) (omega (arith, one, less, none)),
      )
  jobs_added (d ∷ cs) js w c j le free id is (k, at, of_d, rest) =
      let lt = taken_within js d.id k at in
      let other : d.id ≢ w = λ e. some_none (at_number js w) k (subst (λ n. at_number js n ≡ Some k) e at) free in
      let le' : w ≤ length (set js d.id None) = subst (λ n. w ≤ n) (sym (set_length js d.id)) le in
      let free' : at_number (set js d.id None) w ≡ None = set_other js d.id w None (λ e. other (sym e)) ∙ free in (
        k,
        placed_other js w d.id j le other ∙ at,
        of_d,
        subst (λ ks. AreJobsOf Is ks (cs ++ c ∷ [])) (sym (set_placed js w d.id j le lt other)) (jobs_added cs (set js d.id None) w c j le' free' id is rest),
      )

  -- a job is placed and taken away again: there may be one empty place more
  pub jobs_back : (cs : List (Child J)) (js : List (Option JobValue)) (w : ℕ) (j : JobValue) → w ≤ length js → at_number js w ≡ None → AreJobsOf Is js cs → AreJobsOf Is (set (placed js w j) w None) cs
  jobs_back [] js w j le free none =
      let one = running_placed js w j le free in
      let less = running_set (placed js w j) w j (placed_same js w j le) in
      omega (arith, one, less, none)
  jobs_back (d ∷ cs) js w j le free (k, at, of_d, rest) =
      let lt = taken_within js d.id k at in
      let other : d.id ≢ w = λ e. some_none (at_number js w) k (subst (λ n. at_number js n ≡ Some k) e at) free in
      let le' : w ≤ length (set js d.id None) = subst (λ n. w ≤ n) (sym (set_length js d.id)) le in
      let free' : at_number (set js d.id None) w ≡ None = set_other js d.id w None (λ e. other (sym e)) ∙ free in (
        k,
        set_other (placed js w j) w d.id None other ∙ placed_other js w d.id j le other ∙ at,
        of_d,
        subst (λ ks. AreJobsOf Is ks cs) (sym (set_both (placed js w j) d.id w other ∙ ap (λ ks. set ks w None) (set_placed js w d.id j le lt other))) (jobs_back cs (set js d.id None) w j le' free' rest),
      )

  -- as many jobs run as there are children
  pub jobs_count : (cs : List (Child J)) (js : List (Option JobValue)) → AreJobsOf Is js cs → running js ≡ length cs
  jobs_count [] js none = none
  jobs_count (c ∷ cs) js (j, at, of_c, rest) = let less = running_set js c.id j at in let count = jobs_count cs (set js c.id None) rest in omega (arith, less, count)

-- another relation, that follows
pub jobs_map : {J : Type 0} (Is So : Child J → JobValue → Type 0) → ((c : Child J) (j : JobValue) → Is c j → So c j) → (cs : List (Child J)) (js : List (Option JobValue)) → AreJobsOf Is js cs → AreJobsOf So js cs
jobs_map Is So follows [] js none = none
jobs_map Is So follows (c ∷ cs) js (j, at, of_c, rest) = (j, at, follows c j of_c, jobs_map Is So follows cs (set js c.id None) rest)

-- ---- the order of their starts

abbrev AreOthers : ℕ → List (ℕ × ℕ) → Type 0
AreOthers w js = AllByRecursion (λ (j : ℕ × ℕ). j.0 ≢ w) js

eq_other : (v w : ℕ) → v ≢ w → not (v == w) ≡ true
eq_other v w other = by (eqb_tells v w)
  where
    by : (((v == w) ≡ true) × (v ≡ w)) ⊎ (((v == w) ≡ false) × (v ≢ w)) → not (v == w) ≡ true
    by (inl h) = absurd (other h.1)
    by (inr h) = ap not h.0

eq_same : (w : ℕ) → not (w == w) ≡ false
eq_same w = ap not ((Decides-eqb w w).1 refl)

others_stay : (w : ℕ) (js : List (ℕ × ℕ)) → AreOthers w js → without_number w js ≡ js
others_stay w [] h = refl
others_stay w (j ∷ js) h = ap (λ b. cond b (j ∷ without_number w js) (without_number w js)) (eq_other j.0 w h.0) ∙ ap (λ ks. j ∷ ks) (others_stay w js h.1)

own_goes : (w i : ℕ) (js : List (ℕ × ℕ)) → without_number w ((w, i) ∷ js) ≡ without_number w js
own_goes w i js = ap (λ b. cond b ((w, i) ∷ without_number w js) (without_number w js)) (eq_same w)

last_goes : (w i : ℕ) (js : List (ℕ × ℕ)) → AreOthers w js → without_number w (js ++ (w, i) ∷ []) ≡ js
last_goes w i [] h = own_goes w i []
last_goes w i (j ∷ js) h = ap (λ b. cond b (j ∷ without_number w (js ++ (w, i) ∷ [])) (without_number w (js ++ (w, i) ∷ []))) (eq_other j.0 w h.0) ∙ ap (λ ks. j ∷ ks) (last_goes w i js h.1)

others_of : {J : Type 0} (Is : Child J → JobValue → Type 0) (cs : List (Child J)) (js : List (Option JobValue)) (w : ℕ) → at_number js w ≡ None → AreJobsOf Is js cs → AreOthers w (jobs_with cs)
others_of Is [] js w free h = tt
others_of Is (d ∷ cs) js w free (k, at, of_d, rest) =
    let other : d.id ≢ w = λ e. some_none (at_number js w) k (subst (λ n. at_number js n ≡ Some k) e at) free in
    (other, others_of Is cs (set js d.id None) w (set_other js d.id w None (λ e. other (sym e)) ∙ free) rest)

-- the first child's job is taken away
pub first_goes : {J : Type 0} (Is : Child J → JobValue → Type 0) (c : Child J) (cs : List (Child J)) (js : List (Option JobValue)) → AreJobsOf Is js (c ∷ cs) → without_number c.id (jobs_with (c ∷ cs)) ≡ jobs_with cs
first_goes Is c cs js (j, at, of_c, rest) =
    own_goes c.id c.step (jobs_with cs) ∙ others_stay c.id (jobs_with cs) (others_of Is cs (set js c.id None) c.id (set_same js c.id None (taken_within js c.id j at)) rest)

-- a job is placed and taken away again
pub placed_goes : {J : Type 0} (Is : Child J → JobValue → Type 0) (cs : List (Child J)) (js : List (Option JobValue)) (w i : ℕ) → at_number js w ≡ None → AreJobsOf Is js cs → without_number w (jobs_with cs ++ (w, i) ∷ []) ≡ jobs_with cs
placed_goes Is cs js w i free h = last_goes w i (jobs_with cs) (others_of Is cs js w free h)
