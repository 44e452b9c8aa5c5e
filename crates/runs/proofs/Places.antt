-- Lists of places, some of which are taken, and tables with keys.
use Rattle.std.proofs.Common.{◌≡◌, ◌≢◌, ℕ, zero, suc, ◌<◌, Bool, true, false, cond, List, [], ◌∷◌, length, set, get_or, Option, Some, None, refl, ap, sym, ◌∙◌, subst, arith, inl, inr}
use Rattle.std.specs.Prelude.{◌==◌, ◌⊎◌, ◌↔◌, slice_get, is_some, option_map, IsTrue}
use Rattle.std.specs.Borrow.{Bor}
use Rattle.std.specs.Option.{option_copied}
use Rattle.std.specs.Map.{lookup, remove_entry}
use Rattle.std.proofs.lemmas.Bool.Decides.{Decides-eqb}
use Rattle.actions.specs.Outcome.{OutcomeValue}
use Rattle.plan.specs.Values.{StepValue}
use Rattle.runs.specs.Engine.{EngineValue, FinishedValue, at_number}
use Rattle.runs.specs.Looking.{outcomes_in}

pub some_none : {X : Type 0} (o : Option X) (x : X) → o ≡ Some x → o ≡ None → ⊥
some_none o x e f = let both : ◌≡◌ {A = Option _} (Some x) None = sym e ∙ f in cc

-- ---- places

module _ {X : Type 0} where
  pub taken_within : (xs : List (Option X)) (i : ℕ) (x : X) → at_number xs i ≡ Some x → i < length xs
  taken_within [] i x h = cc
  taken_within (o ∷ xs) zero x h = omega arith
  taken_within (o ∷ xs) (suc i) x h = let rest = taken_within xs i x h in omega (arith, rest)

  pub set_same : (xs : List (Option X)) (i : ℕ) (o : Option X) → i < length xs → at_number (set xs i o) i ≡ o
  set_same [] i o lt = absurd (omega arith)
  set_same (y ∷ xs) zero o lt = refl
  set_same (y ∷ xs) (suc i) o lt = set_same xs i o (omega arith)

  pub set_other : (xs : List (Option X)) (i j : ℕ) (o : Option X) → j ≢ i → at_number (set xs i o) j ≡ at_number xs j
  set_other [] i j o other = refl
  set_other (y ∷ xs) zero zero o other = absurd (other refl)
  set_other (y ∷ xs) zero (suc j) o other = refl
  set_other (y ∷ xs) (suc i) zero o other = refl
  set_other (y ∷ xs) (suc i) (suc j) o other = set_other xs i j o (λ e. other (ap suc e))

  -- what stands in a list with one place changed stood there before, or is the new one
  pub set_at : (xs : List (Option X)) (i j : ℕ) (o : Option X) (x : X) → at_number (set xs i o) j ≡ Some x → (o ≡ Some x → ⊥) → at_number xs j ≡ Some x
  set_at [] i j o x h new = h
  set_at (y ∷ xs) zero zero o x h new = absurd (new h)
  set_at (y ∷ xs) zero (suc j) o x h new = h
  set_at (y ∷ xs) (suc i) zero o x h new = h
  set_at (y ∷ xs) (suc i) (suc j) o x h new = set_at xs i j o x h new

-- ---- tables

eq_same : (w : ℕ) → (w == w) ≡ true
eq_same w = (Decides-eqb w w).1 refl

eq_other : (v w : ℕ) → v ≢ w → (v == w) ≡ false
eq_other v w other = by (v == w) refl
  where
    by : (b : Bool) → (v == w) ≡ b → (v == w) ≡ false
    by true is = absurd (other ((Decides-eqb v w).0 is))
    by false is = is

module _ {A : Type 0} where
  -- no key comes twice
  abbrev pub AreKeyed : List (ℕ × A) → Type 0
  AreKeyed [] = Unit {0}
  AreKeyed (e ∷ es) = (lookup (λ k. k == e.0) es ≡ None) × AreKeyed es

  pub removed_same : (es : List (ℕ × A)) (w : ℕ) → AreKeyed es → lookup (λ k. k == w) (remove_entry (λ k. k == w) es) ≡ None
  removed_same [] w keyed = refl
  removed_same (e ∷ es) w keyed = by (e.0 == w) refl (removed_same es w keyed.1)
    where
      by : (b : Bool) → (e.0 == w) ≡ b → lookup (λ k. k == w) (remove_entry (λ k. k == w) es) ≡ None → lookup (λ k. k == w) (cond b es (e ∷ remove_entry (λ k. k == w) es)) ≡ None
      by true is rest = let same = (Decides-eqb e.0 w).0 is in subst (λ v. lookup (λ k. k == v) es ≡ None) same keyed.0
      by false is rest = ap (λ b. cond b (Some e.1) (lookup (λ k. k == w) (remove_entry (λ k. k == w) es))) is ∙ rest

  pub removed_other : (es : List (ℕ × A)) (w v : ℕ) → v ≢ w → lookup (λ k. k == v) (remove_entry (λ k. k == w) es) ≡ lookup (λ k. k == v) es
  removed_other [] w v other = refl
  removed_other (e ∷ es) w v other = by (e.0 == w) refl (removed_other es w v other)
    where
      by : (b : Bool) → (e.0 == w) ≡ b → lookup (λ k. k == v) (remove_entry (λ k. k == w) es) ≡ lookup (λ k. k == v) es
          → lookup (λ k. k == v) (cond b es (e ∷ remove_entry (λ k. k == w) es)) ≡ cond (e.0 == v) (Some e.1) (lookup (λ k. k == v) es)
      by true is rest = let same = (Decides-eqb e.0 w).0 is in sym (ap (λ b. cond b (Some e.1) (lookup (λ k. k == v) es)) (eq_other e.0 v (λ f. other (sym f ∙ same))))
      by false is rest = ap (cond (e.0 == v) (Some e.1)) rest

  removed_none : (es : List (ℕ × A)) (w v : ℕ) → lookup (λ k. k == v) es ≡ None → lookup (λ k. k == v) (remove_entry (λ k. k == w) es) ≡ None
  removed_none [] w v none = refl
  removed_none (e ∷ es) w v none = by (e.0 == v) refl none (removed_none es w v)
    where
      by : (b : Bool) → (e.0 == v) ≡ b → cond b (Some e.1) (lookup (λ k. k == v) es) ≡ None → (lookup (λ k. k == v) es ≡ None → lookup (λ k. k == v) (remove_entry (λ k. k == w) es) ≡ None)
          → lookup (λ k. k == v) (remove_entry (λ k. k == w) (e ∷ es)) ≡ None
      by true is none rest = absurd cc
      by false is none rest =
          elim (e.0 == w) as (λ b. lookup (λ k. k == v) (cond b es (e ∷ remove_entry (λ k. k == w) es)) ≡ None) [
            | true ↦ none
            | false ↦ ap (λ b. cond b (Some e.1) (lookup (λ k. k == v) (remove_entry (λ k. k == w) es))) is ∙ rest none
          ]

  pub keyed_removed : (es : List (ℕ × A)) (w : ℕ) → AreKeyed es → AreKeyed (remove_entry (λ k. k == w) es)
  keyed_removed [] w keyed = tt
  keyed_removed (e ∷ es) w keyed = elim (e.0 == w) as (λ b. AreKeyed (cond b es (e ∷ remove_entry (λ k. k == w) es))) [
    | true ↦ keyed.1
    | false ↦ (removed_none es w e.0 keyed.0, keyed_removed es w keyed.1)
  ]

  -- an entry in front is found first
  pub first_same : (es : List (ℕ × A)) (w : ℕ) (x : A) → lookup (λ k. k == w) ((w, x) ∷ es) ≡ Some x
  first_same es w x = ap (λ b. cond b (Some x) (lookup (λ k. k == w) es)) (eq_same w)

  pub first_other : (es : List (ℕ × A)) (w v : ℕ) (x : A) → v ≢ w → lookup (λ k. k == v) ((w, x) ∷ es) ≡ lookup (λ k. k == v) es
  first_other es w v x other = ap (λ b. cond b (Some x) (lookup (λ k. k == v) es)) (eq_other w v (λ e. other (sym e)))

  -- what is found is the entry in front or was there before
  pub found_behind : (es : List (ℕ × A)) (w v : ℕ) (x y : A) → lookup (λ k. k == v) ((w, x) ∷ es) ≡ Some y → ((w ≡ v) × (x ≡ y)) ⊎ (lookup (λ k. k == v) es ≡ Some y)
  found_behind es w v x y = by (w == v) refl
    where
      by : (b : Bool) → (w == v) ≡ b → cond b (Some x) (lookup (λ k. k == v) es) ≡ Some y → ((w ≡ v) × (x ≡ y)) ⊎ (lookup (λ k. k == v) es ≡ Some y)
      by true is h = inl ((Decides-eqb w v).0 is, cc)
      by false is h = inr h

-- ---- what a call answers by reference

pub no_answer : {J : Type 0} (o : Option (Bor J)) (q : Option J) → option_copied o ≡ q → is_some o ≡ false → q ≡ None
no_answer None q is none = sym is
no_answer (Some j) q is none = cc

pub an_answer : {J : Type 0} (o : Option (Bor J)) (q : Option J) → option_copied o ≡ q → is_some o ≡ true → (j : J) × (q ≡ Some j)
an_answer None q is some = cc
an_answer (Some j) q is some = (j.now, sym is)

-- ---- what an index reads

pub item_at : {X : Type 0} (xs : List (Option X)) (i : ℕ) (o : Option X) → i < length xs → o ≡ get_or xs i o → at_number xs i ≡ o
item_at [] i o lt is = absurd (omega arith)
item_at (y ∷ xs) zero o lt is = sym is
item_at (y ∷ xs) (suc i) o lt is = item_at xs i o (omega arith) is

pub element_at : {X : Type 0} (xs : List X) (i : ℕ) (x : X) → i < length xs → x ≡ get_or xs i x → slice_get xs i ≡ Some x
element_at [] i x lt is = absurd (omega arith)
element_at (y ∷ xs) zero x lt is = ap Some (sym is)
element_at (y ∷ xs) (suc i) x lt is = element_at xs i x (omega arith) is

pub some_there : {X : Type 0} (o : Option X) (b : Bool) → b ≡ is_some o → IsTrue b ↔ ((x : X) × (o ≡ Some x))
some_there None b is = (λ h. absurd (let both : true ≡ false = sym h ∙ is in cc), λ h. cc h.1)
some_there (Some x) b is = (λ _. (x, refl), λ h. is)

pub has_one : {X : Type 0} (xs : List X) (i : ℕ) → i < length xs → (x : X) × (slice_get xs i ≡ Some x)
has_one [] i lt = absurd (omega arith)
has_one (x ∷ xs) zero lt = (x, refl)
has_one (x ∷ xs) (suc i) lt = has_one xs i (omega arith)

-- ---- what steps came to

pub outcome_is : (fs : List (Option FinishedValue)) (i : ℕ) (f : FinishedValue) → at_number fs i ≡ Some f → outcomes_in fs i ≡ Some f.outcome
outcome_is fs i f is = ap (option_map (λ (f : FinishedValue). f.outcome)) is

pub finished_of : (fs : List (Option FinishedValue)) (i : ℕ) (o : OutcomeValue) → outcomes_in fs i ≡ Some o → (f : FinishedValue) × (at_number fs i ≡ Some f) × (f.outcome ≡ o)
finished_of fs i o = by (at_number fs i) refl
  where
    by : (q : Option FinishedValue) → at_number fs i ≡ q → option_map (λ (f : FinishedValue). f.outcome) q ≡ Some o → (f : FinishedValue) × (at_number fs i ≡ Some f) × (f.outcome ≡ o)
    by None is h = cc
    by (Some f) is h = (f, is, cc)

-- a step of an engine's plan, by its number
pub step_at : {inside e : EngineValue} {i : ℕ} {s : StepValue} {steps : List StepValue} → inside ≡ e → i < length e.plan.steps → s ≡ get_or steps i s → steps ≡ inside.plan.steps → slice_get e.plan.steps i ≡ Some s
step_at {inside} {e} {i} {s} view lt is same =
    let within = subst (λ (e : EngineValue). i < length e.plan.steps) (sym view) lt in
    ap (λ (e : EngineValue). slice_get e.plan.steps i) (sym view) ∙ element_at inside.plan.steps i s within (is ∙ ap (λ ss. get_or ss i s) same)
