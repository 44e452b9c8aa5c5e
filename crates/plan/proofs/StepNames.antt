-- Steps are found by their names.
use Rattle.std.proofs.Common.{◌≡◌, ℕ, zero, suc, ◌+◌, ◌<◌, ◌≤◌, Bool, true, false, not, cond, nat_eq, nat_lt, List, [], ◌∷◌, ◌++◌, length, get_or, map, Option, Some, None, MatchOption, is_some, refl, ap, sym, ◌∙◌, subst, inl, inr, arith}
use Rattle.std.specs.Prelude.{◌||◌}
use Rattle.std.specs.Cmp.Lexicographic.{pointwise, bytes_decides}
use Rattle.std.specs.List.{list_any, prefix_len, AllPass}
use Rattle.std.specs.Str.{IsAscii}
use Rattle.std.specs.declared.vec.Vec.{Vec}
use Rattle.std.proofs.lemmas.Bool.Decides.{nat_tests}
use Rattle.std.proofs.lemmas.List.{map-append}
use Rattle.indexmap.specs.IndexSet.{insert_key}
use Rattle.plan.specs.Faults.{HasStep}
use Rattle.plan.specs.Line.{IsStepName, is_step_name_byte}
use Rattle.plan.specs.Lines.{step_name}
use Rattle.plan.specs.Parts.{items_of}
use Rattle.plan.specs.Values.{StepValue}
use Rattle.plan.proofs.Directories.{has_at}

-- ---- a name is text

above : (c : ℕ) → 128 ≤ c → is_step_name_byte c ≡ false
above c h = grind arith

below : (c : ℕ) → is_step_name_byte c ≡ true → c < 128
below c h = grind (arith, above)

ascii : (name : List ℕ) → AllPass is_step_name_byte name → IsAscii name
ascii [] h i = omega arith
ascii (b ∷ bs) h zero = below b (h 0 0 (omega arith))
ascii (b ∷ bs) h (suc i) = ascii bs (λ k c lt. h (suc k) c (omega arith)) i

pub name-IsAscii : (name : List ℕ) → IsStepName name → IsAscii name
name-IsAscii name is = ascii name is.bytes

-- ---- the step of a number

pub step_name_at : (steps : List StepValue) (number : ℕ) (step : StepValue) → number < length steps → step ≡ get_or steps number step → step_name steps number ≡ step.name
step_name_at [] number step lt e = absurd (omega arith)
step_name_at (s ∷ steps) zero step lt e = ap (λ (x : StepValue). x.name) (sym e)
step_name_at (s ∷ steps) (suc number) step lt e = step_name_at steps number step (omega arith) e

abbrev pub step_names : List StepValue → List (List ℕ)
step_names steps = map (λ s. s.name) steps

chosen : (n m : ℕ) (P : Type 0) (Q : ℕ → Type 0) → (n < m → Q n) → (m ≤ n → P) → MatchOption (cond (nat_lt n m) (Some n) None) P Q
chosen n m P Q below_it past = by (nat_lt n m) refl
  where
    by : (b : Bool) → nat_lt n m ≡ b → MatchOption (cond b (Some n) None) P Q
    by true e = below_it (grind (arith, nat_tests))
    by false e = past (grind (arith, nat_tests))

module _ {A : Type 0} where
  abbrev is_key : List ℕ → Vec ℕ A → Bool
  is_key name key = pointwise nat_eq name key.items

  abbrev place : List ℕ → List (Vec ℕ A) → ℕ
  place name keys = prefix_len (λ key. not (is_key name key)) keys

  -- the place of a name among the keys is the number of its step
  numbered : (name : List ℕ) (keys : List (Vec ℕ A)) (steps : List StepValue) → items_of keys ≡ step_names steps
      → (place name keys < length keys → (place name keys < length steps) × (step_name steps (place name keys) ≡ name)) × (length keys ≤ place name keys → ¬ HasStep steps name)
  numbered name [] [] e = (λ lt. absurd (omega arith), λ _ has. has)
  numbered name [] (s ∷ steps) e = absurd (cc e)
  numbered name (k ∷ keys) [] e = absurd (cc e)
  numbered name (k ∷ keys) (s ∷ steps) e = by (is_key name k) refl (numbered name keys steps (cc e))
    where
      head : k.items ≡ s.name
      head = cc e

      by : (b : Bool) → is_key name k ≡ b
          → (place name keys < length keys → (place name keys < length steps) × (step_name steps (place name keys) ≡ name)) × (length keys ≤ place name keys → ¬ HasStep steps name)
          → (cond (not b) (1 + place name keys) 0 < length (k ∷ keys) → (cond (not b) (1 + place name keys) 0 < length (s ∷ steps)) × (step_name (s ∷ steps) (cond (not b) (1 + place name keys) 0) ≡ name))
          × (length (k ∷ keys) ≤ cond (not b) (1 + place name keys) 0 → ¬ HasStep (s ∷ steps) name)
      by true is ih = (λ _. (omega arith, sym head ∙ sym ((bytes_decides name k.items).0 is)), λ le. absurd (omega arith))
      by false is ih =
          let one : suc (place name keys) ≡ 1 + place name keys = omega arith in (
            λ lt.
                let rest = ih.0 (omega arith) in
                (omega (arith, rest.0), subst (λ (n : ℕ). step_name (s ∷ steps) n ≡ name) one rest.1),
            λ le has. elim has [
              | inl same ↦ cc (sym is ∙ (bytes_decides name k.items).1 (sym same ∙ sym head))
              | inr later ↦ ih.1 (omega arith) later
            ],
          )

  pub found_step : (name : List ℕ) (keys : List (Vec ℕ A)) (steps : List StepValue) → items_of keys ≡ step_names steps
      → MatchOption (cond (nat_lt (place name keys) (length keys)) (Some (place name keys)) None) (¬ HasStep steps name) (λ number. (number < length steps) × (step_name steps number ≡ name))
  found_step name keys steps e =
      let both = numbered name keys steps e in
      chosen (place name keys) (length keys) (¬ HasStep steps name) (λ number. (number < length steps) × (step_name steps number ≡ name)) both.0 both.1

  absent : (name : List ℕ) (keys : List (Vec ℕ A)) (steps : List StepValue) → items_of keys ≡ step_names steps → ¬ HasStep steps name → list_any (is_key name) keys ≡ false
  absent name [] steps e new = refl
  absent name (k ∷ keys) [] e new = absurd (cc e)
  absent name (k ∷ keys) (s ∷ steps) e new = by (is_key name k) refl (absent name keys steps (cc e) (λ has. new (inr has)))
    where
      head : k.items ≡ s.name
      head = cc e

      by : (b : Bool) → is_key name k ≡ b → list_any (is_key name) keys ≡ false → (b || list_any (is_key name) keys) ≡ false
      by true is none = absurd (new (inl (sym head ∙ sym ((bytes_decides name k.items).0 is))))
      by false is none = none

  -- a new name goes last, as its step does
  pub one_more : (key : Vec ℕ A) (keys : List (Vec ℕ A)) (steps : List StepValue) (step : StepValue) → items_of keys ≡ step_names steps → key.items ≡ step.name → ¬ HasStep steps step.name
      → items_of (insert_key (λ (x y : Vec ℕ A). pointwise nat_eq x.items y.items) keys key) ≡ step_names (steps ++ step ∷ [])
  one_more key keys steps step e same new =
      let none = absent key.items keys steps e (subst (λ (n : List ℕ). ¬ HasStep steps n) (sym same) new) in
      ap (λ (b : Bool). items_of (cond b keys (keys ++ key ∷ []))) none
      ∙ map-append (λ (v : Vec ℕ A). v.items) keys (key ∷ [])
      ∙ ap (λ (ns : List (List ℕ)). ns ++ key.items ∷ []) e
      ∙ ap (λ (n : List ℕ). step_names steps ++ n ∷ []) same
      ∙ sym (map-append (λ (s : StepValue). s.name) steps (step ∷ []))

-- what the number of a name tells
pub found_name : (steps : List StepValue) (name : List ℕ) (r : Option ℕ) → MatchOption r (¬ HasStep steps name) (λ number. (number < length steps) × (step_name steps number ≡ name)) → is_some r ≡ true → HasStep steps name
found_name steps name None h is = absurd (cc is)
found_name steps name (Some number) h is = subst (HasStep steps) h.1 (has_at steps number h.0)

pub new_name : (steps : List StepValue) (name : List ℕ) (r : Option ℕ) → MatchOption r (¬ HasStep steps name) (λ number. (number < length steps) × (step_name steps number ≡ name)) → is_some r ≡ false → ¬ HasStep steps name
new_name steps name None h is = h
new_name steps name (Some number) h is = absurd (cc is)
