-- The forms of outcomes, output by output; outputs that a command lists, and steps that have other outcomes.
use Rattle.std.proofs.Common.{◌≡◌, ◌↔◌, ℕ, suc, ◌+◌, ◌<◌, ◌≤◌, true, false, List, [], ◌∷◌, length, set, drop, get_or, Option, Some, None, refl, ap, sym, subst, inl, inr, add-one, drop-cons, rules}
use Rattle.std.specs.Prelude.{slice_get, Contains, Result, Ok, Err, OnOk, IfErr, is_some, ℤ, pos, negsuc, FitsSigned}
use Rattle.std.specs.Int.{w32}
use Rattle.std.proofs.lemmas.Int.{fits_signed_from_abs}
use Rattle.std.specs.Int.Signed.{mag}
use Rattle.std.specs.List.{AllByRecursion}
use Rattle.std.proofs.lemmas.List.{drop_all}
use Rattle.blob_digest.specs.Digest.{DigestValue}
use Rattle.action_messages.specs.Command.{CommandValue}
use Rattle.actions.specs.declared.outcome.Output.{Output}
use Rattle.actions.specs.Outcome.{OutputValue, OutcomeValue, output_value, output_node, outputs_in, outputs_form, paths_of_outputs}
use Rattle.tree.specs.Form.{NodeValue}
use Rattle.runs.specs.Engine.{FinishedValue, IsValidOutput, HoldValidTrees}
use Rattle.runs.specs.Calls.{IsOther, IsFirstUnlisted, IsUnlisted, IsOutcomeFault, first_kept}
use Rattle.runs.specs.declared.error.RunsError.{RunsError}
use Rattle.runs.specs.declared.error.RunsError.TheVariants as errors

split_at : {X : Type 0} (xs : List X) (i : ℕ) (x : X) → i < length xs → x ≡ get_or xs i x → drop i xs ≡ x ∷ drop (i + 1) xs
split_at xs i x lt is = rw (add-one, drop-cons xs i x lt) (ap (λ k. k ∷ drop (suc i) xs) (sym is))

-- ---- forms

module _ {A : Type 0} where
  abbrev pub HaveOne : List (List (List ℕ) × Output A) → List (List (List ℕ) × Output A) → Type 0
  HaveOne xs ys = outputs_form (outputs_in xs) ≡ outputs_form (outputs_in ys)

  pub one_length : (xs ys : List (List (List ℕ) × Output A)) → HaveOne xs ys → length xs ≡ length ys
  one_length [] [] h = refl
  one_length [] (y ∷ ys) h = cc
  one_length (x ∷ xs) [] h = cc
  one_length (x ∷ xs) (y ∷ ys) h = let rest : HaveOne xs ys = cc in ap suc (one_length xs ys rest)

  abbrev pub IsOne : List (List ℕ) × Output A → List (List ℕ) × Output A → Type 0
  IsOne x y = (x.0 ≡ y.0) × (output_node (output_value x.1) ≡ output_node (output_value y.1))

  cons_one : (x y : List (List ℕ) × Output A) (xs ys : List (List (List ℕ) × Output A)) → IsOne x y → HaveOne (x ∷ xs) (y ∷ ys) ↔ HaveOne xs ys
  cons_one x y xs ys h = (
    λ e. (let rest : HaveOne xs ys = cc in rest),
    λ e i. (h.0 i, h.1 i) ∷ e i,
  )

  one_next : (xs ys : List (List (List ℕ) × Output A)) (i : ℕ) (x y : List (List ℕ) × Output A) → i < length xs → x ≡ get_or xs i x → i < length ys → y ≡ get_or ys i y → IsOne x y → HaveOne (drop i xs) (drop i ys) ↔ HaveOne xs ys
      → HaveOne (drop (i + 1) xs) (drop (i + 1) ys) ↔ HaveOne xs ys
  one_next xs ys i x y lt is lt' is' h goes =
      let k = cons_one x y (drop (i + 1) xs) (drop (i + 1) ys) h in
      let at : HaveOne (drop i xs) (drop i ys) ≡ HaveOne (x ∷ drop (i + 1) xs) (y ∷ drop (i + 1) ys) = rw (split_at xs i x lt is, split_at ys i y lt' is') refl in
      (λ e. goes.0 (subst (λ T. T) (sym at) (k.1 e)), λ e. k.0 (subst (λ T. T) at (goes.1 e)))

  pub one_next_at : (xs ys : List (List (List ℕ) × Output A)) (i : ℕ) (x y : List (List ℕ) × Output A) → length xs ≡ length ys → i < length xs → x ≡ get_or xs i x → y ≡ get_or ys i y → IsOne x y → HaveOne (drop i xs) (drop i ys) ↔ HaveOne xs ys
      → HaveOne (drop (i + 1) xs) (drop (i + 1) ys) ↔ HaveOne xs ys
  one_next_at xs ys i x y same lt is is' h goes = one_next xs ys i x y lt is (subst (λ n. i < n) same lt) is' h goes

  pub one_differs : (xs ys : List (List (List ℕ) × Output A)) (i : ℕ) (x y : List (List ℕ) × Output A) → length xs ≡ length ys → i < length xs → x ≡ get_or xs i x → y ≡ get_or ys i y → (IsOne x y → ⊥) → HaveOne (drop i xs) (drop i ys) ↔ HaveOne xs ys → HaveOne xs ys → ⊥
  one_differs xs ys i x y same lt is is' h goes all =
      let here : HaveOne (x ∷ drop (i + 1) xs) (y ∷ drop (i + 1) ys) = subst (λ zs. HaveOne (x ∷ drop (i + 1) xs) zs) (split_at ys i y (subst (λ n. i < n) same lt) is') (subst (λ zs. HaveOne zs (drop i ys)) (split_at xs i x lt is) (goes.1 all)) in
      let pair : ◌≡◌ {A = List (List ℕ) × NodeValue} (x.0, output_node (output_value x.1)) (y.0, output_node (output_value y.1)) = cc in
      h (ap (λ (p : List (List ℕ) × NodeValue). p.0) pair, ap (λ (p : List (List ℕ) × NodeValue). p.1) pair)

  -- ---- paths that a command lists

  abbrev pub paths_of : List (List (List ℕ) × Output A) → List (List (List ℕ))
  paths_of xs = paths_of_outputs (outputs_in xs)

  pub record ListsOn (c : CommandValue) (xs rest : List (List (List ℕ) × Output A)) : Type 0 where
    pub listed : AllByRecursion (Contains c.output_paths) (paths_of rest) → AllByRecursion (Contains c.output_paths) (paths_of xs)
    pub valid : HoldValidTrees (outputs_in rest) → HoldValidTrees (outputs_in xs)
    pub unlisted : (p : List (List ℕ)) → IsFirstUnlisted c (paths_of rest) p → IsFirstUnlisted c (paths_of xs) p

  pub lists_next : (c : CommandValue) (xs : List (List (List ℕ) × Output A)) (i : ℕ) (x : List (List ℕ) × Output A) → i < length xs → x ≡ get_or xs i x → Contains c.output_paths x.0 → IsValidOutput (output_value x.1) → ListsOn c xs (drop i xs) → ListsOn c xs (drop (i + 1) xs)
  lists_next c xs i x lt is inside ok goes =
      let split = split_at xs i x lt is in
      let here = subst (ListsOn c xs) split goes in
      record { listed = λ h. here.listed (inside, h); valid = λ h. here.valid (ok, h); unlisted = λ p h. here.unlisted p (inr (inside, h)) }

  pub lists_none : (c : CommandValue) (xs : List (List (List ℕ) × Output A)) (i : ℕ) (x : List (List ℕ) × Output A) (p : List (List ℕ)) → i < length xs → x ≡ get_or xs i x → (Contains c.output_paths x.0 → ⊥) → p ≡ x.0 → ListsOn c xs (drop i xs) → IsFirstUnlisted c (paths_of xs) p
  lists_none c xs i x p lt is none same goes =
      let here = subst (ListsOn c xs) (split_at xs i x lt is) goes in
      here.unlisted p (inl (same, none))

  pub valid_end : (c : CommandValue) (xs : List (List (List ℕ) × Output A)) (i : ℕ) → length xs ≤ i → ListsOn c xs (drop i xs) → HoldValidTrees (outputs_in xs)
  valid_end c xs i le goes = (subst (ListsOn c xs) (drop_all i xs le) goes).valid tt

-- ---- other outcomes

abbrev pub NoneBefore : List (Option FinishedValue) → ℕ → ℕ → DigestValue → OutcomeValue → Type 0
NoneBefore fs n i action v = (k : ℕ) (o : Option FinishedValue) → k < n → slice_get fs k ≡ Some o → IsOther o k i action v → ⊥

-- ---- answers

pub both_ok : {T E : Type 0} {P Q R : Type 0} (r : Result T E) → (P → Q → R) → OnOk r P → OnOk r Q → OnOk r R
both_ok (Ok x) f h k = f h k
both_ok (Err e) f h k = h

pub if_err : {T E : Type 0} {P Q : E → Type 0} (r : Result T E) → ((e : E) → P e → Q e) → IfErr r P → IfErr r Q
if_err (Ok x) f h = h
if_err (Err e) f h = f e h

pub outcome_fault : {A : Type 0} (c : CommandValue) (v : OutcomeValue) (es : List (List (List ℕ) × OutputValue)) → es ≡ v.outputs → v.exit_code ≡ pos 0 → (why : RunsError A) → IsUnlisted c (paths_of_outputs es) why → IsOutcomeFault c v why
outcome_fault c v es same code (errors.Unlisted path) h = (code, subst (λ es. IsFirstUnlisted c (paths_of_outputs es) path) same h)
outcome_fault c v es same code errors.Memory h = (code, (h.0, subst (λ es. IsFirstUnlisted c (paths_of_outputs es) h.0) same h.1))
outcome_fault c v es same code errors.NotReady h = elim h [ ]
outcome_fault c v es same code errors.NoSuchJob h = elim h [ ]
outcome_fault c v es same code (errors.ExitCode n) h = elim h [ ]
outcome_fault c v es same code errors.Disagrees h = elim h [ ]
outcome_fault c v es same code (errors.Origin path) h = elim h [ ]
outcome_fault c v es same code (errors.Source why) h = elim h [ ]
outcome_fault c v es same code (errors.Conflict path) h = elim h [ ]
outcome_fault c v es same code errors.Full h = elim h [ ]

pub kept_first_some : (o : Option FinishedValue) (fs : List (Option FinishedValue)) (i : ℕ) (f : FinishedValue) → is_some o ≡ true → fs ≡ first_kept o fs i f
kept_first_some None fs i f h = cc
kept_first_some (Some g) fs i f h = refl

pub kept_first_none : (o : Option FinishedValue) (fs : List (Option FinishedValue)) (i : ℕ) (f : FinishedValue) → is_some o ≡ false → set fs i (Some f) ≡ first_kept o fs i f
kept_first_none None fs i f h = refl
kept_first_none (Some g) fs i f h = cc

-- ---- exit codes

pub fits_by_size : (z : ℤ) → mag z < 2147483648 → FitsSigned w32 z
fits_by_size (pos n) h = fits_signed_from_abs w32 (pos n) (search rules)
fits_by_size (negsuc n) h = search rules
