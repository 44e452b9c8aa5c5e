-- The first path at which outcomes differ, and the first step at which builds do.
use Rattle.std.proofs.Common.{◌≡◌, ◌≢◌, ◌↔◌, ℕ, zero, suc, ◌+◌, ◌<◌, ◌≤◌, List, [], ◌∷◌, length, drop, get_or, Option, Some, None, refl, ap, sym, ◌∙◌, subst, arith, inl, inr, Less, add-one}
use Rattle.std.specs.Prelude.{◌⊎◌, pos, Contains, slice_get}
use Rattle.std.proofs.lemmas.Bool.{cases_lt}
use Rattle.std.proofs.lemmas.List.{drop_all}
use Rattle.std.proofs.lemmas.Option.{slice_get_read}
use Rattle.messages.specs.Order.{bytes_cmp}
use Rattle.messages.specs.Path.{text_cmp}
use Rattle.action_messages.proofs.Searches.{bytes_trans}
use Rattle.actions.specs.declared.outcome.Output.{Output}
use Rattle.actions.specs.Outcome.{OutputValue, OutcomeValue, IsOutcome, output_value, output_node, outputs_in, outputs_form}
use Rattle.tree.specs.Form.{NodeValue}
use Rattle.tree.specs.Tree.{Name}
use Rattle.verifier.specs.Compared.{RecordedStepValue, HaveSucceeded, DifferFirstAt, IsFirstDifference, IsLesserPath, AreStepsAlike, AreStepsAlikeBelow}
use Rattle.verifier.proofs.FreshRuns.{one_answer}
use Rattle.verifier.proofs.SameForms.{Row, Sorted, text, never_less, behind_less, front_or, in_front, further, none, not_there, alone, form_sorted}

-- ---- rows in the order of their paths' texts

-- what comes before a text in a list whose head is first, so does the head
below_head : (f : Row) (fs : List Row) (r : Row) (t : List ℕ) → Sorted (f ∷ fs) → Contains (f ∷ fs) r → bytes_cmp (text r) t ≡ Less → bytes_cmp (text f) t ≡ Less
below_head f fs r t up here less = by (front_or f fs r here)
  where
    by : (f ≡ r) ⊎ Contains fs r → bytes_cmp (text f) t ≡ Less
    by (inl is) = subst (λ (y : Row). bytes_cmp (text y) t ≡ Less) (sym is) less
    by (inr h) = bytes_trans (text f) (text r) t (behind_less f fs r up.0 h) less

-- nothing comes before the head
before_head : (e : Row) (es : List Row) (r : Row) → Sorted (e ∷ es) → bytes_cmp (text r) (text e) ≡ Less → Contains (e ∷ es) r → ⊥
before_head e es r up less here = never_less e (below_head e es r (text e) up here less)

same_before : {X Y : Type 0} → (X → ⊥) → (Y → ⊥) → X ↔ Y
same_before f g = (λ x. absurd (f x), λ y. absurd (g y))

heads_differ : (e f : Row) (es fs : List Row) → Sorted (e ∷ es) → Sorted (f ∷ fs) → e ≢ f → (path : List Name) → IsLesserPath e.0 f.0 path → DifferFirstAt (e ∷ es) (f ∷ fs) path
heads_differ e f es fs up also other path (inl (less, is)) =
    subst (λ p. DifferFirstAt (e ∷ es) (f ∷ fs) p) (sym is) (record {
      differ = (f.1, inr (not_there f e es up (λ same. other (sym same)) (λ back. never_less e (bytes_trans (text e) (text f) (text e) back less)), in_front f fs));
      before = λ q x first. same_before
          (λ here. never_less e (bytes_trans (text e) (text f) (text e) (below_head e es (q, x) (text f) up here first) less))
          (before_head f fs (q, x) also first);
    })
heads_differ e f es fs up also other path (inr (not, is)) =
    subst (λ p. DifferFirstAt (e ∷ es) (f ∷ fs) p) (sym is) (record {
      differ = (e.1, inl (in_front e es, not_there e f fs also other not));
      before = λ q x first. same_before
          (before_head e es (q, x) up first)
          (λ here. not (below_head f fs (q, x) (text e) also here first));
    })

left_over : (e : Row) (es : List Row) → Sorted (e ∷ es) → DifferFirstAt (e ∷ es) [] e.0
left_over e es up = record { differ = (e.1, inl (in_front e es, none e)); before = λ q x first. same_before (before_head e es (q, x) up first) (none (q, x)) }

right_over : (f : Row) (fs : List Row) → Sorted (f ∷ fs) → DifferFirstAt [] (f ∷ fs) f.0
right_over f fs up = record { differ = (f.1, inr (none f, in_front f fs)); before = λ q x first. same_before (none (q, x)) (before_head f fs (q, x) up first) }

behind_same : (e f : Row) (es fs : List Row) → Sorted (e ∷ es) → Sorted (f ∷ fs) → e ≡ f → (found : Option (List Name)) → IsFirstDifference es fs found → IsFirstDifference (e ∷ es) (f ∷ fs) found
behind_same e f es fs up also is None same = λ i. is i ∷ same i
behind_same e f es fs up also is (Some path) d = record {
  differ = (d.differ.0, alone e f es fs up also is (path, d.differ.0) d.differ.1);
  before = λ q x first. (λ here. there q x first (front_or e es (q, x) here), λ here. back q x first (front_or f fs (q, x) here));
}
  where
    there : (q : List Name) (x : NodeValue) → text_cmp q path ≡ Less → (e ≡ (q, x)) ⊎ Contains es (q, x) → Contains (f ∷ fs) (q, x)
    there q x first (inl same) = subst (λ (r : Row). Contains (f ∷ fs) r) (sym is ∙ same) (in_front f fs)
    there q x first (inr h) = further f fs (q, x) ((d.before q x first).0 h)

    back : (q : List Name) (x : NodeValue) → text_cmp q path ≡ Less → (f ≡ (q, x)) ⊎ Contains fs (q, x) → Contains (e ∷ es) (q, x)
    back q x first (inl same) = subst (λ (r : Row). Contains (e ∷ es) r) (is ∙ same) (in_front e es)
    back q x first (inr h) = further e es (q, x) ((d.before q x first).1 h)

-- ---- outputs, one after another

split_here : {X : Type 0} (xs : List X) (i : ℕ) (x : X) → slice_get xs i ≡ Some x → drop i xs ≡ x ∷ drop (suc i) xs
split_here [] i x e = absurd cc
split_here (y ∷ xs) zero x e = let same : y ≡ x = cc in λ i. same i ∷ xs
split_here (y ∷ xs) (suc i) x e = split_here xs i x e

module _ {A : Type 0} where
  abbrev pub rows : List (List Name × Output A) → List Row
  rows xs = outputs_form (outputs_in xs)

  abbrev row : List Name × Output A → Row
  row x = (x.0, output_node (output_value x.1))

  -- the first difference of what is left is that of the whole
  pub record OnFirst (xs ys : List (List Name × Output A)) (i : ℕ) : Type 0 where
    pub one : Sorted (rows (drop i xs))
    pub other : Sorted (rows (drop i ys))
    pub goes : (found : Option (List Name)) → IsFirstDifference (rows (drop i xs)) (rows (drop i ys)) found → IsFirstDifference (rows xs) (rows ys) found

  pub from_first : (xs ys : List (List Name × Output A)) → Sorted (rows xs) → Sorted (rows ys) → OnFirst xs ys 0
  from_first xs ys up also = record { one = up; other = also; goes = λ found h. h }

  record OnHeads (xs ys : List (List Name × Output A)) (i : ℕ) (x y : List Name × Output A) : Type 0 where
    one : Sorted (row x ∷ rows (drop (suc i) xs))
    other : Sorted (row y ∷ rows (drop (suc i) ys))
    goes : (found : Option (List Name)) → IsFirstDifference (row x ∷ rows (drop (suc i) xs)) (row y ∷ rows (drop (suc i) ys)) found → IsFirstDifference (rows xs) (rows ys) found

  on_heads : (xs ys : List (List Name × Output A)) (i : ℕ) (x y : List Name × Output A) → slice_get xs i ≡ Some x → slice_get ys i ≡ Some y → OnFirst xs ys i → OnHeads xs ys i x y
  on_heads xs ys i x y at there h =
      let here = split_here xs i x at in
      let twin = split_here ys i y there in
      record {
        one = subst (λ (zs : List (List Name × Output A)). Sorted (rows zs)) here h.one;
        other = subst (λ (zs : List (List Name × Output A)). Sorted (rows zs)) twin h.other;
        goes = λ found d. h.goes found (subst (λ (zs : List (List Name × Output A)). IsFirstDifference (rows zs) (rows (drop i ys)) found) (sym here) (subst (λ (zs : List (List Name × Output A)). IsFirstDifference (row x ∷ rows (drop (suc i) xs)) (rows zs) found) (sym twin) d));
      }

  abbrev pub AreSame : List Name × Output A → List Name × Output A → Type 0
  AreSame x y = (x.0 ≡ y.0) × (output_node (output_value x.1) ≡ output_node (output_value y.1))

  one_row : (x y : List Name × Output A) → AreSame x y → row x ≡ row y
  one_row x y h = λ i. (h.0 i, h.1 i)

  pub next_first : (xs ys : List (List Name × Output A)) (i : ℕ) (x y : List Name × Output A) → slice_get xs i ≡ Some x → slice_get ys i ≡ Some y → AreSame x y → OnFirst xs ys i → OnFirst xs ys (i + 1)
  next_first xs ys i x y at there same h =
      let heads = on_heads xs ys i x y at there h in
      subst (λ n. OnFirst xs ys n) (sym (add-one i)) (record {
        one = heads.one.1;
        other = heads.other.1;
        goes = λ found d. heads.goes found (behind_same (row x) (row y) (rows (drop (suc i) xs)) (rows (drop (suc i) ys)) heads.one heads.other (one_row x y same) found d);
      })

  pub here_first : (xs ys : List (List Name × Output A)) (i : ℕ) (x y : List Name × Output A) (path : List Name) → slice_get xs i ≡ Some x → slice_get ys i ≡ Some y → (AreSame x y → ⊥) → IsLesserPath x.0 y.0 path → OnFirst xs ys i → DifferFirstAt (rows xs) (rows ys) path
  here_first xs ys i x y path at there other lesser h =
      let heads = on_heads xs ys i x y at there h in
      heads.goes (Some path) (heads_differ (row x) (row y) (rows (drop (suc i) xs)) (rows (drop (suc i) ys)) heads.one heads.other (λ same. other (ap (λ (r : Row). r.0) same, ap (λ (r : Row). r.1) same)) path lesser)

  pub left_first : (xs ys : List (List Name × Output A)) (i : ℕ) (x : List Name × Output A) → slice_get xs i ≡ Some x → length ys ≤ i → OnFirst xs ys i → DifferFirstAt (rows xs) (rows ys) x.0
  left_first xs ys i x at past h =
      let here = split_here xs i x at in
      let end = drop_all i ys past in
      let up : Sorted (row x ∷ rows (drop (suc i) xs)) = subst (λ (zs : List (List Name × Output A)). Sorted (rows zs)) here h.one in
      h.goes (Some x.0) (subst (λ (zs : List (List Name × Output A)). DifferFirstAt (rows zs) (rows (drop i ys)) x.0) (sym here) (subst (λ (zs : List (List Name × Output A)). DifferFirstAt (row x ∷ rows (drop (suc i) xs)) (rows zs) x.0) (sym end) (left_over (row x) (rows (drop (suc i) xs)) up)))

  pub right_first : (xs ys : List (List Name × Output A)) (i : ℕ) (y : List Name × Output A) → length xs ≤ i → slice_get ys i ≡ Some y → OnFirst xs ys i → DifferFirstAt (rows xs) (rows ys) y.0
  right_first xs ys i y past there h =
      let twin = split_here ys i y there in
      let end = drop_all i xs past in
      let up : Sorted (row y ∷ rows (drop (suc i) ys)) = subst (λ (zs : List (List Name × Output A)). Sorted (rows zs)) twin h.other in
      h.goes (Some y.0) (subst (λ (zs : List (List Name × Output A)). DifferFirstAt (rows zs) (rows (drop i ys)) y.0) (sym end) (subst (λ (zs : List (List Name × Output A)). DifferFirstAt [] (rows zs) y.0) (sym twin) (right_over (row y) (rows (drop (suc i) ys)) up)))

  pub none_first : (xs ys : List (List Name × Output A)) (i : ℕ) → length xs ≤ i → length ys ≤ i → OnFirst xs ys i → rows xs ≡ rows ys
  none_first xs ys i past over h =
      h.goes None (ap rows (drop_all i xs past ∙ sym (drop_all i ys over)))

  pub got : (xs : List (List Name × Output A)) (i : ℕ) (x : List Name × Output A) → i < length xs → x ≡ get_or xs i x → slice_get xs i ≡ Some x
  got xs i x lt is = slice_get_read xs (length xs) i x refl lt is

  -- what is said of outputs is said of the outcomes that have them
  pub of_outcomes : (v w : OutcomeValue) (xs ys : List (List Name × Output A)) (found : Option (List Name)) → outputs_in xs ≡ v.outputs → outputs_in ys ≡ w.outputs → IsFirstDifference (rows xs) (rows ys) found → IsFirstDifference (outputs_form v.outputs) (outputs_form w.outputs) found
  of_outcomes v w xs ys found is also d =
      subst (λ (es : List (List Name × OutputValue)). IsFirstDifference (outputs_form es) (outputs_form w.outputs) found) is
      (subst (λ (fs : List (List Name × OutputValue)). IsFirstDifference (rows xs) (outputs_form fs) found) also d)

  pub sorted_rows : (v : OutcomeValue) (xs : List (List Name × Output A)) → outputs_in xs ≡ v.outputs → IsOutcome v → Sorted (rows xs)
  sorted_rows v xs is valid = subst (λ (es : List (List Name × OutputValue)). Sorted (outputs_form es)) (sym is) (form_sorted v valid)

-- ---- steps, one after another

pub step_got : {X : Type 0} (xs : List X) (i : ℕ) (x y : X) → i < length xs → x ≡ get_or xs i x → y ≡ x → slice_get xs i ≡ Some y
step_got xs i x y lt is same = slice_get_read xs (length xs) i x refl lt is ∙ ap (λ z. Some z) (sym same)

zero_at : (ss : List RecordedStepValue) (i : ℕ) (s : RecordedStepValue) → slice_get ss i ≡ Some s → HaveSucceeded ss → s.outcome.exit_code ≡ pos 0
zero_at [] i s at h = absurd cc
zero_at (x ∷ ss) zero s at h = let same : x ≡ s = cc in subst (λ (y : RecordedStepValue). y.outcome.exit_code ≡ pos 0) same h.0
zero_at (x ∷ ss) (suc i) s at h = zero_at ss i s at h.1

module _ (ones others : List RecordedStepValue) (i : ℕ) (s t : RecordedStepValue) (at : slice_get ones i ≡ Some s) (there : slice_get others i ≡ Some t) where
  pub alike_next : HaveSucceeded ones → HaveSucceeded others → s.action ≡ t.action → outputs_form s.outcome.outputs ≡ outputs_form t.outcome.outputs → AreStepsAlikeBelow ones others i → AreStepsAlikeBelow ones others (i + 1)
  alike_next one other action form below j x y lt stand = by (cases_lt j i)
    where
      here : AreStepsAlike s t
      here = record { action = action; form = record { exit_code = zero_at ones i s at one ∙ sym (zero_at others i t there other); outputs = form } }

      by : (j < i) ⊎ (i ≤ j) → AreStepsAlike x y
      by (inl less) = below j x y less stand
      by (inr more) =
          let is : j ≡ i = omega (arith, lt, more) in
          let first = one_answer (slice_get ones i) s x at (subst (λ n. slice_get ones n ≡ Some x) is stand.0) in
          let second = one_answer (slice_get others i) t y there (subst (λ n. slice_get others n ≡ Some y) is stand.1) in
          subst (λ a. AreStepsAlike a y) first (subst (λ b. AreStepsAlike s b) second here)
