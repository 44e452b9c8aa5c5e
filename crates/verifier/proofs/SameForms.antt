-- Whether two outcomes have one form is decided; and where they don't, and ended alike, they differ at a path.
use Rattle.std.proofs.Common.{◌≡◌, ◌≢◌, ℕ, zero, suc, true, false, Bool, List, [], ◌∷◌, map, refl, ap, sym, ◌∙◌, subst, arith, inl, inr, Less, Equal, Greater}
use Rattle.std.specs.Prelude.{◌⊎◌, ◌==◌, ℤ, pos, negsuc, Contains}
use Rattle.std.specs.List.{AllByRecursion}
use Rattle.std.specs.declared.cmp.Ordering.{Ordering}
use Rattle.std.proofs.lemmas.Bool.Decides.{eqb_tells}
use Rattle.blob_digest.specs.Digest.{DigestValue}
use Rattle.messages.specs.Order.{bytes_cmp}
use Rattle.messages.specs.Path.{path_text}
use Rattle.messages.specs.declared.node.Node.TheVariants.{File, Link, Dir}
use Rattle.messages.proofs.Orders.{itself}
use Rattle.action_messages.specs.Ascending.{IsAscendingBy}
use Rattle.action_messages.specs.Overlaps.{texts_of}
use Rattle.action_messages.proofs.Searches.{bytes_trans}
use Rattle.actions.specs.Outcome.{OutputValue, OutcomeValue, IsOutcome, outputs_form, paths_of_outputs}
use Rattle.tree.specs.Form.{NodeValue}
use Rattle.tree.specs.Tree.{Name}
use Rattle.verifier.specs.Recorded.{HaveOneForm}
use Rattle.verifier.specs.TwoBuilds.{DifferAt}

pub same_bytes : (xs ys : List ℕ) → (xs ≡ ys) ⊎ (xs ≢ ys)
same_bytes [] [] = inl refl
same_bytes [] (y ∷ ys) = inr (λ e. cc)
same_bytes (x ∷ xs) [] = inr (λ e. cc)
same_bytes (x ∷ xs) (y ∷ ys) = by (eqb_tells x y) (same_bytes xs ys)
  where
    by : (((x == y) ≡ true) × (x ≡ y)) ⊎ (((x == y) ≡ false) × (x ≢ y)) → (xs ≡ ys) ⊎ (xs ≢ ys) → (x ∷ xs ≡ y ∷ ys) ⊎ (x ∷ xs ≢ y ∷ ys)
    by (inl h) (inl t) = let head = h.1 in inl cc
    by (inl h) (inr n) = inr (λ e. n cc)
    by (inr h) t = let other = h.1 in inr (λ e. other cc)

pub same_digest : (d e : DigestValue) → (d ≡ e) ⊎ (d ≢ e)
same_digest d e = by (same_bytes d.hash e.hash) (eqb_tells d.size e.size)
  where
    by : (d.hash ≡ e.hash) ⊎ (d.hash ≢ e.hash) → (((d.size == e.size) ≡ true) × (d.size ≡ e.size)) ⊎ (((d.size == e.size) ≡ false) × (d.size ≢ e.size)) → (d ≡ e) ⊎ (d ≢ e)
    by (inl h) (inl s) =
        let size = s.1 in
        let pair : ◌≡◌ {A = List ℕ × ℕ} (d.hash, d.size) (e.hash, e.size) = cc in
        inl (ap (λ (p : List ℕ × ℕ). record { hash = p.0; size = p.1 }) pair)
    by (inr n) s = inr (λ is. n (ap (λ (x : DigestValue). x.hash) is))
    by (inl h) (inr s) = let n = s.1 in inr (λ is. n (ap (λ (x : DigestValue). x.size) is))

same_list : {X : Type 0} → ((x y : X) → (x ≡ y) ⊎ (x ≢ y)) → (xs ys : List X) → (xs ≡ ys) ⊎ (xs ≢ ys)
same_list each [] [] = inl refl
same_list each [] (y ∷ ys) = inr (λ e. cc)
same_list each (x ∷ xs) [] = inr (λ e. cc)
same_list each (x ∷ xs) (y ∷ ys) = by (each x y) (same_list each xs ys)
  where
    by : (x ≡ y) ⊎ (x ≢ y) → (xs ≡ ys) ⊎ (xs ≢ ys) → (x ∷ xs ≡ y ∷ ys) ⊎ (x ∷ xs ≢ y ∷ ys)
    by (inl h) (inl t) = inl cc
    by (inl h) (inr n) = inr (λ e. n cc)
    by (inr n) t = inr (λ e. n cc)

same_number : (m n : ℕ) → (m ≡ n) ⊎ (m ≢ n)
same_number m n = by (eqb_tells m n)
  where
    by : (((m == n) ≡ true) × (m ≡ n)) ⊎ (((m == n) ≡ false) × (m ≢ n)) → (m ≡ n) ⊎ (m ≢ n)
    by (inl h) = inl h.1
    by (inr h) = inr h.1

same_code : (a b : ℤ) → (a ≡ b) ⊎ (a ≢ b)
same_code (pos m) (pos n) = by (same_number m n)
  where
    by : (m ≡ n) ⊎ (m ≢ n) → (pos m ≡ pos n) ⊎ (pos m ≢ pos n)
    by (inl h) = inl (ap pos h)
    by (inr k) = inr (λ e. k cc)
same_code (pos m) (negsuc n) = inr (λ e. cc)
same_code (negsuc m) (pos n) = inr (λ e. cc)
same_code (negsuc m) (negsuc n) = by (same_number m n)
  where
    by : (m ≡ n) ⊎ (m ≢ n) → (negsuc m ≡ negsuc n) ⊎ (negsuc m ≢ negsuc n)
    by (inl h) = inl (ap negsuc h)
    by (inr k) = inr (λ e. k cc)

same_bit : (a b : Bool) → (a ≡ b) ⊎ (a ≢ b)
same_bit true true = inl refl
same_bit true false = inr (λ e. cc)
same_bit false true = inr (λ e. cc)
same_bit false false = inl refl

same_node : (x y : NodeValue) → (x ≡ y) ⊎ (x ≢ y)
same_node (File d x) (File e y) = by (same_digest d e) (same_bit x y)
  where
    by : (d ≡ e) ⊎ (d ≢ e) → (x ≡ y) ⊎ (x ≢ y) → (◌≡◌ {A = NodeValue} (File d x) (File e y)) ⊎ (◌≢◌ {A = NodeValue} (File d x) (File e y))
    by (inl h) (inl k) = inl cc
    by (inl h) (inr n) = inr (λ is. n cc)
    by (inr n) k = inr (λ is. n cc)
same_node (File d x) (Link t) = inr (λ e. cc)
same_node (File d x) (Dir e) = inr (λ is. cc)
same_node (Link t) (File d x) = inr (λ e. cc)
same_node (Link t) (Link u) = by (same_bytes t u)
  where
    by : (t ≡ u) ⊎ (t ≢ u) → (◌≡◌ {A = NodeValue} (Link t) (Link u)) ⊎ (◌≢◌ {A = NodeValue} (Link t) (Link u))
    by (inl h) = inl cc
    by (inr n) = inr (λ is. n cc)
same_node (Link t) (Dir e) = inr (λ is. cc)
same_node (Dir d) (File e x) = inr (λ is. cc)
same_node (Dir d) (Link t) = inr (λ is. cc)
same_node (Dir d) (Dir e) = by (same_digest d e)
  where
    by : (d ≡ e) ⊎ (d ≢ e) → (◌≡◌ {A = NodeValue} (Dir d) (Dir e)) ⊎ (◌≢◌ {A = NodeValue} (Dir d) (Dir e))
    by (inl h) = inl cc
    by (inr n) = inr (λ is. n cc)

same_row : (x y : List Name × NodeValue) → (x ≡ y) ⊎ (x ≢ y)
same_row (p, x) (q, y) = by (same_list same_bytes p q) (same_node x y)
  where
    by : (p ≡ q) ⊎ (p ≢ q) → (x ≡ y) ⊎ (x ≢ y) → (◌≡◌ {A = List Name × NodeValue} (p, x) (q, y)) ⊎ (◌≢◌ {A = List Name × NodeValue} (p, x) (q, y))
    by (inl h) (inl k) = inl cc
    by (inl h) (inr n) = inr (λ is. n (ap (λ (r : List Name × NodeValue). r.1) is))
    by (inr n) k = inr (λ is. n (ap (λ (r : List Name × NodeValue). r.0) is))

pub same_form : (v w : OutcomeValue) → HaveOneForm v w ⊎ (HaveOneForm v w → ⊥)
same_form v w = by (same_code v.exit_code w.exit_code) (same_list same_row (outputs_form v.outputs) (outputs_form w.outputs))
  where
    by : (v.exit_code ≡ w.exit_code) ⊎ (v.exit_code ≢ w.exit_code) → (outputs_form v.outputs ≡ outputs_form w.outputs) ⊎ (outputs_form v.outputs ≢ outputs_form w.outputs)
        → HaveOneForm v w ⊎ (HaveOneForm v w → ⊥)
    by (inl h) (inl k) = inl (record { exit_code = h; outputs = k })
    by (inl h) (inr n) = inr (λ f. n f.outputs)
    by (inr n) k = inr (λ f. n f.exit_code)

-- ---- rows in the order of their paths' texts

abbrev pub Row : Type 0
Row = List Name × NodeValue

abbrev pub text : Row → List ℕ
text e = path_text e.0

abbrev pub Sorted : List Row → Type 0
Sorted es = IsAscendingBy bytes_cmp (map text es)

pub never_less : (e : Row) → bytes_cmp (text e) (text e) ≡ Less → ⊥
never_less e h = let both : Less ≡ Equal = sym h ∙ itself (text e) in cc

pub behind_less : (e : Row) (es : List Row) (f : Row) → AllByRecursion (λ y. bytes_cmp (text e) y ≡ Less) (map text es) → Contains es f → bytes_cmp (text e) (text f) ≡ Less
behind_less e [] f h (k, lt, is) = absurd (omega arith)
behind_less e (x ∷ es) f h (zero, lt, is) = subst (λ (y : Row). bytes_cmp (text e) (text y) ≡ Less) is h.0
behind_less e (x ∷ es) f h (suc k, lt, is) = behind_less e es f h.1 (k, omega (arith, lt), is)

pub front_or : (e : Row) (es : List Row) (f : Row) → Contains (e ∷ es) f → (e ≡ f) ⊎ Contains es f
front_or e es f (zero, lt, is) = inl is
front_or e es f (suc k, lt, is) = inr (k, omega (arith, lt), is)

pub in_front : (e : Row) (es : List Row) → Contains (e ∷ es) e
in_front e es = (0, omega arith, refl)

pub further : (e : Row) (es : List Row) (f : Row) → Contains es f → Contains (e ∷ es) f
further e es f (k, lt, is) = (suc k, omega (arith, lt), is)

-- a row of one list alone
abbrev pub IsOneSided : List Row → List Row → Row → Type 0
IsOneSided es fs r = (Contains es r × ¬ Contains fs r) ⊎ (¬ Contains es r × Contains fs r)

pub none : (r : Row) → Contains [] r → ⊥
none r (k, lt, is) = omega (arith, lt)

-- what isn't behind a row, and is another, isn't there
pub not_there : (e f : Row) (fs : List Row) → Sorted (f ∷ fs) → e ≢ f → (bytes_cmp (text f) (text e) ≡ Less → ⊥) → Contains (f ∷ fs) e → ⊥
not_there e f fs up other behind here = by (front_or f fs e here)
  where
    by : (f ≡ e) ⊎ Contains fs e → ⊥
    by (inl is) = other (sym is)
    by (inr h) = behind (behind_less f fs e up.0 h)

-- a row that one of two lists has alone behind one head is alone in the whole lists
pub alone : (e f : Row) (es fs : List Row) → Sorted (e ∷ es) → Sorted (f ∷ fs) → e ≡ f → (r : Row) → IsOneSided es fs r → IsOneSided (e ∷ es) (f ∷ fs) r
alone e f es fs up also is r (inl h) = inl (further e es r h.0, λ here. out (front_or f fs r here))
  where
    out : (f ≡ r) ⊎ Contains fs r → ⊥
    out (inl same) = never_less e (subst (λ (y : Row). bytes_cmp (text e) (text y) ≡ Less) (sym (is ∙ same)) (behind_less e es r up.0 h.0))
    out (inr there) = h.1 there
alone e f es fs up also is r (inr h) = inr (λ here. out (front_or e es r here), further f fs r h.1)
  where
    out : (e ≡ r) ⊎ Contains es r → ⊥
    out (inl same) = never_less f (subst (λ (y : Row). bytes_cmp (text f) (text y) ≡ Less) (sym (sym is ∙ same)) (behind_less f fs r also.0 h.1))
    out (inr there) = h.0 there

one_sided : (es fs : List Row) → Sorted es → Sorted fs → es ≢ fs → (r : Row) × IsOneSided es fs r
one_sided [] [] up also differ = absurd (differ refl)
one_sided [] (f ∷ fs) up also differ = (f, inr (none f, in_front f fs))
one_sided (e ∷ es) [] up also differ = (e, inl (in_front e es, none e))
one_sided (e ∷ es) (f ∷ fs) up also differ = by (same_row e f) (λ rest. one_sided es fs up.1 also.1 rest)
  where
    lesser : (o : Ordering) → bytes_cmp (text f) (text e) ≡ o → e ≢ f → (r : Row) × IsOneSided (e ∷ es) (f ∷ fs) r
    lesser Less is other = (f, inr (not_there f e es up (λ same. other (sym same)) (λ less. never_less e (bytes_trans (text e) (text f) (text e) less is)), in_front f fs))
    lesser Equal is other = (e, inl (in_front e es, not_there e f fs also other (λ less. (let both : Less ≡ Equal = sym less ∙ is in cc))))
    lesser Greater is other = (e, inl (in_front e es, not_there e f fs also other (λ less. (let both : Less ≡ Greater = sym less ∙ is in cc))))

    by : (e ≡ f) ⊎ (e ≢ f) → (es ≢ fs → (r : Row) × IsOneSided es fs r) → (r : Row) × IsOneSided (e ∷ es) (f ∷ fs) r
    by (inl is) rest = let r = rest (λ same. differ (λ i. is i ∷ same i)) in (r.0, alone e f es fs up also is r.0 r.1)
    by (inr other) rest = lesser (bytes_cmp (text f) (text e)) refl other

-- ---- outcomes that differ

pub form_texts : (es : List (List Name × OutputValue)) → map text (outputs_form es) ≡ texts_of (paths_of_outputs es)
form_texts [] = refl
form_texts (e ∷ es) = ap (λ ts. path_text e.0 ∷ ts) (form_texts es)

pub form_sorted : (v : OutcomeValue) → IsOutcome v → Sorted (outputs_form v.outputs)
form_sorted v valid = subst (IsAscendingBy bytes_cmp) (sym (form_texts v.outputs)) valid.ascend

pub forms_differ : (v w : OutcomeValue) → IsOutcome v → IsOutcome w → v.exit_code ≡ w.exit_code → (HaveOneForm v w → ⊥) → (path : List Name) × DifferAt v w path
forms_differ v w valid other code differ =
    let row = one_sided (outputs_form v.outputs) (outputs_form w.outputs) (form_sorted v valid) (form_sorted w other) (λ same. differ (record { exit_code = code; outputs = same })) in
    (row.0.0, (row.0.1, row.1))
