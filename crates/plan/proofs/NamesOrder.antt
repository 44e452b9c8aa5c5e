-- The order of paths by their names: what begins with a path stands right behind it.
use Rattle.std.proofs.Common.{◌≡◌, ◌⊎◌, ℕ, false, List, [], ◌∷◌, ◌++◌, refl, ap, sym, ◌∙◌, inl, inr, append-nil}
use Rattle.std.specs.declared.cmp.Ordering.{Ordering}
use Rattle.std.specs.declared.cmp.Ordering.TheVariants.{Less, Equal, Greater}
use Rattle.std.specs.Ordering.{nat_cmp, is_gt, is_lt, ordering_then, ordering_reverse}
use Rattle.std.specs.Cmp.{IsTotalOrder}
use Rattle.std.specs.Cmp.Lexicographic.{slice_cmp, lists_total, nat_list_cmp_total}
use Rattle.std.specs.FinMap.{slice_cmp-IsAntisymmetric, nat_cmp-IsAntisymmetric}
use Rattle.messages.specs.Path.{Overlap}
use Rattle.plan.specs.Targets.{names_cmp, IsAtOrBelow}

pub names_cmp_total : IsTotalOrder names_cmp
names_cmp_total = lists_total nat_list_cmp_total

pub name_same : (n m : List ℕ) → slice_cmp nat_cmp n m ≡ Equal → n ≡ m
name_same n m e = slice_cmp-IsAntisymmetric nat_cmp-IsAntisymmetric n m e

pub names_same : (p q : List (List ℕ)) → names_cmp p q ≡ Equal → p ≡ q
names_same p q e = slice_cmp-IsAntisymmetric (slice_cmp-IsAntisymmetric nat_cmp-IsAntisymmetric) p q e

itself_by : (o : Ordering) → o ≡ ordering_reverse o → o ≡ Equal
itself_by Less e = cc e
itself_by Equal e = refl
itself_by Greater e = cc e

name_itself : (n : List ℕ) → slice_cmp nat_cmp n n ≡ Equal
name_itself n = itself_by (slice_cmp nat_cmp n n) (nat_list_cmp_total.antisymm n n)

pub names_itself : (p : List (List ℕ)) → names_cmp p p ≡ Equal
names_itself p = itself_by (names_cmp p p) (names_cmp_total.antisymm p p)

-- a path stands before what begins with it
pub before_longer : (p r : List (List ℕ)) → is_gt (names_cmp p (p ++ r)) ≡ false
before_longer [] [] = refl
before_longer [] (n ∷ r) = refl
before_longer (n ∷ p) r = rw (name_itself n) (before_longer p r)

-- what stands between a path and what begins with it begins with it
pub between : (p q r : List (List ℕ)) → is_gt (names_cmp p q) ≡ false → is_gt (names_cmp q (p ++ r)) ≡ false → IsAtOrBelow q p
between [] q r h k = (q, refl)
between (n ∷ p) [] r h k = cc h
between (n ∷ p) (m ∷ q) r h k = by (slice_cmp nat_cmp n m) (slice_cmp nat_cmp m n) refl refl (nat_list_cmp_total.antisymm m n) h k (between p q r)
  where
    by : (o t : Ordering) → slice_cmp nat_cmp n m ≡ o → slice_cmp nat_cmp m n ≡ t → slice_cmp nat_cmp m n ≡ ordering_reverse (slice_cmp nat_cmp n m)
        → is_gt (ordering_then o (names_cmp p q)) ≡ false → is_gt (ordering_then t (names_cmp q (p ++ r))) ≡ false
        → (is_gt (names_cmp p q) ≡ false → is_gt (names_cmp q (p ++ r)) ≡ false → IsAtOrBelow q p) → IsAtOrBelow (m ∷ q) (n ∷ p)
    by Less Less e f a h k ih = let back : slice_cmp nat_cmp m n ≡ Greater = a ∙ ap ordering_reverse e in cc (sym f ∙ back)
    by Less Equal e f a h k ih = let back : slice_cmp nat_cmp m n ≡ Greater = a ∙ ap ordering_reverse e in cc (sym f ∙ back)
    by Less Greater e f a h k ih = cc k
    by Equal Less e f a h k ih = let back : slice_cmp nat_cmp m n ≡ Equal = a ∙ ap ordering_reverse e in cc (sym f ∙ back)
    by Equal Equal e f a h k ih = let rest = ih h k in (rest.0, rw (name_same n m e) (ap (λ (l : List (List ℕ)). m ∷ l) rest.1))
    by Equal Greater e f a h k ih = cc k
    by Greater t e f a h k ih = cc h

-- the order turned round
turned : (o t : Ordering) → t ≡ ordering_reverse o → is_lt o ≡ false → is_gt t ≡ false
turned Less t e h = cc h
turned Equal t e h = rw e refl
turned Greater t e h = rw e refl

pub not_behind : (p q : List (List ℕ)) → is_lt (names_cmp q p) ≡ false → is_gt (names_cmp p q) ≡ false
not_behind p q h = turned (names_cmp q p) (names_cmp p q) (names_cmp_total.antisymm p q) h

-- ---- overlaps, by beginnings

pub begins_from : (p q : List (List ℕ)) → Overlap p q → IsAtOrBelow p q ⊎ IsAtOrBelow q p
begins_from p q (inl e) = inl ([], e ∙ sym (append-nil q))
begins_from p q (inr (inl (n, r, e))) = inl (n ∷ r, e)
begins_from p q (inr (inr (n, r, e))) = inr (n ∷ r, e)

pub overlap_under : (p q : List (List ℕ)) → IsAtOrBelow p q → Overlap p q
overlap_under p q ([], e) = inl (e ∙ append-nil q)
overlap_under p q (n ∷ r, e) = inr (inl (n, r, e))

pub overlap_above : (p q : List (List ℕ)) → IsAtOrBelow q p → Overlap p q
overlap_above p q ([], e) = inl (sym (e ∙ append-nil p))
overlap_above p q (n ∷ r, e) = inr (inr (n, r, e))
