-- What holds of any two elements of a list holds of them in any order.
use Rattle.std.proofs.Common.{◌≡◌, ◌≢◌, ℕ, zero, suc, ◌<◌, Bool, true, false, eqb, List, [], ◌∷◌, length, get_or, refl, sym, ap, subst, ◌∙◌, arith, inl, inr, ◌⊎◌}
use Rattle.std.specs.Prelude.{IsPermutation}
use Rattle.std.specs.List.{AllByRecursion, swap}
use Rattle.std.proofs.lemmas.Bool.{eqb-true, eq-eqb}
use Rattle.std.proofs.lemmas.List.Edits.{swapped_from_swap, length-swap}
use Rattle.std.proofs.lemmas.List.Sorted.{IsPermutation-keeps}

abbrev pub ByPairs : {X : Type 0} → (X → X → Type 0) → List X → Type 0
ByPairs R [] = Unit {0}
ByPairs R (x ∷ xs) = AllByRecursion (R x) xs × ByPairs R xs

abbrev pub AtPairs : {X : Type 0} → (X → X → Type 0) → List X → Type 0
AtPairs {X} R xs = (i j : ℕ) (d : X) → i ≢ j → i < length xs → j < length xs → R (get_or xs i d) (get_or xs j d)

abbrev pub IsSymmetric : {X : Type 0} → (X → X → Type 0) → Type 0
IsSymmetric {X} R = (x y : X) → R x y → R y x

all_at : {X : Type 0} (P : X → Type 0) (xs : List X) (i : ℕ) (d : X) → AllByRecursion P xs → i < length xs → P (get_or xs i d)
all_at P [] i d all lt = absurd (omega (arith, lt))
all_at P (x ∷ xs) zero d all lt = all.0
all_at P (x ∷ xs) (suc i) d all lt = all_at P xs i d all.1 (omega (arith, lt))

pub all_from : {X : Type 0} (P : X → Type 0) (xs : List X) → ((i : ℕ) (d : X) → i < length xs → P (get_or xs i d)) → AllByRecursion P xs
all_from P [] h = tt
all_from P (x ∷ xs) h = (h 0 x (omega arith), all_from P xs (λ i d lt. h (suc i) d (omega (arith, lt))))

pairs_at : {X : Type 0} (R : X → X → Type 0) → IsSymmetric R → (xs : List X) → ByPairs R xs → AtPairs R xs
pairs_at R s [] h i j d ne lt lu = absurd (omega (arith, lt))
pairs_at R s (x ∷ xs) h zero zero d ne lt lu = absurd (ne refl)
pairs_at R s (x ∷ xs) h zero (suc j) d ne lt lu = all_at (R x) xs j d h.0 (omega (arith, lu))
pairs_at R s (x ∷ xs) h (suc i) zero d ne lt lu = s x (get_or xs i d) (all_at (R x) xs i d h.0 (omega (arith, lt)))
pairs_at R s (x ∷ xs) h (suc i) (suc j) d ne lt lu = pairs_at R s xs h.1 i j d (λ e. ne (ap suc e)) (omega (arith, lt)) (omega (arith, lu))

none_after : (i : ℕ) → zero ≢ suc i
none_after i e = absurd (omega (arith, e))

same_before : (i j : ℕ) → i ≢ j → suc i ≢ suc j
same_before i j ne e = ne (let same : i ≡ j = omega (arith, e) in same)

at_pairs : {X : Type 0} (R : X → X → Type 0) (xs : List X) → AtPairs R xs → ByPairs R xs
at_pairs R [] h = tt
at_pairs R (x ∷ xs) h = (all_from (R x) xs (λ j d lt. h 0 (suc j) d (none_after j) (omega arith) (omega (arith, lt))), at_pairs R xs (λ i j d ne lt lu. h (suc i) (suc j) d (same_before i j ne) (omega (arith, lt)) (omega (arith, lu))))

-- ---- an exchange

-- where the element at k stood
abbrev Stood : ℕ → ℕ → ℕ → ℕ → Type 0
Stood a b k m = ((k ≡ a) × (m ≡ b)) ⊎ (((k ≡ b) × (m ≡ a)) ⊎ ((k ≢ a) × (k ≢ b) × (m ≡ k)))

differ : (a b i j m n : ℕ) → i ≢ j → Stood a b i m → Stood a b j n → m ≢ n
differ a b i j m n ne (inl p) (inl q) e = ne (p.0 ∙ sym q.0)
differ a b i j m n ne (inl p) (inr (inl q)) e = ne (p.0 ∙ sym q.1 ∙ sym e ∙ p.1 ∙ sym q.0)
differ a b i j m n ne (inl p) (inr (inr q)) e = q.1 (sym q.2 ∙ sym e ∙ p.1)
differ a b i j m n ne (inr (inl p)) (inl q) e = ne (p.0 ∙ sym q.1 ∙ sym e ∙ p.1 ∙ sym q.0)
differ a b i j m n ne (inr (inl p)) (inr (inl q)) e = ne (p.0 ∙ sym q.0)
differ a b i j m n ne (inr (inl p)) (inr (inr q)) e = q.0 (sym q.2 ∙ sym e ∙ p.1)
differ a b i j m n ne (inr (inr p)) (inl q) e = p.1 (sym p.2 ∙ e ∙ q.1)
differ a b i j m n ne (inr (inr p)) (inr (inl q)) e = p.0 (sym p.2 ∙ e ∙ q.1)
differ a b i j m n ne (inr (inr p)) (inr (inr q)) e = ne (sym p.2 ∙ e ∙ q.2)

decide : (k a : ℕ) → (k ≡ a) ⊎ (k ≢ a)
decide k a = by (eqb k a) refl
  where
    by : (b : Bool) → eqb k a ≡ b → (k ≡ a) ⊎ (k ≢ a)
    by true e = inl (eqb-true k a e)
    by false e = inr (λ same. let no : false ≡ true = sym e ∙ eq-eqb k a same in cc)

record Place {X : Type 0} (l : List X) (a b k : ℕ) (d : X) : Type 0 where
  m : ℕ
  stood : Stood a b k m
  below : m < length l
  same : get_or (swap l a b) k d ≡ get_or l m d

place : {X : Type 0} (l : List X) (a b k : ℕ) (d : X) → a < length l → b < length l → k < length l → Place l a b k d
place l a b k d la lb lk =
    let s = swapped_from_swap l (swap l a b) a b d la lb refl in
    elim (decide k a) [
      | inl p ↦ record { m = b; stood = inl (p, refl); below = lb; same = ap (λ (x : ℕ). get_or (swap l a b) x d) p ∙ s.0 }
      | inr p ↦ elim (decide k b) [
        | inl q ↦ record { m = a; stood = inr (inl (q, refl)); below = la; same = ap (λ (x : ℕ). get_or (swap l a b) x d) q ∙ s.1 }
        | inr q ↦ record { m = k; stood = inr (inr (p, q, refl)); below = lk; same = s.2 k p q }
      ]
    ]

exchanged : {X : Type 0} (R : X → X → Type 0) (l : List X) (a b : ℕ) → a < length l → b < length l → AtPairs R l → AtPairs R (swap l a b)
exchanged R l a b la lb h i j d ne lt lu =
    let len = length-swap l a b in
    let p = place l a b i d la lb (omega (arith, len, lt)) in
    let q = place l a b j d la lb (omega (arith, len, lu)) in
    let there = h p.m q.m d (differ a b i j p.m q.m ne p.stood q.stood) p.below q.below in
    subst (λ x. R x (get_or (swap l a b) j d)) (sym p.same) (subst (λ y. R (get_or l p.m d) y) (sym q.same) there)

pub pairs_permuted : {X : Type 0} (R : X → X → Type 0) → IsSymmetric R → (xs ys : List X) → IsPermutation xs ys → ByPairs R xs → ByPairs R ys
pairs_permuted R s xs ys p h = at_pairs R ys (IsPermutation-keeps xs (AtPairs R) (pairs_at R s xs h) (λ l a b la lb k. exchanged R l a b la lb k) ys p)

all_exchanged : {X : Type 0} (P : X → Type 0) (l : List X) (a b : ℕ) → a < length l → b < length l → AllByRecursion P l → AllByRecursion P (swap l a b)
all_exchanged P l a b la lb h =
    all_from P (swap l a b) (λ i d lt.
    let len = length-swap l a b in
    let p = place l a b i d la lb (omega (arith, len, lt)) in
    subst P (sym p.same) (all_at P l p.m d h p.below))

pub all_permuted : {X : Type 0} (P : X → Type 0) (xs ys : List X) → IsPermutation xs ys → AllByRecursion P xs → AllByRecursion P ys
all_permuted P xs ys p h = IsPermutation-keeps xs (AllByRecursion P) h (λ l a b la lb k. all_exchanged P l a b la lb k) ys p
