-- Two ways to cut one list.
use Rattle.std.proofs.Common.{◌≡◌, ℕ, suc, ◌⊎◌, inl, inr, List, [], ◌∷◌, ◌++◌, length, refl, sym, ◌∙◌, arith}
use Rattle.std.proofs.lemmas.List.{append-nil}

-- the first front is the shorter one, by between
pub record IsShorter (a x b y : List ℕ) : Type 0 where
  pub between : List ℕ
  pub front : b ≡ a ++ between
  pub rest : x ≡ between ++ y

pub head_is : (x y : ℕ) (xs ys : List ℕ) → x ∷ xs ≡ y ∷ ys → x ≡ y
head_is x y xs ys e = cc

pub tail_is : (x y : ℕ) (xs ys : List ℕ) → x ∷ xs ≡ y ∷ ys → xs ≡ ys
tail_is x y xs ys e = cc

pub compare_fronts : (a x b y : List ℕ) → a ++ x ≡ b ++ y → IsShorter a x b y ⊎ IsShorter b y a x
compare_fronts [] x b y e = inl (record { between = b; front = refl; rest = e })
compare_fronts (a ∷ cs) x [] y e = inr (record { between = a ∷ cs; front = refl; rest = sym e })
compare_fronts (a ∷ cs) x (b ∷ bs) y e =
    elim (compare_fronts cs x bs y (tail_is a b (cs ++ x) (bs ++ y) e)) [
      | inl s ↦ inl (record { between = s.between; front = let k : b ≡ a = sym (head_is a b (cs ++ x) (bs ++ y) e) in let f : bs ≡ cs ++ s.between = s.front in cc; rest = s.rest })
      | inr s ↦ inr (record { between = s.between; front = let k : a ≡ b = head_is a b (cs ++ x) (bs ++ y) e in let f : cs ≡ bs ++ s.between = s.front in cc; rest = s.rest })
    ]

-- a front of a list and one element is a front of the list, or all of it
pub front_of_more : (bytes : List ℕ) (last : ℕ) (front rest : List ℕ) → bytes ++ last ∷ [] ≡ front ++ rest
    → (rest ≡ []) ⊎ ((others : List ℕ) × (bytes ≡ front ++ others))
front_of_more bytes last front rest e = elim (compare_fronts bytes (last ∷ []) front rest e) [ inl s ↦ last_of s | inr s ↦ inr (s.between, s.front) ]
  where
    last_of : IsShorter bytes (last ∷ []) front rest → (rest ≡ []) ⊎ ((others : List ℕ) × (bytes ≡ front ++ others))
    last_of s = by_between s.between s.front s.rest
      where
        empty_behind : (bs rest : List ℕ) → [] ≡ bs ++ rest → rest ≡ []
        empty_behind [] rest r = sym r
        empty_behind (b ∷ bs) rest r = let h : [] ≡ b ∷ (bs ++ rest) = r in cc

        by_between : (between : List ℕ) → front ≡ bytes ++ between → last ∷ [] ≡ between ++ rest → (rest ≡ []) ⊎ ((others : List ℕ) × (bytes ≡ front ++ others))
        by_between [] f r = inr ([], sym (append-nil front ∙ f ∙ append-nil bytes))
        by_between (b ∷ bs) f r = inl (empty_behind bs rest (tail_is last b [] (bs ++ rest) r))

pub same_fronts : (a x b y : List ℕ) → a ++ x ≡ b ++ y → length a ≡ length b → a ≡ b
same_fronts [] x [] y e h = refl
same_fronts [] x (b ∷ bs) y e h = absurd (zero_is (length bs) h)
  where
    zero_is : (n : ℕ) → 0 ≡ suc n → ⊥
    zero_is n e = omega arith
same_fronts (a ∷ cs) x [] y e h = absurd (is_zero (length cs) h)
  where
    is_zero : (n : ℕ) → suc n ≡ 0 → ⊥
    is_zero n e = omega arith
same_fronts (a ∷ cs) x (b ∷ bs) y e h =
    let k : a ≡ b = head_is a b (cs ++ x) (bs ++ y) e in
    let n : length cs ≡ length bs = omega arith in
    let f : cs ≡ bs = same_fronts cs x bs y (tail_is a b (cs ++ x) (bs ++ y) e) n in cc
