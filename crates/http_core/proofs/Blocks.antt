-- Where blocks end.
use Rattle.std.proofs.Common.{append_assoc, ◌≢◌, ◌≡◌, ℕ, ◌≤◌, ◌<◌, ◌+◌, ◌⊎◌, inl, inr, true, false, List, [], ◌∷◌, ◌++◌, take, length, refl, sym, ◌∙◌, ap, subst, length-append, arith}
use Rattle.std.proofs.Math.Dec.{eqb}
use Rattle.std.proofs.lemmas.Bool.Decides.{eqb_tells}
use lib.Seq.{take-append_seam}
use Rattle.std.proofs.lemmas.List.{append-nil}
use Rattle.std.specs.List.{AllByRecursion}
use Rattle.http_core.specs.Block.{empty_line, EndsBlock, HasNoBlock, IsBlock}
use Rattle.http_core.proofs.Lists.{IsShorter, compare_fronts, front_of_more, head_is, tail_is}

-- at each stream stands one block at most
pub one_block : (a x b y : List ℕ) → IsBlock a → IsBlock b → a ++ x ≡ b ++ y → a ≡ b
one_block a x b y p q e = elim (compare_fronts a x b y e) [
  | inl s ↦ sym (s.front ∙ ap (λ c. a ++ c) (q.first a s.between s.front p.ends) ∙ append-nil a)
  | inr s ↦ s.front ∙ ap (λ c. b ++ c) (p.first b s.between s.front q.ends) ∙ append-nil b
]

-- where none ends in the front, none ends so early
pub no_block_within : (a x b y : List ℕ) → HasNoBlock a → IsBlock b → a ++ x ≡ b ++ y → length b ≤ length a → ⊥
no_block_within a x b y none q e le = elim (compare_fronts a x b y e) [
  | inl s ↦ by_length s (s.between) s.front
  | inr s ↦ none b s.between s.front q.ends
]
  where
    by_length : IsShorter a x b y → (between : List ℕ) → b ≡ a ++ between → ⊥
    by_length s [] f = none b [] (sym (f ∙ append-nil a) ∙ sym (append-nil b)) q.ends
    by_length s (c ∷ cs) f = let h : length b ≡ length (a ++ (c ∷ cs)) = ap length f in let k : length (a ++ (c ∷ cs)) ≡ length a + length (c ∷ cs) = length-append a (c ∷ cs) in omega arith

-- one more byte
pub block_with : (bytes : List ℕ) (last : ℕ) → HasNoBlock bytes → EndsBlock (bytes ++ last ∷ []) → IsBlock (bytes ++ last ∷ [])
block_with bytes last none ends = record {
  ends = ends;
  first = λ front rest e h. elim (front_of_more bytes last front rest e) [ inl is ↦ is | inr o ↦ absurd (none front o.0 o.1 h) ];
}

pub no_block_with : (bytes : List ℕ) (last : ℕ) → HasNoBlock bytes → (EndsBlock (bytes ++ last ∷ []) → ⊥) → HasNoBlock (bytes ++ last ∷ [])
no_block_with bytes last none not_ends front rest e h = elim (front_of_more bytes last front rest e) [
  | inl is ↦ not_ends (subst EndsBlock (sym (e ∙ ap (λ c. front ++ c) is ∙ append-nil front)) h)
  | inr o ↦ none front o.0 o.1 h
]

no_last : (xs : List ℕ) (a : ℕ) → [] ≡ xs ++ a ∷ [] → ⊥
no_last [] a e = cc
no_last (x ∷ xs) a e = let h : [] ≡ x ∷ (xs ++ a ∷ []) = e in cc

last_same : (xs ys : List ℕ) (a b : ℕ) → xs ++ a ∷ [] ≡ ys ++ b ∷ [] → a ≡ b
last_same [] [] a b e = head_is a b [] [] e
last_same [] (y ∷ ys) a b e = absurd (no_last ys b (tail_is a y [] (ys ++ b ∷ []) e))
last_same (x ∷ xs) [] a b e = absurd (no_last xs a (sym (tail_is x b (xs ++ a ∷ []) [] e)))
last_same (x ∷ xs) (y ∷ ys) a b e = last_same xs ys a b (tail_is x y (xs ++ a ∷ []) (ys ++ b ∷ []) e)

last_is : (front bytes : List ℕ) (last : ℕ) → bytes ++ last ∷ [] ≡ front ++ empty_line → last ≡ 10
last_is front bytes last e =
    let k : front ++ empty_line ≡ (front ++ 13 ∷ 10 ∷ 13 ∷ []) ++ 10 ∷ [] = sym (append_assoc front (13 ∷ 10 ∷ 13 ∷ []) (10 ∷ [])) in
    last_same bytes (front ++ 13 ∷ 10 ∷ 13 ∷ []) last 10 (e ∙ k)

-- bytes without a line feed end no block
pub no_block_through : (bytes plain : List ℕ) → HasNoBlock bytes → AllByRecursion (λ b. b ≢ 10) plain → HasNoBlock (bytes ++ plain)
no_block_through bytes [] none all = subst HasNoBlock (sym (append-nil bytes)) none
no_block_through bytes (b ∷ plain) none (other, all) =
    let more : HasNoBlock (bytes ++ b ∷ []) = no_block_with bytes b none (λ h. other (last_is h.0 bytes b h.1)) in
    subst HasNoBlock (append_assoc bytes (b ∷ []) plain) (no_block_through (bytes ++ b ∷ []) plain more all)

-- none of the beginnings ends so, and the whole does
pub block_of : (bytes : List ℕ) → ((n : ℕ) → n < length bytes → EndsBlock (take n bytes) → ⊥) → EndsBlock bytes → IsBlock bytes
block_of bytes none ends = record { ends = ends; first = λ front rest e h. by front rest e h }
  where
    by : (front rest : List ℕ) → bytes ≡ front ++ rest → EndsBlock front → rest ≡ []
    by front [] e h = refl
    by front (x ∷ rest) e h =
        let n : length bytes ≡ length front + length (x ∷ rest) = ap length e ∙ length-append front (x ∷ rest) in
        let t : take (length front) bytes ≡ front = ap (take (length front)) e ∙ take-append_seam front (x ∷ rest) in
        absurd (none (length front) (omega arith) (subst EndsBlock (sym t) h))

-- one beginning more
pub none_yet : (bytes : List ℕ) (end : ℕ) → ((n : ℕ) → n < end → EndsBlock (take n bytes) → ⊥) → (EndsBlock (take end bytes) → ⊥)
    → (n : ℕ) → n < end + 1 → EndsBlock (take n bytes) → ⊥
none_yet bytes end before now n few h = by (eqb_tells n end)
  where
    by : ((eqb n end ≡ true) × (n ≡ end)) ⊎ ((eqb n end ≡ false) × (n ≡ end → ⊥)) → ⊥
    by (inl (t, e)) = now (subst (λ m. EndsBlock (take m bytes)) e h)
    by (inr (f, other)) = before n (omega (arith, few, other)) h
