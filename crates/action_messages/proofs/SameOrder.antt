-- Two lists with the same elements, both in one strict order, are equal.
use Rattle.std.proofs.Common.{◌≡◌, ℕ, zero, suc, List, [], ◌∷◌, map, refl, sym, subst, ◌∙◌, arith, inl, inr, ◌⊎◌}
use Rattle.std.specs.Prelude.{IsPermutation}
use Rattle.std.specs.List.{AllByRecursion, Contains}
use Rattle.std.specs.declared.cmp.Ordering.TheVariants.{Less, Equal, Greater}
use Rattle.std.proofs.lemmas.List.Sorted.{Contains-permutation, IsPermutation-sym}
use Rattle.messages.specs.Order.{bytes_cmp}
use Rattle.messages.specs.Path.{path_text}
use Rattle.messages.proofs.Orders.{flipped, itself}
use Rattle.action_messages.specs.Ascending.{IsAscendingBy}
use Rattle.action_messages.specs.Overlaps.{texts_of}

contains_cases : {A : Type 0} (a x : A) (xs : List A) → Contains (a ∷ xs) x → (a ≡ x) ⊎ Contains xs x
contains_cases a x xs (zero, lt, e) = inl e
contains_cases a x xs (suc k, lt, e) = inr (k, omega (arith, lt), e)

contains_first : {A : Type 0} (a : A) (xs : List A) → Contains (a ∷ xs) a
contains_first a xs = (0, omega arith, refl)

contains_later : {A : Type 0} (a x : A) (xs : List A) → Contains xs x → Contains (a ∷ xs) x
contains_later a x xs (k, lt, e) = (suc k, omega (arith, lt), e)

contains_none : {A : Type 0} (x : A) → Contains [] x → ⊥
contains_none x (k, lt, e) = absurd (omega (arith, lt))

-- the elements stand in the order of their paths' texts
abbrev pub AscendBy : {A : Type 0} → (A → List (List ℕ)) → List A → Type 0
AscendBy path xs = IsAscendingBy bytes_cmp (texts_of (map path xs))

all_at : {A : Type 0} (path : A → List (List ℕ)) (P : List ℕ → Type 0) (xs : List A) (x : A) → AllByRecursion P (texts_of (map path xs)) → Contains xs x → P (path_text (path x))
all_at path P [] x all c = absurd (contains_none x c)
all_at path P (y ∷ xs) x all c =
    elim (contains_cases y x xs c) [
      | inl e ↦ subst (λ z. P (path_text (path z))) e all.0
      | inr d ↦ all_at path P xs x all.1 d
    ]

not_both : (x y : List ℕ) → bytes_cmp x y ≡ Less → bytes_cmp y x ≡ Less → ⊥
not_both x y h k = let back = flipped x y Less h in let no : Less ≡ Greater = sym k ∙ back in cc

not_self : (x : List ℕ) → bytes_cmp x x ≡ Less → ⊥
not_self x h = let no : Less ≡ Equal = sym h ∙ itself x in cc

abbrev Within : {A : Type 0} → List A → List A → Type 0
Within xs ys = (x : _) → Contains xs x → Contains ys x

same_heads : {A : Type 0} (path : A → List (List ℕ)) (x y : A) (xs ys : List A) → AscendBy path (x ∷ xs) → AscendBy path (y ∷ ys) → Contains (y ∷ ys) x → Contains (x ∷ xs) y → x ≡ y
same_heads path x y xs ys h k there here =
    elim (contains_cases y x ys there) [
      | inl e ↦ sym e
      | inr late ↦ elim (contains_cases x y xs here) [
        | inl e ↦ e
        | inr later ↦ absurd (not_both (path_text (path x)) (path_text (path y)) (all_at path (λ t. bytes_cmp (path_text (path x)) t ≡ Less) xs y h.0 later) (all_at path (λ t. bytes_cmp (path_text (path y)) t ≡ Less) ys x k.0 late))
      ]
    ]

tail_within : {A : Type 0} (path : A → List (List ℕ)) (x y : A) (xs ys : List A) → AscendBy path (x ∷ xs) → x ≡ y → Within (x ∷ xs) (y ∷ ys) → Within xs ys
tail_within path x y xs ys h e w z c =
    elim (contains_cases y z ys (w z (contains_later x z xs c))) [
      | inl same ↦ absurd (not_self (path_text (path x)) (subst (λ t. bytes_cmp (path_text (path x)) (path_text (path t)) ≡ Less) (sym same ∙ sym e) (all_at path (λ t. bytes_cmp (path_text (path x)) t ≡ Less) xs z h.0 c)))
      | inr d ↦ d
    ]

same_elements : {A : Type 0} (path : A → List (List ℕ)) (xs ys : List A) → AscendBy path xs → AscendBy path ys → Within xs ys → Within ys xs → xs ≡ ys
same_elements path [] [] h k w v = refl
same_elements path [] (y ∷ ys) h k w v = absurd (contains_none y (v y (contains_first y ys)))
same_elements path (x ∷ xs) [] h k w v = absurd (contains_none x (w x (contains_first x xs)))
same_elements path (x ∷ xs) (y ∷ ys) h k w v =
    let heads = same_heads path x y xs ys h k (w x (contains_first x xs)) (v y (contains_first y ys)) in
    let tails = same_elements path xs ys h.1 k.1 (tail_within path x y xs ys h heads w) (tail_within path y x ys xs k (sym heads) v) in
    λ i. heads i ∷ tails i

-- the one order of a list's elements
pub same_order : {A : Type 0} (path : A → List (List ℕ)) (read xs ys : List A) → IsPermutation read xs → IsPermutation read ys → AscendBy path xs → AscendBy path ys → xs ≡ ys
same_order path read xs ys p q h k =
    same_elements path xs ys h k
    (λ z c. Contains-permutation read ys z q (Contains-permutation xs read z (IsPermutation-sym read xs p) c))
    (λ z c. Contains-permutation read xs z p (Contains-permutation ys read z (IsPermutation-sym read ys q) c))
