-- Filters of lists.
use Rattle.std.proofs.Common.{◌≡◌, Bool, true, false, cond, ◌&&◌, List, [], ◌∷◌, map, reverse, refl, ap, ◌∙◌}
use Rattle.std.specs.List.{filter, AllByRecursion}
use mathlib.Core.List.{reverse_aux}

module _ {X : Type 0} where
  pub filter_none : (p : X → Bool) (xs : List X) → AllByRecursion (λ x. p x ≡ false) xs → filter p xs ≡ []
  filter_none p [] h = refl
  filter_none p (x ∷ xs) h = rw h.0 (filter_none p xs h.1)

  pub filter_all : (p : X → Bool) (xs : List X) → AllByRecursion (λ x. p x ≡ true) xs → filter p xs ≡ xs
  filter_all p [] h = refl
  filter_all p (x ∷ xs) h = rw h.0 (ap (λ l. x ∷ l) (filter_all p xs h.1))

  pub filter_same : (p q : X → Bool) → ((x : X) → p x ≡ q x) → (xs : List X) → filter p xs ≡ filter q xs
  filter_same p q h [] = refl
  filter_same p q h (x ∷ xs) = λ i. cond (h x i) (x ∷ filter_same p q h xs i) (filter_same p q h xs i)

  reversed : (p : X → Bool) (xs r : List X) → filter p (reverse_aux xs r) ≡ reverse_aux (filter p xs) (filter p r)
  reversed p [] r = refl
  reversed p (x ∷ xs) r =
      reversed p xs (x ∷ r)
      ∙ elim (p x) as (λ b. reverse_aux (filter p xs) (cond b (x ∷ filter p r) (filter p r)) ≡ reverse_aux (cond b (x ∷ filter p xs) (filter p xs)) (filter p r)) [ true ↦ refl | false ↦ refl ]

  pub filter-reverse : (p : X → Bool) (xs : List X) → filter p (reverse xs) ≡ reverse (filter p xs)
  filter-reverse p xs = reversed p xs []

  -- two filters in either order
  pub filter_swap : (p q : X → Bool) (xs : List X) → filter p (filter q xs) ≡ filter q (filter p xs)
  filter_swap p q [] = refl
  filter_swap p q (x ∷ xs) = (elim (q x) as (λ b. q x ≡ b → filter p (cond b (x ∷ filter q xs) (filter q xs)) ≡ filter q (filter p (x ∷ xs))) [
    | true ↦ λ t. (elim (p x) as (λ b. p x ≡ b → cond b (x ∷ filter p (filter q xs)) (filter p (filter q xs)) ≡ filter q (cond b (x ∷ filter p xs) (filter p xs))) [
      | true ↦ λ _. rw t (ap (λ l. x ∷ l) (filter_swap p q xs))
      | false ↦ λ _. filter_swap p q xs
    ]) refl
    | false ↦ λ t. (elim (p x) as (λ b. p x ≡ b → filter p (filter q xs) ≡ filter q (cond b (x ∷ filter p xs) (filter p xs))) [
      | true ↦ λ _. rw t (filter_swap p q xs)
      | false ↦ λ _. filter_swap p q xs
    ]) refl
  ]) refl

  -- one filter after another is one by both tests
  pub filter-filter : (p q : X → Bool) (xs : List X) → filter p (filter q xs) ≡ filter (λ x. q x && p x) xs
  filter-filter p q [] = refl
  filter-filter p q (x ∷ xs) =
      elim (q x) as (λ b. filter p (cond b (x ∷ filter q xs) (filter q xs)) ≡ cond (b && p x) (x ∷ filter (λ y. q y && p y) xs) (filter (λ y. q y && p y) xs)) [
        | true ↦ ap (λ l. cond (p x) (x ∷ l) l) (filter-filter p q xs)
        | false ↦ filter-filter p q xs
      ]

module _ {X Y : Type 0} where
  mapped : (f : X → Y) (xs r : List X) → map f (reverse_aux xs r) ≡ reverse_aux (map f xs) (map f r)
  mapped f [] r = refl
  mapped f (x ∷ xs) r = mapped f xs (x ∷ r)

  pub map-reverse : (f : X → Y) (xs : List X) → map f (reverse xs) ≡ reverse (map f xs)
  map-reverse f xs = mapped f xs []

  pub filter-map : (f : X → Y) (p : Y → Bool) (xs : List X) → filter p (map f xs) ≡ map f (filter (λ x. p (f x)) xs)
  filter-map f p [] = refl
  filter-map f p (x ∷ xs) =
      elim (p (f x)) as (λ b. cond b (f x ∷ filter p (map f xs)) (filter p (map f xs)) ≡ map f (cond b (x ∷ filter (λ y. p (f y)) xs) (filter (λ y. p (f y)) xs))) [
        | true ↦ ap (λ l. f x ∷ l) (filter-map f p xs)
        | false ↦ filter-map f p xs
      ]
