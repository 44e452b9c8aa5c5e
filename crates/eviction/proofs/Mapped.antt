-- Entering a list, seen through a function of the entries.
use Rattle.std.proofs.Common.{◌≡◌, ℕ, zero, suc, ◌+◌, Bool, true, false, cond, nat_le, List, [], ◌∷◌, map, reverse, length, Some, None, option_map, refl, ap, sym, ◌∙◌}
use Rattle.std.specs.List.{filter, AllByRecursion}
use Rattle.std.proofs.lemmas.List.{length-map}
use mathlib.Core.List.{reverse_aux}
use Rattle.eviction.specs.Kept.{total}
use Rattle.eviction.specs.Entering.{least, spared, spared_last, has_room, evicted_for, enter}
use Rattle.eviction.proofs.Filters.{map-reverse}
use Rattle.eviction.proofs.Choices.{least_same}

module _ {E F : Type 0} (f : E → F) (p : E → Bool) (q : F → Bool) where
  -- the tests agree on the entries
  abbrev pub Alike : List E → Type 0
  Alike es = AllByRecursion (λ e. q (f e) ≡ p e) es

  pub filter_through : (es : List E) → Alike es → filter q (map f es) ≡ map f (filter p es)
  filter_through [] a = refl
  filter_through (e ∷ es) a =
      (λ i. cond (a.0 i) (f e ∷ filter_through es a.1 i) (filter_through es a.1 i))
      ∙ elim (p e) as (λ b. cond b (f e ∷ map f (filter p es)) (map f (filter p es)) ≡ map f (cond b (e ∷ filter p es) (filter p es))) [ true ↦ refl | false ↦ refl ]

  pub spared_through : (m : ℕ) (es : List E) → Alike es → spared q m (map f es) ≡ map f (spared p m es)
  spared_through m [] a = refl
  spared_through zero (e ∷ es) a = refl
  spared_through (suc m) (e ∷ es) a =
      (λ i. cond (a.0 i) (f e ∷ spared_through (suc m) es a.1 i) (spared_through m es a.1 i))
      ∙ elim (p e) as (λ b. cond b (f e ∷ map f (spared p (suc m) es)) (map f (spared p m es)) ≡ map f (cond b (e ∷ spared p (suc m) es) (spared p m es))) [ true ↦ refl | false ↦ refl ]

  turned : (es r : List E) → Alike es → Alike r → Alike (reverse_aux es r)
  turned [] r a b = b
  turned (e ∷ es) r a b = turned es (e ∷ r) a.1 (a.0, b)

  pub spared_last_through : (m : ℕ) (es : List E) → Alike es → spared_last q m (map f es) ≡ map f (spared_last p m es)
  spared_last_through m es a =
      ap (λ l. reverse (spared q m l)) (sym (map-reverse f es))
      ∙ ap reverse (spared_through m (reverse es) (turned es [] a tt))
      ∙ sym (map-reverse f (spared p m (reverse es)))

  module _ (cost : E → ℕ) (cost' : F → ℕ) (same : (e : E) → cost' (f e) ≡ cost e) where
    pub total_through : (es : List E) → total cost' (map f es) ≡ total cost es
    total_through [] = refl
    total_through (e ∷ es) = λ i. same e i + total_through es i

    pub enter_through : (limit : ℕ) (new : E) (others : List E) → Alike others → enter q cost' limit (f new) (map f others) ≡ option_map (map f) (enter p cost limit new others)
    enter_through limit new others a =
        (λ i. cond (room i) (Some (f new ∷ spared_last q (many i) (map f others))) None)
        ∙ (λ i. cond (has_room p cost limit new others) (Some (f new ∷ spared_last_through (evicted_for p cost limit new others) others a i)) None)
        ∙ by_room (has_room p cost limit new others)
      where
        room : has_room q cost' limit (f new) (map f others) ≡ has_room p cost limit new others
        room = ap (λ l. nat_le (cost' (f new) + total cost' l) limit) (filter_through others a) ∙ λ i. nat_le (same new i + total_through (filter p others) i) limit

        many : evicted_for q cost' limit (f new) (map f others) ≡ evicted_for p cost limit new others
        many = ap (least (λ m. nat_le (total cost' (f new ∷ spared_last q m (map f others))) limit)) (length-map others f)
            ∙ least_same (λ m. nat_le (total cost' (f new ∷ spared_last q m (map f others))) limit) (λ m. nat_le (total cost (new ∷ spared_last p m others)) limit)
            (λ m. ap (λ l. nat_le (cost' (f new) + total cost' l) limit) (spared_last_through m others a) ∙ λ i. nat_le (same new i + total_through (spared_last p m others) i) limit) (length others)

        by_room : (b : Bool) → cond b (Some (f new ∷ map f (spared_last p (evicted_for p cost limit new others) others))) None ≡ option_map (map f) (cond b (Some (new ∷ spared_last p (evicted_for p cost limit new others) others)) None)
        by_room true = refl
        by_room false = refl
