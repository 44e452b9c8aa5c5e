-- Lists of one key.
use Rattle.std.proofs.Common.{◌≡◌, ◌||◌, Bool, true, false, [], ◌∷◌, refl}
use Rattle.std.specs.List.{IsDistinct}
use Rattle.eviction.specs.Pinning.{is_among}

module _ {K : Type 0} (eq : K → K → Bool) where
  pub one_distinct : (k : K) → IsDistinct eq (k ∷ [])
  unfolding IsDistinct
  one_distinct k = (tt, tt)

  -- the one key that is among them is equal to it
  pub among_one : (k j : K) → is_among eq (k ∷ []) j ≡ true → eq k j ≡ true
  among_one k j h = by_case (eq k j) h
    where
      by_case : (b : Bool) → (b || false) ≡ true → b ≡ true
      by_case true h = refl
      by_case false h = h
