-- Elements one after another, as a loop reads them.
use Rattle.std.proofs.Common.{◌≡◌, ℕ, ◌+◌, ◌<◌, List, [], ◌∷◌, ◌++◌, length, drop, get_or, Result, Ok, Err, refl, sym, ap, ◌∙◌}
use Rattle.std.specs.Borrow.{Bor}
use Rattle.std.proofs.lemmas.List.{drop_more}
use Rattle.canonical.specs.View.{slices}
use Rattle.canonical.specs.Told.{each}
use Rattle.wire.proofs.Steps.{with_front, regroup}

pub goes_on : {A B E : Type 0} (reads : A → Result B E) (front : List B) (x : A) (xs : List A) (y : B) (total : Result (List B) E) → reads x ≡ Ok y → with_front front (each reads (x ∷ xs)) ≡ total → with_front (front ++ y ∷ []) (each reads xs) ≡ total
goes_on reads front x xs y total is so_far = sym (regroup front y (each reads xs)) ∙ rw is at so_far

pub breaks : {A B E : Type 0} (reads : A → Result B E) (front : List B) (x : A) (xs : List A) (e : E) (total : Result (List B) E) → reads x ≡ Err e → with_front front (each reads (x ∷ xs)) ≡ total → total ≡ Err e
breaks reads front x xs e total is so_far = sym so_far ∙ rw is refl

-- the same at an index of the slices that are read
pub goes_on_at : {B E : Type 0} (reads : List ℕ → Result B E) (front : List B) (elements : List (Bor (List ℕ))) (i : ℕ) (d : Bor (List ℕ)) (y : B) (total : Result (List B) E) → i < length elements → reads (get_or elements i d).now ≡ Ok y → with_front front (each reads (slices (drop i elements))) ≡ total → with_front (front ++ y ∷ []) (each reads (slices (drop (i + 1) elements))) ≡ total
goes_on_at reads front elements i d y total lt is so_far = goes_on reads front (get_or elements i d).now (slices (drop (i + 1) elements)) y total is (ap (λ (l : List (Bor (List ℕ))). with_front front (each reads (slices l))) (sym (drop_more elements i d lt)) ∙ so_far)
