-- Files in the order of their paths, and their contents.
use Rattle.std.proofs.Common.{◌≡◌, ℕ, zero, suc, ◌+◌, ◌<◌, List, [], ◌∷◌, length, refl, ap, ◌∙◌, arith}
use Rattle.std.specs.Prelude.{slice_index_or, IsPermutation}
use Rattle.std.proofs.lemmas.List.Sorted.{IsPermutation-map}
use Rattle.std.specs.Ordering.{is_lt}
use Rattle.std.specs.declared.vec.Vec.{Vec}
use Rattle.messages.specs.Path.{text_cmp}
use Rattle.action_messages.specs.Ascending.{IsSortedByText}
use Rattle.worker.specs.Values.{contents_of}

length_contents : {A : Type 0} (fs : List (List (List ℕ) × Vec ℕ A)) → length (contents_of fs) ≡ length fs
length_contents [] = refl
length_contents (f ∷ fs) = ap suc (length_contents fs)

path_at : {A : Type 0} (fs : List (List (List ℕ) × Vec ℕ A)) (k : ℕ) (d : List (List ℕ) × List ℕ) (e : List (List ℕ) × Vec ℕ A) → k < length fs
    → (slice_index_or (contents_of fs) k d).0 ≡ (slice_index_or fs k e).0
path_at [] k d e lt = absurd (omega (arith, lt))
path_at (f ∷ fs) zero d e lt = refl
path_at (f ∷ fs) (suc k) d e lt = path_at fs k d e (omega (arith, lt))

first_of : {X : Type 0} (xs : List X) → 0 < length xs → X
first_of [] lt = absurd (omega (arith, lt))
first_of (x ∷ xs) lt = x

pub sorted_contents : {A : Type 0} (fs : List (List (List ℕ) × Vec ℕ A)) → IsSortedByText (λ f. f.0) fs → IsSortedByText (λ f. f.0) (contents_of fs)
sorted_contents fs sorted k d le lt =
    let len = length_contents fs in
    let e = first_of fs (omega (arith, lt, len)) in
    ap is_lt (ap (λ p. text_cmp p (slice_index_or (contents_of fs) k d).0) (path_at fs (k + 1) d e (omega (arith, lt, len))))
    ∙ ap is_lt (ap (text_cmp (slice_index_or fs (k + 1) e).0) (path_at fs k d e (omega (arith, lt, len))))
    ∙ sorted k e le (omega (arith, lt, len))

pub permuted_contents : {A : Type 0} (fs gs : List (List (List ℕ) × Vec ℕ A)) → IsPermutation fs gs → IsPermutation (contents_of fs) (contents_of gs)
permuted_contents {A} fs gs h = IsPermutation-map (λ (f : List (List ℕ) × Vec ℕ A). (f.0, f.1.items)) fs gs h

pub none_left : {X : Type 0} (xs : List X) → length xs ≡ 0 → xs ≡ []
none_left [] h = refl
none_left (x ∷ xs) h = absurd (omega (arith, h))
