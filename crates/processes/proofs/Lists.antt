-- Lists that grow by one element.
use Rattle.std.proofs.Common.{◌≡◌, ℕ, zero, suc, ◌+◌, ◌-◌, ◌<◌, ◌≤◌, length, take, drop, get_or, List, [], ◌∷◌, ◌++◌, sym, ◌∙◌, ap, arith}
use Rattle.std.specs.Prelude.{map, remove}
use Rattle.std.specs.List.{AllByRecursion}
use Rattle.std.proofs.Math.Seq.{take-length}
use Rattle.std.proofs.lemmas.List.{map-append, take_more}
use Rattle.processes.specs.Collected.{AreKept}

pub all_more : {X : Type 0} (P : X → Type 0) (xs : List X) (x : X) → AllByRecursion P xs → P x → AllByRecursion P (xs ++ x ∷ [])
all_more P [] x h p = (p, tt)
all_more P (y ∷ ys) x h p = (h.0, all_more P ys x h.1 p)

pub map_taken : {X Y : Type 0} (f : X → Y) (xs : List X) (i : ℕ) (x : X) → i < length xs → x ≡ get_or xs i x → map f (take (i + 1) xs) ≡ map f (take i xs) ++ f x ∷ []
map_taken f xs i x lt is =
    let taken : take (i + 1) xs ≡ take i xs ++ x ∷ [] = take_more xs i x lt ∙ ap (λ y. take i xs ++ y ∷ []) (sym is) in
    ap (map f) taken ∙ map-append f (take i xs) (x ∷ [])

-- a list around one of its elements
pub around : {X : Type 0} (xs : List X) (i : ℕ) (x : X) → i < length xs → x ≡ get_or xs i x → (after : List X) × (xs ≡ take i xs ++ x ∷ after)
around [] i x lt is = absurd (omega (arith, lt))
around (y ∷ xs) zero x lt is = (xs, ap (λ z. z ∷ xs) (sym is))
around (y ∷ xs) (suc i) x lt is = let rest = around xs i x (omega (arith, lt)) is in (rest.0, ap (λ ys. y ∷ ys) rest.1)

-- what holds of some holds of each, where it does at any element
pub all_still : {X : Type 0} (P Q : X → Type 0) (xs : List X) → ((x : X) → P x → Q x) → AllByRecursion P xs → AllByRecursion Q xs
all_still P Q [] f h = tt
all_still P Q (x ∷ xs) f h = (f x h.0, all_still P Q xs f h.1)

-- ---- blobs

pub kept_trans : {bs cs ds : List (List ℕ)} → AreKept bs cs → AreKept cs ds → AreKept bs ds
kept_trans {bs} {cs} {ds} k l = record { kept = λ b h. l.kept b (k.kept b h) }

-- ---- the first and the others

pub first_removed : {X : Type 0} (xs : List X) (x : X) → 0 < length xs → x ≡ get_or xs 0 x → x ∷ remove xs 0 ≡ xs
first_removed [] x some is = absurd (omega (arith, some))
first_removed (y ∷ ys) x some is = ap (λ z. z ∷ ys) is

pub first_and_rest : {X : Type 0} (xs : List X) (x : X) → 1 ≤ length xs → x ≡ get_or xs 0 x → xs ≡ x ∷ take (length xs - 1) (drop 1 xs)
first_and_rest [] x l is = absurd (omega (arith, l))
first_and_rest (y ∷ ys) x l is =
    let len : length (y ∷ ys) - 1 ≡ length ys = omega arith in
    let all : take (length (y ∷ ys) - 1) ys ≡ ys = ap (λ n. take n ys) len ∙ take-length ys in
    ap (λ z. z ∷ ys) (sym is) ∙ ap (λ zs. x ∷ zs) (sym all)

pub same_cons : {X : Type 0} (x y : X) (xs ys : List X) → x ≡ y → xs ≡ ys → x ∷ xs ≡ y ∷ ys
same_cons x y xs ys p q = cc
