-- A list whose neighbours ascend.
use Rattle.std.proofs.Common.{◌≡◌, List, [], ◌∷◌, Some, None, Ok, Err, refl, sym, ◌∙◌, Less, Equal, Greater}
use Rattle.std.specs.declared.cmp.Ordering.{Ordering}
use Rattle.std.specs.List.{AllByRecursion}
use Rattle.wire.proofs.Steps.{bind_ok}
use Rattle.messages.specs.declared.error.MessageError.{MessageError}
use Rattle.action_messages.specs.Ascending.{IsAscendingBy, pair_ascends, ascending_behind}

-- what comes before a second comes before what the second comes before
abbrev pub IsTransitive : {X : Type 0} → (X → X → Ordering) → Type 0
IsTransitive {X} cmp = (x y z : X) → cmp x y ≡ Less → cmp y z ≡ Less → cmp x z ≡ Less

pair_less : (o : Ordering) → pair_ascends o ≡ Ok tt → o ≡ Less
pair_less Less e = refl
pair_less Equal e = absurd cc
pair_less Greater e = absurd cc

all_behind : {X : Type 0} (cmp : X → X → Ordering) → IsTransitive cmp → (a b : X) (xs : List X) → cmp a b ≡ Less → AllByRecursion (λ x. cmp b x ≡ Less) xs → AllByRecursion (λ x. cmp a x ≡ Less) xs
all_behind cmp trans a b [] h all = tt
all_behind cmp trans a b (x ∷ xs) h all = (trans a b x h all.0, all_behind cmp trans a b xs h all.1)

behind : {X : Type 0} (cmp : X → X → Ordering) → IsTransitive cmp → (before : X) (xs : List X) → ascending_behind cmp (Some before) xs ≡ Ok tt → AllByRecursion (λ x. cmp before x ≡ Less) xs × IsAscendingBy cmp xs
behind cmp trans before [] e = (tt, tt)
behind cmp trans before (x ∷ xs) e =
    let b = bind_ok (pair_ascends (cmp before x)) (λ _. ascending_behind cmp (Some x) xs) tt e in
    let less = pair_less (cmp before x) b.1 in
    let rest = behind cmp trans x xs b.2 in
    ((less, all_behind cmp trans before x xs less rest.0), rest)

pub ascending : {X : Type 0} (cmp : X → X → Ordering) → IsTransitive cmp → (xs : List X) → ascending_behind cmp None xs ≡ Ok tt → IsAscendingBy cmp xs
ascending cmp trans [] e = tt
ascending cmp trans (x ∷ xs) e = behind cmp trans x xs e

before_all : {X : Type 0} (cmp : X → X → Ordering) (before : X) (xs : List X) → AllByRecursion (λ x. cmp before x ≡ Less) xs → IsAscendingBy cmp xs → ascending_behind cmp (Some before) xs ≡ Ok tt
before_all cmp before [] all h = refl
before_all cmp before (x ∷ xs) all h =
    let less : cmp before x ≡ Less = all.0 in
    rw less (before_all cmp x xs h.0 h.1)

pub ascending_behind-from : {X : Type 0} (cmp : X → X → Ordering) (xs : List X) → IsAscendingBy cmp xs → ascending_behind cmp None xs ≡ Ok tt
ascending_behind-from cmp [] h = refl
ascending_behind-from cmp (x ∷ xs) h = before_all cmp x xs h.0 h.1

-- a walk that is refused is one over a list that doesn't ascend
pub not_ascending : {X : Type 0} (cmp : X → X → Ordering) (xs : List X) (e : MessageError) → ascending_behind cmp None xs ≡ Err e → IsAscendingBy cmp xs → ⊥
not_ascending cmp xs e given up = let o = ascending_behind-from cmp xs up in cc (sym o ∙ given)
