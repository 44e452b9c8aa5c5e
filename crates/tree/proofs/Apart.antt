-- Paths that don't overlap, name by name.
use Rattle.std.proofs.Common.{◌≡◌, ◌≢◌, List, [], ◌∷◌, refl, sym, inl, inr}
use Rattle.std.specs.List.{AllByRecursion}
use Rattle.messages.specs.Path.{Overlap, IsApart}
use Rattle.tree.specs.Tree.{Name}
use Rattle.tree.specs.Graft.{HaveApartTargets}

-- paths apart, name by name: neither equals the other or lies under it
abbrev pub Apart : List Name → List Name → Type 0
Apart [] q = ⊥
Apart (n ∷ p) [] = ⊥
Apart (n ∷ p) (m ∷ q) = n ≡ m → Apart p q

-- no target is empty, equals another or lies under it
abbrev pub HaveApart : {X : Type 0} → List (List Name × X) → Type 0
HaveApart [] = Unit {0}
HaveApart (l ∷ ls) =
    (l.0 ≢ []) × AllByRecursion (λ k. Apart l.0 k.0 × Apart k.0 l.0) ls × HaveApart ls

-- the same below one name
longer : (n m : Name) (p q : List Name) → n ≡ m → Overlap p q → Overlap (n ∷ p) (m ∷ q)
longer n m p q e (inl same) = inl (λ i. e i ∷ same i)
longer n m p q e (inr (inl under)) = inr (inl (under.0, under.1, (λ i. e i ∷ under.2 i)))
longer n m p q e (inr (inr under)) = inr (inr (under.0, under.1, (λ i. sym e i ∷ under.2 i)))

pub apart_from : (p q : List Name) → IsApart p q → Apart p q
apart_from [] [] no_overlap = no_overlap (inl refl)
apart_from [] (m ∷ q) no_overlap = no_overlap (inr (inr (m, q, refl)))
apart_from (n ∷ p) [] no_overlap = no_overlap (inr (inl (n, p, refl)))
apart_from (n ∷ p) (m ∷ q) no_overlap = λ e. apart_from p q (λ o. no_overlap (longer n m p q e o))

overlaps_back : (p q : List Name) → Overlap p q → Overlap q p
overlaps_back p q (inl e) = inl (sym e)
overlaps_back p q (inr (inl u)) = inr (inr u)
overlaps_back p q (inr (inr u)) = inr (inl u)

pub Apart-both : (p q : List Name) → IsApart p q → Apart p q × Apart q p
Apart-both p q no_overlap = (apart_from p q no_overlap, apart_from q p (λ o. no_overlap (overlaps_back q p o)))

pub have_apart : {X : Type 0} (ls : List (List Name × X)) → HaveApartTargets ls → HaveApart ls
have_apart [] h = tt
have_apart {X} (l ∷ ls) h = (h.0, each ls h.1, have_apart ls h.2)
  where
    each : (ks : List (List Name × X)) → AllByRecursion (λ k. IsApart l.0 k.0) ks → AllByRecursion (λ k. Apart l.0 k.0 × Apart k.0 l.0) ks
    each [] h = tt
    each (k ∷ ks) h = (Apart-both l.0 k.0 h.0, each ks h.1)

pub all_apart : {X : Type 0} (q : List Name) (ls : List (List Name × X)) → AllByRecursion (λ (l : List Name × X). IsApart l.0 q) ls → AllByRecursion (λ (l : List Name × X). Apart l.0 q) ls
all_apart q [] h = tt
all_apart q (l ∷ ls) h = (apart_from l.0 q h.0, all_apart q ls h.1)
