-- What counts at a path, and the nodes that are given there.
use Rattle.std.proofs.Common.{◌≡◌, suc, Bool, true, false, not, ◌||◌, List, [], ◌∷◌, ◌++◌, map, length, ◌<◌, refl, ap, sym, ◌∙◌, arith}
use Rattle.std.specs.Prelude.{Result, Ok, Err, IfOk}
use Rattle.std.specs.Bool.{OnTrue, OnFalse}
use Rattle.std.specs.List.{list_any}
use Rattle.tree.specs.Tree.{Name}
use Rattle.tree.specs.Form.{NodeValue}
use Rattle.tree.specs.Merging.{NodeWithin, MergeLines, same_node, gives_node, counted}
use Rattle.tree.specs.MergeParts.{CountsAfter}

or_false : (b : Bool) → (b || false) ≡ b
or_false true = refl
or_false false = refl

any_pushed : {X : Type 0} (test : X → Bool) (xs : List X) (x : X) → list_any test (xs ++ x ∷ []) ≡ (list_any test xs || test x)
any_pushed test [] x = or_false (test x)
any_pushed test (y ∷ xs) x = ap (λ b. test y || b) (any_pushed test xs x) ∙ or_apart (test y) (list_any test xs) (test x)
  where
    or_apart : (a b c : Bool) → (a || (b || c)) ≡ ((a || b) || c)
    or_apart true b c = refl
    or_apart false b c = refl

given_with : (earlier : MergeLines) (l : List Name × NodeWithin) (x : NodeValue) → list_any (λ k. gives_node x k.0 k.1) (earlier ++ l ∷ []) ≡ (list_any (λ k. gives_node x k.0 k.1) earlier || gives_node x l.0 l.1)
given_with earlier l x = any_pushed (λ k. gives_node x k.0 k.1) earlier l

-- a line that gives a node at the path itself
pub here_counts : (earlier : MergeLines) (names : List Name) (g : NodeWithin) (old new : List NodeValue) (taken : Bool) → length names ≡ 0 → taken ≡ not (list_any (same_node g.node) old)
    → OnTrue taken ((x : NodeValue) → list_any (same_node x) new ≡ (list_any (same_node x) old || same_node x g.node)) → OnFalse taken (new ≡ old)
    → CountsAfter earlier (names, g) old new taken
here_counts earlier (n ∷ p) g old new taken none is there same = absurd (omega (arith, none))
here_counts earlier [] g old new true none is there same = λ h. (
  is ∙ ap not (h g.node),
  λ x. there x ∙ ap (λ b. b || same_node x g.node) (h x) ∙ sym (given_with earlier ([], g) x),
)
here_counts earlier [] g old new false none is there same = λ h. (
  is ∙ ap not (h g.node),
  λ x. ap (λ nodes. list_any (same_node x) nodes) same ∙ h x,
)

pub here_answers : {E : Type 0} (r : Result Bool E) (earlier : MergeLines) (names : List Name) (g : NodeWithin) (old new : List NodeValue) → length names ≡ 0 → IfOk r (λ taken. taken ≡ not (list_any (same_node g.node) old))
    → IfOk r (λ taken. OnTrue taken ((x : NodeValue) → list_any (same_node x) new ≡ (list_any (same_node x) old || same_node x g.node))) → IfOk r (λ taken. OnFalse taken (new ≡ old))
    → IfOk r (CountsAfter earlier (names, g) old new)
here_answers (Ok taken) earlier names g old new none is there same = here_counts earlier names g old new taken none is there same
here_answers (Err e) earlier names g old new none is there same = tt

-- fewer than two lines all count
pub few_count : (ls : MergeLines) → length ls < 2 → ls ≡ counted [] ls
few_count [] few = refl
few_count ((([], g)) ∷ []) few = refl
few_count (((n ∷ p), g) ∷ []) few = refl
few_count (l ∷ k ∷ ls) few = absurd (omega (arith, few))

-- it counts, and so isn't repeated; or the other way
pub not_repeated : (b : Bool) → true ≡ not b → b ≡ false
not_repeated true e = absurd (cc)
not_repeated false e = refl

pub repeated : (b : Bool) → false ≡ not b → b ≡ true
repeated true e = refl
repeated false e = absurd (cc)

pub map_length : {X Y : Type 0} (f : X → Y) (xs : List X) → length (map f xs) ≡ length xs
map_length f [] = refl
map_length f (x ∷ xs) = ap suc (map_length f xs)
