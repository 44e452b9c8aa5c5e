-- Lines merge into one tree at most, and where no target overlaps another, that is their graft.
use Rattle.std.proofs.Common.{◌≡◌, ◌≤◌, List, [], ◌∷◌, ◌++◌, length, refl, ap, sym, ◌∙◌, cond, inl, inr, arith, length-append, append_assoc}
use Rattle.std.specs.Prelude.{◌⊎◌, Some}
use Rattle.std.specs.List.{AllByRecursion}
use Rattle.std.specs.Ordering.{eq_by_cmp, is_eq}
use Rattle.messages.specs.Path.{Overlap, IsApart}
use Rattle.tree.specs.Tree.{Name, name_cmp, Tree, Entry, whole, below_entry, tree_at, IsOrderedEntry, Standing, nothing, a_directory, standing, stands_at}
use Rattle.tree.specs.Graft.{graft, expand, HaveApartTargets}
use Rattle.tree.specs.Merge.{gives_at, GivesOnly, IsMergeOf}
use Rattle.tree.proofs.GraftMap.{graft-IsGraftOf}
use Rattle.tree.proofs.SameMap.{same_map}
use Rattle.tree.proofs.TreeLemmas.{name_itself, one_or_two, apart_cmp}

-- ---- paths that overlap

others_first : (n m : Name) (p q : List Name) → (m ≡ n → ⊥) → Overlap (n ∷ p) (m ∷ q) → ⊥
others_first n m p q free (inl e) = free (let heads : m ≡ n = cc in heads)
others_first n m p q free (inr (inl u)) = free (let split = u.2 in let heads : m ≡ n = cc in heads)
others_first n m p q free (inr (inr u)) = free (let split = u.2 in let heads : m ≡ n = cc in heads)

shorter : (n m : Name) (p q : List Name) → Overlap (n ∷ p) (m ∷ q) → Overlap p q
shorter n m p q (inl e) = inl (let tails : p ≡ q = cc in tails)
shorter n m p q (inr (inl u)) = inr (inl (u.0, u.1, (let split = u.2 in let tails : p ≡ q ++ u.0 ∷ u.1 = cc in tails)))
shorter n m p q (inr (inr u)) = inr (inr (u.0, u.1, (let split = u.2 in let tails : q ≡ p ++ u.0 ∷ u.1 = cc in tails)))

-- ---- one tree at most

module _ {L : Type 0} where
  -- no line gives anything at a path, or the trees have the same there
  none_or_same : (ls : List (List Name × Entry L)) (t u : Tree L) (p : List Name)
      → AllByRecursion (λ (l : List Name × Entry L). (p : List Name) → GivesOnly (gives_at l.0 l.1 p) (stands_at t p)) ls
      → AllByRecursion (λ (l : List Name × Entry L). (p : List Name) → GivesOnly (gives_at l.0 l.1 p) (stands_at u p)) ls
      → AllByRecursion (λ (l : List Name × Entry L). gives_at l.0 l.1 p ≡ nothing) ls ⊎ (stands_at t p ≡ stands_at u p)
  none_or_same [] t u p h k = inl tt
  none_or_same (l ∷ ls) t u p h k = by (h.0 p) (k.0 p) (none_or_same ls t u p h.1 k.1)
    where
      by : GivesOnly (gives_at l.0 l.1 p) (stands_at t p) → GivesOnly (gives_at l.0 l.1 p) (stands_at u p)
          → AllByRecursion (λ (l : List Name × Entry L). gives_at l.0 l.1 p ≡ nothing) ls ⊎ (stands_at t p ≡ stands_at u p)
          → AllByRecursion (λ (l : List Name × Entry L). gives_at l.0 l.1 p ≡ nothing) (l ∷ ls) ⊎ (stands_at t p ≡ stands_at u p)
      by (inr a) (inr b) rest = inr (sym a ∙ b)
      by (inl a) b (inl none) = inl (a, none)
      by (inl a) b (inr same) = inr same
      by (inr a) (inl b) (inl none) = inl (b, none)
      by (inr a) (inl b) (inr same) = inr same

  pub merge_once : (ls : List (List Name × Entry L)) (t u : Tree L) → IsMergeOf ls t → IsMergeOf ls u → t ≡ u
  merge_once ls t u h k = same_map t u h.ordered k.ordered at
    where
      at : (p : List Name) → stands_at t p ≡ stands_at u p
      at [] = refl
      at (n ∷ q) = elim (none_or_same ls t u (n ∷ q) h.lines k.lines) [
        | inl none ↦ h.nothing_else n q none ∙ sym (k.nothing_else n q none)
        | inr same ↦ same
      ]

  -- ---- where targets are apart

  -- a path is at or under a target, above it, or apart from it
  pub data Lies (p q : List Name) (e : Entry L) : Type 0 where
    under : (r : List Name) → q ≡ p ++ r → gives_at p e q ≡ standing (below_entry r (Some e)) → Lies p q e
    above : (n : Name) (r : List Name) → p ≡ q ++ n ∷ r → gives_at p e q ≡ a_directory → Lies p q e
    apart : IsApart p q → gives_at p e q ≡ nothing → Lies p q e

  pub lies : (p q : List Name) (e : Entry L) → Lies p q e
  lies [] q e = under q refl refl
  lies (n ∷ p) [] e = above n p refl refl
  lies (n ∷ p) (m ∷ q) e = elim (one_or_two m n) [
    | inl s ↦ longer s (lies p q e)
    | inr free ↦ apart (others_first n m p q free) (ap (λ b. cond b (gives_at p e q) nothing) (apart_cmp m n free))
  ]
    where
      here : m ≡ n → gives_at (n ∷ p) e (m ∷ q) ≡ gives_at p e q
      here s = ap (λ k. cond (eq_by_cmp name_cmp k n) (gives_at p e q) nothing) s ∙ ap (λ o. cond (is_eq o) (gives_at p e q) nothing) (name_itself n)

      longer : m ≡ n → Lies p q e → Lies (n ∷ p) (m ∷ q) e
      longer s (under r split gives) = under r (λ i. s i ∷ split i) (here s ∙ gives)
      longer s (above k r split gives) = above k r (λ i. sym s i ∷ split i) (here s ∙ gives)
      longer s (apart free gives) = apart (λ o. free (shorter n m p q o)) (here s ∙ gives)

  module _ (t : Tree L) where
    lines_given : (ls : List (List Name × Entry L))
        → AllByRecursion (λ (l : List Name × Entry L). (q : List Name) → tree_at t (l.0 ++ q) ≡ below_entry q (Some l.1)) ls
        → AllByRecursion (λ (l : List Name × Entry L). (q : List Name) (n : Name) (r : List Name) → l.0 ≡ q ++ n ∷ r → (u : Tree L) × (tree_at t q ≡ Some (whole u))) ls
        → AllByRecursion (λ (l : List Name × Entry L). (p : List Name) → GivesOnly (gives_at l.0 l.1 p) (stands_at t p)) ls
    lines_given [] h k = tt
    lines_given (l ∷ ls) h k = ((λ p. at p (lies l.0 p l.1)), lines_given ls h.1 k.1)
      where
        at : (p : List Name) → Lies l.0 p l.1 → GivesOnly (gives_at l.0 l.1 p) (stands_at t p)
        at p (under r split gives) = inr (gives ∙ sym (ap standing (ap (tree_at t) split ∙ h.0 r)))
        at p (above n r split gives) = inr (gives ∙ sym (ap standing ((k.0 p n r split).1)))
        at p (apart free gives) = inl gives

    nothing_or_apart : (ls : List (List Name × Entry L)) (p : List Name)
        → AllByRecursion (λ (l : List Name × Entry L). (q : List Name) → tree_at t (l.0 ++ q) ≡ below_entry q (Some l.1)) ls
        → AllByRecursion (λ (l : List Name × Entry L). gives_at l.0 l.1 p ≡ nothing) ls
        → (stands_at t p ≡ nothing) ⊎ AllByRecursion (λ (l : List Name × Entry L). IsApart l.0 p) ls
    nothing_or_apart [] p h none = inr tt
    nothing_or_apart (l ∷ ls) p h none = by (lies l.0 p l.1) (nothing_or_apart ls p h.1 none.1)
      where
        by : Lies l.0 p l.1 → (stands_at t p ≡ nothing) ⊎ AllByRecursion (λ (k : List Name × Entry L). IsApart k.0 p) ls
            → (stands_at t p ≡ nothing) ⊎ AllByRecursion (λ (k : List Name × Entry L). IsApart k.0 p) (l ∷ ls)
        by (under r split gives) rest = inl (ap standing (ap (tree_at t) split ∙ h.0 r) ∙ sym gives ∙ none.0)
        by (above n r split gives) rest = absurd (let both : ◌≡◌ {A = Standing L} a_directory nothing = sym gives ∙ none.0 in cc)
        by (apart free gives) (inl is) = inl is
        by (apart free gives) (inr rest) = inr (free, rest)

  gives_under : (p q : List Name) (e : Entry L) → gives_at p e (p ++ q) ≡ standing (below_entry q (Some e))
  gives_under [] q e = refl
  gives_under (n ∷ p) q e = ap (λ o. cond (is_eq o) (gives_at p e (p ++ q)) nothing) (name_itself n) ∙ gives_under p q e

  -- a line whose directory stands at a path of 64 names has its target there or above
  deep_given : (t : Tree L) (ls : List (List Name × Entry L)) → AllByRecursion (λ (l : List Name × Entry L). length l.0 ≤ 64) ls
      → AllByRecursion (λ (l : List Name × Entry L). (q : List Name) → tree_at t (l.0 ++ q) ≡ below_entry q (Some l.1)) ls
      → AllByRecursion (λ (l : List Name × Entry L). (p : List Name) → GivesOnly (gives_at l.0 l.1 p) (stands_at t p)) ls
      → AllByRecursion (λ (l : List Name × Entry L). (p q : List Name) → length p ≡ 64 → gives_at l.0 l.1 p ≡ a_directory → gives_at l.0 l.1 (p ++ q) ≡ stands_at t (p ++ q)) ls
  deep_given t [] few h only = tt
  deep_given t (l ∷ ls) few h only = ((λ p q names dir. at p q names dir (lies l.0 p l.1)), deep_given t ls few.1 h.1 only.1)
    where
      at : (p q : List Name) → length p ≡ 64 → gives_at l.0 l.1 p ≡ a_directory → Lies l.0 p l.1 → gives_at l.0 l.1 (p ++ q) ≡ stands_at t (p ++ q)
      at p q names dir (under r split gives) =
          let path : p ++ q ≡ l.0 ++ (r ++ q) = ap (λ a. a ++ q) split ∙ append_assoc l.0 r q in
          ap (gives_at l.0 l.1) path ∙ gives_under l.0 (r ++ q) l.1 ∙ sym (ap standing (ap (tree_at t) path ∙ h.0 (r ++ q)))
      at p q names dir (above n r split gives) =
          let count = ap length split ∙ length-append p (n ∷ r) in
          absurd (omega (arith, count, few.0, names))
      at p q names dir (apart free gives) = absurd (let both : ◌≡◌ {A = Standing L} a_directory nothing = sym dir ∙ gives in cc)

  pub graft_merges : (ls : List (List Name × Entry L)) → HaveApartTargets ls → AllByRecursion (λ (l : List Name × Entry L). length l.0 ≤ 64) ls → AllByRecursion (λ (l : List Name × Entry L). IsOrderedEntry l.1) ls
      → IsMergeOf ls (expand (graft ls))
  graft_merges ls targets few ordered =
      let g = graft-IsGraftOf ls targets in
      let only = lines_given (expand (graft ls)) ls g.lines g.parents in
      record {
        ordered = g.ordered ordered;
        lines = only;
        nothing_else = λ n q none. elim (nothing_or_apart (expand (graft ls)) ls (n ∷ q) g.lines none) [
          | inl is ↦ is
          | inr others ↦ ap standing (g.nothing_else n q others)
        ];
        deep = deep_given (expand (graft ls)) ls few g.lines only;
      }
