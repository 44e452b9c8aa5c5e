-- The names of a graft ascend where those of its entries do.
use Rattle.std.proofs.Common.{true, false, cond, List, [], ◌∷◌}
use Rattle.std.specs.Prelude.{Option, Some, None}
use Rattle.std.specs.List.{AllByRecursion}
use Rattle.std.specs.Ordering.{eq_by_cmp}
use Rattle.std.specs.declared.cmp.Ordering.TheVariants.{Less, Equal, Greater}
use Rattle.std.specs.FinMap.Entries.{by_order}
use Rattle.tree.specs.Tree.{Name, name_cmp, Tree, empty, leaf, folder, Entry, single, whole, entry_of, below_entry, IsBelowAll, IsOrdered, IsOrderedEntry}
use Rattle.tree.specs.Graft.{sole, put, graft, expand}
use Rattle.tree.proofs.TreeLemmas.{ordered-graft}

-- an entry of an ordered tree is ordered
abbrev pub IsOrderedAt : {L : Type 0} → Option (Entry L) → Type 0
IsOrderedAt None = Unit {0}
IsOrderedAt (Some e) = IsOrderedEntry e

pub entry_ordered : {L : Type 0} (n : Name) (t : Tree L) → IsOrdered t → IsOrderedAt (entry_of n t)
entry_ordered n empty h = tt
entry_ordered n (leaf m x rest) h = elim (eq_by_cmp name_cmp n m) as (λ q. IsOrderedAt (cond q (Some (single x)) (entry_of n rest))) [
  | true ↦ tt
  | false ↦ entry_ordered n rest h.1
]
entry_ordered n (folder m below rest) h = elim (eq_by_cmp name_cmp n m) as (λ q. IsOrderedAt (cond q (Some (whole below)) (entry_of n rest))) [
  | true ↦ h.1
  | false ↦ entry_ordered n rest h.2
]

pub ordered_at : {L : Type 0} (p : List Name) (o : Option (Entry L)) → IsOrderedAt o → IsOrderedAt (below_entry p o)
ordered_at [] o h = h
ordered_at (n ∷ p) None h = tt
ordered_at (n ∷ p) (Some (single x)) h = tt
ordered_at (n ∷ p) (Some (whole t)) h = ordered_at p (entry_of n t) (entry_ordered n t h)

abbrev pub AllLeaves : {X : Type 0} → (X → Type 0) → Tree X → Type 0
AllLeaves P empty = Unit {0}
AllLeaves P (leaf n x rest) = P x × AllLeaves P rest
AllLeaves P (folder n below rest) = AllLeaves P below × AllLeaves P rest

leaves-sole : {X : Type 0} (P : X → Type 0) (p : List Name) (x : X) (rest : Tree X) → P x → AllLeaves P rest → AllLeaves P (sole p x rest)
leaves-sole P [] x rest h k = k
leaves-sole P (n ∷ []) x rest h k = (h, k)
leaves-sole P (n ∷ m ∷ p) x rest h k = (leaves-sole P (m ∷ p) x empty h tt, k)

leaves-put : {X : Type 0} (P : X → Type 0) (p : List Name) (x : X) (t : Tree X) → P x → AllLeaves P t → AllLeaves P (put p x t)
leaves-put P [] x t h k = k
leaves-put P (n ∷ p) x empty h k = leaves-sole P (n ∷ p) x empty h tt
leaves-put P (n ∷ p) x (leaf m y rest) h k =
    elim (name_cmp n m) as (λ o. AllLeaves P (by_order o (sole (n ∷ p) x (leaf m y rest)) (leaf m y rest) (leaf m y (put (n ∷ p) x rest)))) [
      | Less ↦ leaves-sole P (n ∷ p) x (leaf m y rest) h k
      | Equal ↦ k
      | Greater ↦ (k.0, leaves-put P (n ∷ p) x rest h k.1)
    ]
leaves-put P (n ∷ p) x (folder m below rest) h k =
    elim (name_cmp n m) as (λ o. AllLeaves P (by_order o (sole (n ∷ p) x (folder m below rest)) (folder m (put p x below) rest) (folder m below (put (n ∷ p) x rest)))) [
      | Less ↦ leaves-sole P (n ∷ p) x (folder m below rest) h k
      | Equal ↦ (leaves-put P p x below h k.0, k.1)
      | Greater ↦ (k.0, leaves-put P (n ∷ p) x rest h k.1)
    ]

leaves-graft : {X : Type 0} (P : X → Type 0) (ls : List (List Name × X)) → AllByRecursion (λ (l : List Name × X). P l.1) ls → AllLeaves P (graft ls)
leaves-graft P [] h = tt
leaves-graft P (l ∷ ls) h = leaves-put P l.0 l.1 (graft ls) h.0 (leaves-graft P ls h.1)

below-expand : {L : Type 0} (n : Name) (t : Tree (Entry L)) → IsBelowAll n t → IsBelowAll n (expand t)
below-expand n empty h = tt
below-expand n (leaf m (single x) rest) h = (h.0, below-expand n rest h.1)
below-expand n (leaf m (whole u) rest) h = (h.0, below-expand n rest h.1)
below-expand n (folder m below rest) h = (h.0, below-expand n rest h.1)

ordered-expand : {L : Type 0} (t : Tree (Entry L)) → IsOrdered t → AllLeaves (λ (e : Entry L). IsOrderedEntry e) t → IsOrdered (expand t)
ordered-expand empty h k = tt
ordered-expand (leaf n (single x) rest) h k = (below-expand n rest h.0, ordered-expand rest h.1 k.1)
ordered-expand (leaf n (whole u) rest) h k = (below-expand n rest h.0, k.0, ordered-expand rest h.1 k.1)
ordered-expand (folder n below rest) h k = (below-expand n rest h.0, ordered-expand below h.1 k.0, ordered-expand rest h.2 k.1)

-- a graft of entries in order is in order
pub ordered_grafted : {L : Type 0} (es : List (List Name × Entry L)) → AllByRecursion (λ (e : List Name × Entry L). IsOrderedEntry e.1) es → IsOrdered (expand (graft es))
ordered_grafted es h = ordered-expand (graft es) (ordered-graft es) (leaves-graft IsOrderedEntry es h)
