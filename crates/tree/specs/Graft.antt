-- A tree made of lines: at each target what stands at its origin, with the directories above it.
use Rattle.std.specs.Prelude.{◌≡◌, ◌≢◌, List, [], ◌∷◌, ◌++◌, Some, None}
use Rattle.std.specs.FinMap.Entries.{by_order}
use Rattle.std.specs.List.{AllByRecursion}
use Rattle.messages.specs.Path.{IsApart}
use Rattle.tree.specs.Tree.{Name, name_cmp, Tree, empty, leaf, folder, Entry, single, whole}
use Rattle.tree.specs.Tree.{tree_at, below_entry, IsOrdered, IsOrderedEntry}

-- a leaf at a path, in directories of its own, before the entries of rest
abbrev pub sole : {X : Type 0} → List Name → X → Tree X → Tree X
sole [] x rest = rest
sole (n ∷ []) x rest = leaf n x rest
sole (n ∷ m ∷ p) x rest = folder n (sole (m ∷ p) x empty) rest

-- the tree with a leaf at a path, in its place. Where a leaf stands at the path or above it,
-- nothing changes
abbrev pub put : {X : Type 0} → List Name → X → Tree X → Tree X
put [] x t = t
put (n ∷ p) x empty = sole (n ∷ p) x empty
put (n ∷ p) x (leaf m y rest) =
    by_order (name_cmp n m) (sole (n ∷ p) x (leaf m y rest)) (leaf m y rest)
    (leaf m y (put (n ∷ p) x rest))
put (n ∷ p) x (folder m below rest) =
    by_order (name_cmp n m) (sole (n ∷ p) x (folder m below rest)) (folder m (put p x below) rest)
    (folder m below (put (n ∷ p) x rest))

-- each line's leaf at its target
abbrev pub graft : {X : Type 0} → List (List Name × X) → Tree X
graft [] = empty
graft (l ∷ ls) = put l.0 l.1 (graft ls)

-- the tree that has each entry itself in its leaf's place
abbrev pub with_entry : {L : Type 0} → Name → Entry L → Tree L → Tree L
with_entry n (single x) rest = leaf n x rest
with_entry n (whole t) rest = folder n t rest

abbrev pub expand : {L : Type 0} → Tree (Entry L) → Tree L
expand empty = empty
expand (leaf n e rest) = with_entry n e (expand rest)
expand (folder n below rest) = folder n (expand below) (expand rest)

-- no target is empty, equals another or lies under it
abbrev pub HaveApartTargets : {X : Type 0} → List (List Name × X) → Type 0
HaveApartTargets [] = Unit {0}
HaveApartTargets (l ∷ ls) =
    (l.0 ≢ []) × AllByRecursion (λ k. IsApart l.0 k.0) ls × HaveApartTargets ls

-- The graft as a finite map: at each target followed by q stands what stands at q in the entry, and
-- nothing stands apart from all targets.
pub record IsGraftOf {L : Type 0} (ls : List (List Name × Entry L)) (t : Tree L) : Type 0 where
  pub ordered : AllByRecursion (λ l. IsOrderedEntry l.1) ls → IsOrdered t
  pub lines : AllByRecursion
      (λ (l : List Name × Entry L). (q : List Name)
      → tree_at t (l.0 ++ q) ≡ below_entry q (Some l.1)) ls
  pub nothing_else : (n : Name) (q : List Name)
      → AllByRecursion (λ (l : List Name × Entry L). IsApart l.0 (n ∷ q)) ls
      → tree_at t (n ∷ q) ≡ None
  -- each path above a target is a directory
  pub parents : AllByRecursion
      (λ (l : List Name × Entry L). (q : List Name) (n : Name) (r : List Name) → l.0 ≡ q ++ n ∷ r
      → (u : Tree L) × (tree_at t q ≡ Some (whole u))) ls
