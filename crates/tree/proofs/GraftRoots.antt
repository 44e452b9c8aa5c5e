-- A graft of entries has the root of the graft of their nodes.
use Rattle.std.proofs.Common.{◌≡◌, List, [], ◌∷◌, refl, ap, ◌∙◌, map}
use Rattle.std.specs.declared.cmp.Ordering.TheVariants.{Less, Equal, Greater}
use Rattle.std.specs.FinMap.Entries.{by_order}
use Rattle.messages.specs.declared.node.Node.TheVariants.{Dir}
use Rattle.blob_digest.specs.Digest.{digest_of}
use Rattle.messages.specs.Directory.{directory_bytes}
use Rattle.tree.specs.Tree.{Name, name_cmp, Tree, empty, leaf, folder, Leaf, Entry, single, whole}
use Rattle.tree.specs.Form.{with_child, map_leaves, leaf_node, entry_node, form, directory_of, root}
use Rattle.tree.specs.Graft.{sole, put, graft, expand}

map_leaves-sole : {X Y : Type 0} (f : X → Y) (p : List Name) (x : X) (rest : Tree X) → map_leaves f (sole p x rest) ≡ sole p (f x) (map_leaves f rest)
map_leaves-sole f [] x rest = refl
map_leaves-sole f (n ∷ []) x rest = refl
map_leaves-sole f (n ∷ m ∷ p) x rest = ap (λ b. folder n b (map_leaves f rest)) (map_leaves-sole f (m ∷ p) x empty)

pub map_leaves-put : {X Y : Type 0} (f : X → Y) (p : List Name) (x : X) (t : Tree X) → map_leaves f (put p x t) ≡ put p (f x) (map_leaves f t)
map_leaves-put f [] x t = refl
map_leaves-put f (n ∷ p) x empty = map_leaves-sole f (n ∷ p) x empty
map_leaves-put f (n ∷ p) x (leaf m y rest) =
    elim (name_cmp n m) as (λ o. map_leaves f (by_order o (sole (n ∷ p) x (leaf m y rest)) (leaf m y rest) (leaf m y (put (n ∷ p) x rest)))
    ≡ by_order o (sole (n ∷ p) (f x) (leaf m (f y) (map_leaves f rest))) (leaf m (f y) (map_leaves f rest)) (leaf m (f y) (put (n ∷ p) (f x) (map_leaves f rest)))) [
      | Less ↦ map_leaves-sole f (n ∷ p) x (leaf m y rest)
      | Equal ↦ refl
      | Greater ↦ ap (leaf m (f y)) (map_leaves-put f (n ∷ p) x rest)
    ]
map_leaves-put f (n ∷ p) x (folder m below rest) =
    elim (name_cmp n m) as (λ o. map_leaves f (by_order o (sole (n ∷ p) x (folder m below rest)) (folder m (put p x below) rest) (folder m below (put (n ∷ p) x rest)))
    ≡ by_order o (sole (n ∷ p) (f x) (folder m (map_leaves f below) (map_leaves f rest))) (folder m (put p (f x) (map_leaves f below)) (map_leaves f rest)) (folder m (map_leaves f below) (put (n ∷ p) (f x) (map_leaves f rest)))) [
      | Less ↦ map_leaves-sole f (n ∷ p) x (folder m below rest)
      | Equal ↦ ap (λ b. folder m b (map_leaves f rest)) (map_leaves-put f p x below)
      | Greater ↦ ap (folder m (map_leaves f below)) (map_leaves-put f (n ∷ p) x rest)
    ]

pub map_leaves-graft : {X Y : Type 0} (f : X → Y) (ls : List (List Name × X)) → map_leaves f (graft ls) ≡ graft (map (λ l. (l.0, f l.1)) ls)
map_leaves-graft f [] = refl
map_leaves-graft f (l ∷ ls) = map_leaves-put f l.0 l.1 (graft ls) ∙ ap (put l.0 (f l.1)) (map_leaves-graft f ls)

-- an entry and its node are one in the Directory above them
pub directory_of-expand : (t : Tree (Entry Leaf)) → directory_of (form (expand t)) ≡ directory_of (map_leaves entry_node t)
directory_of-expand empty = refl
directory_of-expand (leaf n (single x) rest) = ap (with_child n (leaf_node x)) (directory_of-expand rest)
directory_of-expand (leaf n (whole u) rest) = ap (with_child n (Dir (root (form u)))) (directory_of-expand rest)
directory_of-expand (folder n below rest) = λ i. with_child n (Dir (digest_of (directory_bytes (directory_of-expand below i)))) (directory_of-expand rest i)

-- the graft of entries has the root of the graft of their nodes
pub root-graft : (es : List (List Name × Entry Leaf)) → root (form (expand (graft es))) ≡ root (graft (map (λ e. (e.0, entry_node e.1)) es))
root-graft es = ap (λ m. digest_of (directory_bytes m)) (directory_of-expand (graft es)) ∙ ap root (map_leaves-graft entry_node es)
