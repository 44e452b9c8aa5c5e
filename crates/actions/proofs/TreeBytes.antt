-- One encoding is that of one tree.
use Rattle.std.proofs.Common.{◌≡◌, List, [], ◌∷◌, ◌++◌, ℕ, map, Some, refl, ap}
use Rattle.std.specs.List.{AllByRecursion}
use Rattle.wire.specs.Record.{Value, Record, Bytes}
use Rattle.canonical.specs.Fields.{message_field, element_fields}
use Rattle.messages.specs.DirectoryRules.{DirectoryValue, IsDirectory}
use Rattle.messages.specs.Directory.{directory_bytes}
use Rattle.messages.specs.Tree.{TreeValue, IsTree, tree_bytes}
use Rattle.tree.proofs.WireRecords.{AreFixed, spelling_injective}
use Rattle.tree.proofs.DirectoryBytes.{directory_bytes_injective}
use Rattle.tree.proofs.TreeDigests.{valid_digests}

fixed : (xs : List (List ℕ)) → AreFixed (element_fields 2 xs)
fixed [] = tt
fixed (x ∷ xs) = (tt, fixed xs)

same_elements : (xs ys : List (List ℕ)) → element_fields 2 xs ≡ element_fields 2 ys → xs ≡ ys
same_elements [] [] e = refl
same_elements [] (y ∷ ys) e = cc
same_elements (x ∷ xs) [] e = cc
same_elements (x ∷ xs) (y ∷ ys) e =
    let first : ◌≡◌ {A = Record} (record { number = 2; value = Bytes x }) (record { number = 2; value = Bytes y }) = cc in
    let value : ◌≡◌ {A = Value} (Bytes x) (Bytes y) = ap (λ (r : Record). r.value) first in
    let heads : x ≡ y = cc in
    let tails : element_fields 2 xs ≡ element_fields 2 ys = cc in
    let rest = same_elements xs ys tails in
    λ i. heads i ∷ rest i

same_directories : (ms ns : List DirectoryValue) → AllByRecursion IsDirectory ms → AllByRecursion IsDirectory ns → map directory_bytes ms ≡ map directory_bytes ns → ms ≡ ns
same_directories [] [] h k e = refl
same_directories [] (n ∷ ns) h k e = cc
same_directories (m ∷ ms) [] h k e = cc
same_directories (m ∷ ms) (n ∷ ns) h k e =
    let heads : directory_bytes m ≡ directory_bytes n = cc in
    let tails : map directory_bytes ms ≡ map directory_bytes ns = cc in
    let first = directory_bytes_injective m n (valid_digests m h.0) (valid_digests n k.0) heads in
    let rest = same_directories ms ns h.1 k.1 tails in
    λ i. first i ∷ rest i

pub tree_bytes_injective : (t u : TreeValue) → IsTree t → IsTree u → tree_bytes t ≡ tree_bytes u → t ≡ u
unfolding tree_bytes
tree_bytes_injective t u h k e =
    let lists = spelling_injective (message_field 1 (Some (directory_bytes t.root)) ++ element_fields 2 (map directory_bytes t.children)) (message_field 1 (Some (directory_bytes u.root)) ++ element_fields 2 (map directory_bytes u.children))
    (tt, fixed (map directory_bytes t.children)) (tt, fixed (map directory_bytes u.children)) e in
    let first : ◌≡◌ {A = Record} (record { number = 1; value = Bytes (directory_bytes t.root) }) (record { number = 1; value = Bytes (directory_bytes u.root) }) = cc in
    let value : ◌≡◌ {A = Value} (Bytes (directory_bytes t.root)) (Bytes (directory_bytes u.root)) = ap (λ (r : Record). r.value) first in
    let roots : directory_bytes t.root ≡ directory_bytes u.root = cc in
    let elements : element_fields 2 (map directory_bytes t.children) ≡ element_fields 2 (map directory_bytes u.children) = cc in
    let root = directory_bytes_injective t.root u.root (valid_digests t.root h.root) (valid_digests u.root k.root) roots in
    let children = same_directories t.children u.children h.children k.children (same_elements (map directory_bytes t.children) (map directory_bytes u.children) elements) in
    λ i. record { root = root i; children = children i }

-- no tree's encoding is empty
pub tree_bytes_some : (t : TreeValue) → tree_bytes t ≡ [] → ⊥
unfolding tree_bytes
tree_bytes_some t e =
    let lists = spelling_injective (message_field 1 (Some (directory_bytes t.root)) ++ element_fields 2 (map directory_bytes t.children)) [] (tt, fixed (map directory_bytes t.children)) tt e in
    cc
