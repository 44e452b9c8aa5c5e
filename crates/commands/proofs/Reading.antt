-- What was read of a folder, name by name, as a tree that grows at its end.
use Rattle.std.proofs.Common.{◌≡◌, ◌≢◌, ◌∙◌, ◌+◌, ◌≤◌, ℕ, suc, false, get_or, List, [], ◌∷◌, ◌++◌, ap, append-nil, append_assoc, arith, refl, subst, sym}
use Rattle.std.specs.Prelude.{Bool, IsSorted}
use Rattle.std.specs.List.{AllByRecursion}
use Rattle.std.specs.Ordering.{is_lt, ordering_reverse}
use Rattle.std.specs.Cmp.Lexicographic.{nat_list_cmp_total}
use Rattle.std.specs.FinMap.{slice_cmp-IsAntisymmetric, nat_cmp-IsAntisymmetric}
use Rattle.std.specs.declared.cmp.Ordering.{Ordering}
use Rattle.std.specs.declared.cmp.Ordering.TheVariants.{Less, Equal, Greater}
use Rattle.messages.specs.DirectoryRules.{AreNames, DirectoryValue, directory_names, file_names, symlink_names}
use Rattle.messages.specs.Order.{ShareNone, bytes_cmp}
use Rattle.messages.specs.declared.node.Node.TheVariants.{Dir, File, Link}
use Rattle.tree.specs.Form.{NodeValue, directory_of, entry_node, form, leaf_node, root, with_child}
use Rattle.tree.specs.Tree.{Entry, IsBelowAll, IsOrdered, Leaf, Name, Tree, empty, file, folder, leaf, link, single, whole}
use Rattle.commands.specs.Children.{with_last_child}
use Rattle.commands.specs.Read.{AreRead, IsEntryRead, ReadBlob, TakesAll, blobs_below, depth, leaf_blobs, names_of}
use Rattle.commands.specs.Walked.{entry_blobs, entry_depth}
use Rattle.commands.specs.World.{Sight}

-- ---- a tree with one more entry behind the others

abbrev only : Name → Entry Leaf → Tree Leaf
only n (single x) = leaf n x empty
only n (whole t) = folder n t empty

abbrev pub with_last : Tree Leaf → Name → Entry Leaf → Tree Leaf
with_last empty n e = only n e
with_last (leaf m y rest) n e = leaf m y (with_last rest n e)
with_last (folder m below rest) n e = folder m below (with_last rest n e)

names-only : (n : Name) (e : Entry Leaf) → names_of (only n e) ≡ n ∷ []
names-only n (single x) = refl
names-only n (whole t) = refl

pub names-with_last : (t : Tree Leaf) (n : Name) (e : Entry Leaf) → names_of (with_last t n e) ≡ names_of t ++ n ∷ []
names-with_last empty n e = names-only n e
names-with_last (leaf m y rest) n e = ap (λ l. m ∷ l) (names-with_last rest n e)
names-with_last (folder m below rest) n e = ap (λ l. m ∷ l) (names-with_last rest n e)

depth-only : (k : ℕ) (n : Name) (e : Entry Leaf) → entry_depth e + 1 ≤ k → depth (only n e) ≤ k
depth-only k n (single x) h = omega (arith, h)
depth-only k n (whole t) h = omega (arith, h)

pub depth-with_last : (k : ℕ) (t : Tree Leaf) (n : Name) (e : Entry Leaf) → depth t ≤ k → entry_depth e + 1 ≤ k → depth (with_last t n e) ≤ k
depth-with_last k empty n e h more = depth-only k n e more
depth-with_last k (leaf m y rest) n e h more = let rest_less : depth rest ≤ k = omega (arith, h) in let less = depth-with_last k rest n e rest_less more in omega (arith, h, less)
depth-with_last k (folder m below rest) n e h more = let rest_less : depth rest ≤ k = omega (arith, h) in let less = depth-with_last k rest n e rest_less more in omega (arith, h, less)

blobs-only : (n : Name) (e : Entry Leaf) → blobs_below (only n e) ≡ entry_blobs e
blobs-only n (single x) = append-nil (leaf_blobs x)
blobs-only n (whole t) = append-nil (entry_blobs (whole t))

pub blobs-with_last : (t : Tree Leaf) (n : Name) (e : Entry Leaf) → blobs_below (with_last t n e) ≡ blobs_below t ++ entry_blobs e
blobs-with_last empty n e = blobs-only n e
blobs-with_last (leaf m y rest) n e = ap (λ l. leaf_blobs y ++ l) (blobs-with_last rest n e) ∙ sym (append_assoc (leaf_blobs y) (blobs_below rest) (entry_blobs e))
blobs-with_last (folder m below rest) n e = ap (λ l. entry_blobs (whole below) ++ l) (blobs-with_last rest n e) ∙ sym (append_assoc (entry_blobs (whole below)) (blobs_below rest) (entry_blobs e))

module _ (sees : Sight) (bits : Bool) (place : List ℕ) where
  read-only : (n : Name) (e : Entry Leaf) → IsEntryRead sees bits (place ++ 47 ∷ n) e → AreRead sees bits place (only n e)
  read-only n (single x) h = (h, tt)
  read-only n (whole t) h = ((h.0, h.1.listed, h.1.read), tt)

  pub read-with_last : (t : Tree Leaf) (n : Name) (e : Entry Leaf) → AreRead sees bits place t → IsEntryRead sees bits (place ++ 47 ∷ n) e → AreRead sees bits place (with_last t n e)
  read-with_last empty n e before h = read-only n e h
  read-with_last (leaf m y rest) n e before h = (before.0, read-with_last rest n e before.1 h)
  read-with_last (folder m below rest) n e before h = (before.0, read-with_last rest n e before.1 h)

-- ---- its Directory

child_commutes : (m n : Name) (a b : NodeValue) (d : DirectoryValue) → with_child m a (with_last_child n b d) ≡ with_last_child n b (with_child m a d)
child_commutes m n (File c x) (File e y) d = refl
child_commutes m n (File c x) (Link t) d = refl
child_commutes m n (File c x) (Dir e) d = refl
child_commutes m n (Link s) (File e y) d = refl
child_commutes m n (Link s) (Link t) d = refl
child_commutes m n (Link s) (Dir e) d = refl
child_commutes m n (Dir c) (File e y) d = refl
child_commutes m n (Dir c) (Link t) d = refl
child_commutes m n (Dir c) (Dir e) d = refl

directory-only : (n : Name) (e : Entry Leaf) → directory_of (form (only n e)) ≡ with_last_child n (entry_node e) (directory_of empty)
directory-only n (single (file content executable)) = refl
directory-only n (single (link target)) = refl
directory-only n (whole t) = refl

pub directory-with_last : (t : Tree Leaf) (n : Name) (e : Entry Leaf) → directory_of (form (with_last t n e)) ≡ with_last_child n (entry_node e) (directory_of (form t))
directory-with_last empty n e = directory-only n e
directory-with_last (leaf m y rest) n e = ap (with_child m (leaf_node y)) (directory-with_last rest n e) ∙ child_commutes m n (leaf_node y) (entry_node e) (directory_of (form rest))
directory-with_last (folder m below rest) n e =
    ap (with_child m (Dir (root (form below)))) (directory-with_last rest n e) ∙ child_commutes m n (Dir (root (form below))) (entry_node e) (directory_of (form rest))

-- ---- names that are in order and of which none stands twice ascend

-- the folders in it are ordered
abbrev pub AreOrderedBelow : Tree Leaf → Type 0
AreOrderedBelow empty = Unit {0}
AreOrderedBelow (leaf n x rest) = AreOrderedBelow rest
AreOrderedBelow (folder n below rest) = IsOrdered below × AreOrderedBelow rest

abbrev IsOrderedEntry : Entry Leaf → Type 0
IsOrderedEntry (single x) = Unit {0}
IsOrderedEntry (whole t) = IsOrdered t

ordered-only : (n : Name) (e : Entry Leaf) → IsOrderedEntry e → AreOrderedBelow (only n e)
ordered-only n (single x) h = tt
ordered-only n (whole t) h = (h, tt)

ordered-with_last : (t : Tree Leaf) (n : Name) (e : Entry Leaf) → AreOrderedBelow t → IsOrderedEntry e → AreOrderedBelow (with_last t n e)
ordered-with_last empty n e h more = ordered-only n e more
ordered-with_last (leaf m y rest) n e h more = ordered-with_last rest n e h more
ordered-with_last (folder m below rest) n e h more = (h.0, ordered-with_last rest n e h.1 more)

read_ordered : (sees : Sight) (bits : Bool) (place : List ℕ) (e : Entry Leaf) → IsEntryRead sees bits place e → IsOrderedEntry e
read_ordered sees bits place (single x) h = tt
read_ordered sees bits place (whole t) h = h.1.ordered

pub ordered_more : (sees : Sight) (bits : Bool) (place : List ℕ) (t : Tree Leaf) (n : Name) (e : Entry Leaf) → AreOrderedBelow t → IsEntryRead sees bits place e → AreOrderedBelow (with_last t n e)
ordered_more sees bits place t n e h read = ordered-with_last t n e h (read_ordered sees bits place e read)

less_trans : (n m k : Name) → bytes_cmp n m ≡ Less → bytes_cmp m k ≡ Less → bytes_cmp n k ≡ Less
less_trans n m k p q = nat_list_cmp_total.trans n m k p q

below_trans : (n m : Name) (t : Tree Leaf) → bytes_cmp n m ≡ Less → IsBelowAll m t → IsBelowAll n t
below_trans n m empty e h = tt
below_trans n m (leaf k x rest) e h = (less_trans n m k e h.0, below_trans n m rest e h.1)
below_trans n m (folder k below rest) e h = (less_trans n m k e h.0, below_trans n m rest e h.1)

-- a name that isn't behind another, and is another one, is before it
comes_before : (n m : Name) → is_lt (bytes_cmp m n) ≡ false → n ≢ m → bytes_cmp n m ≡ Less
comes_before n m behind other = by (bytes_cmp n m) refl
  where
    by : (o : Ordering) → bytes_cmp n m ≡ o → bytes_cmp n m ≡ Less
    by Less e = e
    by Equal e = absurd (other (slice_cmp-IsAntisymmetric nat_cmp-IsAntisymmetric n m e))
    by Greater e = let less : bytes_cmp m n ≡ Less = nat_list_cmp_total.antisymm m n ∙ ap ordering_reverse e in cc

-- a name that none of the children has
record IsApart (n : Name) (d : DirectoryValue) : Type 0 where
  files : AllByRecursion (λ m. n ≢ m) (file_names d.files)
  directories : AllByRecursion (λ m. n ≢ m) (directory_names d.directories)
  symlinks : AllByRecursion (λ m. n ≢ m) (symlink_names d.symlinks)

abbrev Named : DirectoryValue → Type 0
Named d = AreNames (file_names d.files) (directory_names d.directories) (symlink_names d.symlinks)

itself_not_less : (n : Name) → bytes_cmp n n ≡ Less → ⊥
itself_not_less n less = let back : bytes_cmp n n ≡ Greater = nat_list_cmp_total.antisymm n n ∙ ap ordering_reverse less in cc

less_other : (n m : Name) → bytes_cmp n m ≡ Less → n ≢ m
less_other n m less = λ same. itself_not_less n (subst (λ k. bytes_cmp n k ≡ Less) (sym same) less)

all_other : (n : Name) (names : List Name) → AllByRecursion (λ m. bytes_cmp n m ≡ Less) names → AllByRecursion (λ m. n ≢ m) names
all_other n [] h = tt
all_other n (m ∷ names) h = (less_other n m h.0, all_other n names h.1)

-- of lists that share none the second has none of the first's first, and the first none of the second's
not_first : (names : List Name) (n : Name) (others : List Name) → ShareNone names (n ∷ others) → AllByRecursion (λ m. n ≢ m) names
not_first [] n others h = tt
not_first (m ∷ names) n others h = ((λ same. h.0.0 (sym same)), not_first names n others h.1)

without_first : (names : List Name) (n : Name) (others : List Name) → ShareNone names (n ∷ others) → ShareNone names others
without_first [] n others h = tt
without_first (m ∷ names) n others h = (h.0.1, without_first names n others h.1)

record Split (n : Name) (d : DirectoryValue) : Type 0 where
  apart : IsApart n d
  rest : Named d

split : (n : Name) (x : NodeValue) (d : DirectoryValue) → Named (with_child n x d) → Split n d
split n (File c executable) d h = record {
  apart = record { files = all_other n (file_names d.files) h.files_ascend.0; directories = h.files_and_directories.0; symlinks = h.files_and_symlinks.0 };
  rest = record {
    files_ascend = h.files_ascend.1;
    directories_ascend = h.directories_ascend;
    symlinks_ascend = h.symlinks_ascend;
    files_and_directories = h.files_and_directories.1;
    files_and_symlinks = h.files_and_symlinks.1;
    directories_and_symlinks = h.directories_and_symlinks;
  };
}
split n (Dir c) d h = record {
  apart = record {
    files = not_first (file_names d.files) n (directory_names d.directories) h.files_and_directories;
    directories = all_other n (directory_names d.directories) h.directories_ascend.0;
    symlinks = h.directories_and_symlinks.0;
  };
  rest = record {
    files_ascend = h.files_ascend;
    directories_ascend = h.directories_ascend.1;
    symlinks_ascend = h.symlinks_ascend;
    files_and_directories = without_first (file_names d.files) n (directory_names d.directories) h.files_and_directories;
    files_and_symlinks = h.files_and_symlinks;
    directories_and_symlinks = h.directories_and_symlinks.1;
  };
}
split n (Link target) d h = record {
  apart = record {
    files = not_first (file_names d.files) n (symlink_names d.symlinks) h.files_and_symlinks;
    directories = not_first (directory_names d.directories) n (symlink_names d.symlinks) h.directories_and_symlinks;
    symlinks = all_other n (symlink_names d.symlinks) h.symlinks_ascend.0;
  };
  rest = record {
    files_ascend = h.files_ascend;
    directories_ascend = h.directories_ascend;
    symlinks_ascend = h.symlinks_ascend.1;
    files_and_directories = h.files_and_directories;
    files_and_symlinks = without_first (file_names d.files) n (symlink_names d.symlinks) h.files_and_symlinks;
    directories_and_symlinks = without_first (directory_names d.directories) n (symlink_names d.symlinks) h.directories_and_symlinks;
  };
}

apart_from_first : (n m : Name) (x : NodeValue) (d : DirectoryValue) → IsApart n (with_child m x d) → n ≢ m
apart_from_first n m (File c executable) d h = h.files.0
apart_from_first n m (Dir c) d h = h.directories.0
apart_from_first n m (Link target) d h = h.symlinks.0

sorted_rest : (n : Name) (names : List Name) → IsSorted bytes_cmp (n ∷ names) → IsSorted bytes_cmp names
sorted_rest n names sorted = λ k d low less.
    let e : suc k + 1 ≡ suc (k + 1) = omega arith in
    subst (λ j. is_lt (bytes_cmp (get_or (n ∷ names) j d) (get_or names k d)) ≡ false) e (sorted (suc k) d (omega arith) (omega (arith, less)))

first_before : (n m : Name) (names : List Name) → IsSorted bytes_cmp (n ∷ m ∷ names) → n ≢ m → bytes_cmp n m ≡ Less
first_before n m names sorted other = comes_before n m (sorted 0 n (omega arith) (omega arith)) other

-- the first name comes before all others
first_below : (n : Name) (t : Tree Leaf) → IsSorted bytes_cmp (n ∷ names_of t) → IsApart n (directory_of (form t)) → IsOrdered t → IsBelowAll n t
first_below n empty sorted apart ordered = tt
first_below n (leaf m x rest) sorted apart ordered =
    let less = first_before n m (names_of rest) sorted (apart_from_first n m (leaf_node x) (directory_of (form rest)) apart) in
    (less, below_trans n m rest less ordered.0)
first_below n (folder m below rest) sorted apart ordered =
    let less = first_before n m (names_of rest) sorted (apart_from_first n m (Dir (root (form below))) (directory_of (form rest)) apart) in
    (less, below_trans n m rest less ordered.0)

pub ordered_by_names : (t : Tree Leaf) → IsSorted bytes_cmp (names_of t) → AreOrderedBelow t → Named (directory_of (form t)) → IsOrdered t
ordered_by_names empty sorted inner named = tt
ordered_by_names (leaf n x rest) sorted inner named =
    let two = split n (leaf_node x) (directory_of (form rest)) named in
    let more = ordered_by_names rest (sorted_rest n (names_of rest) sorted) inner two.rest in
    (first_below n rest sorted two.apart more, more)
ordered_by_names (folder n below rest) sorted inner named =
    let two = split n (Dir (root (form below))) (directory_of (form rest)) named in
    let more = ordered_by_names rest (sorted_rest n (names_of rest) sorted) inner.1 two.rest in
    (first_below n rest sorted two.apart more, inner.0, more)

-- ---- what takes the blobs

module _ {S : Type 0} (takes : S → S → ReadBlob → Type 0) where
  pub takes_more : (blobs more : List ReadBlob) (old mid new : S) → TakesAll takes old mid blobs → TakesAll takes mid new more → TakesAll takes old new (blobs ++ more)
  takes_more [] more old mid new h next = subst (λ s. TakesAll takes s new more) h next
  takes_more (b ∷ blobs) more old mid new h next = (h.0, h.1, takes_more blobs more h.0 mid new h.2 next)

  pub takes_one : (blob : ReadBlob) (old new : S) → takes old new blob → TakesAll takes old new (blob ∷ [])
  takes_one blob old new h = (new, h, refl)
