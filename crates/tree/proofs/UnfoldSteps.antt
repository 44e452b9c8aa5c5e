-- One child more of a directory that is being unfolded.
use Rattle.std.proofs.Common.{◌≡◌, ◌≢◌, ◌+◌, ◌≤◌, List, [], ◌∷◌, ◌++◌, refl, ap, sym, ◌∙◌, subst, append_assoc, arith, cond, length, length-append, inl, inr}
use Rattle.std.specs.Prelude.{◌⊎◌, Option, Some, None}
use Rattle.std.specs.List.{AllByRecursion}
use Rattle.std.specs.Ordering.{eq_by_cmp, is_eq, ordering_then}
use Rattle.std.specs.declared.cmp.Ordering.{Ordering}
use Rattle.std.specs.declared.cmp.Ordering.TheVariants.{Less, Equal, Greater}
use Rattle.blob_digest.specs.Digest.{DigestValue}
use Rattle.messages.specs.declared.node.Node.TheVariants.{File, Link, Dir}
use Rattle.messages.specs.DirectoryRules.{DirectoryValue, IsDirectory}
use Rattle.messages.specs.Directory.{directory_bytes}
use Rattle.messages.specs.Node.{child}
use Rattle.messages.specs.Path.{IsPath}
use Rattle.tree.specs.declared.error.TreeError.{TreeError}
use Rattle.tree.specs.declared.error.TreeError.TheVariants.{Absent, BlobMissing, BlobWrong, BlobMalformed, TooDeep, Conflict, Fetch, Memory}
use Rattle.tree.specs.Tree.{Name, name_cmp, path_cmp, Tree, empty, leaf, folder, a_leaf, a_directory, IsBelowAll, IsOrdered}
use Rattle.tree.specs.Form.{NodeValue, no_children, with_child, directory_of, root}
use Rattle.blob_source.specs.Source.{Blobs, Grows, IsMissing, IsWrong}
use Rattle.blob_source.specs.Told.{IsMalformed, Fault, missing, wrong, malformed, TellsDirectory, FailsDirectory}
use Rattle.tree.specs.TreeError.{Explains}
use Rattle.tree.specs.Lookup.{found, Looks, names_in}
use Rattle.std.specs.declared.vec.Vec.{Vec}
use Rattle.tree.specs.declared.flat_tree.FlatEntry.{FlatEntry}
use Rattle.tree.specs.FlatTree.{under, listed, FlatValue, IsFlatTree, entry_value, flat_value}
use Rattle.tree.specs.Unfolded.{TellsBelow, IsUnfolded, IsFineAt, AreFineBefore, IsFaultBelow, ExplainsUnfold, directories_at, directories_in}
use Rattle.tree.specs.Unfolding.{leaves, AreChildren, IsFull, ExplainsChild, prefixed, AreFine, Appends}
use Rattle.tree.proofs.Children.{child-with_child, child-below, same_name}
use Rattle.tree.proofs.Descent.{told_still}
use Rattle.tree.specs.LooksAt.{UnfoldLooksAt}
use Rattle.tree.specs.Memo.{Asked}
use Rattle.tree.proofs.Ways.{unfold_child}
use Rattle.tree.proofs.FirstFaults.{same_found, same_dir, same_some, looks_below, through, fine_still}
use Rattle.tree.proofs.TreeLemmas.{name_itself, name_same, never_less, apart_cmp, one_or_two, below_trans}
use Rattle.tree.proofs.Listings.{all_join}
use Rattle.tree.proofs.VisitSteps.{none_after}

-- ---- trees side by side

-- the entries of the first, and then those of the second
abbrev pub beside : {L : Type 0} → Tree L → Tree L → Tree L
beside empty u = u
beside (leaf n x rest) u = leaf n x (beside rest u)
beside (folder n below rest) u = folder n below (beside rest u)

module _ {L : Type 0} where
  pub beside_none : (t : Tree L) → beside t empty ≡ t
  beside_none empty = refl
  beside_none (leaf n x rest) = ap (leaf n x) (beside_none rest)
  beside_none (folder n below rest) = ap (folder n below) (beside_none rest)

  beside_assoc : (t u v : Tree L) → beside (beside t u) v ≡ beside t (beside u v)
  beside_assoc empty u v = refl
  beside_assoc (leaf n x rest) u v = ap (leaf n x) (beside_assoc rest u v)
  beside_assoc (folder n below rest) u v = ap (folder n below) (beside_assoc rest u v)

  listed_beside : (t u : Tree L) → listed (beside t u) ≡ listed t ++ listed u
  listed_beside empty u = refl
  listed_beside (leaf n x rest) u = ap (λ r. (n ∷ [], a_leaf x) ∷ r) (listed_beside rest u)
  listed_beside (folder n below rest) u =
      ap (λ r. (n ∷ [], a_directory) ∷ (under n (listed below) ++ r)) (listed_beside rest u) ∙ ap (λ r. (n ∷ [], a_directory) ∷ r) (sym (append_assoc (under n (listed below)) (listed rest) (listed u)))

  -- a directory in a leaf's place
  below_opened : (k : Name) (t : Tree L) (n : Name) (x : L) (b u : Tree L) → IsBelowAll k (beside t (leaf n x u)) → IsBelowAll k (beside t (folder n b u))
  below_opened k empty n x b u h = h
  below_opened k (leaf m y rest) n x b u h = (h.0, below_opened k rest n x b u h.1)
  below_opened k (folder m c rest) n x b u h = (h.0, below_opened k rest n x b u h.1)

  ordered_opened : (t : Tree L) (n : Name) (x : L) (b u : Tree L) → IsOrdered b → IsOrdered (beside t (leaf n x u)) → IsOrdered (beside t (folder n b u))
  ordered_opened empty n x b u h k = (k.0, h, k.1)
  ordered_opened (leaf m y rest) n x b u h k = (below_opened m rest n x b u k.0, ordered_opened rest n x b u h k.1)
  ordered_opened (folder m c rest) n x b u h k = (below_opened m rest n x b u k.0, k.1, ordered_opened rest n x b u h k.2)

directory_opened : (t : Tree NodeValue) (n : Name) (d : DigestValue) (b u : Tree NodeValue) → root b ≡ d → directory_of (beside t (folder n b u)) ≡ directory_of (beside t (leaf n (Dir d) u))
directory_opened empty n d b u h = ap (λ e. with_child n (Dir e) (directory_of u)) h
directory_opened (leaf m y rest) n d b u h = ap (with_child m y) (directory_opened rest n d b u h)
directory_opened (folder m c rest) n d b u h = ap (with_child m (Dir (root c))) (directory_opened rest n d b u h)

tells_beside : (B : Blobs) (t u : Tree NodeValue) → TellsBelow B t → TellsBelow B u → TellsBelow B (beside t u)
tells_beside B empty u h k = k
tells_beside B (leaf n x rest) u h k = tells_beside B rest u h k
tells_beside B (folder n below rest) u h k = (h.0, tells_beside B rest u h.1 k)

tells_still : (B C : Blobs) (t : Tree NodeValue) → Grows B C → TellsBelow B t → TellsBelow C t
tells_still B C empty g h = tt
tells_still B C (leaf n x rest) g h = tells_still B C rest g h
tells_still B C (folder n below rest) g h = ((told_still g h.0.0, tells_still B C below g h.0.1), tells_still B C rest g h.1)

-- a tree that was told stays told
pub unfolded_still : {B C : Blobs} {d : DigestValue} {es : FlatValue} → Grows B C → IsUnfolded B d es → IsUnfolded C d es
unfolded_still {B} {C} g h = record {
  tree = h.tree;
  list = h.list;
  told = record { root = h.told.root; top = told_still g h.told.top; below = tells_still B C h.tree g h.told.below };
}

-- ---- a child of the tree's Directory

pub below_in : (k : Name) (t : Tree NodeValue) (n : Name) (x : NodeValue) (u : Tree NodeValue) → IsBelowAll k (beside t (leaf n x u)) → name_cmp k n ≡ Less
below_in k empty n x u h = h.0
below_in k (leaf m y rest) n x u h = below_in k rest n x u h.1
below_in k (folder m c rest) n x u h = below_in k rest n x u h.1

less_apart : (n m : Name) → name_cmp m n ≡ Less → n ≡ m → ⊥
less_apart n m h e = let own = name_itself n in let less : name_cmp n n ≡ Less = ap (λ k. name_cmp k n) e ∙ h in cc

-- behind an earlier child
child_behind : (n m : Name) (y x : NodeValue) (d : DirectoryValue) → name_cmp m n ≡ Less → child n d ≡ Some x → child n (with_child m y d) ≡ Some x
child_behind n m y x d h is =
    let apart = apart_cmp n m (less_apart n m h) in
    child-with_child n m y d (λ e. absurd (let false_is = apart in cc)) ∙ ap (λ b. cond b (Some y) (child n d)) apart ∙ is

pub child_in : (t : Tree NodeValue) (n : Name) (x : NodeValue) (u : Tree NodeValue) → IsOrdered (beside t (leaf n x u)) → child n (directory_of (beside t (leaf n x u))) ≡ Some x
child_in empty n x u h = child-with_child n n x (directory_of u) (λ _. child-below n u h.0) ∙ ap (λ o. cond (is_eq o) (Some x) (child n (directory_of u))) (name_itself n)
child_in (leaf m y rest) n x u h = child_behind n m y x (directory_of (beside rest (leaf n x u))) (below_in m rest n x u h.0) (child_in rest n x u h.1)
child_in (folder m c rest) n x u h = child_behind n m (Dir (root c)) x (directory_of (beside rest (leaf n x u))) (below_in m rest n x u h.0) (child_in rest n x u h.2)

with_some : (n : Name) (x : NodeValue) (d : DirectoryValue) → with_child n x d ≢ no_children
with_some n (File e b) d = λ h. (let files = ap (λ m. m.files) h in cc)
with_some n (Link t) d = λ h. (let symlinks = ap (λ m. m.symlinks) h in cc)
with_some n (Dir e) d = λ h. (let directories = ap (λ m. m.directories) h in cc)

pub some_children : (t : Tree NodeValue) (n : Name) (x : NodeValue) (u : Tree NodeValue) → directory_of (beside t (leaf n x u)) ≢ no_children
some_children empty n x u = with_some n x (directory_of u)
some_children (leaf m y rest) n x u = with_some m y (directory_of (beside rest (leaf n x u)))
some_children (folder m c rest) n x u = with_some m (Dir (root c)) (directory_of (beside rest (leaf n x u)))

-- ---- the children of the trees side by side

below_front : {L : Type 0} (k : Name) (t u : Tree L) → IsBelowAll k (beside t u) → IsBelowAll k t
below_front k empty u h = tt
below_front k (leaf n x rest) u h = (h.0, below_front k rest u h.1)
below_front k (folder n below rest) u h = (h.0, below_front k rest u h.1)

pub ordered_front : {L : Type 0} (t u : Tree L) → IsOrdered (beside t u) → IsOrdered t
ordered_front empty u h = tt
ordered_front (leaf n x rest) u h = (below_front n rest u h.0, ordered_front rest u h.1)
ordered_front (folder n below rest) u h = (below_front n rest u h.0, h.1, ordered_front rest u h.2)

below_back : (t : Tree NodeValue) (n : Name) (x : NodeValue) (u : Tree NodeValue) → IsOrdered (beside t (leaf n x u)) → IsBelowAll n u
below_back empty n x u h = h.0
below_back (leaf m y rest) n x u h = below_back rest n x u h.1
below_back (folder m c rest) n x u h = below_back rest n x u h.2

-- a child of the first tree's Directory, where the second has none of its name
child_first : (k n : Name) (x : NodeValue) (t u : Tree NodeValue) → (k ≡ n → ⊥) → child {A = Unit {0}} k (directory_of u) ≡ None → IsOrdered (beside t (leaf n x u))
    → child {A = Unit {0}} k (directory_of (beside t (leaf n x u))) ≡ child k (directory_of t)
child_first k n x empty u other none h = child-with_child k n x (directory_of u) (λ _. none) ∙ ap (λ b. cond b (Some x) (child k (directory_of u))) (apart_cmp k n other) ∙ none
child_first k n x (leaf m y rest) u other none h =
    let all = beside rest (leaf n x u) in
    child-with_child k m y (directory_of all) (λ e. let same = same_name k m e in rw same (child-below m all h.0))
    ∙ ap (cond (eq_by_cmp name_cmp k m) (Some y)) (child_first k n x rest u other none h.1)
    ∙ sym (child-with_child k m y (directory_of rest) (λ e. let same = same_name k m e in rw same (child-below m rest (below_front m rest (leaf n x u) h.0))))
child_first k n x (folder m c rest) u other none h =
    let all = beside rest (leaf n x u) in
    child-with_child k m (Dir (root c)) (directory_of all) (λ e. let same = same_name k m e in rw same (child-below m all h.0))
    ∙ ap (cond (eq_by_cmp name_cmp k m) (Some (Dir (root c)))) (child_first k n x rest u other none h.2)
    ∙ sym (child-with_child k m (Dir (root c)) (directory_of rest) (λ e. let same = same_name k m e in rw same (child-below m rest (below_front m rest (leaf n x u) h.0))))

-- a name before one that is left
child_before : (k n : Name) (x : NodeValue) (t u : Tree NodeValue) → name_cmp k n ≡ Less → IsOrdered (beside t (leaf n x u)) → child {A = Unit {0}} k (directory_of (beside t (leaf n x u))) ≡ child k (directory_of t)
child_before k n x t u less h = child_first k n x t u (λ same. less_apart n k less (sym same)) (child-below k u (below_trans k n u less (below_back t n x u h))) h

-- a child that is there once one more is
child_more : (done : Tree NodeValue) (n : Name) (x : NodeValue) (rest : Tree NodeValue) → IsOrdered (beside done (leaf n x rest)) → (k : Name) (z : NodeValue) → child {A = Unit {0}} k (directory_of (beside done (leaf n x empty))) ≡ Some z
    → ((k ≡ n) × (x ≡ z)) ⊎ (child {A = Unit {0}} k (directory_of done) ≡ Some z)
child_more done n x rest h k z is =
    let one : Tree NodeValue = leaf n x empty in
    let ordered = ordered_front (beside done one) rest (subst IsOrdered (sym (beside_assoc done one rest)) h) in
    elim (one_or_two k n) [
      | inl same ↦ inl (same, same_some (sym (child_in done n x empty ordered) ∙ subst (λ j. child {A = Unit {0}} j (directory_of (beside done one)) ≡ Some z) same is))
      | inr other ↦ inr (sym (child_first k n x done empty other refl ordered) ∙ is)
    ]

-- ---- entries below a path

prefixed_join : (above : List Name) (es fs : FlatValue) → prefixed above (es ++ fs) ≡ prefixed above es ++ prefixed above fs
prefixed_join above [] fs = refl
prefixed_join above (e ∷ es) fs = ap (λ r. (above ++ e.0, e.1) ∷ r) (prefixed_join above es fs)

prefixed_under : (above : List Name) (n : Name) (es : FlatValue) → prefixed above (under n es) ≡ prefixed (above ++ n ∷ []) es
prefixed_under above n [] = refl
prefixed_under above n (e ∷ es) =
    let path = append_assoc above (n ∷ []) e.0 in
    let rest = prefixed_under above n es in
    λ i. (sym path i, e.1) ∷ rest i

-- ---- the entries so far, and the children that are left

pub record Unfolds (B : Blobs) (d : DigestValue) (above : List Name) (old new : FlatValue) (rest : List (Name × NodeValue)) : Type 0 where
  pub read : DirectoryValue
  pub read_told : TellsDirectory B d read
  pub done : Tree NodeValue
  pub directory : directory_of (beside done (leaves rest)) ≡ read
  pub ordered : IsOrdered (beside done (leaves rest))
  pub told : TellsBelow B done
  pub entries : new ≡ old ++ prefixed above (listed done)
  pub paths : AllByRecursion (λ e. IsPath e.0) (prefixed above (listed done))
  -- what is below the children that are done
  pub fine : (n : Name) (e : DigestValue) → child {A = Unit {0}} n (directory_of done) ≡ Some (Dir e) → AreFine B e (above ++ n ∷ [])

pub unfolds_first : (B : Blobs) (d : DigestValue) (m : DirectoryValue) (above : List Name) (old : FlatValue) (rest : List (Name × NodeValue)) → TellsDirectory B d m → AreChildren rest m → Unfolds B d above old old rest
unfolds_first B d m above old rest told h = record { read = m; read_told = told; done = empty; directory = h.directory; ordered = h.ordered; told = tt; entries = sym (none_after old); paths = tt; fine = λ n e is. absurd (let i = is in cc) }

-- the next child, with its entries
more_entries : (above : List Name) (done more : Tree NodeValue) (old mid new fs : FlatValue) → mid ≡ old ++ prefixed above (listed done) → fs ≡ prefixed above (listed more) → new ≡ mid ++ fs → new ≡ old ++ prefixed above (listed (beside done more))
more_entries above done more old mid new fs h k is =
    is ∙ ap (λ l. l ++ fs) h ∙ append_assoc old (prefixed above (listed done)) fs
    ∙ ap (λ l. old ++ l) (ap (λ l. prefixed above (listed done) ++ l) k ∙ sym (ap (prefixed above) (listed_beside done more) ∙ prefixed_join above (listed done) (listed more)))

more_paths : (above : List Name) (done more : Tree NodeValue) → AllByRecursion (λ e. IsPath e.0) (prefixed above (listed done)) → AllByRecursion (λ e. IsPath e.0) (prefixed above (listed more))
    → AllByRecursion (λ e. IsPath e.0) (prefixed above (listed (beside done more)))
more_paths above done more h k =
    subst (λ l. AllByRecursion (λ e. IsPath e.0) l) (sym (ap (prefixed above) (listed_beside done more) ∙ prefixed_join above (listed done) (listed more)))
    (all_join (λ e. IsPath e.0) (prefixed above (listed done)) (prefixed above (listed more)) h k)

pub unfolds_leaf : (B C : Blobs) (d : DigestValue) (above : List Name) (old mid new : FlatValue) (n : Name) (x : NodeValue) (path : List Name) (rest : List (Name × NodeValue)) → Grows B C
    → Unfolds B d above old mid ((n, x) ∷ rest) → ((e : DigestValue) → x ≡ Dir e → ⊥) → path ≡ above ++ n ∷ [] → IsPath path → new ≡ mid ++ (path, a_leaf x) ∷ [] → Unfolds C d above old new rest
unfolds_leaf B C d above old mid new n x path rest g h other is valid at =
    let one : Tree NodeValue = leaf n x empty in
    let same = beside_assoc h.done one (leaves rest) in
    record {
      read = h.read;
      read_told = told_still g h.read_told;
      done = beside h.done one;
      directory = ap directory_of same ∙ h.directory;
      ordered = subst IsOrdered (sym same) h.ordered;
      told = tells_beside C h.done one (tells_still B C h.done g h.told) tt;
      entries = more_entries above h.done one old mid new ((path, a_leaf x) ∷ []) h.entries (ap (λ p. (p, a_leaf x) ∷ []) is) at;
      paths = more_paths above h.done one h.paths (subst IsPath is valid, tt);
      fine = λ k e found_it. elim (child_more h.done n x (leaves rest) h.ordered k (Dir e) found_it) [
        | inl here ↦ absurd (other e here.1)
        | inr was ↦ fine_still B C g e (above ++ k ∷ []) (h.fine k e was)
      ];
    }

pub unfolds_folder : (B C : Blobs) (top : DigestValue) (above : List Name) (old mid pushed new : FlatValue) (n : Name) (d : DigestValue) (path : List Name) (rest : List (Name × NodeValue)) → Grows B C
    → Unfolds B top above old mid ((n, Dir d) ∷ rest) → path ≡ above ++ n ∷ [] → IsPath path → pushed ≡ mid ++ (path, a_directory) ∷ [] → Appends C d path pushed new → Unfolds C top above old new rest
unfolds_folder B C top above old mid pushed new n d path rest g h is valid at inside =
    let one : Tree NodeValue = folder n inside.tree empty in
    let same = beside_assoc h.done one (leaves rest) in
    let fs : FlatValue = (path, a_directory) ∷ prefixed path (listed inside.tree) in
    let below : prefixed path (listed inside.tree) ≡ prefixed above (under n (listed inside.tree) ++ []) =
    ap (λ p. prefixed p (listed inside.tree)) is ∙ sym (prefixed_under above n (listed inside.tree)) ∙ ap (prefixed above) (sym (none_after (under n (listed inside.tree)))) in
    let split : new ≡ mid ++ fs = inside.entries ∙ ap (λ l. l ++ prefixed path (listed inside.tree)) at ∙ append_assoc mid ((path, a_directory) ∷ []) (prefixed path (listed inside.tree)) in
    let listing : fs ≡ prefixed above (listed one) = (λ i. (is i, a_directory) ∷ below i) in
    record {
      read = h.read;
      read_told = told_still g h.read_told;
      done = beside h.done one;
      directory = ap directory_of same ∙ directory_opened h.done n d inside.tree (leaves rest) inside.told.root ∙ h.directory;
      ordered = subst IsOrdered (sym same) (ordered_opened h.done n (Dir d) inside.tree (leaves rest) inside.ordered h.ordered);
      told = tells_beside C h.done one (tells_still B C h.done g h.told) ((subst (λ e. TellsDirectory C e (directory_of inside.tree)) (sym inside.told.root) inside.told.top, inside.told.below), tt);
      entries = more_entries above h.done one old mid new fs h.entries listing split;
      paths = more_paths above h.done one h.paths (subst (λ l. AllByRecursion (λ e. IsPath e.0) l) listing (valid, inside.paths));
      fine = λ k e found_it. elim (child_more h.done n (Dir d) (leaves rest) h.ordered k (Dir e) (ap (child k) (sym (directory_opened h.done n d inside.tree empty inside.told.root)) ∙ found_it)) [
        | inl here ↦ subst (λ f. AreFine C f (above ++ k ∷ [])) (same_dir here.1) (subst (λ j. AreFine C d (above ++ j ∷ [])) (sym here.0) (subst (AreFine C d) is inside.fine))
        | inr was ↦ fine_still B C g e (above ++ k ∷ []) (h.fine k e was)
      ];
    }

-- where paths have 64 names there are no children
none_at_depth : (above : List Name) (t : Tree NodeValue) → AllByRecursion (λ e. IsPath e.0) (prefixed above (listed t)) → length above ≡ 64 → directory_of t ≡ no_children
none_at_depth above empty h full = refl
none_at_depth above (leaf n x rest) h full = absurd (let few = h.0.few in let longer = length-append above (n ∷ []) in omega (arith, few, longer, full))
none_at_depth above (folder n below rest) h full = absurd (let few = h.0.few in let longer = length-append above (n ∷ []) in omega (arith, few, longer, full))

pub unfolds_end : (B : Blobs) (d : DigestValue) (above : List Name) (old new : FlatValue) → Unfolds B d above old new [] → Appends B d above old new
unfolds_end B d above old new h =
    let top : TellsDirectory B d (directory_of h.done) = subst (TellsDirectory B d) (sym own) h.read_told in
    record {
      tree = h.done;
      ordered = subst IsOrdered (beside_none h.done) h.ordered;
      told = record { root = top.blob.right; top = top; below = h.told };
      entries = h.entries;
      paths = h.paths;
      fine = all_fine;
    }
  where
    own : directory_of h.done ≡ h.read
    own = ap directory_of (sym (beside_none h.done)) ∙ h.directory

    all_fine : AreFine B d above
    all_fine [] c looks = subst (IsFineAt B (above ++ [])) (same_found looks) (h.read, h.read_told, λ full. sym own ∙ none_at_depth above h.done h.paths (ap length (sym (none_after above)) ∙ full))
    all_fine (n ∷ q) c looks =
        let on = through B d h.read h.read_told n q c looks in
        subst (λ p. IsFineAt B p c) (append_assoc above (n ∷ []) q) (h.fine n on.0 (ap (child n) own ∙ on.1) q c on.2)

-- ---- why a tree isn't unfolded

-- below a child, where all is fine below those before it
pub fault_below : {A : Type 0} (B : Blobs) (d e : DigestValue) (m : DirectoryValue) (n : Name) (above path : List Name) (why : TreeError A) → TellsDirectory B d m → child {A = Unit {0}} n m ≡ Some (Dir e) → path ≡ above ++ n ∷ []
    → length path ≤ 64 → ((k : Name) (f : DigestValue) → name_cmp k n ≡ Less → child {A = Unit {0}} k m ≡ Some (Dir f) → AreFine B f (above ++ k ∷ [])) → ExplainsUnfold B e path why → ExplainsUnfold B d above why
fault_below {A} B d e m n above path why told is at few fine h = by why h
  where
    before : (p : List Name) → AreFineBefore B e path p → AreFineBefore B d above (n ∷ p)
    before p first [] c less looks =
        let longer = ap length at ∙ length-append above (n ∷ []) in
        subst (IsFineAt B (above ++ [])) (same_found looks) (m, told, λ full. absurd (let same = ap length (sym (none_after above)) ∙ full in omega (arith, few, longer, same)))
    before p first (k ∷ q) c less looks = on (name_cmp k n) refl (through B d m told k q c looks)
      where
        on : (o : Ordering) → name_cmp k n ≡ o → (f : DigestValue) × (child {A = Unit {0}} k m ≡ Some (Dir f)) × Looks B f q (found (Dir c)) → IsFineAt B (above ++ k ∷ q) c
        on Less o x = subst (λ r. IsFineAt B r c) (append_assoc above (k ∷ []) q) (fine k x.0 o x.1 q c x.2)
        on Equal o x =
            let same = name_same k n o in
            let rest : path_cmp q p ≡ Less = sym (ap (λ r. ordering_then r (path_cmp q p)) o) ∙ less in
            let here : x.0 ≡ e = same_dir (same_some (sym x.1 ∙ ap (λ j. child {A = Unit {0}} j m) same ∙ is)) in
            subst (λ r. IsFineAt B r c) (ap (λ a. a ++ q) at ∙ append_assoc above (n ∷ []) q ∙ ap (λ j. above ++ j ∷ q) (sym same)) (first q c rest (subst (λ f. Looks B f q (found (Dir c))) here x.2))
        on Greater o x = absurd (let more : Greater ≡ Less = sym (ap (λ r. ordering_then r (path_cmp q p)) o) ∙ less in cc)

    below : (f : DigestValue) (g : Fault) → IsFaultBelow B e path f g → IsFaultBelow B d above f g
    below f g h = record {
      path = n ∷ h.path;
      reached = looks_below B d e m n h.path (found (Dir f)) told is h.reached;
      fault = h.fault;
      first = before h.path h.first;
    }

    by : (why : TreeError A) → ExplainsUnfold B e path why → ExplainsUnfold B d above why
    by (Absent p) h = h
    by (BlobMissing f) h = below f (missing f) h
    by (BlobWrong f) h = below f (wrong f) h
    by (BlobMalformed f) h = below f (malformed f) h
    by (Conflict p) h = absurd h
    by (TooDeep p) h = record {
      below = n ∷ h.below;
      split = h.split ∙ ap (λ a. a ++ h.below) at ∙ append_assoc above (n ∷ []) h.below;
      names = h.names;
      digest = h.digest;
      reached = looks_below B d e m n h.below (found (Dir h.digest)) told is h.reached;
      directory = h.directory;
      told = h.told;
      some = h.some;
      first = before h.below h.first;
    }
    by Fetch h = tt
    by Memory h = tt

pub fault_here : {A : Type 0} (B : Blobs) (d : DigestValue) (above : List Name) (why : TreeError A) → Explains (FailsDirectory B d) why → ExplainsUnfold B d above why
fault_here B d above (Absent p) h = h
fault_here B d above (BlobMissing f) h =
    let fault : FailsDirectory B f (missing f) = (refl, subst (IsMissing B) (sym h.0) h.1) in
    record { path = []; reached = ap (λ e. found (Dir e)) h.0; fault = fault; first = λ q e less looks. absurd (never_less q less) }
fault_here B d above (BlobWrong f) h =
    let fault : FailsDirectory B f (wrong f) = (refl, subst (IsWrong B) (sym h.0) h.1) in
    record { path = []; reached = ap (λ e. found (Dir e)) h.0; fault = fault; first = λ q e less looks. absurd (never_less q less) }
fault_here B d above (BlobMalformed f) h =
    let fault : FailsDirectory B f (malformed f) = (refl, subst (IsMalformed IsDirectory directory_bytes B) (sym h.0) h.1) in
    record { path = []; reached = ap (λ e. found (Dir e)) h.0; fault = fault; first = λ q e less looks. absurd (never_less q less) }
fault_here B d above (TooDeep p) h = absurd h
fault_here B d above (Conflict p) h = absurd h
fault_here B d above Fetch h = tt
fault_here B d above Memory h = tt

pub too_deep : {A : Type 0} (B : Blobs) (d : DigestValue) (m : DirectoryValue) (above : Option (List Name)) (names : List Name) (why : TreeError A) → TellsDirectory B d m → m ≢ no_children
    → ((path : List Name) → IsFull above path → (path ≡ names) × (length path ≡ 64)) → ExplainsChild above why → ExplainsUnfold B d names why
too_deep B d m above names (Absent p) told some full h = absurd h
too_deep B d m above names (BlobMissing e) told some full h = absurd h
too_deep B d m above names (BlobWrong e) told some full h = absurd h
too_deep B d m above names (BlobMalformed e) told some full h = absurd h
too_deep B d m above names (Conflict p) told some full h = absurd h
too_deep B d m above names (TooDeep p) told some full h =
    let is = full p h in
    record { below = []; split = is.0 ∙ sym (none_after names); names = is.1; digest = d; reached = refl; directory = m; told = told; some = some; first = λ q e less looks. absurd (never_less q less) }
too_deep B d m above names Fetch told some full h = absurd h
too_deep B d m above names Memory told some full h = tt

-- a child whose path has too many names
pub child_too_deep : {A : Type 0} (B : Blobs) (d : DigestValue) (above : Option (List Name)) (old new : FlatValue) (n : Name) (x : NodeValue) (rest : List (Name × NodeValue)) (why : TreeError A)
    → Unfolds B d (names_in above) old new ((n, x) ∷ rest) → ExplainsChild above why → ExplainsUnfold B d (names_in above) why
child_too_deep B d above old new n x rest why h e =
    too_deep B d h.read above (names_in above) why h.read_told (λ none. some_children h.done n x (leaves rest) (h.directory ∙ none)) (λ path full. by above path full) e
  where
    by : (above : Option (List Name)) (path : List Name) → IsFull above path → (path ≡ names_in above) × (length path ≡ 64)
    by None path full = elim full [ ]
    by (Some names) path full = (full.0, ap length full.0 ∙ full.1)

-- a fault below a child
pub child_fault : {A : Type 0} (B C : Blobs) (d e : DigestValue) (above path : List Name) (old new : FlatValue) (n : Name) (rest : List (Name × NodeValue)) (why : TreeError A) → Grows B C
    → Unfolds B d above old new ((n, Dir e) ∷ rest) → path ≡ above ++ n ∷ [] → length path ≤ 64 → ExplainsUnfold C e path why → ExplainsUnfold C d above why
child_fault B C d e above path old new n rest why g h is few at =
    fault_below C d e h.read n above path why (told_still g h.read_told) (ap (child n) (sym h.directory) ∙ child_in h.done n (Dir e) (leaves rest) h.ordered) is few
    (λ k f less there. fine_still B C g f (above ++ k ∷ []) (h.fine k f (sym (child_before k n (Dir e) h.done (leaves rest) less h.ordered) ∙ ap (child k) h.directory ∙ there))) at

-- what is looked at below a child
pub child_looks : (B C : Blobs) (d e : DigestValue) (above : List Name) (old new : FlatValue) (n : Name) (rest : List (Name × NodeValue)) (a : Asked) → Grows B C
    → Unfolds B d above old new ((n, Dir e) ∷ rest) → UnfoldLooksAt C e a → UnfoldLooksAt C d a
child_looks B C d e above old new n rest a g h =
    unfold_child C d e h.read n a (told_still g h.read_told) (ap (child n) (sym h.directory) ∙ child_in h.done n (Dir e) (leaves rest) h.ordered)

-- ---- what the code keeps

pub flat_pushed : {A : Type 0} (old new : List (Vec Name A × FlatEntry A)) (k : Vec Name A) (v : FlatEntry A) (path : List Name) → k.items ≡ path → new ≡ old ++ (k, v) ∷ [] → flat_value new ≡ flat_value old ++ (path, entry_value v) ∷ []
flat_pushed old new k v path at is = ap flat_value is ∙ joins old ∙ ap (λ p. flat_value old ++ (p, entry_value v) ∷ []) at
  where
    joins : (es : List _) → flat_value (es ++ (k, v) ∷ []) ≡ flat_value es ++ (k.items, entry_value v) ∷ []
    joins [] = refl
    joins (e ∷ es) = ap (λ r. (e.0.items, entry_value e.1) ∷ r) (joins es)

-- ---- from the entries of the whole tree

prefixed_none : (es : FlatValue) → prefixed [] es ≡ es
prefixed_none [] = refl
prefixed_none (e ∷ es) = ap (λ r. e ∷ r) (prefixed_none es)

appended_all : (B : Blobs) (d : DigestValue) (old new : FlatValue) → old ≡ [] → (h : Appends B d [] old new) → new ≡ listed h.tree
appended_all B d old new none h = h.entries ∙ ap (λ l. l ++ prefixed [] (listed h.tree)) none ∙ prefixed_none (listed h.tree)

pub appended_flat : (B : Blobs) (d : DigestValue) (old new : FlatValue) → Appends B d [] old new → old ≡ [] → IsFlatTree new
appended_flat B d old new h none = record {
  tree = h.tree;
  list = record { ordered = h.ordered; listing = appended_all B d old new none h };
  paths = subst (λ l. AllByRecursion (λ e. IsPath e.0) l) (prefixed_none (listed h.tree) ∙ sym (appended_all B d old new none h)) h.paths;
}

pub appended_told : (B : Blobs) (d : DigestValue) (old new : FlatValue) → Appends B d [] old new → old ≡ [] → IsUnfolded B d new
appended_told B d old new h none = record { tree = h.tree; list = record { ordered = h.ordered; listing = appended_all B d old new none h }; told = h.told }

-- ---- one call for each directory

leaf_counts : (old : FlatValue) (path : List Name) (x : NodeValue) → directories_in (old ++ (path, a_leaf x) ∷ []) ≡ directories_in old
leaf_counts [] path x = refl
leaf_counts (e ∷ old) path x = ap (λ n. directories_at e.1 + n) (leaf_counts old path x)

folder_counts : (old : FlatValue) (path : List Name) → directories_in (old ++ (path, a_directory) ∷ []) ≡ directories_in old + 1
folder_counts [] path = refl
folder_counts (e ∷ old) path = omega (arith, folder_counts old path)

pub counts_leaf : (old new : FlatValue) (path : List Name) (x : NodeValue) → new ≡ old ++ (path, a_leaf x) ∷ [] → directories_in new ≡ directories_in old
counts_leaf old new path x is = ap directories_in is ∙ leaf_counts old path x

pub counts_folder : (old new : FlatValue) (path : List Name) → new ≡ old ++ (path, a_directory) ∷ [] → directories_in new ≡ directories_in old + 1
counts_folder old new path is = ap directories_in is ∙ folder_counts old path
