-- The entries of a tree, as far as it is told: what look-ups find at paths of which none stands twice, and one call for each directory.
use Rattle.std.proofs.Common.{◌≡◌, ◌+◌, ◌≤◌, List, [], ◌∷◌, ◌++◌, refl, ap, sym, ◌∙◌, subst, append-nil, arith, cond, true, false, Bool, inl}
use Rattle.std.specs.Prelude.{Some, None}
use Rattle.std.specs.List.{AllByRecursion}
use Rattle.std.specs.Ordering.{eq_by_cmp}
use Rattle.std.specs.declared.cmp.Ordering.TheVariants.{Less}
use Rattle.blob_digest.specs.Digest.{DigestValue}
use Rattle.messages.specs.declared.node.Node.TheVariants.{Dir}
use Rattle.messages.specs.DirectoryRules.{DirectoryValue}
use Rattle.messages.specs.Node.{child}
use Rattle.blob_source.specs.Source.{Blobs, Grows, Telling}
use Rattle.blob_source.specs.Told.{TellsDirectory, FailsDirectory}
use Rattle.tree.specs.Tree.{Name, name_cmp, path_cmp, Tree, empty, leaf, folder, Standing, nothing, a_leaf, a_directory, IsOrdered}
use Rattle.tree.specs.Form.{NodeValue, directory_of, with_child, root}
use Rattle.tree.specs.FlatTree.{Ascend, FlatValue, under, listed}
use Rattle.tree.specs.Lookup.{LooksFrom, found}
use Rattle.tree.specs.Unfolded.{AreFound, AsksDirectories, FindsStanding, TellsBelow, directories_at, directories_in}
use Rattle.tree.specs.Unfolding.{leaves, prefixed}
use Rattle.tree.proofs.ByPath.{ascend_listed, ascend_under}
use Rattle.tree.proofs.Children.{child-below, child-with_child, same_name}
use Rattle.tree.proofs.Descent.{told_still}
use Rattle.tree.proofs.FirstFaults.{looks_below}
use Rattle.tree.proofs.Listings.{all_join, less_first}
use Rattle.tree.proofs.UnfoldSteps.{Unfolds, below_in, beside, child_in, ordered_front}
use Rattle.tree.proofs.Ways.{found_still}

-- ---- what look-ups find

module _ (B : Blobs) (d e : DigestValue) (m : DirectoryValue) (n : Name) (told : TellsDirectory B d m) (is : child {A = Unit {0}} n m ≡ Some (Dir e)) where
  below : (p : List Name) (s : Standing NodeValue) → FindsStanding B e p s → FindsStanding B d (n ∷ p) s
  below p nothing h = h
  below p (a_leaf x) h = looks_below B d e m n p (found x) told is h
  below p a_directory h = (h.0, looks_below B d e m n p (found (Dir h.0)) told is h.1)

  all_below : (es : FlatValue) → AllByRecursion (λ e'. FindsStanding B e e'.0 e'.1) es → AllByRecursion (λ e'. FindsStanding B d e'.0 e'.1) (under n es)
  all_below [] h = tt
  all_below (x ∷ es) h = (below x.0 x.1 h.0, all_below es h.1)

stands_still : {B C : Blobs} → Grows B C → (d : DigestValue) (p : List Name) (s : Standing NodeValue) → FindsStanding B d p s → FindsStanding C d p s
stands_still grows d p nothing h = h
stands_still grows d p (a_leaf x) h = found_still grows p (Some (Dir d)) x h
stands_still grows d p a_directory h = (h.0, found_still grows p (Some (Dir d)) (Dir h.0) h.1)

all_still : {B C : Blobs} → Grows B C → (d : DigestValue) (es : FlatValue) → AllByRecursion (λ e. FindsStanding B d e.0 e.1) es → AllByRecursion (λ e. FindsStanding C d e.0 e.1) es
all_still grows d [] h = tt
all_still grows d (e ∷ es) h = (stands_still grows d e.0 e.1 h.0, all_still grows d es h.1)

-- one child more in both directories
with_more : (k n : Name) (y z : NodeValue) (m l : DirectoryValue) → child {A = Unit {0}} n m ≡ None → child {A = Unit {0}} n l ≡ None → (child {A = Unit {0}} k m ≡ Some z → child {A = Unit {0}} k l ≡ Some z)
    → child {A = Unit {0}} k (with_child n y m) ≡ Some z → child {A = Unit {0}} k (with_child n y l) ≡ Some z
with_more k n y z m l none none' on is =
    child-with_child k n y l (λ e. let same = same_name k n e in rw same none') ∙ by (eq_by_cmp name_cmp k n) (sym (child-with_child k n y m (λ e. let same = same_name k n e in rw same none)) ∙ is)
  where
    by : (b : Bool) → cond b (Some y) (child k m) ≡ Some z → cond b (Some y) (child k l) ≡ Some z
    by true h = h
    by false h = on h

-- the children of the first of two trees
child_front : (t u : Tree NodeValue) (k : Name) (z : NodeValue) → IsOrdered (beside t u) → child {A = Unit {0}} k (directory_of t) ≡ Some z → child {A = Unit {0}} k (directory_of (beside t u)) ≡ Some z
child_front empty u k z h is = absurd (let i = is in cc)
child_front (leaf n x rest) u k z h is =
    let front = ordered_front (leaf n x rest) u h in
    with_more k n x z (directory_of rest) (directory_of (beside rest u)) (child-below n rest front.0) (child-below n (beside rest u) h.0) (child_front rest u k z h.1) is
child_front (folder n b rest) u k z h is =
    let front = ordered_front (folder n b rest) u h in
    with_more k n (Dir (root b)) z (directory_of rest) (directory_of (beside rest u)) (child-below n rest front.0) (child-below n (beside rest u) h.0) (child_front rest u k z h.2) is

-- a child behind another
child_rest : (k n : Name) (y z : NodeValue) (rest : Tree NodeValue) → child {A = Unit {0}} n (directory_of rest) ≡ None → child {A = Unit {0}} k (directory_of rest) ≡ Some z → child {A = Unit {0}} k (with_child n y (directory_of rest)) ≡ Some z
child_rest k n y z rest none is = child-with_child k n y (directory_of rest) (λ e. let same = same_name k n e in rw same none) ∙ by (eq_by_cmp name_cmp k n) refl
  where
    by : (b : Bool) → eq_by_cmp name_cmp k n ≡ b → cond b (Some y) (child k (directory_of rest)) ≡ Some z
    by true e = absurd (let same = same_name k n e in let there = subst (λ j. child {A = Unit {0}} j (directory_of rest) ≡ Some z) same is in let both = sym none ∙ there in cc)
    by false e = is

-- the entries of a tree whose children are children of the Directory under a digest
listed_stand : (B : Blobs) (d : DigestValue) (m : DirectoryValue) (t : Tree NodeValue) → TellsDirectory B d m → IsOrdered t → TellsBelow B t → ((k : Name) (z : NodeValue) → child {A = Unit {0}} k (directory_of t) ≡ Some z → child {A = Unit {0}} k m ≡ Some z)
    → AllByRecursion (λ e. FindsStanding B d e.0 e.1) (listed t)
listed_stand B d m empty told o h on = tt
listed_stand B d m (leaf n x rest) told o h on =
    let is : child {A = Unit {0}} n m ≡ Some x = on n x (child_in empty n x rest o) in (
      inl (m, told, subst (λ q. LooksFrom (TellsDirectory B) (FailsDirectory B) [] q (found x)) (sym is) refl),
      listed_stand B d m rest told o.1 h (λ k z there. on k z (child_rest k n x z rest (child-below n rest o.0) there)),
    )
listed_stand B d m (folder n b rest) told o h on =
    let x : NodeValue = Dir (root b) in
    let is : child {A = Unit {0}} n m ≡ Some x = on n x (child_in empty n x rest (o.0, o.2)) in (
      (root b, inl (m, told, subst (λ q. LooksFrom (TellsDirectory B) (FailsDirectory B) [] q (found x)) (sym is) refl)),
      all_join (λ e. FindsStanding B d e.0 e.1) (under n (listed b)) (listed rest)
          (all_below B d (root b) m n told is (listed b) (listed_stand B (root b) (directory_of b) b h.0.0 o.1 h.0.1 (λ k z there. there)))
          (listed_stand B d m rest told o.2 h.1 (λ k z there. on k z (child_rest k n x z rest (child-below n rest o.0) there))),
    )

-- ---- in the order of their paths

root_under : (n : Name) (es : FlatValue) → AllByRecursion (λ e. path_cmp [] e.0 ≡ Less) (under n es)
root_under n [] = tt
root_under n (e ∷ es) = (refl, root_under n es)

root_listed : (t : Tree NodeValue) → AllByRecursion (λ e. path_cmp [] e.0 ≡ Less) (listed t)
root_listed empty = tt
root_listed (leaf n x rest) = (refl, root_listed rest)
root_listed (folder n b rest) = (refl, all_join (λ e. path_cmp [] e.0 ≡ Less) (under n (listed b)) (listed rest) (root_under n (listed b)) (root_listed rest))

module _ (n : Name) (later : FlatValue) where
  abbrev AreBefore : FlatValue → Type 0
  AreBefore es = AllByRecursion (λ e. AllByRecursion (λ f. path_cmp e.0 f.0 ≡ Less) (under n later)) es

  before : (m : Name) (p : List Name) (fs : FlatValue) → name_cmp m n ≡ Less → AllByRecursion (λ f. path_cmp (m ∷ p) f.0 ≡ Less) (under n fs)
  before m p [] less = tt
  before m p (f ∷ fs) less = (less_first m p (n ∷ f.0) less, before m p fs less)

  under_before : (m : Name) (es : FlatValue) → name_cmp m n ≡ Less → AreBefore (under m es)
  under_before m [] less = tt
  under_before m (e ∷ es) less = (before m e.0 later less, under_before m es less)

  listed_before : (t : Tree NodeValue) (x : NodeValue) (u : Tree NodeValue) → IsOrdered (beside t (leaf n x u)) → AreBefore (listed t)
  listed_before empty x u h = tt
  listed_before (leaf m y rest) x u h = (before m [] later (below_in m rest n x u h.0), listed_before rest x u h.1)
  listed_before (folder m b rest) x u h =
      let less = below_in m rest n x u h.0 in
      (before m [] later less, all_join (λ e. AllByRecursion (λ f. path_cmp e.0 f.0 ≡ Less) (under n later)) (under m (listed b)) (listed rest) (under_before m (listed b) less) (listed_before rest x u h.2))

ascend_join : (es fs : FlatValue) → Ascend es → AllByRecursion (λ e. AllByRecursion (λ f. path_cmp e.0 f.0 ≡ Less) fs) es → Ascend fs → Ascend (es ++ fs)
ascend_join [] fs h k g = g
ascend_join (e ∷ es) fs h k g = (all_join (λ f. path_cmp e.0 f.0 ≡ Less) es fs h.0 k.0, ascend_join es fs h.1 k.1 g)

-- ---- how many are directories

directories_join : (es fs : FlatValue) → directories_in (es ++ fs) ≡ directories_in es + directories_in fs
directories_join [] fs = omega arith
directories_join (e ∷ es) fs = let rest = directories_join es fs in omega (arith, rest)

directories_under : (n : Name) (es : FlatValue) → directories_in (under n es) ≡ directories_in es
directories_under n [] = refl
directories_under n (e ∷ es) = ap (λ r. directories_at e.1 + r) (directories_under n es)

directories_prefixed : (above : List Name) (es : FlatValue) → directories_in (prefixed above es) ≡ directories_in es
directories_prefixed above [] = refl
directories_prefixed above (e ∷ es) = ap (λ r. directories_at e.1 + r) (directories_prefixed above es)

-- ---- calls so far

-- the root, and all entries of the tree
found_listed : (B : Blobs) (d : DigestValue) (m : DirectoryValue) (t : Tree NodeValue) → TellsDirectory B d m → IsOrdered t → TellsBelow B t → ((k : Name) (z : NodeValue) → child {A = Unit {0}} k (directory_of t) ≡ Some z → child {A = Unit {0}} k m ≡ Some z)
    → AreFound B d (([], a_directory) ∷ listed t)
found_listed B d m t told ordered tells on = record { ascend = (root_listed t, ascend_listed t ordered); stand = ((d, refl), listed_stand B d m t told ordered tells on) }

-- the root alone
pub asks_root : (B : Blobs) (d : DigestValue) (old new : Telling) → new.calls ≤ old.calls + 1 → AsksDirectories B d old new
asks_root B d old new few = record { places = ([], a_directory) ∷ []; found_there = record { ascend = (tt, tt); stand = ((d, refl), tt) }; few = omega (arith, few) }

module _ (B : Blobs) (d : DigestValue) (above : List Name) (old new : FlatValue) (rest : List (Name × NodeValue)) (h : Unfolds B d above old new rest) (first now : Telling) (few : now.calls + directories_in old ≤ first.calls + 1 + directories_in new) where
  so_many : now.calls ≤ first.calls + 1 + directories_in (listed h.done)
  so_many =
      let all = ap directories_in h.entries ∙ directories_join old (prefixed above (listed h.done)) in
      let own = directories_prefixed above (listed h.done) in
      omega (arith, few, all, own)

  done_found : AreFound B d (([], a_directory) ∷ listed h.done)
  done_found =
      found_listed B d h.read h.done h.read_told (ordered_front h.done (leaves rest) h.ordered) h.told
      (λ k z there. ap (child k) (sym h.directory) ∙ child_front h.done (leaves rest) k z h.ordered there)

  -- those of the children that are done
  pub asks_done : AsksDirectories B d first now
  asks_done = record { places = ([], a_directory) ∷ listed h.done; found_there = done_found; few = omega (arith, so_many) }

-- and those below the next child
pub asks_below : (B C : Blobs) (d e : DigestValue) (above : List Name) (old new : FlatValue) (n : Name) (rest : List (Name × NodeValue)) (first mid now : Telling) → Grows B C → Unfolds B d above old new ((n, Dir e) ∷ rest)
    → mid.calls + directories_in old ≤ first.calls + 1 + directories_in new → AsksDirectories C e mid now → AsksDirectories C d first now
asks_below B C d e above old new n rest first mid now grows h few asks =
    let places = asks.places in
    let done = listed h.done in
    let before = done_found B d above old new ((n, Dir e) ∷ rest) h first mid few in
    let is = ap (child n) (sym h.directory) ∙ child_in h.done n (Dir e) (leaves rest) h.ordered in
    let within : Ascend (under n places) = subst Ascend (append-nil (under n places)) (ascend_under n places [] asks.found_there.ascend tt tt) in
    record {
      places = ([], a_directory) ∷ (done ++ under n places);
      found_there = record {
        ascend = (
          all_join (λ f. path_cmp [] f.0 ≡ Less) done (under n places) before.ascend.0 (root_under n places),
          ascend_join done (under n places) before.ascend.1 (listed_before n places h.done (Dir e) (leaves rest) h.ordered) within,
        );
        stand = (
          (d, refl),
          all_join (λ f. FindsStanding C d f.0 f.1) done (under n places) (all_still grows d done before.stand.1) (all_below C d e h.read n (told_still grows h.read_told) is places asks.found_there.stand),
        );
      };
      few =
          let mid_few = so_many B d above old new ((n, Dir e) ∷ rest) h first mid few in
          let join = directories_join done (under n places) in
          let own = directories_under n places in
          omega (arith, mid_few, asks.few, join, own);
    }
