-- Lines beside the entries that they stand for, and what they are where directories are opened.
use Rattle.std.proofs.Common.{◌≡◌, ℕ, zero, suc, ◌≤◌, List, [], ◌∷◌, ◌++◌, map, length, refl, ap, sym, ◌∙◌, subst, inl, inr, Bool, true, false, cond, arith}
use Rattle.std.specs.Prelude.{Option, Some, None, Contains}
use Rattle.std.specs.List.{AllByRecursion}
use Rattle.std.specs.Ordering.{eq_by_cmp}
use Rattle.std.proofs.lemmas.List.{map-append}
use Rattle.std.proofs.lemmas.List.Elements.{Contains-append_left, Contains-append_right}
use Rattle.blob_digest.specs.Digest.{digest_of, NoClash}
use Rattle.messages.specs.FileNode.{FileNodeValue}
use Rattle.messages.specs.DirectoryNode.{DirectoryNodeValue}
use Rattle.messages.specs.SymlinkNode.{SymlinkNodeValue}
use Rattle.messages.specs.declared.node.Node.TheVariants.{File, Link, Dir}
use Rattle.messages.specs.DirectoryRules.{DirectoryValue}
use Rattle.messages.specs.Directory.{directory_bytes}
use Rattle.blob_source.specs.Source.{Blobs}
use Rattle.tree.specs.Tree.{Name, name_cmp, Tree, empty, leaf, folder, Entry, single, whole, entry_of, Leaf, file, link, IsBelowAll, IsOrdered, IsOrderedEntry}
use Rattle.tree.specs.Form.{form, directory_of, top, root, entry_node, leaf_node}
use Rattle.tree.specs.Lookup.{IsValue}
use Rattle.tree.specs.Stage.{◌and_then◌}
use Rattle.tree.specs.Merging.{WithinValue, in_source, in_tree, NodeWithin, MergeLines, under_name, lines_at, IsHeldIn, AreHeld, NamesDirectory, CanMeetAt, ReadsWithin, child_lines, node_opened, line_opened, opened}
use Rattle.tree.specs.Merge.{TreeLines}
use Rattle.tree.specs.MergeAgrees.{IsBlobIn, IsBlobOfOne}
use Rattle.tree.proofs.Children.{same_name}
use Rattle.tree.proofs.Visits.{entry_behind}
use Rattle.tree.proofs.OrderLemmas.{IsOrderedAt, entry_ordered}
use Rattle.tree.proofs.LookupLemmas.{told_root, IsBlobOfEntry, entry_blobs}
use Rattle.tree.proofs.DirectoryBytes.{directory_bytes_injective}
use Rattle.tree.proofs.TreeDigests.{valid_digests, tree_digests}
use Rattle.tree.proofs.Listings.{all_join}
use Rattle.tree.proofs.MergeHeld.{behind, first_among}
use Rattle.tree.proofs.MergeValid.{read_valid}
use Rattle.tree.proofs.MergeBridge.{same_test, AllNamed, HasNames, AreEntries, Opens, none_opened, dir_opened, line_kept}

-- a node beside the entry whose node it is
abbrev pub Pair : Type 0
Pair = NodeWithin × Entry Leaf

abbrev pub Pairs : Type 0
Pairs = List (List Name × Pair)

abbrev pub given : Pairs → MergeLines
given xs = map (λ (x : List Name × Pair). (x.0, x.1.0)) xs

abbrev pub stood : Pairs → TreeLines
stood xs = map (λ (x : List Name × Pair). (x.0, x.1.1)) xs

-- among the blobs of S, with a path of at most so many names
pub record IsPair (S : List ℕ → Type 0) (k : ℕ) (p : List Name) (x : Pair) : Type 0 where
  pub node : x.0.node ≡ entry_node x.1
  pub ordered : IsOrderedEntry x.1
  pub few : length p ≤ k
  pub inside : (b : List ℕ) → IsBlobIn x.0.within b → S b
  pub blobs : (b : List ℕ) → IsBlobOfOne x.1 b → S b

abbrev pub AllOf : (List Name → Pair → Type 0) → Pairs → Type 0
AllOf P xs = AllByRecursion (λ (x : List Name × Pair). P x.0 x.1) xs

abbrev pub ArePairs : (List ℕ → Type 0) → ℕ → Pairs → Type 0
ArePairs S k xs = AllOf (IsPair S k) xs

-- ---- lines at a name

module _ {X Y : Type 0} (f : X → Y) where
  abbrev along : List (List Name × X) → List (List Name × Y)
  along xs = map {B = List Name × Y} (λ (x : List Name × X). (x.0, f x.1)) xs

  pub at_mapped : (n : Name) (xs : List (List Name × X)) → along (lines_at n xs) ≡ lines_at n (along xs)
  at_mapped n [] = refl
  at_mapped n (x ∷ xs) = by x.0 ∙ ap (under_name n x.0 (f x.1)) (at_mapped n xs)
    where
      by : (p : List Name) → along (under_name n p x.1 (lines_at n xs)) ≡ under_name n p (f x.1) (along (lines_at n xs))
      by [] = refl
      by (m ∷ p) = elim (eq_by_cmp name_cmp n m) as (λ b. along (cond b ((p, x.1) ∷ lines_at n xs) (lines_at n xs)) ≡ cond b ((p, f x.1) ∷ along (lines_at n xs)) (along (lines_at n xs))) [
        | true ↦ refl
        | false ↦ refl
      ]

  pub named_mapped : (xs : List (List Name × X)) → AllNamed xs → AllNamed (along xs)
  named_mapped [] h = tt
  named_mapped (x ∷ xs) h = (h.0, named_mapped xs h.1)

  pub all_unmapped : (P : List Name → Y → Type 0) (xs : List (List Name × X)) → AllByRecursion (λ (x : List Name × X). P x.0 (f x.1)) xs → AllByRecursion (λ (y : List Name × Y). P y.0 y.1) (along xs)
  all_unmapped P [] h = tt
  all_unmapped P (x ∷ xs) h = (h.0, all_unmapped P xs h.1)

  pub all_mapped : (P : List Name → Y → Type 0) (xs : List (List Name × X)) → AllByRecursion (λ (y : List Name × Y). P y.0 y.1) (along xs) → AllByRecursion (λ (x : List Name × X). P x.0 (f x.1)) xs
  all_mapped P [] h = tt
  all_mapped P (x ∷ xs) h = (h.0, all_mapped P xs h.1)

-- ---- the children of a tree, kind by kind

abbrev pub child_pair : WithinValue → Name → Entry Leaf → List Name × Pair
child_pair w n e = (n ∷ [], (record { node = entry_node e; within = w }, e))

abbrev add_picked : Bool → List Name × Pair → Pairs → Pairs
add_picked b x xs = cond b (x ∷ xs) xs

abbrev picked : (Entry Leaf → Bool) → WithinValue → Tree Leaf → Pairs
picked pick w empty = []
picked pick w (leaf n x rest) = add_picked (pick (single x)) (child_pair w n (single x)) (picked pick w rest)
picked pick w (folder n below rest) = add_picked (pick (whole below)) (child_pair w n (whole below)) (picked pick w rest)

abbrev is_file : Entry Leaf → Bool
is_file (single (file c x)) = true
is_file (single (link s)) = false
is_file (whole t) = false

abbrev is_link : Entry Leaf → Bool
is_link (single (file c x)) = false
is_link (single (link s)) = true
is_link (whole t) = false

abbrev is_folder : Entry Leaf → Bool
is_folder (single x) = false
is_folder (whole t) = true

abbrev pub children : WithinValue → Tree Leaf → Pairs
children w u = picked is_file w u ++ (picked is_folder w u ++ picked is_link w u)

files_given : (w : WithinValue) (u : Tree Leaf) → given (picked is_file w u) ≡ map (λ (f : FileNodeValue). (f.name ∷ [], record { node = File f.digest f.executable; within = w })) (directory_of (form u)).files
files_given w empty = refl
files_given w (leaf n (file c x) rest) = ap (λ (l : MergeLines). (n ∷ [], record { node = File (digest_of c) x; within = w }) ∷ l) (files_given w rest)
files_given w (leaf n (link s) rest) = files_given w rest
files_given w (folder n below rest) = files_given w rest

folders_given : (w : WithinValue) (u : Tree Leaf) → given (picked is_folder w u) ≡ map (λ (d : DirectoryNodeValue). (d.name ∷ [], record { node = Dir d.digest; within = w })) (directory_of (form u)).directories
folders_given w empty = refl
folders_given w (leaf n (file c x) rest) = folders_given w rest
folders_given w (leaf n (link s) rest) = folders_given w rest
folders_given w (folder n below rest) = ap (λ (l : MergeLines). (n ∷ [], record { node = Dir (root (form below)); within = w }) ∷ l) (folders_given w rest)

links_given : (w : WithinValue) (u : Tree Leaf) → given (picked is_link w u) ≡ map (λ (l : SymlinkNodeValue). (l.name ∷ [], record { node = Link l.target; within = w })) (directory_of (form u)).symlinks
links_given w empty = refl
links_given w (leaf n (file c x) rest) = links_given w rest
links_given w (leaf n (link s) rest) = ap (λ (l : MergeLines). (n ∷ [], record { node = Link s; within = w }) ∷ l) (links_given w rest)
links_given w (folder n below rest) = links_given w rest

children_given : (w : WithinValue) (u : Tree Leaf) → given (children w u) ≡ child_lines w (directory_of (form u))
children_given w u =
    map-append (λ (x : List Name × Pair). (x.0, x.1.0)) (picked is_file w u) (picked is_folder w u ++ picked is_link w u)
    ∙ ap (λ l. given (picked is_file w u) ++ l) (map-append (λ (x : List Name × Pair). (x.0, x.1.0)) (picked is_folder w u) (picked is_link w u))
    ∙ (λ i. files_given w u i ++ (folders_given w u i ++ links_given w u i))

-- each is the entry at its name
pub record IsChild (w : WithinValue) (u : Tree Leaf) (x : List Name × Pair) : Type 0 where
  pub name : Name
  pub target : x.0 ≡ name ∷ []
  pub node : x.1.0.node ≡ entry_node x.1.1
  pub within : x.1.0.within ≡ w
  pub stands : entry_of name u ≡ Some x.1.1

module _ (w : WithinValue) where
  later : (u : Tree Leaf) (m : Name) (f : Entry Leaf) (all : Tree Leaf) → ((n : Name) → entry_of n all ≡ cond (eq_by_cmp name_cmp n m) (Some f) (entry_of n u)) → IsBelowAll m u → (xs : Pairs) → AllByRecursion (IsChild w u) xs → AllByRecursion (IsChild w all) xs
  later u m f all at below [] h = tt
  later u m f all at below (x ∷ xs) h = (
    record { name = h.0.name; target = h.0.target; node = h.0.node; within = h.0.within; stands = at h.0.name ∙ entry_behind m f u h.0.name [] x.1.1 below h.0.stands },
    later u m f all at below xs h.1,
  )

  one_more : (b : Bool) (u : Tree Leaf) (x : List Name × Pair) (xs : Pairs) → IsChild w u x → AllByRecursion (IsChild w u) xs → AllByRecursion (IsChild w u) (add_picked b x xs)
  one_more true u x xs h k = (h, k)
  one_more false u x xs h k = k

  are_children : (pick : Entry Leaf → Bool) (u : Tree Leaf) → IsOrdered u → AllByRecursion (IsChild w u) (picked pick w u)
  are_children pick empty h = tt
  are_children pick (leaf n x rest) h = one_more (pick (single x)) (leaf n x rest) (child_pair w n (single x)) (picked pick w rest)
      (record { name = n; target = refl; node = refl; within = refl; stands = ap (λ b. cond b (Some (single x)) (entry_of n rest)) (same_test n) })
      (later rest n (single x) (leaf n x rest) (λ k. refl) h.0 (picked pick w rest) (are_children pick rest h.1))
  are_children pick (folder n below rest) h = one_more (pick (whole below)) (folder n below rest) (child_pair w n (whole below)) (picked pick w rest)
      (record { name = n; target = refl; node = refl; within = refl; stands = ap (λ b. cond b (Some (whole below)) (entry_of n rest)) (same_test n) })
      (later rest n (whole below) (folder n below rest) (λ k. refl) h.0 (picked pick w rest) (are_children pick rest h.2))

  pub all_children : (u : Tree Leaf) → IsOrdered u → AllByRecursion (IsChild w u) (children w u)
  all_children u h = all_join (IsChild w u) _ _ (are_children is_file u h) (all_join (IsChild w u) _ _ (are_children is_folder u h) (are_children is_link u h))

  -- and none is left out
  found_here : (pick : Entry Leaf → Bool) (n m : Name) (e f : Entry Leaf) (xs : Pairs) (o : Option (Entry Leaf)) → pick e ≡ true → (o ≡ Some e → Contains (stood xs) (n ∷ [], e))
      → (b : Bool) → eq_by_cmp name_cmp n m ≡ b → cond b (Some f) o ≡ Some e → Contains (stood (add_picked (pick f) (child_pair w m f) xs)) (n ∷ [], e)
  found_here pick n m e f xs o chosen more true same is =
      let entries : f ≡ e = (let both : ◌≡◌ {A = Option (Entry Leaf)} (Some f) (Some e) = is in cc) in
      subst (λ b. Contains (stood (add_picked b (child_pair w m f) xs)) (n ∷ [], e)) (sym (ap pick entries ∙ chosen))
      (0, omega arith, (λ i. (sym (same_name n m same) i ∷ [], entries i)))
  found_here pick n m e f xs o chosen more false same is = elim (pick f) as (λ b. Contains (stood (add_picked b (child_pair w m f) xs)) (n ∷ [], e)) [
    | true ↦ behind (m ∷ [], f) (stood xs) (n ∷ [], e) (more is)
    | false ↦ more is
  ]

  found : (pick : Entry Leaf → Bool) (u : Tree Leaf) (n : Name) (e : Entry Leaf) → pick e ≡ true → entry_of n u ≡ Some e → Contains (stood (picked pick w u)) (n ∷ [], e)
  found pick empty n e chosen is = absurd (let both : ◌≡◌ {A = Option (Entry Leaf)} None (Some e) = is in cc)
  found pick (leaf m x rest) n e chosen is = found_here pick n m e (single x) (picked pick w rest) (entry_of n rest) chosen (found pick rest n e chosen) (eq_by_cmp name_cmp n m) refl is
  found pick (folder m below rest) n e chosen is = found_here pick n m e (whole below) (picked pick w rest) (entry_of n rest) chosen (found pick rest n e chosen) (eq_by_cmp name_cmp n m) refl is

  child_found : (u : Tree Leaf) (n : Name) (e : Entry Leaf) → entry_of n u ≡ Some e → Contains (stood (picked is_file w u) ++ (stood (picked is_folder w u) ++ stood (picked is_link w u))) (n ∷ [], e)
  child_found u n (single (file c x)) is = Contains-append_left (stood (picked is_file w u)) _ _ (found is_file u n (single (file c x)) refl is)
  child_found u n (single (link s)) is = Contains-append_right (stood (picked is_file w u)) _ _ (Contains-append_right (stood (picked is_folder w u)) _ _ (found is_link u n (single (link s)) refl is))
  child_found u n (whole t) is = Contains-append_right (stood (picked is_file w u)) _ _ (Contains-append_left (stood (picked is_folder w u)) (stood (picked is_link w u)) _ (found is_folder u n (whole t) refl is))

  stood_children : (u : Tree Leaf) → stood (children w u) ≡ stood (picked is_file w u) ++ (stood (picked is_folder w u) ++ stood (picked is_link w u))
  stood_children u =
      map-append (λ (x : List Name × Pair). (x.0, x.1.1)) (picked is_file w u) (picked is_folder w u ++ picked is_link w u)
      ∙ ap (λ l. stood (picked is_file w u) ++ l) (map-append (λ (x : List Name × Pair). (x.0, x.1.1)) (picked is_folder w u) (picked is_link w u))

  children_sound : (u : Tree Leaf) (xs : Pairs) → AllByRecursion (IsChild w u) xs → AllByRecursion (λ (c : List Name × Entry Leaf). (n : Name) × (c.0 ≡ n ∷ []) × (entry_of n u ≡ Some c.1)) (stood xs)
  children_sound u [] h = tt
  children_sound u (x ∷ xs) h = ((h.0.name, h.0.target, h.0.stands), children_sound u xs h.1)

  pub children_entries : (u : Tree Leaf) → IsOrdered u → AreEntries u (stood (children w u))
  children_entries u h = record {
    sound = children_sound u (children w u) (all_children u h);
    complete = λ n e is. subst (λ l. Contains l (n ∷ [], e)) (sym (stood_children u)) (child_found u n e is);
  }

  children_named : (u : Tree Leaf) (xs : Pairs) → AllByRecursion (IsChild w u) xs → AllNamed xs
  children_named u [] h = tt
  children_named u (x ∷ xs) h = (subst HasNames (sym h.0.target) tt, children_named u xs h.1)

  module _ (S : List ℕ → Type 0) (k : ℕ) (u : Tree Leaf) (ordered : IsOrdered u) (inside : (b : List ℕ) → IsBlobIn w b → S b) (blobs : (b : List ℕ) → IsBlobOfOne (whole u) b → S b) where
    child_blobs : (n : Name) (e : Entry Leaf) → entry_of n u ≡ Some e → (b : List ℕ) → IsBlobOfOne e b → S b
    child_blobs n e is b h = blobs b (inr (entry_blobs n u b (subst (λ o. IsBlobOfEntry o b) (sym is) (as_entry e h))))
      where
        as_entry : (e : Entry Leaf) → IsBlobOfOne e b → IsBlobOfEntry (Some e) b
        as_entry (single x) h = h
        as_entry (whole t) h = h

    child_ordered : (n : Name) (e : Entry Leaf) → entry_of n u ≡ Some e → IsOrderedEntry e
    child_ordered n e is = by e (subst IsOrderedAt is (entry_ordered n u ordered))
      where
        by : (e : Entry Leaf) → IsOrderedAt (Some e) → IsOrderedEntry e
        by (single x) h = tt
        by (whole t) h = h

    children_pairs : (xs : Pairs) → AllByRecursion (IsChild w u) xs → ArePairs S (suc k) xs
    children_pairs [] h = tt
    children_pairs (x ∷ xs) h = (
      record {
        node = h.0.node;
        ordered = child_ordered h.0.name x.1.1 h.0.stands;
        few = subst (λ (p : List Name). length p ≤ suc k) (sym h.0.target) (omega arith);
        inside = λ b q. inside b (subst (λ w. IsBlobIn w b) h.0.within q);
        blobs = child_blobs h.0.name x.1.1 h.0.stands;
      },
      children_pairs xs h.1,
    )

-- ---- what is opened

pub contains_mapped : {X Y : Type 0} (f : X → Y) (xs : List X) (x : X) → Contains xs x → Contains (map f xs) (f x)
contains_mapped f [] x (i, lt, is) = absurd (omega arith)
contains_mapped f (y ∷ ys) x (zero, lt, is) = (0, omega arith, ap f is)
contains_mapped f (y ∷ ys) x (suc i, lt, is) = behind (f y) (map f ys) (f x) (contains_mapped f ys x (i, omega (arith, lt), is))

not_leaf : (x : Leaf) → NamesDirectory (leaf_node x) → ⊥
not_leaf (file c e) h = h
not_leaf (link s) h = h

-- what is opened stands for the entries below
pub record IsOpened (S : List ℕ → Type 0) (k : ℕ) (ks : Pairs) (new : MergeLines) : Type 0 where
  pub pairs : Pairs
  pub gives : given pairs ≡ new
  pub opens : Opens (stood ks) (stood pairs)
  pub are : ArePairs S (suc k) pairs
  pub named : AllNamed pairs

module _ (B : Blobs) (S : List ℕ → Type 0) (apart : NoClash S) (values : (b : List ℕ) → IsValue B b → S b) (k : ℕ) where
  -- wherever it is read
  reads_tree : (w : WithinValue) (u : Tree Leaf) (m : DirectoryValue) → IsHeldIn w (Dir (root (form u))) → ((b : List ℕ) → IsBlobIn w b → S b) → S (top (form u)) → ReadsWithin B w (root (form u)) m → m ≡ directory_of (form u)
  reads_tree in_source u m held inside own told = told_root B u S m values own apart told
  reads_tree (in_tree t) u m held inside own first =
      directory_bytes_injective m (directory_of (form u)) (valid_digests m (read_valid B (in_tree t) (root (form u)) m held first)) (tree_digests u)
      (apart (directory_bytes m) (top (form u)) (inside (directory_bytes m) (contains_mapped directory_bytes (t.root ∷ t.children) m (first_among (t.root ∷ t.children) (root (form u)) m first))) own first.right)

  node_pairs : (g : NodeWithin) (u : Tree Leaf) → IsPair S (suc k) [] (g, whole u) → IsHeldIn g.within g.node → (here : MergeLines) → (node_opened B g.node g.within).passes here → given (children g.within u) ≡ here
  unfolding ◌and_then◌
  node_pairs g u h held here is =
      let read = subst (λ x. (node_opened B x g.within).passes here) h.node is in
      let same = reads_tree g.within u read.0 (subst (IsHeldIn g.within) h.node held) h.inside (h.blobs (top (form u)) (inl refl)) read.1 in
      children_given g.within u ∙ ap (child_lines g.within) (sym same) ∙ sym read.2

  line_pairs : (p : List Name) (g : NodeWithin) (e : Entry Leaf) (ks : Pairs) (here rest : MergeLines) → IsPair S (suc k) p (g, e) → IsHeldIn g.within g.node → CanMeetAt p g → (line_opened B p g).passes here → IsOpened S k ks rest → IsOpened S k ((p, (g, e)) ∷ ks) (here ++ rest)
  line_pairs (n ∷ p) g e ks here rest h held can is o = record {
    pairs = (n ∷ p, (g, e)) ∷ o.pairs;
    gives = (λ i. (n ∷ p, g) ∷ o.gives i) ∙ ap (λ l. l ++ rest) (sym is);
    opens = line_kept n p e o.opens;
    are = (h, o.are);
    named = (tt, o.named);
  }
  line_pairs [] g (single x) ks here rest h held can is o = absurd (not_leaf x (subst NamesDirectory h.node can))
  line_pairs [] g (whole u) ks here rest h held can is o = record {
    pairs = children g.within u ++ o.pairs;
    gives = map-append (λ (x : List Name × Pair). (x.0, x.1.0)) (children g.within u) o.pairs ∙ (λ i. node_pairs g u h held here is i ++ o.gives i);
    opens = subst (Opens (([], whole u) ∷ stood ks)) (sym (map-append (λ (x : List Name × Pair). (x.0, x.1.1)) (children g.within u) o.pairs)) (dir_opened u (stood (children g.within u)) (children_entries g.within u h.ordered) o.opens);
    are = all_join (λ (x : List Name × Pair). IsPair S (suc k) x.0 x.1) (children g.within u) o.pairs (children_pairs g.within S k u h.ordered h.inside h.blobs (children g.within u) (all_children g.within u h.ordered)) o.are;
    named = all_join (λ (x : List Name × Pair). HasNames x.0) (children g.within u) o.pairs (children_named g.within u (children g.within u) (all_children g.within u h.ordered)) o.named;
  }

  pub opened_pairs : (ks : Pairs) → ArePairs S (suc k) ks → AreHeld (given ks) → AllByRecursion (λ (l : List Name × NodeWithin). CanMeetAt l.0 l.1) (given ks) → (new : MergeLines) → (opened B (given ks)).passes new → IsOpened S k ks new
  unfolding ◌and_then◌
  opened_pairs [] h held can new is = record { pairs = []; gives = sym is; opens = none_opened; are = tt; named = tt }
  opened_pairs (x ∷ ks) h held can new (here, now, (rest, more, is)) =
      subst (IsOpened S k (x ∷ ks)) (sym is) (line_pairs x.0 x.1.0 x.1.1 ks here rest h.0 held.0 can.0 now (opened_pairs ks h.1 held.1 can.1 rest more))
