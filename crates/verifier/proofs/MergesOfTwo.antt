-- Lines that give the same nodes in two builds, each read where its build tells of them: what they put together is one tree.
use Rattle.std.proofs.Common.{◌≡◌, ℕ, zero, suc, List, [], ◌∷◌, ◌++◌, map, refl, ap, sym, ◌∙◌, subst, inl, inr}
use Rattle.std.specs.Prelude.{Option, Some, None, Contains}
use Rattle.std.proofs.lemmas.List.{map-append}
use Rattle.blob_digest.specs.Digest.{DigestValue, digest_of}
use Rattle.messages.specs.declared.node.Node.TheVariants.{File, Link, Dir}
use Rattle.messages.specs.DirectoryRules.{DirectoryValue, IsDirectory}
use Rattle.messages.specs.Directory.{directory_bytes}
use Rattle.messages.specs.Tree.{TreeValue, IsTree, tree_bytes}
use Rattle.blob_source.specs.Source.{Blobs}
use Rattle.blob_source.specs.Told.{IsTold}
use Rattle.tree.specs.Tree.{Name, Tree, Entry, whole}
use Rattle.tree.specs.Form.{NodeValue}
use Rattle.tree.specs.Graft.{with_entry}
use Rattle.tree.specs.Stage.{Stage, ◌and_then◌}
use Rattle.tree.specs.Merging.{WithinValue, in_source, in_tree, MergeLines, MergeFault, ReadsWithin, child_lines, node_opened, line_opened, opened, met, lone, stands_or, entry_merged, each_name, first_names, lines_at, counted, merged_in, merged}
use Rattle.tree.proofs.DirectoryBytes.{directory_bytes_injective}
use Rattle.tree.proofs.TreeDigests.{valid_digests}
use Rattle.tree.proofs.Listings.{all_join}
use Rattle.tree.proofs.MergeAlike.{Twin, Twins, first_of, second_of, firsts, seconds, AllTwins, kept, kept_firsts, kept_seconds, all_kept, names_along, lone_alike, child_twins, picked_children, twins_children}
use Rattle.tree.proofs.MergeBridge.{all_at_name}
use Rattle.tree.proofs.MergeHeld.{all_at, first_among}
use Rattle.tree.proofs.MergePairs.{at_mapped}
use Rattle.verifier.specs.TwoBuilds.{IsDirectoryTold, NoClashBetween}

-- ---- Directories that are told

-- a valid Directory that a source tells, or that is one of a Tree which it tells
pub record IsKnown (B : Blobs) (m : DirectoryValue) : Type 0 where
  pub valid : IsDirectory m
  pub told : IsDirectoryTold B (directory_bytes m)

-- what is below a node is read in what a source tells
abbrev pub IsWithin : Blobs → WithinValue → Type 0
IsWithin B in_source = Unit {0}
IsWithin B (in_tree t) = (d : DigestValue) × IsTold IsTree tree_bytes B d t

-- each Directory of a Tree that is told
pub known_in_tree : (B : Blobs) (d : DigestValue) (t : TreeValue) → IsTold IsTree tree_bytes B d t → (m : DirectoryValue) → Contains (t.root ∷ t.children) m → IsKnown B m
known_in_tree B d t told m here = record {
  valid = all_at IsDirectory (t.root ∷ t.children) m (told.valid.root, told.valid.children) here;
  told = (m, refl, inr (d, t, told, here));
}

known_within : (B : Blobs) (w : WithinValue) → IsWithin B w → (d : DigestValue) (m : DirectoryValue) → ReadsWithin B w d m → IsKnown B m × (digest_of (directory_bytes m) ≡ d)
known_within B in_source k d m read = (record { valid = read.valid; told = (m, refl, inl (d, read)) }, read.blob.right)
known_within B (in_tree t) k d m read = (known_in_tree B k.0 t k.1 m (first_among (t.root ∷ t.children) d m read), read.right)

module _ (B C : Blobs) (apart : NoClashBetween (IsDirectoryTold B) (IsDirectoryTold C)) where
  -- a digest is that of one Directory in both
  pub one_directory : (m n : DirectoryValue) → IsKnown B m → IsKnown C n → digest_of (directory_bytes m) ≡ digest_of (directory_bytes n) → m ≡ n
  one_directory m n h k is = directory_bytes_injective m n (valid_digests m h.valid) (valid_digests n k.valid) (apart (directory_bytes m) (directory_bytes n) h.told k.told is)

  reads_one : (w v : WithinValue) → IsWithin B w → IsWithin C v → (d : DigestValue) (m n : DirectoryValue) → ReadsWithin B w d m → ReadsWithin C v d n → m ≡ n
  reads_one w v h k d m n read other =
      let one = known_within B w h d m read in
      let two = known_within C v k d n other in
      one_directory m n one.0 two.0 (one.1 ∙ sym two.1)

  -- a node of both, and where what is below it is read in each
  abbrev pub IsOfBoth : Twin → Type 0
  IsOfBoth t = IsWithin B t.one × IsWithin C t.other

  -- ---- what is opened

  record OpenedBoth (new more : MergeLines) : Type 0 where
    twins : Twins
    gives : firsts twins ≡ new
    also : seconds twins ≡ more
    are : AllTwins IsOfBoth twins

  node_both : (x : NodeValue) (w v : WithinValue) → IsWithin B w → IsWithin C v → (new more : MergeLines) → (node_opened B x w).passes new → (node_opened C x v).passes more → OpenedBoth new more
  unfolding ◌and_then◌
  node_both (File d b) w v h k new more one other = record { twins = []; gives = sym one; also = sym other; are = tt }
  node_both (Link l) w v h k new more one other = record { twins = []; gives = sym one; also = sym other; are = tt }
  node_both (Dir d) w v h k new more (m, read, made) (n, found, done) = record {
    twins = child_twins w v m;
    gives = picked_children w v first_of w (λ x. refl) m ∙ sym made;
    also = picked_children w v second_of v (λ x. refl) m ∙ ap (child_lines v) (reads_one w v h k d m n read found) ∙ sym done;
    are = twins_children IsOfBoth w v (λ x. (h, k)) m;
  }

  line_both : (p : List Name) (t : Twin) → IsOfBoth t → (new more : MergeLines) → (line_opened B p (first_of t)).passes new → (line_opened C p (second_of t)).passes more → OpenedBoth new more
  line_both [] t h new more one other = node_both t.node t.one t.other h.0 h.1 new more one other
  line_both (n ∷ p) t h new more one other = record { twins = (n ∷ p, t) ∷ []; gives = sym one; also = sym other; are = (h, tt) }

  opened_both : (ts : Twins) → AllTwins IsOfBoth ts → (new more : MergeLines) → (opened B (firsts ts)).passes new → (opened C (seconds ts)).passes more → OpenedBoth new more
  unfolding ◌and_then◌
  opened_both [] are new more one other = record { twins = []; gives = sym one; also = sym other; are = tt }
  opened_both (t ∷ ts) are new more (here, now, (rest, later, is)) (there, then, (others, last, also)) =
      let l = line_both t.0 t.1 are.0 here there now then in
      let o = opened_both ts are.1 rest others later last in
      record {
        twins = l.twins ++ o.twins;
        gives = map-append (λ (t : List Name × Twin). (t.0, first_of t.1)) l.twins o.twins ∙ (λ i. l.gives i ++ o.gives i) ∙ sym is;
        also = map-append (λ (t : List Name × Twin). (t.0, second_of t.1)) l.twins o.twins ∙ (λ i. l.also i ++ o.also i) ∙ sym also;
        are = all_join (λ (t : List Name × Twin). IsOfBoth t.1) l.twins o.twins l.are o.are;
      }

  -- ---- what is put together

  abbrev Goes : ℕ → Type 0
  Goes k = (path : List Name) (ts : Twins) → AllTwins IsOfBoth ts → (T U : Tree NodeValue) → (merged_in B k path (firsts ts)).passes T → (merged_in C k path (seconds ts)).passes U → T ≡ U

  met_both : (k : ℕ) (path : List Name) → Goes k → (ts : Twins) → AllTwins IsOfBoth ts → (E F : Entry NodeValue)
      → (met B (merged_in B k path) k path (firsts ts)).passes E → (met C (merged_in C k path) k path (seconds ts)).passes F → E ≡ F
  unfolding ◌and_then◌
  met_both k path below ts are E F (a, can, (new, read, (T, later, is))) (b, may, (more, found, (U, last, also))) =
      let o = opened_both ts are new more read found in
      let same = below path o.twins o.are T U (subst (λ l. (merged_in B k path l).passes T) (sym o.gives) later) (subst (λ l. (merged_in C k path l).passes U) (sym o.also) last) in
      is ∙ ap (λ (t : Tree NodeValue). whole t) same ∙ sym also

  entry_both : (k : ℕ) (path : List Name) → Goes k → (ts : Twins) → AllTwins IsOfBoth ts → (E F : Entry NodeValue)
      → (entry_merged B (merged_in B k path) k path (counted [] (firsts ts))).passes E → (entry_merged C (merged_in C k path) k path (counted [] (seconds ts))).passes F → E ≡ F
  entry_both k path below ts are E F one other =
      by (lone (firsts us)) (lone (seconds us)) (lone_alike us)
      (subst (λ l. (entry_merged B (merged_in B k path) k path l).passes E) (sym (kept_firsts [] ts)) one)
      (subst (λ l. (entry_merged C (merged_in C k path) k path l).passes F) (sym (kept_seconds [] ts)) other)
    where
      us : Twins
      us = kept [] ts

      on : (x : Option NodeValue) → (stands_or x (met B (merged_in B k path) k path (firsts us))).passes E → (stands_or x (met C (merged_in C k path) k path (seconds us))).passes F → E ≡ F
      on (Some v) h j = h ∙ sym j
      on None h j = met_both k path below us (all_kept IsOfBoth [] ts are) E F h j

      by : (x y : Option NodeValue) → x ≡ y → (stands_or x (met B (merged_in B k path) k path (firsts us))).passes E → (stands_or y (met C (merged_in C k path) k path (seconds us))).passes F → E ≡ F
      by x y same h j = on x h (subst (λ z. (stands_or z (met C (merged_in C k path) k path (seconds us))).passes F) (sym same) j)

  module _ (k : ℕ) (path : List Name) (below : Goes k) (ts : Twins) (are : AllTwins IsOfBoth ts) where
    abbrev at : Blobs → Name → MergeLines → Stage MergeFault (Entry NodeValue)
    at D n ls = entry_merged D (merged_in D k (path ++ n ∷ [])) k (path ++ n ∷ []) (counted [] ls)

    name_both : (n : Name) (E F : Entry NodeValue) → (at B n (lines_at n (firsts ts))).passes E → (at C n (lines_at n (seconds ts))).passes F → E ≡ F
    name_both n E F one other =
        let first : firsts (lines_at n ts) ≡ lines_at n (firsts ts) = at_mapped first_of n ts in
        let second : seconds (lines_at n ts) ≡ lines_at n (seconds ts) = at_mapped second_of n ts in
        entry_both k (path ++ n ∷ []) below (lines_at n ts) (all_at_name n (λ p t. IsOfBoth t) (λ p t. IsOfBoth t) (λ p t h. h) ts are) E F
        (subst (λ l. (at B n l).passes E) (sym first) one) (subst (λ l. (at C n l).passes F) (sym second) other)

    each_both : (ns : List Name) (T U : Tree NodeValue) → (each_name (at B) (map (λ n. (n, lines_at n (firsts ts))) ns)).passes T → (each_name (at C) (map (λ n. (n, lines_at n (seconds ts))) ns)).passes U → T ≡ U
    unfolding ◌and_then◌
    each_both [] T U one other = one ∙ sym other
    each_both (n ∷ ns) T U (E, here, (R, rest, is)) (F, there, (Q, others, also)) =
        let entry = name_both n E F here there in
        let later = each_both ns R Q rest others in
        is ∙ (λ i. with_entry n (entry i) (later i)) ∙ sym also

  goes : (k : ℕ) → Goes k
  goes zero path ts are T U one other = one ∙ sym other
  goes (suc k) path ts are T U one other =
      let names : first_names (firsts ts) ≡ first_names (seconds ts) = names_along first_of [] ts ∙ sym (names_along second_of [] ts) in
      each_both k path (goes k) ts are (first_names (firsts ts)) T U one
      (subst (λ ns. (each_name (at k path (goes k) ts are C) (map (λ n. (n, lines_at n (seconds ts))) ns)).passes U) (sym names) other)

  pub merges_both : (ts : Twins) → AllTwins IsOfBoth ts → (T U : Tree NodeValue) → (merged B (firsts ts)).passes T → (merged C (seconds ts)).passes U → T ≡ U
  unfolding merged
  merges_both ts are T U one other = goes 64 [] ts are T U one other
