-- The tree that valid lines come to is valid, and its names stand in their order.
use Rattle.std.proofs.Common.{◌≡◌, ◌≢◌, ℕ, zero, suc, ◌+◌, ◌<◌, ◌≤◌, List, [], ◌∷◌, ◌++◌, map, length, take, get_or, refl, ap, sym, ◌∙◌, subst, inl, inr, true, false, cond, arith}
use Rattle.std.specs.Prelude.{Option, Some, None}
use Rattle.std.specs.List.{AllByRecursion}
use Rattle.std.specs.Ordering.{eq_by_cmp}
use Rattle.std.specs.declared.cmp.Ordering.TheVariants.{Less}
use Rattle.std.proofs.lemmas.List.{take_all}
use Rattle.blob_digest.specs.Digest.{DigestValue}
use Rattle.messages.specs.Name.{IsName}
use Rattle.messages.specs.FileNode.{FileNodeValue, IsFileNode}
use Rattle.messages.specs.DirectoryNode.{DirectoryNodeValue, IsDirectoryNode}
use Rattle.messages.specs.SymlinkNode.{SymlinkNodeValue, IsSymlinkNode}
use Rattle.messages.specs.DirectoryRules.{DirectoryValue, IsDirectory}
use Rattle.messages.specs.declared.node.Node.{Node}
use Rattle.messages.specs.declared.node.Node.TheVariants.{File, Link, Dir}
use Rattle.blob_source.specs.Source.{Blobs}
use Rattle.tree.specs.declared.merging.Within.{Within}
use Rattle.tree.specs.Tree.{Name, name_cmp, Tree, Entry, single, whole, IsBelowAll, IsOrdered}
use Rattle.tree.specs.Form.{NodeValue, node_value}
use Rattle.tree.specs.Folded.{IsNode, AreValid}
use Rattle.tree.specs.Graft.{with_entry}
use Rattle.tree.specs.Stage.{Stage, ◌and_then◌}
use Rattle.tree.specs.Merging.{WithinValue, in_source, in_tree, NodeWithin, MergeLines, MergeFault, under_name, lines_at, first_names, is_repeated, counted, IsHeldIn, AreHeld, ReadsWithin, child_lines, node_opened, line_opened, opened, met, node_here, lone, stands_or, entry_merged, each_name, merged_in, merge_lines}
use Rattle.tree.specs.MergeParts.{IsValidLine, AreValidLines}
use Rattle.tree.proofs.Listings.{all_join}
use Rattle.tree.proofs.TreeLemmas.{one_or_two, apart_cmp}
use Rattle.tree.proofs.MergeGroups.{Ascends, are_names}
use Rattle.tree.proofs.MergeHeld.{all_at, first_among, opened_held}
use Rattle.tree.proofs.MergeStages.{all_lines_at, all_counted}

-- ---- lines at a name, each node once

valid_at : (n : Name) (ls : MergeLines) → AreValidLines ls → AreValidLines (lines_at n ls)
valid_at n [] h = tt
valid_at n (l ∷ ls) h = by l.0 h.0.0 (valid_at n ls h.1)
  where
    by : (p : List Name) → AllByRecursion IsName p → AreValidLines (lines_at n ls) → AreValidLines (under_name n p l.1 (lines_at n ls))
    by [] names rest = rest
    by (m ∷ p) names rest = elim (eq_by_cmp name_cmp n m) as (λ b. AreValidLines (cond b ((p, l.1) ∷ lines_at n ls) (lines_at n ls))) [ true ↦ ((names.1, h.0.1), rest) | false ↦ rest ]

valid_counted : (earlier ls : MergeLines) → AreValidLines ls → AreValidLines (counted earlier ls)
valid_counted earlier [] h = tt
valid_counted earlier (l ∷ ls) h = elim (is_repeated earlier l.0 l.1) as (λ b. AreValidLines (cond b (counted earlier ls) (l ∷ counted (earlier ++ l ∷ []) ls))) [
  | true ↦ valid_counted earlier ls h.1
  | false ↦ (h.0, valid_counted (earlier ++ l ∷ []) ls h.1)
]

valid_name : (n : Name) (ls : MergeLines) → AreValidLines ls → lines_at n ls ≢ [] → IsName n
valid_name n [] h some = absurd (some refl)
valid_name n (l ∷ ls) h some = by l.0 h.0.0 (valid_name n ls h.1) some
  where
    by : (p : List Name) → AllByRecursion IsName p → (lines_at n ls ≢ [] → IsName n) → under_name n p l.1 (lines_at n ls) ≢ [] → IsName n
    by [] names rest some = rest some
    by (m ∷ p) names rest some = elim (one_or_two n m) [
      | inl same ↦ subst IsName (sym same) names.0
      | inr other ↦ rest (λ e. some (ap (λ b. cond b ((p, l.1) ∷ lines_at n ls) (lines_at n ls)) (apart_cmp n m other) ∙ e))
    ]

-- ---- children

files_valid : (within : WithinValue) (fs : List FileNodeValue) → AllByRecursion IsFileNode fs → AreValidLines (map (λ (f : FileNodeValue). (f.name ∷ [], record { node = File f.digest f.executable; within = within })) fs)
files_valid within [] h = tt
files_valid within (f ∷ fs) h = (((h.0.name, tt), h.0.digest), files_valid within fs h.1)

directories_valid : (within : WithinValue) (ds : List DirectoryNodeValue) → AllByRecursion IsDirectoryNode ds → AreValidLines (map (λ (d : DirectoryNodeValue). (d.name ∷ [], record { node = Dir d.digest; within = within })) ds)
directories_valid within [] h = tt
directories_valid within (d ∷ ds) h = (((h.0.name, tt), h.0.digest), directories_valid within ds h.1)

links_valid : (within : WithinValue) (ls : List SymlinkNodeValue) → AllByRecursion IsSymlinkNode ls → AreValidLines (map (λ (l : SymlinkNodeValue). (l.name ∷ [], record { node = Link l.target; within = within })) ls)
links_valid within [] h = tt
links_valid within (l ∷ ls) h = (((h.0.name, tt), h.0.target), links_valid within ls h.1)

children_valid : (within : WithinValue) (m : DirectoryValue) → IsDirectory m → AreValidLines (child_lines within m)
children_valid within m h =
    all_join IsValidLine _ _ (files_valid within m.files h.files)
    (all_join IsValidLine _ _ (directories_valid within m.directories h.directories) (links_valid within m.symlinks h.symlinks))

abbrev IsValidEntry : Entry NodeValue → Type 0
IsValidEntry (single x) = IsNode x
IsValidEntry (whole t) = AreValid t × IsOrdered t

lone_valid : (us : MergeLines) (x : NodeValue) → AreValidLines us → lone us ≡ Some x → IsNode x
lone_valid [] x h e = absurd (let both : ◌≡◌ {A = Option NodeValue} None (Some x) = e in cc)
lone_valid (l ∷ []) x h e = by l.0 e
  where
    by : (p : List Name) → node_here p l.1 ≡ Some x → IsNode x
    by [] e = subst IsNode (let both : ◌≡◌ {A = Option NodeValue} (Some l.1.node) (Some x) = e in cc) h.0.1
    by (n ∷ p) e = absurd (let both : ◌≡◌ {A = Option NodeValue} None (Some x) = e in cc)
lone_valid (l ∷ k ∷ us) x h e = absurd (let both : ◌≡◌ {A = Option NodeValue} None (Some x) = e in cc)

module _ (B : Blobs) where
  pub read_valid : (within : WithinValue) (d : DigestValue) (m : DirectoryValue) → IsHeldIn within (Dir d) → ReadsWithin B within d m → IsDirectory m
  read_valid in_source d m held told = told.valid
  read_valid (in_tree t) d m held first = all_at IsDirectory (t.root ∷ t.children) m (held.0.root, held.0.children) (first_among (t.root ∷ t.children) d m first)

  node_valid : (x : NodeValue) (within : WithinValue) (new : MergeLines) → IsHeldIn within x → (node_opened B x within).passes new → AreValidLines new
  unfolding ◌and_then◌
  node_valid (File d e) within new held is = subst AreValidLines (sym is) tt
  node_valid (Link t) within new held is = subst AreValidLines (sym is) tt
  node_valid (Dir d) within new held (m, read, is) = subst AreValidLines (sym is) (children_valid within m (read_valid within d m held read))

  line_valid : (p : List Name) (g : NodeWithin) (new : MergeLines) → IsValidLine (p, g) → IsHeldIn g.within g.node → (line_opened B p g).passes new → AreValidLines new
  line_valid [] g new h held is = node_valid g.node g.within new held is
  line_valid (n ∷ p) g new h held is = subst AreValidLines (sym is) (h, tt)

  opened_valid : (ls new : MergeLines) → AreValidLines ls → AreHeld ls → (opened B ls).passes new → AreValidLines new
  unfolding ◌and_then◌
  opened_valid [] new h held is = subst AreValidLines (sym is) tt
  opened_valid (l ∷ ls) new h held (here, k, (rest, more, is)) =
      subst AreValidLines (sym is) (all_join IsValidLine here rest (line_valid l.0 l.1 here h.0 held.0 k) (opened_valid ls rest h.1 held.1 more))

  -- ---- a directory

  module _ (at : Name → MergeLines → Stage MergeFault (Entry NodeValue)) (ls : MergeLines) where
    below_each : (n : Name) (ns : List Name) → AllByRecursion (λ m. name_cmp n m ≡ Less) ns → (t : Tree NodeValue) → (each_name at (map (λ k. (k, lines_at k ls)) ns)).passes t → IsBelowAll n t
    unfolding ◌and_then◌
    below_each n [] h t is = subst (IsBelowAll n) (sym is) tt
    below_each n (m ∷ ns) h t (e, here, (rest, more, is)) = subst (IsBelowAll n) (sym is) (by e (below_each n ns h.1 rest more))
      where
        by : (e : Entry NodeValue) → IsBelowAll n rest → IsBelowAll n (with_entry m e rest)
        by (single x) below = (h.0, below)
        by (whole u) below = (h.0, below)

    each_valid : (ns : List Name) → Ascends ns → AllByRecursion (λ m. lines_at m ls ≢ []) ns → AreValidLines ls → ((n : Name) (e : Entry NodeValue) → (at n (lines_at n ls)).passes e → IsValidEntry e)
        → (t : Tree NodeValue) → (each_name at (map (λ k. (k, lines_at k ls)) ns)).passes t → AreValid t × IsOrdered t
    unfolding ◌and_then◌
    each_valid [] up some h each t is = subst (λ (u : Tree NodeValue). AreValid u × IsOrdered u) (sym is) (tt, tt)
    each_valid (n ∷ ns) up some h each t (e, here, (rest, more, is)) =
        subst (λ (u : Tree NodeValue). AreValid u × IsOrdered u) (sym is) (by e (valid_name n ls h some.0) (each n e here) (below_each n ns up.0 rest more) (each_valid ns up.1 some.1 h each rest more))
      where
        by : (e : Entry NodeValue) → IsName n → IsValidEntry e → IsBelowAll n rest → AreValid rest × IsOrdered rest → AreValid (with_entry n e rest) × IsOrdered (with_entry n e rest)
        by (single x) name own below all = (((name, own), all.0), (below, all.1))
        by (whole u) name own below all = (((name, own.0), all.0), (below, own.1, all.1))

  entry_valid : (k : ℕ) (path : List Name) (us : MergeLines) → AreValidLines us → AreHeld us → ((new : MergeLines) → AreValidLines new → AreHeld new → (t : Tree NodeValue) → (merged_in B k path new).passes t → AreValid t × IsOrdered t)
      → (e : Entry NodeValue) → (entry_merged B (merged_in B k path) k path us).passes e → IsValidEntry e
  unfolding ◌and_then◌
  entry_valid k path us h held below e is = by (lone us) refl is
    where
      by : (o : Option NodeValue) → lone us ≡ o → (stands_or o (met B (merged_in B k path) k path us)).passes e → IsValidEntry e
      by (Some x) alone here = subst IsValidEntry (sym here) (lone_valid us x h alone)
      by None alone (u, can, (new, read, (t, rest, same))) = subst IsValidEntry (sym same) (below new (opened_valid us new h held read) (opened_held B us new held read) t rest)

  pub merged_valid : (k : ℕ) (path : List Name) (ls : MergeLines) → AreValidLines ls → AreHeld ls → (t : Tree NodeValue) → (merged_in B k path ls).passes t → AreValid t × IsOrdered t
  merged_valid zero path ls h held t is = subst (λ (u : Tree NodeValue). AreValid u × IsOrdered u) (sym is) (tt, tt)
  merged_valid (suc k) path ls h held t is =
      each_valid (λ n given. entry_merged B (merged_in B k (path ++ n ∷ [])) k (path ++ n ∷ []) (counted [] given)) ls (first_names ls) (are_names ls).ascends (are_names ls).present h (λ n e here.
      entry_valid k (path ++ n ∷ []) (counted [] (lines_at n ls)) (valid_counted [] (lines_at n ls) (valid_at n ls h))
      (all_counted (λ g. IsHeldIn g.within g.node) [] (lines_at n ls) (all_lines_at (λ g. IsHeldIn g.within g.node) n ls held))
      (λ new good own u. merged_valid k (path ++ n ∷ []) new good own u) e here) t is

-- ---- the lines that are given

pub lines_more : {A : Type 0} (ls : List (List Name × Node A × Within A)) (i : ℕ) (l : List Name × Node A × Within A) → i < length ls → l ≡ get_or ls i l → AreValidLines (merge_lines (take i ls)) → AllByRecursion IsName l.0 × IsNode (node_value l.1) → AreValidLines (merge_lines (take (i + 1) ls))
lines_more {A} [] i l lt is h k = absurd (omega (arith, lt))
lines_more {A} (y ∷ ys) zero l lt is h k = (subst (λ (r : List Name × Node A × Within A). AllByRecursion IsName r.0 × IsNode (node_value r.1)) is k, tt)
lines_more {A} (y ∷ ys) (suc i) l lt is h k = subst (λ j. AreValidLines (merge_lines (take j (y ∷ ys)))) more (h.0, lines_more ys i l (omega (arith, lt)) is h.1 k)
  where
    more : suc (i + 1) ≡ suc i + 1
    more = omega arith

pub lines_all : {A : Type 0} (ls : List (List Name × Node A × Within A)) (i : ℕ) → length ls ≤ i → AreValidLines (merge_lines (take i ls)) → AreValidLines (merge_lines ls)
lines_all ls i le h = subst (λ k. AreValidLines (merge_lines k)) (take_all i ls le) h
