-- Directories within Trees are held there, and so are those below them; so merging always comes to an answer.
use Rattle.std.proofs.Common.{◌≢◌, ℕ, zero, suc, List, [], ◌∷◌, ◌++◌, map, refl, ap, sym, subst, arith}
use Rattle.std.specs.Prelude.{Option, Some, None, Contains}
use Rattle.std.specs.List.{AllByRecursion}
use Rattle.std.proofs.lemmas.List.Elements.{Contains-append_left, Contains-append_right}
use Rattle.blob_digest.specs.Digest.{DigestValue, digest_of}
use Rattle.messages.specs.declared.node.Node.TheVariants.{File, Link, Dir}
use Rattle.messages.specs.FileNode.{FileNodeValue}
use Rattle.messages.specs.DirectoryNode.{DirectoryNodeValue}
use Rattle.messages.specs.SymlinkNode.{SymlinkNodeValue}
use Rattle.messages.specs.DirectoryRules.{DirectoryValue, IsDirectory}
use Rattle.messages.specs.Directory.{directory_bytes}
use Rattle.messages.specs.Tree.{TreeValue, IsTree, node_digests, named_by, named_in, digests_of, child_digests}
use Rattle.blob_source.specs.Source.{Blobs}
use Rattle.tree.specs.Tree.{Name, Tree, Entry, single, whole}
use Rattle.tree.specs.Form.{NodeValue}
use Rattle.tree.specs.Stage.{Stage, ◌and_then◌}
use Rattle.tree.specs.Merging.{WithinValue, in_source, in_tree, NodeWithin, MergeLines, MergeFault, conflict, unreadable, lines_at, first_names, counted, IsFirstIn, IsHeldIn, AreHeld, directory_read, child_lines, node_opened, line_opened, opened, CanMeet, met, lone, stands_or, entry_merged, each_name, merged_in}
use Rattle.tree.proofs.StageLaws.{IsTotal, total_then, total_demands, total_comes_to}
use Rattle.tree.proofs.Totals.{told_or_faulty}
use Rattle.tree.proofs.MergeStages.{all_lines_at, all_counted, all_appended}

-- ---- lists

pub all_at : {X : Type 0} (P : X → Type 0) (xs : List X) (x : X) → AllByRecursion P xs → Contains xs x → P x
all_at P [] x all (k, lt, e) = absurd (omega arith)
all_at P (y ∷ xs) x all (zero, lt, e) = subst P e all.0
all_at P (y ∷ xs) x all (suc k, lt, e) = all_at P xs x all.1 (k, omega (arith, lt), e)

pub behind : {X : Type 0} (y : X) (xs : List X) (x : X) → Contains xs x → Contains (y ∷ xs) x
behind y xs x (k, lt, e) = (suc k, omega (arith, lt), e)

-- ---- the first directory with a digest

module _ (d : DigestValue) where
  pub next_first : (x : DirectoryValue) (ms : List DirectoryValue) (m : DirectoryValue) → digest_of (directory_bytes x) ≢ d → IsFirstIn ms d m → IsFirstIn (x ∷ ms) d m
  next_first x ms m other f = record { before = x ∷ f.before; behind = f.behind; stands = ap (λ l. x ∷ l) f.stands; right = f.right; first = (other, f.first) }

  -- where there is one with the digest, there is a first
  pub first_there : (ms : List DirectoryValue) → Contains (digests_of (map directory_bytes ms)) d → ((m : DirectoryValue) → IsFirstIn ms d m → ⊥) → ⊥
  first_there [] (k, lt, e) none = absurd (omega arith)
  first_there (x ∷ ms) (zero, lt, e) none = none x (record { before = []; behind = ms; stands = refl; right = e; first = tt })
  first_there (x ∷ ms) (suc k, lt, e) none =
      let other : digest_of (directory_bytes x) ≢ d = λ is. none x (record { before = []; behind = ms; stands = refl; right = is; first = tt }) in
      first_there ms (k, omega (arith, lt), e) (λ m f. none m (next_first x ms m other f))

pub first_among : (ms : List DirectoryValue) (d : DigestValue) (m : DirectoryValue) → IsFirstIn ms d m → Contains ms m
first_among ms d m h = subst (λ l. Contains l m) (sym h.stands) (Contains-append_right h.before (m ∷ h.behind) m (0, omega arith, refl))

-- ---- what a directory of a Tree names is a child

named : (ds : List DirectoryValue) (m : DirectoryValue) (d : DigestValue) → Contains ds m → Contains (node_digests m.directories) d → Contains (named_by ds) d
named [] m d (k, lt, e) h = absurd (omega arith)
named (x ∷ ds) m d (zero, lt, e) h = Contains-append_left (node_digests x.directories) (named_by ds) d (subst (λ y. Contains (node_digests y.directories) d) (sym e) h)
named (x ∷ ds) m d (suc k, lt, e) h = Contains-append_right (node_digests x.directories) (named_by ds) d (named ds m d (k, omega (arith, lt), e) h)

module _ (t : TreeValue) (valid : IsTree t) where
  files_held : (fs : List FileNodeValue) → AreHeld (map (λ (f : FileNodeValue). (f.name ∷ [], record { node = File f.digest f.executable; within = in_tree t })) fs)
  files_held [] = tt
  files_held (f ∷ fs) = (tt, files_held fs)

  links_held : (ls : List SymlinkNodeValue) → AreHeld (map (λ (l : SymlinkNodeValue). (l.name ∷ [], record { node = Link l.target; within = in_tree t })) ls)
  links_held [] = tt
  links_held (l ∷ ls) = (tt, links_held ls)

  directories_held : (ds : List DirectoryNodeValue) → ((d : DigestValue) → Contains (node_digests ds) d → Contains (digests_of (map directory_bytes (t.root ∷ t.children))) d)
      → AreHeld (map (λ (n : DirectoryNodeValue). (n.name ∷ [], record { node = Dir n.digest; within = in_tree t })) ds)
  directories_held [] h = tt
  directories_held (n ∷ ds) h = ((valid, h n.digest (0, omega arith, refl)), directories_held ds (λ d c. h d (behind n.digest (node_digests ds) d c)))

  children_held : (m : DirectoryValue) → Contains (t.root ∷ t.children) m → AreHeld (child_lines (in_tree t) m)
  children_held m here =
      all_appended (λ g. IsHeldIn g.within g.node) _ _ (files_held m.files)
      (all_appended (λ g. IsHeldIn g.within g.node) _ _
      (directories_held m.directories (λ d c. behind (digest_of (directory_bytes t.root)) (child_digests t) d (all_at (Contains (child_digests t)) (named_in t) d valid.held (named (t.root ∷ t.children) m d here c))))
      (links_held m.symlinks))

source_held : (fs : List FileNodeValue) (ds : List DirectoryNodeValue) (ls : List SymlinkNodeValue)
    → AreHeld (map (λ (f : FileNodeValue). (f.name ∷ [], record { node = File f.digest f.executable; within = in_source })) fs
    ++ (map (λ (n : DirectoryNodeValue). (n.name ∷ [], record { node = Dir n.digest; within = in_source })) ds
    ++ map (λ (l : SymlinkNodeValue). (l.name ∷ [], record { node = Link l.target; within = in_source })) ls))
source_held (f ∷ fs) ds ls = (tt, source_held fs ds ls)
source_held [] (d ∷ ds) ls = (tt, source_held [] ds ls)
source_held [] [] (l ∷ ls) = (tt, source_held [] [] ls)
source_held [] [] [] = tt

-- what is opened is held
module _ (B : Blobs) where
  pub node_held : (x : NodeValue) (within : WithinValue) (new : MergeLines) → IsHeldIn within x → (node_opened B x within).passes new → AreHeld new
  unfolding ◌and_then◌
  node_held (File d e) within new held is = subst AreHeld (sym is) tt
  node_held (Link t) within new held is = subst AreHeld (sym is) tt
  node_held (Dir d) in_source new held (m, read, is) = subst AreHeld (sym is) (source_held m.files m.directories m.symlinks)
  node_held (Dir d) (in_tree t) new held (m, read, is) = subst AreHeld (sym is) (children_held t held.0 m (first_among (t.root ∷ t.children) d m read))

  line_held : (p : List Name) (g : NodeWithin) (new : MergeLines) → IsHeldIn g.within g.node → (line_opened B p g).passes new → AreHeld new
  line_held [] g new held is = node_held g.node g.within new held is
  line_held (n ∷ p) g new held is = subst AreHeld (sym is) (held, tt)

  pub opened_held : (ls new : MergeLines) → AreHeld ls → (opened B ls).passes new → AreHeld new
  unfolding ◌and_then◌
  opened_held [] new held is = subst AreHeld (sym is) tt
  opened_held (l ∷ ls) new held (here, h, (rest, k, is)) =
      subst AreHeld (sym is) (all_appended (λ g. IsHeldIn g.within g.node) here rest (line_held l.0 l.1 here held.0 h) (opened_held ls rest held.1 k))

  -- ---- always an answer

  total_read : (within : WithinValue) (d : DigestValue) → IsHeldIn within (Dir d) → IsTotal (directory_read B within d)
  total_read in_source d held = record { ends = λ passes fails. told_or_faulty IsDirectory directory_bytes B d passes (λ f h. fails (unreadable f) (f, h, refl)) }
  total_read (in_tree t) d held = record { ends = λ passes fails. first_there d (t.root ∷ t.children) held.1 passes }

  total_node : (x : NodeValue) (within : WithinValue) → IsHeldIn within x → IsTotal (node_opened B x within)
  total_node (File d e) within held = total_comes_to []
  total_node (Link t) within held = total_comes_to []
  total_node (Dir d) within held = total_then _ _ (total_read within d held) (λ m h. total_comes_to (child_lines within m))

  total_line : (p : List Name) (g : NodeWithin) → IsHeldIn g.within g.node → IsTotal (line_opened B p g)
  total_line [] g held = total_node g.node g.within held
  total_line (n ∷ p) g held = total_comes_to ((n ∷ p, g) ∷ [])

  total_opened : (ls : MergeLines) → AreHeld ls → IsTotal (opened B ls)
  total_opened [] held = total_comes_to []
  total_opened (l ∷ ls) held = total_then _ _ (total_line l.0 l.1 held.0) (λ new h. total_then _ _ (total_opened ls held.1) (λ rest k. total_comes_to (new ++ rest)))

  total_met : (below : MergeLines → Stage MergeFault (Tree NodeValue)) (deeper : ℕ) (path : List Name) (ls : MergeLines) → AreHeld ls → ((new : MergeLines) → AreHeld new → IsTotal (below new)) → IsTotal (met B below deeper path ls)
  total_met below deeper path ls held h =
      total_then _ _ (total_demands (CanMeet deeper ls) (conflict path)) (λ _ _.
      total_then _ _ (total_opened ls held) (λ new k.
      total_then _ _ (h new (opened_held ls new held k)) (λ t _.
      total_comes_to (whole t))))

  total_stands : (o : Option NodeValue) (others : Stage MergeFault (Entry NodeValue)) → IsTotal others → IsTotal (stands_or o others)
  total_stands (Some x) others h = total_comes_to (single x)
  total_stands None others h = h

  module _ {E L : Type 0} (at : Name → MergeLines → Stage E (Entry L)) (ls : MergeLines) (h : (n : Name) → IsTotal (at n (lines_at n ls))) where
    total_each : (ns : List Name) → IsTotal (each_name at (map (λ n. (n, lines_at n ls)) ns))
    total_each [] = total_comes_to _
    total_each (n ∷ ns) = total_then _ _ (h n) (λ e _. total_then _ _ (total_each ns) (λ rest _. total_comes_to _))

  pub total_merged_in : (deeper : ℕ) (path : List Name) (ls : MergeLines) → AreHeld ls → IsTotal (merged_in B deeper path ls)
  total_merged_in zero path ls held = total_comes_to _
  total_merged_in (suc deeper) path ls held =
      total_each (λ n given. entry_merged B (merged_in B deeper (path ++ n ∷ [])) deeper (path ++ n ∷ []) (counted [] given)) ls (λ n.
      let given = counted [] (lines_at n ls) in
      let kept : AreHeld given = all_counted (λ g. IsHeldIn g.within g.node) [] (lines_at n ls) (all_lines_at (λ g. IsHeldIn g.within g.node) n ls held) in
      total_stands (lone given) (met B (merged_in B deeper (path ++ n ∷ [])) deeper (path ++ n ∷ []) given)
      (total_met (merged_in B deeper (path ++ n ∷ [])) deeper (path ++ n ∷ []) given kept (λ new k. total_merged_in deeper (path ++ n ∷ []) new k)))
      (first_names ls)
