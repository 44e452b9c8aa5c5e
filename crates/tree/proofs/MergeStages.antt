-- Merging lines: one answer, always one, and none taken back when a source tells more.
use Rattle.std.proofs.Common.{◌≡◌, ◌≢◌, ℕ, zero, suc, List, [], ◌∷◌, ◌++◌, ap, sym, ◌∙◌, cond, true, false}
use Rattle.std.specs.Prelude.{Option, Some, None}
use Rattle.std.specs.List.{AllByRecursion}
use Rattle.std.specs.Ordering.{eq_by_cmp}
use Rattle.blob_digest.specs.Digest.{DigestValue, digest_of}
use Rattle.messages.specs.declared.node.Node.TheVariants.{File, Link, Dir}
use Rattle.messages.specs.DirectoryRules.{DirectoryValue, IsDirectory}
use Rattle.messages.specs.Directory.{directory_bytes}
use Rattle.blob_source.specs.Source.{Blobs}
use Rattle.blob_source.specs.Told.{Fault}
use Rattle.tree.specs.Tree.{Name, name_cmp, Tree, empty, Entry, single, whole}
use Rattle.tree.specs.Form.{NodeValue}
use Rattle.tree.specs.Graft.{with_entry}
use Rattle.tree.specs.Stage.{Stage, ◌and_then◌, comes_to}
use Rattle.tree.specs.Merging.{WithinValue, in_source, in_tree, NodeWithin, MergeLines, MergeFault, conflict, unreadable, under_name, lines_at, grouped, is_repeated, counted, IsFirstIn, ReadsWithin, FailsWithin, directory_read, child_lines, node_opened, line_opened, opened, CanMeet, met, lone, stands_or, entry_merged, each_name, merged_in}
use Rattle.tree.proofs.Descent.{told_still}
use Rattle.tree.proofs.LookupOnce.{told_once, fault_once, told_or_fault}
use Rattle.tree.proofs.StageLaws.{IsOnce, once_then, once_demands, once_comes_to, IsStable, stable_then, stable_without}

-- ---- one Directory is read

first_in_two : (d : DigestValue) (a b : List DirectoryValue) (x y : DirectoryValue) (xs ys : List DirectoryValue)
    → AllByRecursion (λ o. digest_of (directory_bytes o) ≢ d) a → AllByRecursion (λ o. digest_of (directory_bytes o) ≢ d) b → digest_of (directory_bytes x) ≡ d → digest_of (directory_bytes y) ≡ d
    → a ++ x ∷ xs ≡ b ++ y ∷ ys → x ≡ y
first_in_two d [] [] x y xs ys h k p q e = cc
first_in_two d [] (c ∷ b) x y xs ys h k p q e = let same : x ≡ c = cc in absurd (k.0 (ap (λ m. digest_of (directory_bytes m)) (sym same) ∙ p))
first_in_two d (c ∷ a) [] x y xs ys h k p q e = let same : c ≡ y = cc in absurd (h.0 (ap (λ m. digest_of (directory_bytes m)) same ∙ q))
first_in_two d (c ∷ a) (f ∷ b) x y xs ys h k p q e = first_in_two d a b x y xs ys h.1 k.1 p q (let rest : a ++ x ∷ xs ≡ b ++ y ∷ ys = cc in rest)

pub first_once : (ms : List DirectoryValue) (d : DigestValue) (x y : DirectoryValue) → IsFirstIn ms d x → IsFirstIn ms d y → x ≡ y
first_once ms d x y h k = first_in_two d h.before k.before x y h.behind k.behind h.first k.first h.right k.right (sym h.stands ∙ k.stands)

-- ---- one answer

module _ (B : Blobs) where
  read_once : (within : WithinValue) (d : DigestValue) (m n : DirectoryValue) → ReadsWithin B within d m → ReadsWithin B within d n → m ≡ n
  read_once in_source d m n h k = told_once B d m n h k
  read_once (in_tree t) d m n h k = first_once (t.root ∷ t.children) d m n h k

  fails_once : (within : WithinValue) (d : DigestValue) (f g : Fault) → FailsWithin B within d f → FailsWithin B within d g → f ≡ g
  fails_once in_source d f g h k = fault_once IsDirectory directory_bytes B d f g h k
  fails_once (in_tree t) d f g h k = absurd h

  read_or_fails : (within : WithinValue) (d : DigestValue) (m : DirectoryValue) (f : Fault) → ReadsWithin B within d m → FailsWithin B within d f → ⊥
  read_or_fails in_source d m f h k = told_or_fault IsDirectory directory_bytes B d m f h k
  read_or_fails (in_tree t) d m f h k = k

  once_read : (within : WithinValue) (d : DigestValue) → IsOnce (directory_read B within d)
  once_read within d = record {
    value = read_once within d;
    why = λ c e h k. h.2 ∙ ap unreadable (fails_once within d h.0 k.0 h.1 k.1) ∙ sym k.2;
    either = λ m e h k. read_or_fails within d m k.0 h k.1;
  }

  once_node : (x : NodeValue) (within : WithinValue) → IsOnce (node_opened B x within)
  once_node (File d e) within = once_comes_to []
  once_node (Link t) within = once_comes_to []
  once_node (Dir d) within = once_then (directory_read B within d) (λ m. comes_to (child_lines within m)) (once_read within d) (λ m h. once_comes_to (child_lines within m))

  once_line : (p : List Name) (g : NodeWithin) → IsOnce (line_opened B p g)
  once_line [] g = once_node g.node g.within
  once_line (n ∷ p) g = once_comes_to ((n ∷ p, g) ∷ [])

  pub once_opened : (ls : MergeLines) → IsOnce (opened B ls)
  once_opened [] = once_comes_to []
  once_opened (l ∷ ls) =
      once_then (line_opened B l.0 l.1) (λ new. opened B ls and_then λ rest. comes_to (new ++ rest)) (once_line l.0 l.1) (λ new h.
      once_then (opened B ls) (λ rest. comes_to (new ++ rest)) (once_opened ls) (λ rest k.
      once_comes_to (new ++ rest)))

  once_met : (below : MergeLines → Stage MergeFault (Tree NodeValue)) (deeper : ℕ) (path : List Name) (ls : MergeLines) → ((new : MergeLines) → IsOnce (below new)) → IsOnce (met B below deeper path ls)
  once_met below deeper path ls h =
      once_then _ _ (once_demands (CanMeet deeper ls) (conflict path)) (λ _ _.
      once_then _ _ (once_opened ls) (λ new _.
      once_then _ _ (h new) (λ t _.
      once_comes_to (whole t))))

  once_stands : (o : Option NodeValue) (others : Stage MergeFault (Entry NodeValue)) → IsOnce others → IsOnce (stands_or o others)
  once_stands (Some x) others h = once_comes_to (single x)
  once_stands None others h = h

once_each : {X E L : Type 0} (at : Name → X → Stage E (Entry L)) (gs : List (Name × X)) → ((n : Name) (x : X) → IsOnce (at n x)) → IsOnce (each_name at gs)
once_each at [] h = once_comes_to empty
once_each at (g ∷ gs) h = once_then _ _ (h g.0 g.1) (λ e _. once_then _ _ (once_each at gs h) (λ rest _. once_comes_to (with_entry g.0 e rest)))

pub once_merged_in : (B : Blobs) (deeper : ℕ) (path : List Name) (ls : MergeLines) → IsOnce (merged_in B deeper path ls)
once_merged_in B zero path ls = once_comes_to empty
once_merged_in B (suc deeper) path ls =
    once_each (λ n given. entry_merged B (merged_in B deeper (path ++ n ∷ [])) deeper (path ++ n ∷ []) (counted [] given)) (grouped ls) (λ n given.
    once_stands B (lone (counted [] given)) (met B (merged_in B deeper (path ++ n ∷ [])) deeper (path ++ n ∷ []) (counted [] given))
    (once_met B (merged_in B deeper (path ++ n ∷ [])) deeper (path ++ n ∷ []) (counted [] given) (λ new. once_merged_in B deeper (path ++ n ∷ []) new)))

-- ---- what passes still passes

stable_read : (within : WithinValue) (d : DigestValue) → IsStable (λ B. directory_read B within d)
stable_read in_source d = record { still = λ old new g m h. told_still g h }
stable_read (in_tree t) d = record { still = λ old new g m h. h }

stable_node : (x : NodeValue) (within : WithinValue) → IsStable (λ B. node_opened B x within)
stable_node (File d e) within = stable_without
stable_node (Link t) within = stable_without
stable_node (Dir d) within = stable_then (stable_read within d) (λ m. stable_without)

pub stable_line : (p : List Name) (g : NodeWithin) → IsStable (λ B. line_opened B p g)
stable_line [] g = stable_node g.node g.within
stable_line (n ∷ p) g = stable_without

pub stable_opened : (ls : MergeLines) → IsStable (λ B. opened B ls)
stable_opened [] = stable_without
stable_opened (l ∷ ls) = stable_then (stable_line l.0 l.1) (λ new. stable_then (stable_opened ls) (λ rest. stable_without))

stable_stands : (o : Option NodeValue) (others : Blobs → Stage MergeFault (Entry NodeValue)) → IsStable others → IsStable (λ B. stands_or o (others B))
stable_stands (Some x) others h = stable_without
stable_stands None others h = h

stable_each : {X E L : Type 0} (at : Blobs → Name → X → Stage E (Entry L)) (gs : List (Name × X)) → ((n : Name) (x : X) → IsStable (λ B. at B n x)) → IsStable (λ B. each_name (at B) gs)
stable_each at [] h = stable_without
stable_each at (g ∷ gs) h = stable_then (h g.0 g.1) (λ e. stable_then (stable_each at gs h) (λ rest. stable_without))

pub stable_entry : (deeper : ℕ) (path : List Name) (ls : MergeLines) → ((new : MergeLines) → IsStable (λ B. merged_in B deeper path new)) → IsStable (λ B. entry_merged B (merged_in B deeper path) deeper path ls)
stable_entry deeper path ls h =
    stable_stands (lone ls) (λ B. met B (merged_in B deeper path) deeper path ls)
    (stable_then stable_without (λ _. stable_then (stable_opened ls) (λ new. stable_then (h new) (λ t. stable_without))))

pub stable_merged_in : (deeper : ℕ) (path : List Name) (ls : MergeLines) → IsStable (λ B. merged_in B deeper path ls)
stable_merged_in zero path ls = stable_without
stable_merged_in (suc deeper) path ls =
    stable_each (λ B n given. entry_merged B (merged_in B deeper (path ++ n ∷ [])) deeper (path ++ n ∷ []) (counted [] given)) (grouped ls) (λ n given.
    stable_entry deeper (path ++ n ∷ []) (counted [] given) (λ new. stable_merged_in deeper (path ++ n ∷ []) new))

-- ---- lines that are held stay so

-- what is true of each line's node and place
abbrev pub AllGiven : (NodeWithin → Type 0) → MergeLines → Type 0
AllGiven P ls = AllByRecursion (λ (l : List Name × NodeWithin). P l.1) ls

module _ (P : NodeWithin → Type 0) where
  under_kept : (n : Name) (p : List Name) (g : NodeWithin) (rest : MergeLines) → P g → AllGiven P rest → AllGiven P (under_name n p g rest)
  under_kept n [] g rest h k = k
  under_kept n (m ∷ p) g rest h k = elim (eq_by_cmp name_cmp n m) as (λ b. AllGiven P (cond b ((p, g) ∷ rest) rest)) [ true ↦ (h, k) | false ↦ k ]

  pub all_lines_at : (n : Name) (ls : MergeLines) → AllGiven P ls → AllGiven P (lines_at n ls)
  all_lines_at n [] h = tt
  all_lines_at n (l ∷ ls) h = under_kept n l.0 l.1 (lines_at n ls) h.0 (all_lines_at n ls h.1)

  pub all_counted : (earlier ls : MergeLines) → AllGiven P ls → AllGiven P (counted earlier ls)
  all_counted earlier [] h = tt
  all_counted earlier (l ∷ ls) h = elim (is_repeated earlier l.0 l.1) as (λ b. AllGiven P (cond b (counted earlier ls) (l ∷ counted (earlier ++ l ∷ []) ls))) [
    | true ↦ all_counted earlier ls h.1
    | false ↦ (h.0, all_counted (earlier ++ l ∷ []) ls h.1)
  ]

  pub all_appended : (xs ys : MergeLines) → AllGiven P xs → AllGiven P ys → AllGiven P (xs ++ ys)
  all_appended [] ys h k = k
  all_appended (x ∷ xs) ys h k = (h.0, all_appended xs ys h.1 k)
