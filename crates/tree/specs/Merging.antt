-- Merging lines by digests: the tree that they put together, or the first fault. Where one node
-- alone is given it stands. Where several are, they are directories, which are read, and what is
-- below them is merged in turn, names in their order, each wholly before the next.
use Rattle.std.specs.Prelude.{◌≡◌, ◌≢◌, ℕ, zero, suc, Bool, false, ◌&&◌, bytes_eq, List, []}
use Rattle.std.specs.Prelude.{◌∷◌, ◌++◌, map, Option, Some, None, Contains, if◌then◌else◌}
use Rattle.std.specs.List.{AllByRecursion, list_any}
use Rattle.std.specs.FinMap.Entries.{by_order}
use Rattle.std.specs.Ordering.{eq_by_cmp}
use Rattle.blob_digest.specs.Digest.{DigestValue, digest_of}
use Rattle.messages.specs.declared.node.Node.{Node}
use Rattle.messages.specs.declared.node.Node.TheVariants.{File, Link, Dir}
use Rattle.messages.specs.DirectoryRules.{DirectoryValue}
use Rattle.messages.specs.Directory.{directory_bytes}
use Rattle.messages.specs.Tree.{TreeValue, IsTree, digests_of, same_digest}
use Rattle.blob_source.specs.Source.{Blobs}
use Rattle.blob_source.specs.Told.{Fault, missing, wrong, malformed, TellsDirectory, FailsDirectory}
use Rattle.tree.specs.declared.error.TreeError.{TreeError}
use Rattle.tree.specs.declared.error.TreeError.TheVariants as errors
use Rattle.tree.specs.declared.merging.Within.{Within}
use Rattle.tree.specs.declared.merging.Within.TheVariants as withins
use Rattle.tree.specs.Tree.{Name, name_cmp, Tree, empty, Entry, single, whole}
use Rattle.tree.specs.Form.{NodeValue, node_value}
use Rattle.tree.specs.Graft.{with_entry}
use Rattle.tree.specs.Merge.{same_bit}
use Rattle.tree.specs.Stage.{Stage, ◌and_then◌, demands, comes_to}

-- ---- what is merged

-- where the Directories below a node are read: in what a source tells, or in an output's Tree
pub data WithinValue : Type 0 where
  in_source : WithinValue
  in_tree : TreeValue → WithinValue

-- what a line gives: a node, and where what is below that is read
pub record NodeWithin : Type 0 where
  pub node : NodeValue
  pub within : WithinValue

-- lines, seen from a directory: the names of each target below it
abbrev pub MergeLines : Type 0
MergeLines = List (List Name × NodeWithin)

-- the node at each target
abbrev pub nodes_in : MergeLines → List (List Name × NodeValue)
nodes_in ls = map (λ l. (l.0, l.1.node)) ls

-- why lines don't merge: what they give at a path, or a Directory that can't be read
pub data MergeFault : Type 0 where
  conflict : List Name → MergeFault
  unreadable : Fault → MergeFault

-- ---- lines by their first names

abbrev pub add_name : Name → List Name → List Name
add_name n [] = n ∷ []
add_name n (m ∷ ms) = by_order (name_cmp n m) (n ∷ m ∷ ms) (m ∷ ms) (m ∷ add_name n ms)

abbrev pub add_first : List Name → List Name → List Name
add_first [] ns = ns
add_first (n ∷ p) ns = add_name n ns

abbrev pub names_with : {X : Type 0} → List Name → List (List Name × X) → List Name
names_with ns [] = ns
names_with ns (l ∷ ls) = names_with (add_first l.0 ns) ls

-- the first names of the targets, each once, in their order
abbrev pub first_names : {X : Type 0} → List (List Name × X) → List Name
first_names ls = names_with [] ls

abbrev pub under_name : {X : Type 0} → Name → List Name → X → List (List Name × X)
    → List (List Name × X)
under_name n [] x rest = rest
under_name n (m ∷ p) x rest = if eq_by_cmp name_cmp n m then (p, x) ∷ rest else rest

-- the lines whose targets begin with a name, seen from the path of that name
abbrev pub lines_at : {X : Type 0} → Name → List (List Name × X) → List (List Name × X)
lines_at n [] = []
lines_at n (l ∷ ls) = under_name n l.0 l.1 (lines_at n ls)

-- the lines below a directory, name by name
abbrev pub grouped : {X : Type 0} → List (List Name × X) → List (Name × List (List Name × X))
grouped ls = map (λ n. (n, lines_at n ls)) (first_names ls)

-- ---- what is given at one path

abbrev pub same_node : NodeValue → NodeValue → Bool
same_node (File d b) (File e c) = same_digest d e && same_bit b c
same_node (Link s) (Link t) = bytes_eq s t
same_node (Dir d) (Dir e) = same_digest d e
same_node x y = false

-- a line's target is the path itself, and its node this one
abbrev pub gives_node : NodeValue → List Name → NodeWithin → Bool
gives_node x [] g = same_node x g.node
gives_node x (n ∷ p) g = false

-- an earlier line gives the same node at the path itself
abbrev pub is_repeated : MergeLines → List Name → NodeWithin → Bool
is_repeated earlier [] g = list_any (λ l. gives_node g.node l.0 l.1) earlier
is_repeated earlier (n ∷ p) g = false

-- equal nodes at the path count once, for the first line that gives them
abbrev pub counted : MergeLines → MergeLines → MergeLines
counted earlier [] = []
counted earlier (l ∷ ls) =
    if is_repeated earlier l.0 l.1 then counted earlier ls
    else l ∷ counted (earlier ++ l ∷ []) ls

-- ---- Directories that are read

-- the first of some directories whose encoding has the digest
pub record IsFirstIn (ms : List DirectoryValue) (d : DigestValue) (m : DirectoryValue)
    : Type 0 where
  pub before : List DirectoryValue
  pub behind : List DirectoryValue
  pub stands : ms ≡ before ++ m ∷ behind
  pub right : digest_of (directory_bytes m) ≡ d
  pub first : AllByRecursion (λ other. digest_of (directory_bytes other) ≢ d) before

-- A Directory as it is read by its digest: from a source, or in a Tree, where it is the root if
-- that has the digest, and else the first child that has it. In a Tree nothing is missing or wrong.
abbrev pub ReadsWithin : Blobs → WithinValue → DigestValue → DirectoryValue → Type 0
ReadsWithin B in_source d m = TellsDirectory B d m
ReadsWithin B (in_tree t) d m = IsFirstIn (t.root ∷ t.children) d m

abbrev pub FailsWithin : Blobs → WithinValue → DigestValue → Fault → Type 0
FailsWithin B in_source d f = FailsDirectory B d f
FailsWithin B (in_tree t) d f = ⊥

-- a directory within a valid Tree is its root or one of its children
abbrev pub IsHeldIn : WithinValue → NodeValue → Type 0
IsHeldIn (in_tree t) (Dir d) =
    IsTree t × Contains (digests_of (map directory_bytes (t.root ∷ t.children))) d
IsHeldIn within x = Unit {0}

abbrev pub AreHeld : MergeLines → Type 0
AreHeld ls = AllByRecursion (λ (l : List Name × NodeWithin). IsHeldIn l.1.within l.1.node) ls

abbrev pub directory_read : Blobs → WithinValue → DigestValue → Stage MergeFault DirectoryValue
directory_read B within d = record {
  passes = ReadsWithin B within d;
  fails = λ why. (f : Fault) × FailsWithin B within d f × (why ≡ unreadable f);
}

-- a line for each child, at its name
abbrev pub child_lines : WithinValue → DirectoryValue → MergeLines
child_lines within m =
    map (λ f. (f.name ∷ [], record { node = File f.digest f.executable; within = within })) m.files
    ++ (map (λ d. (d.name ∷ [], record { node = Dir d.digest; within = within })) m.directories
    ++ map (λ l. (l.name ∷ [], record { node = Link l.target; within = within })) m.symlinks)

abbrev pub node_opened : Blobs → NodeValue → WithinValue → Stage MergeFault MergeLines
node_opened B (Dir d) within =
    directory_read B within d and_then λ m. comes_to (child_lines within m)
node_opened B x within = comes_to []

-- a directory at the path itself is read, and its children take its place
abbrev pub line_opened : Blobs → List Name → NodeWithin → Stage MergeFault MergeLines
line_opened B [] g = node_opened B g.node g.within
line_opened B (n ∷ p) g = comes_to ((n ∷ p, g) ∷ [])

-- one line after another
abbrev pub opened : Blobs → MergeLines → Stage MergeFault MergeLines
opened B [] = comes_to []
opened B (l ∷ ls) =
    line_opened B l.0 l.1 and_then λ new.
    opened B ls and_then λ rest.
    comes_to (new ++ rest)

-- ---- what lines come to at a path

abbrev pub NamesDirectory : NodeValue → Type 0
NamesDirectory (Dir d) = Unit {0}
NamesDirectory x = ⊥

abbrev pub CanMeetAt : List Name → NodeWithin → Type 0
CanMeetAt [] g = NamesDirectory g.node
CanMeetAt (n ∷ p) g = Unit {0}

-- Below the path are names left for `deeper` more, and what is given at it are directories.
abbrev pub CanMeet : ℕ → MergeLines → Type 0
CanMeet zero ls = ⊥
CanMeet (suc deeper) ls = AllByRecursion (λ (l : List Name × NodeWithin). CanMeetAt l.0 l.1) ls

-- directories and lines below the path, which meet there
abbrev pub met : Blobs → (MergeLines → Stage MergeFault (Tree NodeValue)) → ℕ → List Name
    → MergeLines → Stage MergeFault (Entry NodeValue)
met B below deeper path ls =
    demands (CanMeet deeper ls) (conflict path) and_then λ _.
    opened B ls and_then λ new.
    below new and_then λ t.
    comes_to (whole t)

abbrev pub node_here : List Name → NodeWithin → Option NodeValue
node_here [] g = Some g.node
node_here (n ∷ p) g = None

-- the one node that is given, where no other is and no line goes on below it
abbrev pub lone : MergeLines → Option NodeValue
lone [] = None
lone (l ∷ []) = node_here l.0 l.1
lone (l ∷ k ∷ ls) = None

-- a lone node as it is, and else what others come to
abbrev pub stands_or : Option NodeValue → Stage MergeFault (Entry NodeValue)
    → Stage MergeFault (Entry NodeValue)
stands_or (Some x) others = comes_to (single x)
stands_or None others = others

-- ---- what lines come to in a directory

-- name by name, each with its lines
abbrev pub each_name : {X E L : Type 0} → (Name → X → Stage E (Entry L)) → List (Name × X)
    → Stage E (Tree L)
each_name at [] = comes_to empty
each_name at (g ∷ gs) =
    at g.0 g.1 and_then λ e.
    each_name at gs and_then λ rest.
    comes_to (with_entry g.0 e rest)

-- what the lines at a path come to, each node counted once
abbrev pub entry_merged : Blobs → (MergeLines → Stage MergeFault (Tree NodeValue)) → ℕ → List Name
    → MergeLines → Stage MergeFault (Entry NodeValue)
entry_merged B below deeper path ls = stands_or (lone ls) (met B below deeper path ls)

-- what lines come to in the directory at a path, below which paths may have `deeper` more names
abbrev pub merged_in : Blobs → ℕ → List Name → MergeLines → Stage MergeFault (Tree NodeValue)
merged_in B zero path ls = comes_to empty
merged_in B (suc deeper) path ls =
    each_name (λ n given. entry_merged B (merged_in B deeper (path ++ n ∷ [])) deeper
    (path ++ n ∷ []) (counted [] given)) (grouped ls)

-- the tree that lines put together, or the first fault
unfoldable pub merged : Blobs → MergeLines → Stage MergeFault (Tree NodeValue)
merged B ls = merged_in B 64 [] ls

-- ---- what the code keeps

abbrev pub within_value : {A : Type 0} → Within A → WithinValue
within_value withins.Source = in_source
within_value (withins.Tree t) = in_tree t.now

abbrev pub node_within : {A : Type 0} → Node A → Within A → NodeWithin
node_within x w = record { node = node_value x; within = within_value w }

abbrev pub merge_lines : {A : Type 0} → List (List Name × Node A × Within A) → MergeLines
merge_lines lines = map (λ l. (l.0, node_within l.1 l.2)) lines

-- Why lines weren't merged: their first fault, unless the source failed or memory ran out.
abbrev pub ExplainsMerge : {A : Type 0} → (MergeFault → Type 0) → TreeError A → Type 0
ExplainsMerge Fails (errors.Absent path) = ⊥
ExplainsMerge Fails (errors.BlobMissing d) = Fails (unreadable (missing d))
ExplainsMerge Fails (errors.BlobWrong d) = Fails (unreadable (wrong d))
ExplainsMerge Fails (errors.BlobMalformed d) = Fails (unreadable (malformed d))
ExplainsMerge Fails (errors.TooDeep path) = ⊥
ExplainsMerge Fails (errors.Conflict path) = Fails (conflict path)
ExplainsMerge Fails errors.Fetch = Unit {0}
ExplainsMerge Fails errors.Memory = Unit {0}
