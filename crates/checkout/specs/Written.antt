-- What is written of the tree that a source tells.
use Rattle.std.specs.Prelude.{◌≡◌, ◌⊎◌, ℕ, ◌+◌, ◌≤◌, List, [], ◌∷◌, ◌++◌, map, sum_by, Contains}
use Rattle.std.specs.Prelude.{if◌then◌else◌}
use Rattle.std.specs.Ordering.{eq_by_cmp}
use Rattle.blob_digest.specs.Digest.{DigestValue, digest_cmp, empty_digest}
use Rattle.messages.specs.Path.{path_text}
use Rattle.messages.specs.declared.node.Node.TheVariants.{File, Link}
use Rattle.blob_source.specs.Source.{Blobs, IsBlobUnder, Telling}
use Rattle.tree.specs.LooksAt.{UnfoldLooksAt}
use Rattle.tree.specs.Memo.{Asked, AsksNoOther, LooksAtBlob}
use Rattle.tree.specs.Tree.{Name, Standing, a_leaf, a_directory}
use Rattle.tree.specs.Form.{NodeValue}
use Rattle.tree.specs.FlatTree.{FlatValue}
use Rattle.tree.specs.Unfolded.{AsksDirectories, IsUnfolded, directories_in}
use Rattle.checkout.specs.Folder.{FolderValue, Gains, Has, Tried, Written}
use Rattle.checkout.specs.Folder.Written.{a_folder, a_file, a_link}

-- the text of a path below a folder
abbrev pub place_below : List ℕ → List ℕ → List ℕ
place_below folder path = folder ++ 47 ∷ path

-- the texts of the paths of entries below a folder
abbrev pub places_of : List ℕ → FlatValue → List (List ℕ)
places_of folder entries = map (λ e. place_below folder (path_text e.0)) entries

-- What is written for an entry: for a directory a folder, for a file the content that is told under
-- its digest and whether it is a program, for a link a link with its target.
abbrev pub IsWrittenFor : Blobs → Standing NodeValue → Written → Type 0
IsWrittenFor B a_directory a_folder = Unit {0}
IsWrittenFor B (a_leaf (File d x)) (a_file b y) = IsBlobUnder B d b × (y ≡ x)
IsWrittenFor B (a_leaf (Link t)) (a_link u) = u ≡ t
IsWrittenFor B s w = ⊥

-- each entry is written at its path below a folder, in order, and nothing else is
abbrev pub AreWritten : Blobs → List ℕ → FlatValue → List (List ℕ × Written) → Type 0
AreWritten B folder [] ws = ws ≡ []
AreWritten B folder (e ∷ es) [] = ⊥
AreWritten B folder (e ∷ es) (w ∷ ws) = (w.0 ≡ place_below folder (path_text e.0))
    × IsWrittenFor B e.1 w.1 × AreWritten B folder es ws

-- The folder has the entries of the tree that is told under a digest, and nothing else.
pub record HoldsTree (has : FolderValue → Type 0) (B : Blobs) (d : DigestValue)
    (folder : List ℕ) : Type 0 where
  pub entries : FlatValue
  pub unfolded : IsUnfolded B d entries
  pub written : List (List ℕ × Written)
  pub of_entries : AreWritten B folder entries written
  pub holds : has (record { path = folder; written = written })

-- The writer was called for the folder, and then for each entry of the tree that is told under a
-- digest, in order.
pub record TriesTree (tries : Tried) (B : Blobs) (d : DigestValue) (folder : List ℕ)
    : Type 0 where
  pub entries : FlatValue
  pub unfolded : IsUnfolded B d entries
  pub calls : tries (folder ∷ places_of folder entries)

-- a tree is told under the digest
abbrev pub IsToldTree : Blobs → DigestValue → Type 0
IsToldTree B d = (entries : FlatValue) × IsUnfolded B d entries

-- what is looked at for an entry: a file's content
abbrev pub EntryLooksAt : Standing NodeValue → Asked → Type 0
EntryLooksAt (a_leaf (File d x)) a = LooksAtBlob d a
EntryLooksAt s a = ⊥

abbrev pub EntriesLookAt : FlatValue → Asked → Type 0
EntriesLookAt entries a =
    (e : List Name × Standing NodeValue) × Contains entries e × EntryLooksAt e.1 a

-- what is looked at for a tree: its Directories, and the contents of its files where it is told
abbrev pub CheckoutLooksAt : Blobs → DigestValue → Asked → Type 0
CheckoutLooksAt B d a = UnfoldLooksAt B d a
    ⊎ ((entries : FlatValue) × IsUnfolded B d entries × EntriesLookAt entries a)

-- ---- how often the source is asked

-- how many contents are asked for at a path: a file's, unless it is the empty one, which is always
-- there
abbrev pub contents_at : Standing NodeValue → ℕ
contents_at (a_leaf (File d x)) = if eq_by_cmp digest_cmp d empty_digest then 0 else 1
contents_at s = 0

abbrev pub contents_in : FlatValue → ℕ
contents_in entries = sum_by (λ e. contents_at e.1) entries

-- At most one call for each directory of the tree, its root too, as far as they are told; and where
-- all are, one for each file's content besides.
pub data AsksEachOnce (d : DigestValue) (old new : Telling) : Type 0 where
  in_tree : AsksDirectories new.blobs d old new → AsksEachOnce d old new
  in_entries : (entries : FlatValue) → IsUnfolded new.blobs d entries
      → new.calls ≤ old.calls + 1 + directories_in entries + contents_in entries
      → AsksEachOnce d old new

-- The contents of these entries were asked for, each at most once, and nothing else was.
pub record AsksContents (old new : Telling) (entries : FlatValue) : Type 0 where
  pub few : new.calls ≤ old.calls + contents_in entries
  pub only : AsksNoOther (EntriesLookAt entries) old new

-- how far a check-out came: to Directories of its tree; or it had the tree, and came to these of
-- the entries
pub data Reach : Type 0 where
  of_tree : Reach
  of_entries : (tree entries : FlatValue) → Reach

-- What was asked for until then, each at most once, and nothing else was: Directories of the tree;
-- and the contents of those entries.
abbrev pub AsksUpTo : DigestValue → Telling → Telling → Reach → Type 0
AsksUpTo d old new of_tree = AsksDirectories new.blobs d old new
    × AsksNoOther (UnfoldLooksAt new.blobs d) old new
AsksUpTo d old new (of_entries tree entries) =
    (new.calls ≤ old.calls + 1 + directories_in tree + contents_in entries)
    × AsksNoOther (λ a. UnfoldLooksAt new.blobs d a ⊎ EntriesLookAt entries a) old new

-- nothing is said of what was asked for
abbrev pub asked_somehow : Reach → Type 0
asked_somehow reach = Unit {0}

-- ---- entry by entry

-- one entry was written
pub record MakesEntry {F : Type 0} (has : Has F) (B : Blobs) (old new : F)
    (place : List ℕ) (s : Standing NodeValue) : Type 0 where
  pub written : Written
  pub of_entry : IsWrittenFor B s written
  pub gains : Gains has old new ((place, written) ∷ [])

-- some folder has what the old one has, and this besides
abbrev pub IsGained : {F : Type 0} → Has F → F → List (List ℕ × Written) → Type 0
IsGained {F} has old written = (new : F) × Gains has old new written

-- entries were, below a folder
pub record MakesEntries {F : Type 0} (has : Has F) (B : Blobs) (old new : F)
    (folder : List ℕ) (entries : FlatValue) : Type 0 where
  pub written : List (List ℕ × Written)
  pub of_entries : AreWritten B folder entries written
  pub gains : Gains has old new written
