-- What is read at a path and below it, as a tree, and its blobs in the order in which they are read.
use Rattle.std.specs.Prelude.{◌≡◌, ℕ, ◌+◌, ◌≤◌, ◌&&◌, Bool, false, true, max, List, [], ◌∷◌, ◌++◌}
use Rattle.blob_digest.specs.Digest.{DigestValue, digest_of}
use Rattle.tree.specs.Form.{form, root, top}
use Rattle.tree.specs.Tree.{Entry, IsOrdered, Leaf, Name, Tree, empty, file, folder, leaf, link}
use Rattle.tree.specs.Tree.{single, whole}
use Rattle.commands.specs.World.{Sight, a_file, a_folder, a_link}

-- the names at the top of a tree, in its order
abbrev pub names_of : {L : Type 0} → Tree L → List Name
names_of empty = []
names_of (leaf n x rest) = n ∷ names_of rest
names_of (folder n below rest) = n ∷ names_of rest

-- how many names the longest path in a tree has
abbrev pub depth : {L : Type 0} → Tree L → ℕ
depth empty = 0
depth (leaf n x rest) = max 1 (depth rest)
depth (folder n below rest) = max (depth below + 1) (depth rest)

-- ---- what is read

-- A file was read at the place, with this content and, where bits are read, its owner's executable
-- bit, which else counts as unset; or a link stands there.
abbrev pub IsLeafRead : Sight → Bool → List ℕ → Leaf → Type 0
IsLeafRead sees bits place (file content executable) = sees.reads place content
    × ((bit : Bool) × sees.stands place (a_file bit) × (executable ≡ bits && bit))
IsLeafRead sees bits place (link target) = sees.stands place (a_link target)

-- each entry of the tree was read below the place, and of each folder what names are in it
abbrev pub AreRead : Sight → Bool → List ℕ → Tree Leaf → Type 0
AreRead sees bits place empty = Unit {0}
AreRead sees bits place (leaf n x rest) =
    IsLeafRead sees bits (place ++ 47 ∷ n) x × AreRead sees bits place rest
AreRead sees bits place (folder n below rest) =
    (sees.stands (place ++ 47 ∷ n) a_folder × sees.lists (place ++ 47 ∷ n) (names_of below)
    × AreRead sees bits (place ++ 47 ∷ n) below) × AreRead sees bits place rest

-- the folder at the place was read, and this tree is what is in it and below it
pub record IsTreeReadAt (sees : Sight) (bits : Bool) (place : List ℕ) (t : Tree Leaf)
    : Type 0 where
  pub listed : sees.lists place (names_of t)
  pub read : AreRead sees bits place t
  pub ordered : IsOrdered t

-- what was read at a place, where a link isn't followed
abbrev pub IsEntryRead : Sight → Bool → List ℕ → Entry Leaf → Type 0
IsEntryRead sees bits place (single x) = IsLeafRead sees bits place x
IsEntryRead sees bits place (whole t) =
    sees.stands place a_folder × IsTreeReadAt sees bits place t

-- ---- its blobs, in the order in which they are read

-- a blob of what is read: a file's content, or a folder's Directory
pub data ReadBlob : Type 0 where
  file_blob : List ℕ → ReadBlob
  folder_blob : List ℕ → ReadBlob

abbrev pub bytes_in : ReadBlob → List ℕ
bytes_in (file_blob bytes) = bytes
bytes_in (folder_blob bytes) = bytes

abbrev pub leaf_blobs : Leaf → List ReadBlob
leaf_blobs (file content executable) = file_blob content ∷ []
leaf_blobs (link target) = []

-- each entry's blobs come after those of the entries before it, and a folder's Directory after what
-- is below it
abbrev pub blobs_below : Tree Leaf → List ReadBlob
blobs_below empty = []
blobs_below (leaf n x rest) = leaf_blobs x ++ blobs_below rest
blobs_below (folder n below rest) =
    (blobs_below below ++ folder_blob (top (form below)) ∷ []) ++ blobs_below rest

abbrev pub blobs_of : Tree Leaf → List ReadBlob
blobs_of t = blobs_below t ++ folder_blob (top (form t)) ∷ []

-- The digest is that of the file or the tree that was read at the path, where links are followed, and
-- these are its blobs; paths below it have at most 64 names.
pub data IsDigestAt (sees : Sight) (bits : Bool) (path : List ℕ)
    : DigestValue → List ReadBlob → Type 0 where
  of_file : (content : List ℕ) → sees.leads path false → sees.reads path content
      → IsDigestAt sees bits path (digest_of content) (file_blob content ∷ [])
  of_tree : (t : Tree Leaf) → sees.leads path true → IsTreeReadAt sees bits path t → depth t ≤ 64
      → IsDigestAt sees bits path (root (form t)) (blobs_of t)

-- ---- what takes them

-- each of the blobs was taken, one after another, between these states of what takes them
module _ {S : Type 0} (takes : S → S → ReadBlob → Type 0) where
  abbrev pub TakesAll : S → S → List ReadBlob → Type 0
  TakesAll old new [] = new ≡ old
  TakesAll old new (blob ∷ blobs) = (mid : S) × takes old mid blob × TakesAll mid new blobs

-- ---- the Directories among them

abbrev pub directory_in : ReadBlob → List (List ℕ)
directory_in (file_blob bytes) = []
directory_in (folder_blob bytes) = bytes ∷ []

abbrev pub directories_in : List ReadBlob → List (List ℕ)
directories_in [] = []
directories_in (blob ∷ blobs) = directory_in blob ++ directories_in blobs
