-- What was read by a walk and taken by what takes its blobs: words of private functions.
use Rattle.std.specs.Prelude.{◌≡◌, ℕ, ◌≤◌, Bool, List}
use Rattle.blob_digest.specs.Digest.{DigestValue, digest_of}
use Rattle.tree.specs.Form.{NodeValue, entry_node, form, root}
use Rattle.tree.specs.Tree.{Entry, Leaf, Tree, single, whole}
use Rattle.commands.specs.Read.{IsDigestAt, IsEntryRead, IsTreeReadAt, TakesAll, blobs_of, depth}
use Rattle.commands.specs.Read.{ReadBlob, file_blob, leaf_blobs}
use Rattle.commands.specs.World.{Sight}

-- the blobs of what stands at one place, and how many names deep it is
abbrev pub entry_blobs : Entry Leaf → List ReadBlob
entry_blobs (single x) = leaf_blobs x
entry_blobs (whole t) = blobs_of t

abbrev pub entry_depth : Entry Leaf → ℕ
entry_depth (single x) = 0
entry_depth (whole t) = depth t

module _ {S : Type 0} (takes : S → S → ReadBlob → Type 0) (sees : Sight) where
  -- the file at the place was read and taken, and has this digest
  pub record TakesFile (place : List ℕ) (old new : S) (digest : DigestValue) : Type 0 where
    pub content : List ℕ
    pub read : sees.reads place content
    pub named : digest ≡ digest_of content
    pub taken : takes old new (file_blob content)

  module _ (bits : Bool) where
    -- the tree at the place was read, its blobs were taken, and it has this digest
    pub record TakesTree (left : ℕ) (place : List ℕ) (digest : DigestValue) (old new : S)
        : Type 0 where
      pub tree : Tree Leaf
      pub read : IsTreeReadAt sees bits place tree
      pub within : depth tree ≤ left
      pub named : digest ≡ root (form tree)
      pub taken : TakesAll takes old new (blobs_of tree)

    -- what stands at the place was read, its blobs were taken, and this is its node
    pub record TakesEntry (left : ℕ) (place : List ℕ) (node : NodeValue) (old new : S)
        : Type 0 where
      pub entry : Entry Leaf
      pub read : IsEntryRead sees bits place entry
      pub within : entry_depth entry ≤ left
      pub named : node ≡ entry_node entry
      pub taken : TakesAll takes old new (entry_blobs entry)

    -- the file or the tree at the path was read, its blobs were taken, and it has this digest
    pub record TakesPath (path : List ℕ) (digest : DigestValue) (old new : S) : Type 0 where
      pub blobs : List ReadBlob
      pub read : IsDigestAt sees bits path digest blobs
      pub taken : TakesAll takes old new blobs
