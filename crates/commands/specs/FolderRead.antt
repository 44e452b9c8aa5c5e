-- A folder that stands for a claim, as it was read.
use Rattle.std.specs.Prelude.{◌≡◌, ℕ, ◌≤◌, List, Option, None, Some, codes}
use Rattle.blob_digest.specs.Digest.{DigestValue}
use Rattle.blob_digest.specs.Text.{digest_text}
use Rattle.clap.specs.Words.{Row, first_of}
use Rattle.tree.specs.Folded.{items_of}
use Rattle.tree.specs.Form.{form, root}
use Rattle.tree.specs.Tree.{Leaf, Tree}
use Rattle.commands.specs.Digested.{reads_bits}
use Rattle.commands.specs.Read.{IsTreeReadAt, blobs_of, depth, directories_in}
use Rattle.commands.specs.World.{Sight}
use Rattle.commands.specs.declared.artifact.FolderRead.{FolderRead}

-- the digest of its tree, and the Directories of that
pub record ReadValue : Type 0 where
  pub digest : DigestValue
  pub directories : List (List ℕ)

abbrev pub value_of_read : FolderRead → ReadValue
value_of_read read =
    record { digest = read.digest; directories = items_of read.directories.items }

-- A folder was so read: the digest and the Directories are those of the tree there, with executable
-- bits or without; paths in it have at most 64 names.
pub record IsFolderRead (sees : Sight) (options : List Row) (folder : List ℕ) (value : ReadValue)
    : Type 0 where
  pub tree : Tree Leaf
  pub read : IsTreeReadAt sees (reads_bits options) folder tree
  pub within : depth tree ≤ 64
  pub digest : value.digest ≡ root (form tree)
  pub directories : value.directories ≡ directories_in (blobs_of tree)

-- the folder at a place was read, and this text is that of its digest
pub record IsReadFor (sees : Sight) (options : List Row) (place text : List ℕ) (value : ReadValue)
    : Type 0 where
  pub read : IsFolderRead sees options place value
  pub claim : text ≡ digest_text value.digest

-- the folder that the options name was so read, where they name one
abbrev pub IsArtifact : Option (List ℕ) → Sight → List Row → List ℕ → Option ReadValue → Type 0
IsArtifact None sees options claim read = read ≡ None
IsArtifact (Some place) sees options claim None = ⊥
IsArtifact (Some place) sees options claim (Some read) = IsReadFor sees options place claim read
