-- Trees by digests: the form of a tree, its Directories as messages, and the digest of its root.
use Rattle.std.specs.Prelude.{◌≡◌, ◌⊎◌, ℕ, List, [], ◌∷◌}
use Rattle.blob_digest.specs.Digest.{DigestValue, digest_of}
use Rattle.messages.specs.declared.node.Node.{Node}
use Rattle.messages.specs.declared.node.Node.TheVariants.{File, Link, Dir}
use Rattle.messages.specs.DirectoryRules.{DirectoryValue}
use Rattle.messages.specs.Directory.{directory_bytes}
use Rattle.tree.specs.Tree.{Name, Tree, empty, leaf, folder, Entry, single, whole, Leaf, file, link}

-- a node, whatever allocator holds it
abbrev pub NodeValue : Type 0
NodeValue = Node (Unit {0})

abbrev pub node_value : {A : Type 0} → Node A → NodeValue
node_value (File d executable) = File d executable
node_value (Link target) = Link target
node_value (Dir d) = Dir d

-- ---- the form of a tree: the digest of each content in place of the content

abbrev pub map_leaves : {L M : Type 0} → (L → M) → Tree L → Tree M
map_leaves f empty = empty
map_leaves f (leaf n x rest) = leaf n (f x) (map_leaves f rest)
map_leaves f (folder n below rest) = folder n (map_leaves f below) (map_leaves f rest)

abbrev pub leaf_node : Leaf → NodeValue
leaf_node (file content executable) = File (digest_of content) executable
leaf_node (link target) = Link target

-- A form may hold a directory by its digest alone, as a leaf.
abbrev pub form : Tree Leaf → Tree NodeValue
form = map_leaves leaf_node

-- ---- its Directories

abbrev pub no_children : DirectoryValue
no_children = record { files = []; directories = []; symlinks = [] }

-- the directory with one more child, before the others of its kind
abbrev pub with_child : Name → NodeValue → DirectoryValue → DirectoryValue
with_child n (File d executable) m =
    record m { files = record { name = n; digest = d; executable = executable } ∷ m.files }
with_child n (Link target) m =
    record m { symlinks = record { name = n; target = target } ∷ m.symlinks }
with_child n (Dir d) m = record m { directories = record { name = n; digest = d } ∷ m.directories }

-- the Directory of what stands at the top: a directory below it by the digest of its own Directory
abbrev pub directory_of : Tree NodeValue → DirectoryValue
directory_of empty = no_children
directory_of (leaf n x rest) = with_child n x (directory_of rest)
directory_of (folder n below rest) =
    with_child n (Dir (digest_of (directory_bytes (directory_of below)))) (directory_of rest)

-- the encoding of the Directory of what stands at the top
abbrev pub top : Tree NodeValue → List ℕ
top t = directory_bytes (directory_of t)

-- the digest of a tree: that of its top
abbrev pub root : Tree NodeValue → DigestValue
root t = digest_of (top t)

-- the node of what stands at a path
abbrev pub entry_node : Entry Leaf → NodeValue
entry_node (single x) = leaf_node x
entry_node (whole t) = Dir (root (form t))

-- ---- the blobs of a tree: the contents of its files, and the encodings of its Directories

abbrev pub IsContent : Leaf → List ℕ → Type 0
IsContent (file content executable) b = b ≡ content
IsContent (link target) b = ⊥

abbrev pub IsBlobBelow : Tree Leaf → List ℕ → Type 0
IsBlobBelow empty b = ⊥
IsBlobBelow (leaf n x rest) b = IsContent x b ⊎ IsBlobBelow rest b
IsBlobBelow (folder n below rest) b =
    ((b ≡ top (form below)) ⊎ IsBlobBelow below b) ⊎ IsBlobBelow rest b

abbrev pub IsBlobOf : Tree Leaf → List ℕ → Type 0
IsBlobOf t b = (b ≡ top (form t)) ⊎ IsBlobBelow t b

-- the blob of what stands at one path: a file's content, or a directory's Directory
abbrev pub IsBlobAt : Entry Leaf → List ℕ → Type 0
IsBlobAt (single x) b = IsContent x b
IsBlobAt (whole t) b = b ≡ top (form t)
